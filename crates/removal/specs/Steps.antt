-- Remove's steps over tables, put together from the code's calls.
-- Assumes nothing.
use Rattle.std.specs.Prelude.{ℕ, ◌-◌, ◌≡◌, refl, true, List, eqb, Float}
use Rattle.std.proofs.Common.{sym, ◌∙◌, subst}
use Rattle.std.proofs.Math.Path.{ap}
use Rattle.std.proofs.Math.Bool.{false}
use Rattle.laws.specs.Lists.{list_of, map-tab}
use Rattle.steps.specs.Number.{Mark}
use Rattle.steps.specs.State.{Term, Tag}
use Rattle.steps.specs.Work.{Work, Outcome, refused, going, ◌>>=◌, check_finite}
use Rattle.steps.specs.Optimise.{optimise, the_objective}
use Rattle.steps.specs.Remove.{remove_constraint_effects, drop_marker, purge_tag, drop_uses, remove_steps}
use Rattle.keeps.specs.Fits.{FitsW}
use Rattle.layout.specs.Copy.{most16}
use Rattle.rows.specs.Marks.{mark_of}
use Rattle.sparse.specs.Sparse.{Sparse, symbol_at, symbols_of, read}
use Rattle.changes.specs.declared.terms.Pack.{Pack}
use Rattle.changes.specs.terms.Terms.{term_of, term_in, terms_of}
use Rattle.waist.specs.Working.{work_of}
use Rattle.waist.specs.Standing.{Standing, Makes}
use Rattle.waist.specs.Ending.{Ended, outcome_of, Goes}
use Rattle.waist.specs.Tags.{tag_at}
use Rattle.removal.specs.Reading.{symbol-same}
use Rattle.removal.specs.Bound.{Reached, reached-is, goes_given, after-refused, after-going, reached-made}
use Rattle.removal.specs.Marker.{drop-symbols, ends-reached, reached-symbols}
use Rattle.removal.specs.Tag.{TagLives, tag-kept, tag_same}
use Rattle.removal.specs.Alike.{Alike, passed-alike}
use Rattle.removal.specs.Room.{Room, work-changes, room-alike}
use Rattle.removal.specs.Uses.{uses_from, UsedBy, uses-of}

bind-same : (o : Outcome Work) (f g : Work → Outcome Work) → ((v : Work) → f v ≡ g v) → (o >>= f) ≡ (o >>= g)
unfolding ◌>>=◌
bind-same (refused n p m) f g e = refl
bind-same (going v) f g e = e v

-- what is reached for the numbers' uses is reached for every list of terms with these variables
abbrev pub Removes : ℕ → Tag → Float → List ℕ → ℕ → Work → Ended → Sparse → Type 0
Removes budget tag strength numbers count w r u = ((terms : List Term) → UsedBy numbers count terms → outcome_of false r u ≡ remove_steps budget tag strength terms w) × Goes false r u

module _ (budget marker other : ℕ) (strength : Float) (numbers : List ℕ) (count : ℕ) (start : Work) (t : Sparse) (live : TagLives marker other t) where
  abbrev tag : Tag
  tag = tag_at t marker other

  abbrev Whole : Ended → Sparse → Type 0
  Whole r u = Removes budget tag strength numbers count start r u

  abbrev first : Outcome Work
  first = check_finite (remove_constraint_effects tag strength start)

  abbrev drop : Work → Outcome Work
  drop = drop_marker tag.marker

  abbrev pass : Work → Outcome Work
  pass v = optimise (budget - v.pivots) the_objective (purge_tag tag v)

  abbrev fall : Work → Outcome Work
  fall v = going (drop_uses (uses_from numbers count 0) v)

  whole_by : (r : Ended) (u : Sparse) → Reached (first >>= drop >>= pass >>= fall) r u → Whole r u
  unfolding remove_steps
  whole_by r u c = ((λ terms e. c.0 ∙ bind-same (first >>= drop >>= pass) fall (λ v. going (drop_uses terms v)) (λ v. ap (λ (x : Work). going x) (uses-of numbers count terms e v))), c.1)

  module _ (r : Ended) (u : Sparse) (c : Reached first r u) where
    pub refused-first : eqb r.number 0 ≡ false → Whole r u
    refused-first e = whole_by r u (after-refused r u fall (after-refused r u pass (after-refused r u drop c e) e) e)

    module _ (on : eqb r.number 0 ≡ true) (same : symbols_of u ≡ symbols_of t) (r₁ : Ended) (u₁ : Sparse) (d : Reached (drop_marker (symbol_at u marker) (work_of false (mark_of r.wrote) r.pivots u)) r₁ u₁) where
      dropped : Reached (first >>= drop) r₁ u₁
      unfolding tag_at
      dropped = after-going r u drop c r₁ u₁ on (reached-is r₁ u₁ (ap (λ s. drop_marker s (work_of false (mark_of r.wrote) r.pivots u)) (symbol-same t u same marker live.low live.high)) d)

      pub refused-second : eqb r₁.number 0 ≡ false → Whole r₁ u₁
      refused-second e = whole_by r₁ u₁ (after-refused r₁ u₁ fall (after-refused r₁ u₁ pass dropped e) e)

      module _ (on₁ : eqb r₁.number 0 ≡ true) where
        same₁ : symbols_of u₁ ≡ symbols_of t
        same₁ = reached-symbols (mark_of r.wrote) r.pivots u u₁ _ r₁ (drop-symbols (symbol_at u marker) (work_of false (mark_of r.wrote) r.pivots u)) d on₁ ∙ same

        pub dropped-lives : TagLives marker other u₁
        dropped-lives = tag-kept marker other t u₁ live same₁

        pub dropped-stands : Standing false (mark_of r₁.wrote) u₁
        dropped-stands = goes_given r₁ u₁ on₁ d.1

        module _ (u₂ : Sparse) (m : Makes false false (mark_of r₁.wrote) (mark_of r₁.wrote) (purge_tag (tag_at u₁ marker other)) u₁ u₂) (r₃ : Ended) (u₃ : Sparse)
            (f : Reached (optimise (budget - r₁.pivots) the_objective (work_of false (mark_of r₁.wrote) r₁.pivots u₂)) r₃ u₃) where
          passed : Reached (first >>= drop >>= pass) r₃ u₃
          unfolding work_of
          passed =
              after-going r₁ u₁ pass dropped r₃ u₃ on₁
              (reached-is r₃ u₃ (ap (optimise (budget - r₁.pivots) the_objective) (m.reads r₁.pivots ∙ ap (λ (x : Tag). purge_tag x (work_of false (mark_of r₁.wrote) r₁.pivots u₁)) (tag_same marker other t u₁ live same₁))) f)

          pub refused-third : eqb r₃.number 0 ≡ false → Whole r₃ u₃
          refused-third e = whole_by r₃ u₃ (after-refused r₃ u₃ fall passed e)

          module _ (on₃ : eqb r₃.number 0 ≡ true) where
            pub passed-stands : Standing false (mark_of r₃.wrote) u₃
            passed-stands = goes_given r₃ u₃ on₃ f.1

            -- there is room for the same terms as before the steps
            pub passed-room : (a : Mark) → start ≡ work_of false a 0 t → Standing false a t → (terms : List Term) → Room terms (read t).changes → Room terms (read u₃).changes
            passed-room a e s terms m =
                let k = ends-reached (Alike start) (first >>= drop >>= pass) r₃ u₃ (passed-alike budget tag strength start (subst FitsW (sym e) s.fits)) passed on₃ in
                let c : (read t).changes ≡ start.changes = sym (work-changes false a 0 t) ∙ ap (λ (w : Work). w.changes) (sym e) in
                subst (Room terms) (work-changes false (mark_of r₃.wrote) r₃.pivots u₃) (room-alike terms start (work_of false (mark_of r₃.wrote) r₃.pivots u₃) k (subst (Room terms) c m))

            pub removed : (v : Sparse) → Makes false false (mark_of r₃.wrote) (mark_of r₃.wrote) (drop_uses (uses_from numbers count 0)) u₃ v → Whole r₃ v
            removed v n = whole_by r₃ v (after-going r₃ u₃ fall passed r₃ v on₃ (reached-made r₃ u₃ v (drop_uses (uses_from numbers count 0)) on₃ n))

-- ---- the terms of a pack

pub pack-used : (p : Pack) (count : ℕ) → count ≡ most16 p.count → UsedBy p.vars count (terms_of p)
unfolding terms_of term_of term_in list_of
pack-used p count e = rw e (map-tab (λ (t : Term). t.variable) (λ j. term_of (term_in p j)) 0 (most16 p.count))

pub removed-pack : (budget : ℕ) (tag : Tag) (strength : Float) (p : Pack) (count : ℕ) (w : Work) (r : Ended) (u : Sparse) → count ≡ most16 p.count → Removes budget tag strength p.vars count w r u
    → (outcome_of false r u ≡ remove_steps budget tag strength (terms_of p) w) × Goes false r u
removed-pack budget tag strength p count w r u e c = (c.0 (terms_of p) (pack-used p count e), c.1)
