-- A removal of a constraint or an edit, on a state that reads: so does what it leaves. Assumes nothing.
use Rattle.std.specs.Prelude.{◌≡◌, Bool, true, false, ℕ, suc, ◌+◌, ◌-◌, ◌≤◌, eqb, Float}
use Rattle.std.proofs.Math.Path.{refl, ap, subst}
use Rattle.std.proofs.Common.{sym, ◌∙◌}
use mathlib.Core.List.{List, [], ◌∷◌, ◌++◌}
use Rattle.std.proofs.Math.Option.{Option, none, some}
use native.Mathlib.Omega.{arith}
use Rattle.std.proofs.Math.ListN.{length}
use Rattle.steps.specs.Symbol.{Symbol}
use Rattle.steps.specs.State.{Term, Tag, Constraint, Edit, State}
use Rattle.steps.specs.Work.{Outcome, Work, going, ◌>>=◌, check_finite, with_tableau, purge}
use Rattle.steps.specs.Optimise.{optimise, the_objective}
use Rattle.steps.specs.Remove.{remove_constraint_effects, drop_marker, purge_tag, drop_uses, remove_steps}
use Rattle.steps.specs.Edit.{edit_terms}
use Rattle.steps.specs.Tests.{find_constraint, drop_constraint, find_edit, drop_edit, member, gone_full}
use Rattle.steps.specs.Calls.{begin, finish, refused_by, conclude, accepted_as, remove_stored, unless_full, remove, remove_edit_stored, remove_edit}
use Rattle.steps.specs.Readable.{code, uses_in, tag_symbols}
use Rattle.steps.proofs.Ends as steps
use Rattle.steps.proofs.Steps.{remove_steps-ends}
use Rattle.steps.proofs.Answered.{limits, starts, steps-above-zero}
use Rattle.keeps.specs.Lists.{All, Same?, is, isnt, same, same?, total, times, no_both}
use Rattle.keeps.specs.Keys.{find_by, find-some, drop-total, drop-length, drop_all, drop-up, find_constraint-is, drop_constraint-is, find_edit-is, drop_edit-is}
use Rattle.keeps.specs.Along.{Mem}
use Rattle.keeps.specs.Cells.{Fine}
use Rattle.keeps.specs.Frame.{Frame, frame-trans}
use Rattle.keeps.specs.Codes.{codes, codes-mem}
use Rattle.keeps.specs.Passes.{Ends, ends-bind, ends-to, check-ends, After, optimise-ends}
use Rattle.keeps.specs.Reads.{Reads, con_number, edit_number, tag_code, used_by}
use Rattle.keeps.specs.Good.{Good, good-frame, clear-length, tags_by, begin-good, Stored, stored-in, finish-reads}
use Rattle.keeps.specs.Suggest.{conclude-reads}
use Rattle.keeps.specs.Fallen.{Shrunk, shrunk-trans, purge-shrunk, purge-good, drop_uses-good, drop_uses-shrunk, drop_uses-entries, entries-frame}
use Rattle.keeps.specs.Waits.{entries_by, not_full}
use Rattle.keeps.specs.Leaving.{OnlyGoal, effects, Dropped, drop_marker-ends}

-- what K counts is live
live_of : (K U : ℕ → ℕ) (w : Work) (s : Symbol) → Good K U w → 1 ≤ K (code s) → Mem s w.tableau.symbols
live_of K U w s g h = codes-mem s w.tableau.symbols (omega (arith, g.owns (code s)))

-- ---- the tag's symbols go
purge_tag-good : (tag : Tag) (K L U : ℕ → ℕ) (w : Work) → Good K U w → w.artificial ≡ none → ((n : ℕ) → K n ≡ tag_code n tag + L n)
    → Good L U (purge_tag tag w) × Shrunk w (purge_tag tag w)
unfolding purge_tag tag_symbols times
purge_tag-good tag K L U w g plain h = go tag.other h
  where
    others : Option Symbol → List Symbol
    others o = elim o [ none ↦ [] | some x ↦ x ∷ [] ]

    next : Option Symbol → Work
    next o = purge tag.marker.id (elim o [ none ↦ w | some x ↦ purge x.id w ])

    go : (o : Option Symbol) → ((n : ℕ) → K n ≡ same n (code tag.marker) + times n (codes (others o)) + L n) → Good L U (next o) × Shrunk w (next o)
    go none h = (purge-good tag.marker K L U w g plain (λ n. omega (arith, h n)), purge-shrunk tag.marker.id w)
    go (some x) h = (
      purge-good tag.marker (λ n. same n (code tag.marker) + L n) L U (purge x.id w) one ((purge-shrunk x.id w).plain ∙ plain) (λ n. refl),
      shrunk-trans (purge-shrunk x.id w) (purge-shrunk tag.marker.id (purge x.id w)),
    )
      where
        one : Good (λ n. same n (code tag.marker) + L n) U (purge x.id w)
        one = purge-good x K (λ n. same n (code tag.marker) + L n) U w g plain (λ n. omega (arith, h n))

purge_tag-changes : (tag : Tag) (w : Work) → (purge_tag tag w).changes ≡ w.changes
unfolding purge_tag purge with_tableau
purge_tag-changes tag w = go tag.other
  where
    go : (o : Option Symbol) → (purge tag.marker.id (elim o [ none ↦ w | some x ↦ purge x.id w ])).changes ≡ w.changes
    go none = refl
    go (some x) = refl

-- ---- the steps

-- one row less at least, no more variables, and the gone entries that 25 counted
pub record Removed (terms : List Term) (K U : ℕ → ℕ) (w v : Work) : Type 0 where
  pub good : Good K U v
  pub fine : Fine v.mark
  pub rows : suc (length v.tableau.rows) ≤ length w.tableau.rows
  pub variables : length v.changes.variables ≤ length w.changes.variables
  pub entries : (us : List Term) → entries_by us v.changes ≡ entries_by (terms ++ us) w.changes

module _ (budget : ℕ) (tag : Tag) (strength : Float) (terms : List Term) (w : Work) (K L U W : ℕ → ℕ) (g : Good K U w) (plain : w.artificial ≡ none) (owned : (n : ℕ) → K n ≡ tag_code n tag + L n) (used : (n : ℕ) → U n ≡ uses_in n terms + W n) where
  -- after the effects, and after the marker's row
  Started : Work → Type 0
  Started v = (Good K U v) × (Fine v.mark) × (Frame w v) × (length v.tableau.rows ≡ length w.tableau.rows)

  started : Ends Started (check_finite (remove_constraint_effects tag strength w))
  unfolding Started
  started =
      let o : OnlyGoal w (remove_constraint_effects tag strength w) = effects tag strength w g.fits in
      check-ends Started (remove_constraint_effects tag strength w)
      (λ m. (good-frame K U w (remove_constraint_effects tag strength w) g o.fits o.frame, m, o.frame, ap length o.rows))

  marker : (v : Work) → Good K U v → Mem tag.marker v.tableau.symbols
  unfolding tag_symbols times
  marker v h = live_of K U v tag.marker h (here (same? (code tag.marker) (code tag.marker)))
    where
      here : Same? (code tag.marker) (code tag.marker) → 1 ≤ K (code tag.marker)
      here (is a b c) = omega (arith, owned (code tag.marker))
      here (isnt a b c) = absurd (b refl)

  Less : Work → Type 0
  Less v = (Good K U v) × (Fine v.mark) × (Frame w v) × (suc (length v.tableau.rows) ≡ length w.tableau.rows)

  less : Ends Less (check_finite (remove_constraint_effects tag strength w) >>= drop_marker tag.marker)
  unfolding Started Less
  less =
      ends-bind Started Less (check_finite (remove_constraint_effects tag strength w)) (drop_marker tag.marker) started
      (λ v h. ends-to (Dropped v) Less (drop_marker tag.marker v) (drop_marker-ends tag.marker v h.0.fits h.1 (marker v h.0))
      (λ u d. (good-frame K U v u h.0 d.fits d.frame, d.fine, frame-trans h.2 d.frame, d.count ∙ h.3)))

  Passed : Work → Type 0
  Passed v =
      (Good L U v) × (Fine v.mark) × (v.artificial ≡ none) × (suc (length v.tableau.rows) ≤ length w.tableau.rows) × (length
      v.changes.variables ≤ length w.changes.variables) × ((us : List Term) → entries_by us v.changes ≡ entries_by us w.changes)

  passed : (v : Work) → Less v → Ends Passed (optimise (budget - v.pivots) the_objective (purge_tag tag v))
  unfolding Less Passed
  passed v h =
      ends-to (After x) Passed (optimise (budget - v.pivots) the_objective x)
      (optimise-ends (budget - v.pivots) the_objective x purged.0.fits (rw purged.1.mark h.1))
      (λ u a. (
        good-frame L U x u purged.0 a.fits a.frame,
        a.fine,
        a.frame.plain (purged.1.plain ∙ bare),
        omega
            (arith, a.count, purged.1.rows, h.3),
        omega (
          arith,
          purged.1.variables,
          clear-length x.changes.variables u.changes.variables a.frame.variables,
          clear-length w.changes.variables
              v.changes.variables h.2.variables,
        ),
        λ us. entries-frame a.frame us ∙ ap (entries_by us) (purge_tag-changes tag v) ∙ entries-frame h.2 us,
      ))
    where
      x : Work
      x = purge_tag tag v

      bare : v.artificial ≡ none
      bare = h.2.plain plain

      purged : Good L U x × Shrunk v x
      purged = purge_tag-good tag K L U v h.0 bare owned

  -- where the pass starts there is a row less, and there are no more at its end
  pub pass-rows : (v : Work) → (check_finite (remove_constraint_effects tag strength w) >>= drop_marker tag.marker) ≡ going v
      → (suc (length (purge_tag tag v).tableau.rows) ≤ length w.tableau.rows) × Ends (λ u. length u.tableau.rows ≤ length (purge_tag tag v).tableau.rows) (remove_steps budget tag strength terms w)
  unfolding Less remove_steps ◌>>=◌
  pass-rows v e = (
    omega (arith, purged.1.rows, h.3),
    subst (λ (o : Outcome Work). Ends Fewer (o >>= (λ v. optimise (budget - v.pivots) the_objective (purge_tag tag v)) >>= (λ v. going (drop_uses terms v)))) (sym e)
        (ends-bind Started' Fewer (optimise (budget - v.pivots) the_objective x) (λ v. going (drop_uses terms v)) ran (λ u a. omega (arith, a.1, (drop_uses-shrunk terms u).rows))),
  )
    where
      x : Work
      x = purge_tag tag v

      h : Less v
      h = subst (Ends Less) e less

      purged : Good L U x × Shrunk v x
      purged = purge_tag-good tag K L U v h.0 (h.2.plain plain) owned

      Fewer : Work → Type 0
      Fewer u = length u.tableau.rows ≤ length x.tableau.rows

      Started' : Work → Type 0
      Started' u = ((Good L U u) × (u.artificial ≡ none)) × (length u.tableau.rows ≡ length x.tableau.rows)

      ran : Ends Started' (optimise (budget - v.pivots) the_objective x)
      ran =
          ends-to (After x) Started' (optimise (budget - v.pivots) the_objective x) (optimise-ends (budget - v.pivots) the_objective x purged.0.fits (rw purged.1.mark h.1))
          (λ u a. ((good-frame L U x u purged.0 a.fits a.frame, a.frame.plain (purged.1.plain ∙ h.2.plain plain)), a.count))

  pub remove-ends : entries_by terms w.changes ≤ 32 → Ends (Removed terms L W w) (remove_steps budget tag strength terms w)
  unfolding remove_steps Less Passed
  remove-ends room =
      ends-bind Passed (Removed terms L W w)
      (check_finite (remove_constraint_effects tag strength w) >>= drop_marker tag.marker >>= (λ v. optimise (budget - v.pivots) the_objective (purge_tag tag v)))
      (λ v. going (drop_uses terms v))
      (ends-bind Less Passed (check_finite (remove_constraint_effects tag strength w) >>= drop_marker tag.marker)
      (λ v. optimise (budget - v.pivots) the_objective (purge_tag tag v)) less passed)
      (λ v h. last v h (drop_uses-shrunk terms v))
    where
      last : (v : Work) → Passed v → Shrunk v (drop_uses terms v) → Removed terms L W w (drop_uses terms v)
      last v h d =
          record {
            good = drop_uses-good terms L U W v h.0 h.2 used (omega (arith, h.5 terms, room));
            fine = rw d.mark h.1;
            rows = omega (arith, d.rows, h.3);
            variables = omega (arith, d.variables, h.4);
            entries = λ us. drop_uses-entries terms us v h.0.waits.up h.0.vars.up ∙ h.5 (terms ++ us);
          }

-- ---- the calls

removed-reads : (s : State) (terms : List Term) (cs : List Constraint) (es : List Edit) → Reads s → Stored cs es
    → suc (length cs + length es) ≡ length s.constraints + length s.edits → (w : Work) → Removed terms (λ n. tags_by n cs es) (λ n. used_by n cs es) (begin s) w
    → Reads (finish w cs es)
unfolding begin
removed-reads s terms cs es r t count w h = finish-reads w cs es h.good h.fine t (omega (arith, h.variables, r.few-variables)) (omega (arith, h.rows, r.few-rows))

-- ---- a constraint that is found

module _ (n budget : ℕ) (s : State) (c : Constraint) (r : Reads s) (e : find_constraint n s.constraints ≡ some c) (room : entries_by c.terms s.changes ≤ 32) where
  cs : List Constraint
  cs = drop_constraint n s.constraints

  by : find_by con_number n s.constraints ≡ some c
  by = sym (find_constraint-is n s.constraints) ∙ e

  part : (f : Constraint → ℕ) → total f s.constraints ≡ f c + total f cs
  unfolding cs
  part f = rw drop_constraint-is (drop-total con_number f n s.constraints c by)

  size : length s.constraints ≡ suc (length cs)
  unfolding cs
  size = rw drop_constraint-is (drop-length con_number n s.constraints c by)

  all_left : (P : Constraint → Type 0) → All P s.constraints → All P cs
  unfolding cs
  all_left P h = rw drop_constraint-is (drop_all con_number P n s.constraints h)

  stored : Stored cs s.edits
  unfolding cs
  stored =
      let old : Stored s.constraints s.edits = stored-in s r in
      record {
        few-tags = omega (arith, size, old.few-tags);
        few-terms = all_left _ old.few-terms;
        constraints-up = rw drop_constraint-is (drop-up con_number 0 n s.constraints old.constraints-up);
        edits-up = old.edits-up;
        constraints-finite = all_left _ old.constraints-finite;
        constraint-kinds = all_left _ old.constraint-kinds;
        constraint-markers = all_left _ old.constraint-markers;
        edits-finite = old.edits-finite;
        edit-kinds = old.edit-kinds;
        groups = all_left _ old.groups;
      }

  ends : Ends (Removed c.terms (λ m. tags_by m cs s.edits) (λ m. used_by m cs s.edits) (begin s)) (remove_steps budget c.tag c.strength c.terms (begin s))
  unfolding begin
  ends =
      remove-ends budget c.tag c.strength c.terms (begin s) _ (λ m. tags_by m cs s.edits) _ (λ m. used_by m cs s.edits) (begin-good s r) refl
      (λ m. omega (arith, part (λ (c : Constraint). tag_code m c.tag))) (λ m. omega (arith, part (λ (c : Constraint). uses_in m c.terms))) room

  pub stored-kept : Reads (remove_stored n c budget s).state
  unfolding remove_stored cs
  stored-kept =
      conclude-reads s (remove_steps budget c.tag c.strength c.terms (begin s)) (λ w. finish w cs s.edits) r
      (ends-to _ _ (remove_steps budget c.tag c.strength c.terms (begin s)) ends (removed-reads s c.terms cs s.edits r stored (omega (arith, size))))

  -- accepted, it has made the entries that 25 counted
  pub stored-entries : (remove_stored n c budget s).answer.number ≡ 0 → (us : List Term) → entries_by us (remove_stored n c budget s).state.changes ≡ entries_by (c.terms ++ us) s.changes
  unfolding remove_stored conclude refused_by accepted_as finish begin member
  stored-entries accepted us = go (remove_steps budget c.tag c.strength c.terms (begin s)) (remove_steps-ends {lim = limits budget s} tt tt tt tt c.tag c.strength c.terms (begin s) (starts budget s)) ends accepted
    where
      next : Work → State
      next w = finish w (drop_constraint n s.constraints) s.edits

      go : (o : Outcome Work) → steps.Ends (limits budget s) (steps.Within (limits budget s)) o → Ends (Removed c.terms (λ m. tags_by m cs s.edits) (λ m. used_by m cs s.edits) (begin s)) o
          → (conclude s o next).answer.number ≡ 0 → entries_by us (conclude s o next).state.changes ≡ entries_by (c.terms ++ us) s.changes
      go o (steps.stops {n = k} h) d a = absurd (no_both (ap (λ (x : ℕ). eqb x 0) a) (steps-above-zero k h.listed))
      go o (steps.goes {a = w} h) d a = d.entries us

pub remove-kept : (n budget : ℕ) (s : State) → Reads s → Reads (remove n budget s).state
unfolding remove unless_full refused_by
remove-kept n budget s r = go (find_constraint n s.constraints) refl
  where
    full : (c : Constraint) → find_constraint n s.constraints ≡ some c → (b : Bool) → gone_full c.terms s ≡ b → Reads (remove n budget s).state
    full c e true g = rw (e, g, remove, unless_full) r
    full c e false g = rw (e, g, remove, unless_full) (stored-kept n budget s c r e (not_full c.terms s g))

    go : (o : Option Constraint) → find_constraint n s.constraints ≡ o → Reads (remove n budget s).state
    go none e = rw (e, remove) r
    go (some c) e = full c e (gone_full c.terms s) refl

pub removed-rows : (n budget : ℕ) (s : State) (c : Constraint) → Reads s → find_constraint n s.constraints ≡ some c → (v : Work) → (check_finite (remove_constraint_effects c.tag c.strength (begin s)) >>= drop_marker c.tag.marker) ≡ going v
    → (suc (length (purge_tag c.tag v).tableau.rows) ≤ length s.tableau.rows) × Ends (λ u. length u.tableau.rows ≤ length (purge_tag c.tag v).tableau.rows) (remove_steps budget c.tag c.strength c.terms (begin s))
removed-rows n budget s c r e v q =
    unfold begin in pass-rows budget c.tag c.strength c.terms (begin s) _ (λ n. tags_by n cs s.edits) _ (λ n. used_by n cs s.edits) (begin-good s r) (unfold begin in refl)
    (λ m. omega (arith, part (λ (c : Constraint). tag_code m c.tag))) (λ m. omega (arith, part (λ (c : Constraint). uses_in m c.terms))) v q
  where
    cs : List Constraint
    cs = drop_constraint n s.constraints

    part : (f : Constraint → ℕ) → total f s.constraints ≡ f c + total f cs
    part f = rw drop_constraint-is (drop-total con_number f n s.constraints c (sym (find_constraint-is n s.constraints) ∙ e))

pub remove_edit-kept : (n budget : ℕ) (s : State) → Reads s → Reads (remove_edit n budget s).state
unfolding remove_edit remove_edit_stored unless_full refused_by
remove_edit-kept n budget s r = go (find_edit n s.edits) refl
  where
    es : List Edit
    es = drop_edit n s.edits

    full : (c : Edit) → find_edit n s.edits ≡ some c → (b : Bool) → gone_full (edit_terms n) s ≡ b → Reads (remove_edit n budget s).state
    full c e true g = rw (e, g, remove_edit, unless_full) r
    full c e false g =
        rw (e, g, remove_edit, unless_full) (conclude-reads s (remove_steps budget c.tag c.strength (edit_terms n) (begin s)) (λ w. finish w s.constraints es) r
        (ends-to _ _ (remove_steps budget c.tag c.strength (edit_terms n) (begin s))
        (remove-ends budget c.tag c.strength (edit_terms n) (begin s) _ (λ n. tags_by n s.constraints es) _ (λ n. used_by n s.constraints es)
        (begin-good s r) plain tags terms room)
        (removed-reads s (edit_terms n) s.constraints es r stored (omega (arith, size)))))
      where
        by : find_by edit_number n s.edits ≡ some c
        by = sym (find_edit-is n s.edits) ∙ e

        plain : (begin s).artificial ≡ none
        plain = unfold begin in refl

        room : entries_by (edit_terms n) (begin s).changes ≤ 32
        room = unfold begin in not_full (edit_terms n) s g

        part : (f : Edit → ℕ) → total f s.edits ≡ f c + total f es
        part f = rw drop_edit-is (drop-total edit_number f n s.edits c by)

        size : length s.edits ≡ suc (length es)
        size = rw drop_edit-is (drop-length edit_number n s.edits c by)

        tags : (m : ℕ) → tags_by m s.constraints s.edits ≡ tag_code m c.tag + tags_by m s.constraints es
        tags m = omega (arith, part (λ (e : Edit). tag_code m e.tag))

        terms : (m : ℕ) → used_by m s.constraints s.edits ≡ uses_in m (edit_terms n) + used_by m s.constraints es
        terms m = omega (arith, part (λ (e : Edit). uses_in m (edit_terms e.variable)), ap (λ (k : ℕ). uses_in m (edit_terms k)) (find-some edit_number n s.edits c by))

        old : Stored s.constraints s.edits
        old = stored-in s r

        all_left : (P : Edit → Type 0) → All P s.edits → All P es
        all_left P h = rw drop_edit-is (drop_all edit_number P n s.edits h)

        stored : Stored s.constraints es
        stored =
            record {
              few-tags = omega (arith, size, old.few-tags);
              few-terms = old.few-terms;
              constraints-up = old.constraints-up;
              edits-up = rw drop_edit-is (drop-up edit_number 0 n s.edits old.edits-up);
              constraints-finite = old.constraints-finite;
              constraint-kinds = old.constraint-kinds;
              constraint-markers = old.constraint-markers;
              edits-finite = all_left _ old.edits-finite;
              edit-kinds = all_left _ old.edit-kinds;
              groups = old.groups;
            }

    go : (o : Option Edit) → find_edit n s.edits ≡ o → Reads (remove_edit n budget s).state
    go none e = rw (e, remove_edit) r
    go (some c) e = full c e (gone_full (edit_terms n) s) refl
