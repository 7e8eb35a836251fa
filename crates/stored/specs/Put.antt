-- A new constraint or edit put into the room, where the others leave a gap for it; and the room with the others around it.
-- Assumes nothing.
use Rattle.std.specs.Prelude.{ℕ, ◌+◌, ◌≤◌, ◌<◌, ◌≡◌, refl, Bool, true, false, List, ltb, eqb, Float, length, get_or, set}
use Rattle.std.proofs.Common.{sym, ◌∙◌, arith, length-set, get_or-set_same, get_or-set_other, ltb-true, ltb-false}
use Rattle.std.specs.Float.{nan}
use Rattle.laws.specs.Loops.{first}
use Rattle.laws.specs.Lists.{sum_in}
use Rattle.steps.specs.Number.{zero64}
use Rattle.sparse.specs.Places.{most_variables, most_constraints, most_terms, variable_count_at, constraint_count_at, edit_count_at, variable_numbers_at, constraint_numbers_at, constraint_groups_at, gone_numbers_at, variable_places_at, constraint_markers_at, constraint_others_at, term_counts_at, edit_variables_at, edit_markers_at, edit_others_at, terms_at, relations_at, constraint_strengths_at, edit_strengths_at, suggestions_at, coefficients_at, constraint_constants_at, words_size, bytes_size, reals_size}
use Rattle.changes.specs.declared.terms.Pack.{Pack}
use Rattle.stored.specs.declared.parts.Plan.{Plan}
use Rattle.stored.specs.Parts.{Rest, all_of, opened}
use Rattle.stored.specs.Maps.{Names, names_same, counts_in, Sought, NumberPlace}
use Rattle.stored.specs.Moved.{Moved, moved_as, sum-split}

-- ---- the terms

-- the first n variables' places stand from s on
pub record TermsPut (words vars : List ℕ) (s n : ℕ) (b u : List ℕ) : Type 0 where
  pub placed : (j : ℕ) → j < n → NumberPlace words b (get_or vars j 0) (get_or u (terms_at + (s + j)) 0)
  pub rest : Rest 0 (terms_at + s) n b u

module _ (words vars : List ℕ) (s : ℕ) (b : List ℕ) where
  pub no-terms : TermsPut words vars s 0 b b
  no-terms = record { placed = λ j h. absurd (omega (arith, h)); rest = record { before = λ q h. refl; after = λ q h. refl; long = refl } }

  pub terms-names : (n : ℕ) (u : List ℕ) → Names words b → TermsPut words vars s n b u → Names words u
  terms-names n u m t = names_same words b words u m (λ q h. refl) (λ q h. t.rest.before q (omega (arith, h)))

  pub next-term : (n : ℕ) (u : List ℕ) {x v : ℕ} → terms_at + (s + n) < length u → get_or words variable_count_at 0 ≤ most_variables → v ≡ get_or vars n 0 → NumberPlace words u v x → TermsPut words vars s n b u → TermsPut words vars s (n + 1) b (set u (terms_at + (s + n)) x)
  next-term n u {x} {v} l few e p t =
      record {
        placed = λ j h. go j h (ltb j n) refl;
        rest =
            record {
              before = λ q h. get_or-set_other u (terms_at + (s + n)) q x 0 (λ z. omega (arith, h, z)) ∙ t.rest.before q h;
              after = λ q h. get_or-set_other u (terms_at + (s + n)) q x 0 (λ z. omega (arith, h, z)) ∙ t.rest.after q (omega (arith, h));
              long = length-set u (terms_at + (s + n)) x ∙ t.rest.long;
            };
      }
    where
      go : (j : ℕ) → j < n + 1 → (z : Bool) → ltb j n ≡ z → NumberPlace words b (get_or vars j 0) (get_or (set u (terms_at + (s + n)) x) (terms_at + (s + j)) 0)
      go j h true q i a f =
          let k = ltb-true j n q in
          get_or-set_other u (terms_at + (s + n)) (terms_at + (s + j)) x 0 (λ z. omega (arith, k, z)) ∙ t.placed j k i a f
      go j h false q i a f =
          let k = ltb-false j n q in
          let o : j ≡ n = omega (arith, h, k) in
          let g : get_or words (variable_numbers_at + i) 0 ≡ v = f ∙ rw o (sym e) in
          rw o (get_or-set_same u (terms_at + (s + n)) x 0 l) ∙ p i a g ∙ t.rest.before (variable_places_at + i) (omega (arith, a, few))

  pub terms-end : (n m : ℕ) (u : List ℕ) → m ≤ n → n ≤ m → TermsPut words vars s n b u → TermsPut words vars s m b u
  terms-end n m u h k t =
      let o : n ≡ m = omega (arith, h, k) in
      rw o at t

-- the first n coefficients stand from s on
pub record CoefficientsPut (coefs : List Float) (s n : ℕ) (b u : List Float) : Type 0 where
  pub put : (j : ℕ) → j < n → get_or u (coefficients_at + (s + j)) nan ≡ get_or coefs j nan
  pub rest : Rest nan (coefficients_at + s) n b u

module _ (coefs : List Float) (s : ℕ) (b : List Float) where
  pub no-coefficients : CoefficientsPut coefs s 0 b b
  no-coefficients = record { put = λ j h. absurd (omega (arith, h)); rest = record { before = λ q h. refl; after = λ q h. refl; long = refl } }

  pub next-coefficient : (n : ℕ) (u : List Float) {x : Float} → coefficients_at + (s + n) < length u → x ≡ get_or coefs n nan → CoefficientsPut coefs s n b u → CoefficientsPut coefs s (n + 1) b (set u (coefficients_at + (s + n)) x)
  next-coefficient n u {x} l e t =
      record {
        put = λ j h. go j h (ltb j n) refl;
        rest =
            record {
              before = λ q h. get_or-set_other u (coefficients_at + (s + n)) q x nan (λ z. omega (arith, h, z)) ∙ t.rest.before q h;
              after = λ q h. get_or-set_other u (coefficients_at + (s + n)) q x nan (λ z. omega (arith, h, z)) ∙ t.rest.after q (omega (arith, h));
              long = length-set u (coefficients_at + (s + n)) x ∙ t.rest.long;
            };
      }
    where
      go : (j : ℕ) → j < n + 1 → (z : Bool) → ltb j n ≡ z → get_or (set u (coefficients_at + (s + n)) x) (coefficients_at + (s + j)) nan ≡ get_or coefs j nan
      go j h true q =
          let k = ltb-true j n q in
          get_or-set_other u (coefficients_at + (s + n)) (coefficients_at + (s + j)) x nan (λ z. omega (arith, k, z)) ∙ t.put j k
      go j h false q =
          let k = ltb-false j n q in
          let o : j ≡ n = omega (arith, h, k) in
          rw o (get_or-set_same u (coefficients_at + (s + n)) x nan l ∙ e)

  pub coefficients-end : (n m : ℕ) (u : List Float) → m ≤ n → n ≤ m → CoefficientsPut coefs s n b u → CoefficientsPut coefs s m b u
  coefficients-end n m u h k t =
      let o : n ≡ m = omega (arith, h, k) in
      rw o at t

-- ---- a constraint at the i-th place, its terms from s on

pub record ConstraintPut (i s n g marker other relation : ℕ) (strength constant : Float) (p : Pack) (ww wb : List ℕ) (wr : List Float) (uw ub : List ℕ) (ur : List Float) : Type 0 where
  pub number : get_or uw (constraint_numbers_at + i) 0 ≡ n
  pub group : get_or uw (constraint_groups_at + i) 0 ≡ g
  pub marker_at : get_or ub (constraint_markers_at + i) 0 ≡ marker
  pub other_at : get_or ub (constraint_others_at + i) 0 ≡ other
  pub count : get_or ub (term_counts_at + i) 0 ≡ p.count
  pub relation_at : get_or ub (relations_at + i) 0 ≡ relation
  pub strength_at : get_or ur (constraint_strengths_at + i) nan ≡ strength
  pub constant_at : get_or ur (constraint_constants_at + i) nan ≡ constant
  pub terms : (j : ℕ) → j < p.count → NumberPlace ww wb (get_or p.vars j 0) (get_or ub (terms_at + (s + j)) 0)
  pub coefficients : (j : ℕ) → j < p.count → get_or ur (coefficients_at + (s + j)) nan ≡ get_or p.coefs j nan
  pub words : (q : ℕ) → q < constraint_numbers_at → get_or uw q 0 ≡ get_or ww q 0
  pub gone : (q : ℕ) → gone_numbers_at ≤ q → get_or uw q 0 ≡ get_or ww q 0
  pub bytes : (q : ℕ) → q < constraint_markers_at → get_or ub q 0 ≡ get_or wb q 0
  pub reals : (q : ℕ) → q < constraint_strengths_at → get_or ur q nan ≡ get_or wr q nan
  pub long : (length uw ≡ length ww) × (length ub ≡ length wb) × (length ur ≡ length wr)

module _ (i s n g marker other relation : ℕ) (strength constant : Float) (p : Pack) (ww wb : List ℕ) (wr : List Float) where
  pub constraint-put : {mb : List ℕ} {mr : List Float} {k : ℕ} → length ww ≡ words_size → length wb ≡ bytes_size → length wr ≡ reals_size → i < most_constraints → s + p.count ≤ most_terms → k ≡ p.count
      → TermsPut ww p.vars s p.count wb mb → CoefficientsPut p.coefs s p.count wr mr
      → ConstraintPut i s n g marker other relation strength constant p ww wb wr (set (set ww (constraint_numbers_at + i) n) (constraint_groups_at + i) g)
      (set (set (set (set mb (constraint_markers_at + i) marker) (constraint_others_at + i) other) (term_counts_at + i) k) (relations_at + i) relation) (set (set mr (constraint_strengths_at + i) strength) (constraint_constants_at + i) constant)
  constraint-put {mb} {mr} {k} lw lb lr h few e t x =
      let w₁ : List ℕ = set ww (constraint_numbers_at + i) n in
      let lw₁ : length w₁ ≡ words_size = length-set ww (constraint_numbers_at + i) n ∙ lw in
      let b₁ : List ℕ = set mb (constraint_markers_at + i) marker in
      let b₂ : List ℕ = set b₁ (constraint_others_at + i) other in
      let b₃ : List ℕ = set b₂ (term_counts_at + i) k in
      let r₁ : List Float = set mr (constraint_strengths_at + i) strength in
      let l₁ : length b₁ ≡ bytes_size = length-set mb (constraint_markers_at + i) marker ∙ t.rest.long ∙ lb in
      let l₂ : length b₂ ≡ bytes_size = length-set b₁ (constraint_others_at + i) other ∙ l₁ in
      let l₃ : length b₃ ≡ bytes_size = length-set b₂ (term_counts_at + i) k ∙ l₂ in
      let l₄ : length r₁ ≡ reals_size = length-set mr (constraint_strengths_at + i) strength ∙ x.rest.long ∙ lr in
      let last : (q : ℕ) → (q ≡ relations_at + i → ⊥) → get_or (set b₃ (relations_at + i) relation) q 0 ≡ get_or b₃ q 0 = λ q a. get_or-set_other b₃ (relations_at + i) q relation 0 a in
      let each : (q : ℕ) → (q ≡ constraint_markers_at + i → ⊥) → (q ≡ constraint_others_at + i → ⊥) → (q ≡ term_counts_at + i → ⊥) → (q ≡ relations_at + i → ⊥) → get_or (set b₃ (relations_at + i) relation) q 0 ≡ get_or mb q 0 =
      λ q a c d f. last q f ∙ get_or-set_other b₂ (term_counts_at + i) q k 0 d ∙ get_or-set_other b₁ (constraint_others_at + i) q other 0 c ∙ get_or-set_other mb (constraint_markers_at + i) q marker 0 a in
      let both : (q : ℕ) → (q ≡ constraint_strengths_at + i → ⊥) → (q ≡ constraint_constants_at + i → ⊥) → get_or (set r₁ (constraint_constants_at + i) constant) q nan ≡ get_or mr q nan =
      λ q a c. get_or-set_other r₁ (constraint_constants_at + i) q constant nan c ∙ get_or-set_other mr (constraint_strengths_at + i) q strength nan a in
      let low = t.rest.long in
      let lx = x.rest.long in
      record {
        number = get_or-set_other w₁ (constraint_groups_at + i) (constraint_numbers_at + i) g 0 (λ z. omega (arith, z, h)) ∙ get_or-set_same ww (constraint_numbers_at + i) n 0 (omega (arith, lw, h));
        group = get_or-set_same w₁ (constraint_groups_at + i) g 0 (omega (arith, lw₁, h));
        marker_at =
            last (constraint_markers_at + i) (λ z. omega (arith, z, h))
            ∙ get_or-set_other b₂ (term_counts_at + i) (constraint_markers_at + i) k 0 (λ z. omega (arith, z, h))
            ∙ get_or-set_other b₁ (constraint_others_at + i) (constraint_markers_at + i) other 0 (λ z. omega (arith, z, h))
            ∙ get_or-set_same mb (constraint_markers_at + i) marker 0 (omega (arith, lb, low, h));
        other_at =
            last (constraint_others_at + i) (λ z. omega (arith, z, h))
            ∙ get_or-set_other b₂ (term_counts_at + i) (constraint_others_at + i) k 0 (λ z. omega (arith, z, h))
            ∙ get_or-set_same b₁ (constraint_others_at + i) other 0 (omega (arith, l₁, h));
        count = last (term_counts_at + i) (λ z. omega (arith, z, h)) ∙ get_or-set_same b₂ (term_counts_at + i) k 0 (omega (arith, l₂, h)) ∙ e;
        relation_at = get_or-set_same b₃ (relations_at + i) relation 0 (omega (arith, l₃, h));
        strength_at = get_or-set_other r₁ (constraint_constants_at + i) (constraint_strengths_at + i) constant nan (λ z. omega (arith, z, h)) ∙ get_or-set_same mr (constraint_strengths_at + i) strength nan (omega (arith, lr, lx, h));
        constant_at = get_or-set_same r₁ (constraint_constants_at + i) constant nan (omega (arith, l₄, h));
        terms = λ j a v b f. each (terms_at + (s + j)) (λ z. omega (arith, z, h)) (λ z. omega (arith, z, h)) (λ z. omega (arith, z, h)) (λ z. omega (arith, z, a, few)) ∙ t.placed j a v b f;
        coefficients = λ j a. both (coefficients_at + (s + j)) (λ z. omega (arith, z, h)) (λ z. omega (arith, z, a, few)) ∙ x.put j a;
        words = λ q a. get_or-set_other w₁ (constraint_groups_at + i) q g 0 (λ z. omega (arith, z, a)) ∙ get_or-set_other ww (constraint_numbers_at + i) q n 0 (λ z. omega (arith, z, a));
        gone = λ q a. get_or-set_other w₁ (constraint_groups_at + i) q g 0 (λ z. omega (arith, z, a, h)) ∙ get_or-set_other ww (constraint_numbers_at + i) q n 0 (λ z. omega (arith, z, a, h));
        bytes = λ q a. each q (λ z. omega (arith, z, a)) (λ z. omega (arith, z, a)) (λ z. omega (arith, z, a)) (λ z. omega (arith, z, a)) ∙ t.rest.before q (omega (arith, a));
        reals = λ q a. both q (λ z. omega (arith, z, a)) (λ z. omega (arith, z, a)) ∙ x.rest.before q (omega (arith, a));
        long = (
          length-set w₁ (constraint_groups_at + i) g ∙ length-set ww (constraint_numbers_at + i) n,
          length-set b₃ (relations_at + i) relation ∙ l₃ ∙ sym lb,
          length-set r₁ (constraint_constants_at + i) constant ∙ l₄ ∙ sym lr,
        );
      }

-- ---- an edit at the i-th place

pub record EditPut (i n marker other : ℕ) (strength : Float) (ww wb : List ℕ) (wr : List Float) (ub : List ℕ) (ur : List Float) : Type 0 where
  pub variable : NumberPlace ww wb n (get_or ub (edit_variables_at + i) 0)
  pub marker_at : get_or ub (edit_markers_at + i) 0 ≡ marker
  pub other_at : get_or ub (edit_others_at + i) 0 ≡ other
  pub strength_at : get_or ur (edit_strengths_at + i) nan ≡ strength
  pub suggestion : get_or ur (suggestions_at + i) nan ≡ zero64
  pub bytes : (q : ℕ) → q < constraint_markers_at → get_or ub q 0 ≡ get_or wb q 0
  pub reals : (q : ℕ) → q < constraint_strengths_at → get_or ur q nan ≡ get_or wr q nan
  pub long : (length ub ≡ length wb) × (length ur ≡ length wr)

module _ (i n marker other : ℕ) (strength : Float) (ww wb : List ℕ) (wr : List Float) where
  pub edit-put : {x : ℕ} {y : Float} → length wb ≡ bytes_size → length wr ≡ reals_size → i < most_constraints → NumberPlace ww wb n x → y ≡ zero64
      → EditPut i n marker other strength ww wb wr (set (set (set wb (edit_variables_at + i) x) (edit_markers_at + i) marker) (edit_others_at + i) other) (set (set wr (edit_strengths_at + i) strength) (suggestions_at + i) y)
  edit-put {x} {y} lb lr h f e =
      let b₁ : List ℕ = set wb (edit_variables_at + i) x in
      let b₂ : List ℕ = set b₁ (edit_markers_at + i) marker in
      let r₁ : List Float = set wr (edit_strengths_at + i) strength in
      let l₁ : length b₁ ≡ bytes_size = length-set wb (edit_variables_at + i) x ∙ lb in
      let l₂ : length b₂ ≡ bytes_size = length-set b₁ (edit_markers_at + i) marker ∙ l₁ in
      let l₃ : length r₁ ≡ reals_size = length-set wr (edit_strengths_at + i) strength ∙ lr in
      record {
        variable = λ v a q.
            get_or-set_other b₂ (edit_others_at + i) (edit_variables_at + i) other 0 (λ z. omega (arith, z, h))
            ∙ get_or-set_other b₁ (edit_markers_at + i) (edit_variables_at + i) marker 0 (λ z. omega (arith, z, h))
            ∙ get_or-set_same wb (edit_variables_at + i) x 0 (omega (arith, lb, h))
            ∙ f v a q;
        marker_at = get_or-set_other b₂ (edit_others_at + i) (edit_markers_at + i) other 0 (λ z. omega (arith, z, h)) ∙ get_or-set_same b₁ (edit_markers_at + i) marker 0 (omega (arith, l₁, h));
        other_at = get_or-set_same b₂ (edit_others_at + i) other 0 (omega (arith, l₂, h));
        strength_at = get_or-set_other r₁ (suggestions_at + i) (edit_strengths_at + i) y nan (λ z. omega (arith, z, h)) ∙ get_or-set_same wr (edit_strengths_at + i) strength nan (omega (arith, lr, h));
        suggestion = get_or-set_same r₁ (suggestions_at + i) y nan (omega (arith, l₃, h)) ∙ e;
        bytes = λ q a.
            get_or-set_other b₂ (edit_others_at + i) q other 0 (λ z. omega (arith, z, a))
            ∙ get_or-set_other b₁ (edit_markers_at + i) q marker 0 (λ z. omega (arith, z, a))
            ∙ get_or-set_other wb (edit_variables_at + i) q x 0 (λ z. omega (arith, z, a));
        reals = λ q a. get_or-set_other r₁ (suggestions_at + i) q y nan (λ z. omega (arith, z, a)) ∙ get_or-set_other wr (edit_strengths_at + i) q strength nan (λ z. omega (arith, z, a));
        long = (length-set b₂ (edit_others_at + i) other ∙ l₂ ∙ sym lb, length-set r₁ (suggestions_at + i) y ∙ l₃ ∙ sym lr);
      }

-- ---- the number of an edit's variable

-- the number of the variable whose symbol stands at place p
unfoldable pub number_of : List ℕ → List ℕ → ℕ → ℕ
number_of w b p = first (λ v. eqb p (get_or b (variable_places_at + v) 0)) (λ v. get_or w (variable_numbers_at + v) 0) 0 0 (get_or w variable_count_at 0)

abbrev pub edit_number : List ℕ → List ℕ → ℕ → ℕ
edit_number w b j = number_of w b (get_or b (edit_variables_at + j) 0)

-- r is the first edit whose variable's number is greater than n
pub record EditSought (w b : List ℕ) (n r : ℕ) : Type 0 where
  pub high : r ≤ get_or w edit_count_at 0
  pub below : (j : ℕ) → j < r → edit_number w b j ≤ n
  pub reached : r < get_or w edit_count_at 0 → n < edit_number w b r

-- ---- with the others around it

pub record ConstraintKept (n g marker other relation : ℕ) (strength constant : Float) (p : Pack) (fw fb : List ℕ) (fr : List Float) (ww wb : List ℕ) (wr : List Float) (uw ub : List ℕ) (ur : List Float) (r : ℕ) : Type 0 where
  pub at : ℕ
  pub mw : List ℕ
  pub mb : List ℕ
  pub mr : List Float
  pub sought : Sought fw constraint_numbers_at 0 (get_or fw constraint_count_at 0) (n + 1) at
  pub put : ConstraintPut at (sum_in (counts_in fb) 0 at) n g marker other relation strength constant p ww wb wr mw mb mr
  pub moved : Moved (opened at (get_or fw constraint_count_at 0)) (all_of (get_or fw edit_count_at 0)) p.count fw fb fr mw mb mr uw ub ur r

pub record EditKept (n marker other : ℕ) (strength : Float) (fw fb : List ℕ) (fr : List Float) (ww wb : List ℕ) (wr : List Float) (uw ub : List ℕ) (ur : List Float) (r : ℕ) : Type 0 where
  pub at : ℕ
  pub mb : List ℕ
  pub mr : List Float
  pub sought : EditSought fw fb n at
  pub put : EditPut at n marker other strength ww wb wr mb mr
  pub moved : Moved (all_of (get_or fw constraint_count_at 0)) (opened at (get_or fw edit_count_at 0)) 0 fw fb fr ww mb mr uw ub ur r

-- ---- as the code has them

pub below_next : (f : ℕ → ℕ) (n j : ℕ) {x : ℕ} → ((i : ℕ) → i < j → f i ≤ n) → x ≡ f j → x ≤ n → (i : ℕ) → i < j + 1 → f i ≤ n
below_next f n j {x} h e l i k = go (ltb i j) refl
  where
    go : (z : Bool) → ltb i j ≡ z → f i ≤ n
    go true q = h i (ltb-true i j q)
    go false q =
        let m = ltb-false i j q in
        let o : i ≡ j = omega (arith, k, m) in
        rw o (omega (arith, e, l))

pub before-fits : (g : ℕ → ℕ) (i n o m : ℕ) {s : ℕ} → i ≤ n → sum_in g 0 n + o ≤ m → s ≡ sum_in g 0 i → s + o ≤ m
before-fits g i n o m h k e =
    let a = sum-split g 0 i n (omega arith) h in
    omega (arith, a, k, e)

pub put-names : (i s n g marker other relation : ℕ) (strength constant : Float) (p : Pack) (ww wb : List ℕ) (wr : List Float) (uw ub : List ℕ) (ur : List Float) → Names ww wb → ConstraintPut i s n g marker other relation strength constant p ww wb wr uw ub ur → Names uw ub
put-names i s n g marker other relation strength constant p ww wb wr uw ub ur m t = names_same ww wb uw ub m t.words t.bytes

pub put-edit-names : (i n marker other : ℕ) (strength : Float) (ww wb : List ℕ) (wr : List Float) (ub : List ℕ) (ur : List Float) → Names ww wb → EditPut i n marker other strength ww wb wr ub ur → Names ww ub
put-edit-names i n marker other strength ww wb wr ub ur m t = names_same ww wb ww ub m (λ q h. refl) t.bytes

pub constraint-kept-by : (n g marker other relation : ℕ) (strength constant : Float) (p : Pack) (fw fb : List ℕ) (fr : List Float) (ww wb : List ℕ) (wr : List Float) (uw ub : List ℕ) (ur : List Float) (r at s : ℕ) (mw mb : List ℕ) (mr : List Float) {c e : Plan}
    → Sought fw constraint_numbers_at 0 (get_or fw constraint_count_at 0) (n + 1) at → s ≡ sum_in (counts_in fb) 0 at → ConstraintPut at s n g marker other relation strength constant p ww wb wr mw mb mr
    → c ≡ opened at (get_or fw constraint_count_at 0) → e ≡ all_of (get_or fw edit_count_at 0) → Moved c e p.count fw fb fr mw mb mr uw ub ur r
    → ConstraintKept n g marker other relation strength constant p fw fb fr ww wb wr uw ub ur r
constraint-kept-by n g marker other relation strength constant p fw fb fr ww wb wr uw ub ur r at s mw mb mr a b c d e m =
    record {
      at = at;
      mw = mw;
      mb = mb;
      mr = mr;
      sought = a;
      put = rw b at c;
      moved = moved_as _ _ _ _ _ _ _ _ _ _ _ _ _ d e m;
    }

pub edit-kept-by : (n marker other : ℕ) (strength : Float) (fw fb : List ℕ) (fr : List Float) (ww wb : List ℕ) (wr : List Float) (uw ub : List ℕ) (ur : List Float) (r at : ℕ) (mb : List ℕ) (mr : List Float) {c e : Plan}
    → EditSought fw fb n at → EditPut at n marker other strength ww wb wr mb mr
    → c ≡ all_of (get_or fw constraint_count_at 0) → e ≡ opened at (get_or fw edit_count_at 0) → Moved c e 0 fw fb fr ww mb mr uw ub ur r
    → EditKept n marker other strength fw fb fr ww wb wr uw ub ur r
edit-kept-by n marker other strength fw fb fr ww wb wr uw ub ur r at mb mr a c d e m =
    record {
      at = at;
      mb = mb;
      mr = mr;
      sought = a;
      put = c;
      moved = moved_as _ _ _ _ _ _ _ _ _ _ _ _ _ d e m;
    }
