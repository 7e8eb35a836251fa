-- The records kept, one dropped, one let in, one suggestion changed: what the room reads as, in the steps' words.
-- Assumes nothing.
use Rattle.std.specs.Prelude.{ℕ, ◌+◌, ◌-◌, ◌<◌, ◌≡◌, Bool, true, List, ◌∷◌, eqb, ltb, Float}
use Rattle.std.proofs.Math.Path.{refl}
use Rattle.std.proofs.Common.{ap, ◌∙◌, add-zero, arith}
use Rattle.std.proofs.Math.Bool.{false}
use Rattle.laws.specs.Lists.{list_of, sum_in}
use Rattle.layout.specs.Laying.{list_ext}
use Rattle.steps.specs.State.{Constraint, Edit}
use Rattle.steps.specs.Tests.{drop_constraint, drop_edit}
use Rattle.keeps.specs.Lists.{All}
use Rattle.sparse.specs.Sparse.{Sparse, constraint_count, edit_count, constraint_of, edit_of, read}
use Rattle.sparse.specs.Fits.{Lengths}
use Rattle.stored.specs.declared.parts.Plan.{Plan}
use Rattle.stored.specs.Parts.{past, source, target, size, source_size, target_size, all_of, without}
use Rattle.stored.specs.Maps.{counts_in}
use Rattle.stored.specs.Moved.{terms_plan, sum-nothing, Moved}
use Rattle.stored.specs.Listed.{dropped-listed}
use Rattle.stored.specs.Beside.{Beside, Own, own}
use Rattle.stored.specs.Holds.{HoldsC, HoldsE}
use Rattle.stored.specs.Reading.{kept-constraint, kept-edit}
use Rattle.stored.specs.Ended.{Ready, room_of, Kept, GapForm, all-at, moved-beside, ended}

-- ---- a gap of none

pub past-none : (s k : ℕ) → past s 0 k ≡ k
past-none s k = go (ltb k s) refl
  where
    go : (z : Bool) → ltb k s ≡ z → past s 0 k ≡ k
    go true q = unfold past in rw q refl
    go false q = unfold past in rw q (add-zero k)

pub no_gap : (c s e : Plan) (u : Sparse) → c.free ≡ 0 → s.free ≡ 0 → e.free ≡ 0 → GapForm c s e u
no_gap c s e u p q r =
    record {
      markers = λ k h. absurd (omega (arith, h, p));
      others = λ k h. absurd (omega (arith, h, p));
      relations = λ k h. absurd (omega (arith, h, p));
      terms = λ k h. absurd (omega (arith, h, q));
      edited = λ k h. absurd (omega (arith, h, r));
      pluses = λ k h. absurd (omega (arith, h, r));
      minuses = λ k h. absurd (omega (arith, h, r));
    }

pub none-gapped : (g : ℕ → ℕ) (a : ℕ) → sum_in g a (a + 0) ≡ 0
none-gapped g a = let o : a + 0 ≡ a = add-zero a in rw o (sum-nothing g a)

pub terms-free : (g : ℕ → ℕ) (c : Plan) (n : ℕ) → (terms_plan g c n).free ≡ n
terms-free g c n = unfold terms_plan in refl

-- ---- without one

abbrev is_number : ℕ → Constraint → Bool
is_number n c = eqb n c.number

abbrev is_variable : ℕ → Edit → Bool
is_variable n e = eqb n e.variable

constraint-here : (n : ℕ) (x : Constraint) (l : List Constraint) → is_number n x ≡ true → drop_constraint n (x ∷ l) ≡ l
unfolding drop_constraint
constraint-here n x l e = rw (e, drop_constraint) refl

constraint-on : (n : ℕ) (x : Constraint) (l : List Constraint) → is_number n x ≡ false → drop_constraint n (x ∷ l) ≡ x ∷ drop_constraint n l
unfolding drop_constraint
constraint-on n x l e = rw (e, drop_constraint) refl

pub drop-constraint-at : (n : ℕ) (f : ℕ → Constraint) (j m : ℕ) → j < m → ((i : ℕ) → i < j → is_number n (f i) ≡ false) → is_number n (f j) ≡ true → drop_constraint n (list_of m f) ≡ list_of (j + 0 + (m - (j + 1))) (λ k. f (past j 1 k))
drop-constraint-at n = dropped-listed (drop_constraint n) (is_number n) (constraint-here n) (constraint-on n)

edit-here : (n : ℕ) (x : Edit) (l : List Edit) → is_variable n x ≡ true → drop_edit n (x ∷ l) ≡ l
unfolding drop_edit
edit-here n x l e = rw (e, drop_edit) refl

edit-on : (n : ℕ) (x : Edit) (l : List Edit) → is_variable n x ≡ false → drop_edit n (x ∷ l) ≡ x ∷ drop_edit n l
unfolding drop_edit
edit-on n x l e = rw (e, drop_edit) refl

pub drop-edit-at : (n : ℕ) (f : ℕ → Edit) (j m : ℕ) → j < m → ((i : ℕ) → i < j → is_variable n (f i) ≡ false) → is_variable n (f j) ≡ true → drop_edit n (list_of m f) ≡ list_of (j + 0 + (m - (j + 1))) (λ k. f (past j 1 k))
drop-edit-at n = dropped-listed (drop_edit n) (is_variable n) (edit-here n) (edit-on n)

-- ---- what is read

pub constraints-read : (t : Sparse) → (read t).constraints ≡ list_of (constraint_count t) (constraint_of t)
constraints-read t = unfold read in refl

pub edits-read : (t : Sparse) → (read t).edits ≡ list_of (edit_count t) (edit_of t)
edits-read t = unfold read in refl

same : (w : Sparse) → Beside w w
same w = record { words = λ q a b d. refl; gone = λ q a. refl; bytes = λ q a. refl; reals = λ q a. refl; keys = refl; values = refl }

pub everything : {A : Type 0} (n : ℕ) (f : ℕ → A) → list_of (target_size (all_of n)) (λ k. f (source (all_of n) k)) ≡ list_of n f
everything n f =
    let z : target_size (all_of n) ≡ n = omega arith in
    rw z (list_ext _ _ _ λ k l. ap f (past-none n k))

pub all_hold : {A : Type 0} (Q : A → Type 0) (n : ℕ) (f : ℕ → A) → All Q (list_of n f) → (k : ℕ) → k < size (all_of n) → Q (f (source (all_of n) k))
all_hold Q n f h k l = rw (past-none n k) (all-at Q f n h k (omega (arith, l)))

but-one : {A : Type 0} (Q : A → Type 0) (j n : ℕ) (f : ℕ → A) → All Q (list_of (target_size (without j n)) λ k. f (past j 1 k)) → (k : ℕ) → k < size (without j n) → Q (f (source (without j n) k))
but-one Q j n f h k l = all-at Q (λ k. f (past j 1 k)) (target_size (without j n)) h k (omega (arith, l))

module _ (t w : Sparse) (ready : Ready t w) (uw ub : List ℕ) (ur : List Float) (r : ℕ) where
  abbrev u : Sparse
  u = room_of w uw ub ur

  abbrev Raw : Plan → Plan → Type 0
  Raw c e = Moved c e 0 t.words t.bytes t.reals w.words w.bytes w.reals uw ub ur r

  o : Own w
  o = own w ready.room ready.own

  moved-lengths : (c e : Plan) → Raw c e → Lengths u
  moved-lengths c e m =
      let l = ready.lengths in
      (m.carried.words.long ∙ l.0, l.1, m.carried.bytes.long ∙ l.2, m.carried.reals.long ∙ l.3, l.4)

  module _ (c e : Plan) (m : Raw c e) (free : c.free ≡ 0) (free' : e.free ≡ 0) (ac : source_size c ≡ constraint_count t) (ae : source_size e ≡ edit_count t) where
    gapped : sum_in (counts_in ub) c.at (c.at + c.free) ≡ 0
    gapped = rw free (none-gapped (counts_in ub) c.at)

    d : Beside w u
    d = moved-beside t w u c e 0 r m refl refl

    -- those kept, whichever they are
    pub all-kept : ((k : ℕ) → k < size c → HoldsC w (constraint_of t (source c k))) → ((k : ℕ) → k < size e → HoldsE w (edit_of t (source e k)))
        → Kept w u (list_of (target_size c) λ k. constraint_of t (source c k)) (list_of (target_size e) λ k. edit_of t (source e k)) r
    all-kept hc he =
        let f = ready.lent.counts in
        let f₁ = f.constraints in
        let f₂ = f.edits in
        let f₃ = f.terms in
        ended t w w u ready.lent o (same w) d c e 0 r m ac ae (omega (arith, f₁, ac, free)) (omega (arith, f₂, ae, free')) (omega (arith, f₃)) gapped hc he
        (no_gap c (terms_plan (counts_in t.bytes) c 0) e u free (terms-free (counts_in t.bytes) c 0) free')
        (list_of (target_size c) λ k. constraint_of t (source c k)) (list_of (target_size e) λ k. edit_of t (source e k))
        (list_ext _ _ _ λ k l. there c free (constraint_of u) (constraint_of t) (λ k h. kept-constraint t w u ready.lent o d c e 0 r m ac gapped hc k h) k l)
        (list_ext _ _ _ λ k l. there e free' (edit_of u) (edit_of t) (λ k h. kept-edit t w u ready.lent o d c e 0 r m ae he k h) k l)
        (moved-lengths c e m)
      where
        there : {A : Type 0} (p : Plan) → p.free ≡ 0 → (f g : ℕ → A) → ((k : ℕ) → k < size p → f (target p k) ≡ g (source p k)) → (k : ℕ) → k < target_size p → f k ≡ g (source p k)
        there p q f g h k l =
            let z : target p k ≡ k = rw q (past-none p.at k) in
            rw z at (h k (omega (arith, l, q)))

  -- ---- all of them

  pub records-kept : Raw (all_of (constraint_count t)) (all_of (edit_count t)) → All (HoldsC w) (read t).constraints → All (HoldsE w) (read t).edits → Kept w u (read t).constraints (read t).edits r
  records-kept m hc he =
      let x = all-kept (all_of (constraint_count t)) (all_of (edit_count t)) m refl refl (omega arith) (omega arith)
      (all_hold (HoldsC w) (constraint_count t) (constraint_of t) (rw (constraints-read t) at hc)) (all_hold (HoldsE w) (edit_count t) (edit_of t) (rw (edits-read t) at he)) in
      rw (constraints-read t, edits-read t) (rw (everything (constraint_count t) (constraint_of t), everything (edit_count t) (edit_of t)) at x)

  -- ---- all but one

  pub constraint-dropped : (j n : ℕ) → Raw (without j (constraint_count t)) (all_of (edit_count t)) → j < constraint_count t → ((i : ℕ) → i < j → eqb n (constraint_of t i).number ≡ false) → eqb n (constraint_of t j).number ≡ true
      → All (HoldsC w) (drop_constraint n (read t).constraints) → All (HoldsE w) (read t).edits → Kept w u (drop_constraint n (read t).constraints) (read t).edits r
  constraint-dropped j n m a f g hc he =
      let y : drop_constraint n (read t).constraints ≡ list_of (target_size (without j (constraint_count t))) (λ k. constraint_of t (past j 1 k)) = ap (drop_constraint n) (constraints-read t) ∙ drop-constraint-at n (constraint_of t) j (constraint_count t) a f g in
      let x = all-kept (without j (constraint_count t)) (all_of (edit_count t)) m refl refl (omega (arith, a)) (omega arith)
      (but-one (HoldsC w) j (constraint_count t) (constraint_of t) (rw y at hc)) (all_hold (HoldsE w) (edit_count t) (edit_of t) (rw (edits-read t) at he)) in
      rw (y, edits-read t) (rw (everything (edit_count t) (edit_of t)) at x)

  pub edit-dropped : (j n : ℕ) → Raw (all_of (constraint_count t)) (without j (edit_count t)) → j < edit_count t → ((i : ℕ) → i < j → eqb n (edit_of t i).variable ≡ false) → eqb n (edit_of t j).variable ≡ true
      → All (HoldsC w) (read t).constraints → All (HoldsE w) (drop_edit n (read t).edits) → Kept w u (read t).constraints (drop_edit n (read t).edits) r
  edit-dropped j n m a f g hc he =
      let y : drop_edit n (read t).edits ≡ list_of (target_size (without j (edit_count t))) (λ k. edit_of t (past j 1 k)) = ap (drop_edit n) (edits-read t) ∙ drop-edit-at n (edit_of t) j (edit_count t) a f g in
      let x = all-kept (all_of (constraint_count t)) (without j (edit_count t)) m refl refl (omega arith) (omega (arith, a))
      (all_hold (HoldsC w) (constraint_count t) (constraint_of t) (rw (constraints-read t) at hc)) (but-one (HoldsE w) j (edit_count t) (edit_of t) (rw y at he)) in
      rw (constraints-read t, y) (rw (everything (constraint_count t) (constraint_of t)) at x)
