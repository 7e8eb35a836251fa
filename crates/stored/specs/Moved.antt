-- The terms that go with a plan of the constraints; and all records moved by such plans.
-- Assumes nothing.
use Rattle.std.specs.Prelude.{ℕ, zero, suc, ◌+◌, ◌-◌, ◌≤◌, ◌<◌, ◌≡◌, List, Float, get_or}
use Rattle.std.proofs.Math.Path.{refl}
use Rattle.std.proofs.Common.{sym, ◌∙◌, add-zero, arith}
use Rattle.laws.specs.Lists.{sum_from, sum_in}
use Rattle.sparse.specs.Concat.{sum-ext, sum-in}
use Rattle.stored.specs.declared.parts.Plan.{Plan}
use Rattle.stored.specs.Parts.{source_size, target_size, all_of, without, opened}
use Rattle.sparse.specs.Places.{most_constraints, most_terms, constraint_count_at, edit_count_at}
use Rattle.stored.specs.Maps.{Names, Stores, counts_in}
use Rattle.stored.specs.Carried.{Carried}

-- ---- sums

sum-snoc : (g : ℕ → ℕ) (i n : ℕ) → sum_from g i (suc n) ≡ sum_from g i n + g (i + n)
unfolding sum_from
sum-snoc g i zero = let e : i + 0 ≡ i = add-zero i in rw e (omega arith)
sum-snoc g i (suc n) =
    let r = sum-snoc g (suc i) n in
    let o : i + suc n ≡ suc i + n = omega arith in
    rw o (omega (arith, r))

sum-joined : (g : ℕ → ℕ) (i n m : ℕ) → sum_from g i n + sum_from g (i + n) m ≡ sum_from g i (n + m)
unfolding sum_from
sum-joined g i zero m = let e : i + 0 ≡ i = add-zero i in let z : 0 + m ≡ m = omega arith in rw (e, z) (omega arith)
sum-joined g i (suc n) m =
    let r = sum-joined g (suc i) n m in
    let o : i + suc n ≡ suc i + n = omega arith in
    let z : suc n + m ≡ suc (n + m) = omega arith in
    rw (o, z) (omega (arith, r))

-- a sum in two parts
pub sum-split : (g : ℕ → ℕ) (a b e : ℕ) → a ≤ b → b ≤ e → sum_in g a b + sum_in g b e ≡ sum_in g a e
unfolding sum_in
sum-split g a b e h k =
    let r = sum-joined g a (b - a) (e - b) in
    let o : a + (b - a) ≡ b = omega (arith, h) in
    let z : b - a + (e - b) ≡ e - a = omega (arith, h, k) in
    rw (o, z) at r

pub sum_one : (g : ℕ → ℕ) (a : ℕ) → sum_in g a (a + 1) ≡ g a
unfolding sum_in sum_from
sum_one g a = let o : a + 1 - a ≡ 1 = omega arith in rw o (omega arith)

pub sum-nothing : (g : ℕ → ℕ) (a : ℕ) → sum_in g a a ≡ 0
unfolding sum_in sum_from
sum-nothing g a = let o : a - a ≡ 0 = omega arith in rw o refl

pub sum_same : (f g : ℕ → ℕ) (n : ℕ) → ((j : ℕ) → j < n → f j ≡ g j) → sum_in f 0 n ≡ sum_in g 0 n
sum_same f g n h = sum-in f n ∙ sum-ext f g 0 n (λ j k. h j (omega (arith, k))) ∙ sym (sum-in g n)

-- ---- the terms' plan

-- g the counts; o terms are let in where the gap of the constraints is
unfoldable pub terms_plan : (ℕ → ℕ) → Plan → ℕ → Plan
terms_plan g c o =
    record {
      at = sum_in g 0 c.at;
      drop = sum_in g c.at (c.at + c.drop);
      free = o;
      rest = sum_in g (c.at + c.drop) (source_size c);
    }

pub terms-source : (g : ℕ → ℕ) (c : Plan) (o : ℕ) → source_size (terms_plan g c o) ≡ sum_in g 0 (source_size c)
unfolding terms_plan
terms-source g c o =
    let a = sum-split g 0 c.at (c.at + c.drop) (omega arith) (omega arith) in
    let b = sum-split g 0 (c.at + c.drop) (source_size c) (omega arith) (omega arith) in
    omega (arith, a, b)

pub terms-target : (g : ℕ → ℕ) (c : Plan) (o : ℕ) → target_size (terms_plan g c o) ≤ sum_in g 0 (source_size c) + o
terms-target g c o =
    let a = terms-source g c o in
    let e : (terms_plan g c o).free ≡ o = unfold terms_plan in refl in
    omega (arith, a, e)

-- ---- as the code makes it

pub plan-is : (g : ℕ → ℕ) (c : Plan) (o : ℕ) {a b d : ℕ} → a ≡ sum_in g 0 c.at → b ≡ sum_in g c.at (c.at + c.drop) → d ≡ sum_in g (c.at + c.drop) (source_size c) → (record { at = a; drop = b; free = o; rest = d }) ≡ terms_plan g c o
unfolding terms_plan
plan-is g c o e f h = rw (e, f, h) refl

pub plan-fits : (g : ℕ → ℕ) (c : Plan) (o m : ℕ) {s : Plan} → s ≡ terms_plan g c o → sum_in g 0 (source_size c) + o ≤ m → (source_size s ≤ m) × (target_size s ≤ m)
plan-fits g c o m e h =
    let a = terms-source g c o in
    let b = terms-target g c o in
    rw e (omega (arith, a, h), omega (arith, b, h))

-- r is the count of all terms afterwards
pub record Moved (c e : Plan) (o : ℕ) (fw fb : List ℕ) (fr : List Float) (ww wb : List ℕ) (wr : List Float) (uw ub : List ℕ) (ur : List Float) (r : ℕ) : Type 0 where
  pub carried : Carried c (terms_plan (counts_in fb) c o) e fw fb fr ww wb wr uw ub ur
  pub total : r ≡ target_size (terms_plan (counts_in fb) c o)

pub moved_by : (c e : Plan) (o : ℕ) (fw fb : List ℕ) (fr : List Float) (ww wb : List ℕ) (wr : List Float) (uw ub : List ℕ) (ur : List Float) {r : ℕ} {s : Plan} → s ≡ terms_plan (counts_in fb) c o → Carried c s e fw fb fr ww wb wr uw ub ur → r ≡ target_size s → Moved c e o fw fb fr ww wb wr uw ub ur r
moved_by c e o fw fb fr ww wb wr uw ub ur q x t =
    record {
      carried = rw q at x;
      total = rw q at t;
    }

-- ---- the counts of the plans' terms

module _ (g : ℕ → ℕ) (n m : ℕ) where
  pub all-fits : sum_in g 0 n ≤ m → sum_in g 0 (source_size (all_of n)) + 0 ≤ m
  all-fits h =
      let o : source_size (all_of n) ≡ n = omega arith in
      rw o (omega (arith, h))

  pub without-fits : (j : ℕ) → j + 1 ≤ n → sum_in g 0 n ≤ m → sum_in g 0 (source_size (without j n)) + 0 ≤ m
  without-fits j k h =
      let o : source_size (without j n) ≡ n = omega (arith, k) in
      rw o (omega (arith, h))

  pub opened-fits : (j o : ℕ) → j ≤ n → sum_in g 0 n + o ≤ m → sum_in g 0 (source_size (opened j n)) + o ≤ m
  opened-fits j o k h =
      let e : source_size (opened j n) ≡ n = omega (arith, k) in
      rw e h

-- ---- what the code asks and gives, by the plans that it made

abbrev Asked : List ℕ → List ℕ → List ℕ → List ℕ → ℕ → Plan → Plan → Type 0
Asked fw fb ww wb o c e =
    Names fw fb
    × (Names ww wb
    × ((source_size c ≤ most_constraints)
    × ((target_size c ≤ most_constraints)
    × ((source_size e ≤ most_constraints)
    × ((target_size e ≤ most_constraints)
    × (sum_in (counts_in fb) 0 (source_size c) + o ≤ most_terms))))))

module _ (fw fb ww wb : List ℕ) (s : Stores fw fb) (m : Names ww wb) {c e : Plan} where
  pub ask-all : c ≡ all_of (get_or fw constraint_count_at 0) → e ≡ all_of (get_or fw edit_count_at 0) → Asked fw fb ww wb 0 c e
  ask-all p q =
      let x = s.constraints in
      let y = s.edits in
      rw (p, q) (s.names, (m, (omega (arith, x), (omega (arith, x), (omega (arith, y), (omega (arith, y), all-fits (counts_in fb) (get_or fw constraint_count_at 0) most_terms s.terms))))))

  pub ask-without : (j : ℕ) → j < get_or fw constraint_count_at 0 → c ≡ without j (get_or fw constraint_count_at 0) → e ≡ all_of (get_or fw edit_count_at 0) → Asked fw fb ww wb 0 c e
  ask-without j h p q =
      let x = s.constraints in
      let y = s.edits in
      rw (p, q) (s.names, (m, (omega (arith, x, h), (omega (arith, x, h), (omega (arith, y), (omega (arith, y), without-fits (counts_in fb) (get_or fw constraint_count_at 0) most_terms j (omega (arith, h)) s.terms))))))

  pub ask-edit-without : (j : ℕ) → j < get_or fw edit_count_at 0 → c ≡ all_of (get_or fw constraint_count_at 0) → e ≡ without j (get_or fw edit_count_at 0) → Asked fw fb ww wb 0 c e
  ask-edit-without j h p q =
      let x = s.constraints in
      let y = s.edits in
      rw (p, q) (s.names, (m, (omega (arith, x), (omega (arith, x), (omega (arith, y, h), (omega (arith, y, h), all-fits (counts_in fb) (get_or fw constraint_count_at 0) most_terms s.terms))))))

  pub ask-opened : (j o : ℕ) → j ≤ get_or fw constraint_count_at 0 → get_or fw constraint_count_at 0 < most_constraints → sum_in (counts_in fb) 0 (get_or fw constraint_count_at 0) + o ≤ most_terms
      → c ≡ opened j (get_or fw constraint_count_at 0) → e ≡ all_of (get_or fw edit_count_at 0) → Asked fw fb ww wb o c e
  ask-opened j o h k l p q =
      let y = s.edits in
      rw (p, q) (s.names, (m, (omega (arith, h, k), (omega (arith, h, k), (omega (arith, y), (omega (arith, y), opened-fits (counts_in fb) (get_or fw constraint_count_at 0) most_terms j o h l))))))

  pub ask-edit-opened : (j : ℕ) → j ≤ get_or fw edit_count_at 0 → get_or fw edit_count_at 0 < most_constraints → c ≡ all_of (get_or fw constraint_count_at 0) → e ≡ opened j (get_or fw edit_count_at 0) → Asked fw fb ww wb 0 c e
  ask-edit-opened j h k p q =
      let x = s.constraints in
      rw (p, q) (s.names, (m, (omega (arith, x), (omega (arith, x), (omega (arith, h, k), (omega (arith, h, k), all-fits (counts_in fb) (get_or fw constraint_count_at 0) most_terms s.terms))))))

pub moved_as : (p q : Plan) (o : ℕ) {c e : Plan} (fw fb : List ℕ) (fr : List Float) (ww wb : List ℕ) (wr : List Float) (uw ub : List ℕ) (ur : List Float) (r : ℕ) → c ≡ p → e ≡ q → Moved c e o fw fb fr ww wb wr uw ub ur r → Moved p q o fw fb fr ww wb wr uw ub ur r
moved_as p q o fw fb fr ww wb wr uw ub ur r a b m = rw (a, b) at m
