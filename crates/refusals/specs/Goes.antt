-- 25: the test over tables is that of the steps, on the state that the tables read as.
-- Assumes nothing.
use Prim.Native.Nat.{ℕ, zero, suc, ◌+◌, ◌-◌, ◌≤◌, ◌<◌}
use Rattle.std.specs.Prelude.{◌≡◌, ◌&&◌, Float, length}
use Rattle.std.proofs.Math.Path.{refl, sym, ap}
use Rattle.std.proofs.Common.{◌∙◌, add-zero, arith, eqb-true, eq-eqb, ne_eqb, ltb-true, ltb-false, le-ltb}
use Rattle.std.proofs.Math.Bool.{Bool, true, false, not, cond}
use mathlib.Core.List.{List, [], ◌∷◌}
use Rattle.std.proofs.Math.Option.{Option, none, some}
use Rattle.std.proofs.Math.Nat.{zero-add}
use Rattle.std.proofs.Math.Dec.{eqb, leb, ltb}
use Rattle.std.specs.Float.{nan}
use Rattle.std.specs.Float.Ieee.{ne}
use Rattle.std.proofs.Math.ListN.{get_or}
use Rattle.laws.specs.Lists.{tab, list_of, sum_from, sum_in}
use Rattle.layout.specs.Layout.{bit_of}
use Rattle.layout.proofs.Copied.{length-list_of}
use Rattle.steps.specs.State.{Term, Constraint, Variable, State}
use Rattle.steps.specs.Changes.{never_reported}
use Rattle.steps.specs.Edit.{edit_terms}
use Rattle.steps.specs.Tests.{member, find_constraint, group_of, uses_in, terms_of, goes_with, makes_entry, entries_made, gone_full}
use Rattle.keeps.specs.Uses.{uses-append}
use Rattle.rows.specs.places.Finding.{place_in}
use Rattle.rows.specs.places.Listed.{same, member-list}
use Rattle.sparse.specs.Places.{most_gone, variable_numbers_at, variable_uses_at, constraint_numbers_at, constraint_groups_at, gone_numbers_at, variable_places_at, term_counts_at, terms_at, old_values_at}
use Rattle.sparse.specs.Lookup.{place_from}
use Rattle.sparse.specs.Sparse.{Sparse, variable_count, constraint_count, gone_count, gone_of, number_at, variable_of, terms_from, term_of, constraint_of, read}
use Rattle.sparse.specs.Concat.{sum-ext, sum-in, sum-le}
use Rattle.sparse.specs.Form.{index_at, index-named, Form}
use Rattle.sparse_test.specs.Stretch.{ascends}
use Rattle.sparse_test.specs.Tested.{term_count}
use Rattle.sparse_test.specs.Reads.{reads}
use Rattle.sparse_test.specs.Parts.{parts}
use Rattle.sparse_test.specs.Meaning.{reads-form}
use Rattle.sparse_test.specs.Meant.{tested-is, reads-apart, reads-constraints}
use Rattle.refusals.specs.declared.gone.Taken.{Taken}
use Rattle.refusals.specs.declared.gone.Taken.TheVariants as taken
use Rattle.refusals.specs.Refusals.{variables_in, gone_in, live_in, Tabled, takes_in, edit_use, uses_at, taken_at, taken_in, entry_at, entries_in, gone_full_in}

-- the terms that the steps' test looks at
unfoldable pub terms_taken : Taken → State → List Term
terms_taken (taken.Constraint n) s = elim (find_constraint n s.constraints) [ none ↦ [] | some c ↦ c.terms ]
terms_taken (taken.Edit n) s = edit_terms n
terms_taken (taken.Group g) s = terms_of (group_of g s.constraints)

-- ---- lists that are read place by place

uses-tab : (n : ℕ) (f : ℕ → Term) (i k : ℕ) → uses_in n (tab f i k) ≡ sum_from (λ j. bit_of (eqb n (f j).variable)) i k
unfolding uses_in tab sum_from bit_of
uses-tab n f i zero = refl
uses-tab n f i (suc k) = ap (λ (m : ℕ). bit_of (eqb n (f i).variable) + m) (uses-tab n f (suc i) k)

entries-tab : (gone : List ℕ) (ts : List Term) (f : ℕ → Variable) (i k : ℕ) → entries_made gone ts (tab f i k) ≡ sum_from (λ j. bit_of (makes_entry gone ts (f j))) i k
unfolding entries_made tab sum_from bit_of
entries-tab gone ts f i zero = refl
entries-tab gone ts f i (suc k) = ap (λ (m : ℕ). bit_of (makes_entry gone ts (f i)) + m) (entries-tab gone ts f (suc i) k)

sum-none : (f : ℕ → ℕ) (i k : ℕ) → ((j : ℕ) → i ≤ j → j < i + k → f j ≡ 0) → sum_from f i k ≡ 0
unfolding sum_from
sum-none f i zero h = refl
sum-none f i (suc k) h = rw (h i (omega arith) (omega arith), sum-none f (suc i) k (λ j a b. h j (omega arith) (omega arith))) refl

bits_most : (p : ℕ → Bool) (i k : ℕ) → sum_from (λ j. bit_of (p j)) i k ≤ k
unfolding sum_from bit_of
bits_most p i zero = omega arith
bits_most p i (suc k) = go (p i) (bits_most p (suc i) k)
  where
    go : (b : Bool) → sum_from (λ j. bit_of (p j)) (suc i) k ≤ k → cond b 1 0 + sum_from (λ j. bit_of (p j)) (suc i) k ≤ suc k
    go true h = omega (arith, h)
    go false h = omega (arith, h)

-- each live variable makes one at most
pub room-for-all : (w b : List ℕ) (r : List Float) (x : Taken) → gone_in w + variables_in w ≤ most_gone → false ≡ gone_full_in w b r x
unfolding gone_full_in entries_in
room-for-all w b r x h =
    let few : sum_in (λ i. bit_of (entry_at w b r x i)) 0 (variables_in w) ≤ variables_in w = rw (sum-in (λ i. bit_of (entry_at w b r x i)) (variables_in w)) (bits_most (entry_at w b r x) 0 (variables_in w)) in
    sym (le-ltb most_gone (gone_in w + sum_in (λ i. bit_of (entry_at w b r x i)) 0 (variables_in w)) (omega (arith, h, few)))

-- ---- the constraints' terms stand one after the other

sum-split : (f : ℕ → ℕ) (i n m : ℕ) → sum_from f i (n + m) ≡ sum_from f i n + sum_from f (i + n) m
unfolding sum_from
sum-split f i zero m = rw (zero-add m, add-zero i) (sym (zero-add (sum_from f i m)))
sum-split f i (suc n) m =
    let e : suc n + m ≡ suc (n + m) = omega arith in
    let q : i + suc n ≡ suc i + n = omega arith in
    rw (e, q) (omega (arith, sum-split f (suc i) n m))

module _ (b : List ℕ) where
  abbrev size : ℕ → ℕ
  size c = get_or b (term_counts_at + c) 0

  pub terms-start : 0 ≡ term_count b 0
  unfolding term_count sum_in sum_from
  terms-start = refl

  split-terms : (c m : ℕ) → term_count b (c + suc m) ≡ term_count b c + size c + sum_from size (suc c) m
  unfolding term_count sum_from
  split-terms c m = rw (sum-in size (c + suc m), sum-in size c, sum-split size 0 c (suc m), zero-add c) (omega arith)

  -- where the next one's start
  pub terms-next : (c : ℕ) {from n : ℕ} → from ≡ term_count b c → n ≡ size c → from + n ≡ term_count b (c + 1)
  unfolding sum_from
  terms-next c e f = rw (e, f) (omega (arith, split-terms c 0))

  pub terms-within : (c e : ℕ) {from n : ℕ} → c < e → from ≡ term_count b c → n ≡ size c → from + n ≤ term_count b e
  terms-within c e {from} {n} h p q =
      let m : ℕ = e - suc c in
      let r : c + suc m ≡ e = omega (arith, h) in
      let k = rw r at (split-terms c m) in
      omega (arith, k, p, q)

-- ---- the terms of the constraints that are taken

module _ (n : ℕ) (f : ℕ → Constraint) where
  -- of those that are chosen
  abbrev uses_if : (ℕ → Bool) → ℕ → ℕ
  uses_if p c = cond (p c) (uses_in n (f c).terms) 0

  group-uses : (g i k : ℕ) → uses_in n (terms_of (group_of g (tab f i k))) ≡ sum_from (uses_if (λ c. eqb g (f c).group)) i k
  unfolding group_of terms_of tab sum_from uses_in
  group-uses g i zero = refl
  group-uses g i (suc k) = go (eqb g (f i).group) (group-uses g (suc i) k)
    where
      go : (b : Bool) → uses_in n (terms_of (group_of g (tab f (suc i) k))) ≡ sum_from (uses_if (λ c. eqb g (f c).group)) (suc i) k
          → uses_in n (terms_of (elim b as (λ _. List Constraint) [ true ↦ f i ∷ group_of g (tab f (suc i) k) | false ↦ group_of g (tab f (suc i) k) ])) ≡ cond b (uses_in n (f i).terms) 0 + sum_from (uses_if (λ c. eqb g (f c).group)) (suc i) k
      go true ih = uses-append n (f i).terms (terms_of (group_of g (tab f (suc i) k))) ∙ ap (λ (m : ℕ). uses_in n (f i).terms + m) ih
      go false ih = ih ∙ sym (zero-add _)

  -- the one of this number, where numbers ascend
  found-uses : (m i k : ℕ) → ((a b : ℕ) → i ≤ a → a < b → b < i + k → (f a).number < (f b).number)
      → uses_in n (elim (find_constraint m (tab f i k)) [ none ↦ [] | some c ↦ c.terms ]) ≡ sum_from (uses_if (λ c. eqb m (f c).number)) i k
  unfolding find_constraint tab sum_from uses_in
  found-uses m i zero up = refl
  found-uses m i (suc k) up = go (eqb m (f i).number) refl (found-uses m (suc i) k (λ a b x y z. up a b (omega arith) y (omega arith)))
    where
      rest : Option Constraint
      rest = find_constraint m (tab f (suc i) k)

      later : ℕ
      later = sum_from (uses_if (λ c. eqb m (f c).number)) (suc i) k

      go : (b : Bool) → eqb m (f i).number ≡ b → uses_in n (elim rest [ none ↦ [] | some c ↦ c.terms ]) ≡ later
          → uses_in n (elim (elim b as (λ _. Option Constraint) [ true ↦ some (f i) | false ↦ rest ]) [ none ↦ [] | some c ↦ c.terms ]) ≡ cond b (uses_in n (f i).terms) 0 + later
      go true e ih = sym (add-zero (uses_in n (f i).terms)) ∙ ap (λ (k : ℕ). uses_in n (f i).terms + k) (sym (sum-none (uses_if (λ c. eqb m (f c).number)) (suc i) k other))
        where
          other : (j : ℕ) → suc i ≤ j → j < suc i + k → uses_if (λ c. eqb m (f c).number) j ≡ 0
          other j a b = rw (ne_eqb m (f j).number (λ q. let l = up i j (omega arith) (omega (arith, a)) (omega (arith, b)) in omega (arith, l, eqb-true m (f i).number e, q))) refl
      go false e ih = ih ∙ sym (zero-add later)

-- ---- the tables

module _ (t : Sparse) (good : reads t ≡ true) where
  form : Form t
  form = reads-form t good

  pub tabled : Tabled t.words t.bytes
  unfolding term_count terms_from
  tabled =
      let c = form.counts in
      record {
        variables = c.variables;
        constraints = c.constraints;
        terms = c.terms;
        gone = c.gone;
        gone_up = ascends t.words gone_numbers_at (gone_count t) (parts t (tested-is t ∙ good)).gone_up;
      }

  abbrev number : ℕ → ℕ
  number i = get_or t.words (variable_numbers_at + i) 0

  abbrev place : ℕ → ℕ
  place i = get_or t.bytes (variable_places_at + i) 0

  abbrev count : ℕ → ℕ
  count c = get_or t.bytes (term_counts_at + c) 0

  numbers_apart : (i j : ℕ) → i < variable_count t → j < variable_count t → number i ≡ number j → i ≡ j
  numbers_apart i j a b e = go (ltb i j) refl (ltb j i) refl
    where
      go : (x : Bool) → ltb i j ≡ x → (y : Bool) → ltb j i ≡ y → i ≡ j
      go true u y w = let l = form.numbers i j (ltb-true i j u) b in absurd (omega (arith, l, e))
      go false u true w = let l = form.numbers j i (ltb-true j i w) a in absurd (omega (arith, l, e))
      go false u false w = omega (arith, ltb-false i j u, ltb-false j i w)

  -- a term is of the variable at place i just where it names that variable's symbol
  same-variable : (i q : ℕ) → i < variable_count t → index_at t q < variable_count t → eqb (number i) (number_at t q) ≡ eqb (place i) q
  same-variable i q h k =
      let x = index-named t q k in
      same _ _
      (λ e. eq-eqb (place i) q (ap place (numbers_apart i (index_at t q) h k (eqb-true (number i) (number_at t q) e ∙ x.1)) ∙ x.0))
      (λ e. eq-eqb (number i) (number_at t q) (ap number (reads-apart t good i (index_at t q) h k (eqb-true (place i) q e ∙ sym x.0)) ∙ sym x.1))

  inside : (c : ℕ) → c < constraint_count t → (j : ℕ) → j < count c → terms_from t c + j < terms_from t (constraint_count t)
  unfolding terms_from
  inside c h j k = rw (sum-in count c, sum-in count (constraint_count t)) (sum-le count c (constraint_count t) j h k)

  constraint-uses : (i c : ℕ) → i < variable_count t → c < constraint_count t → uses_in (number i) (constraint_of t c).terms ≡ uses_at t.bytes (term_count t.bytes c) (count c) (place i)
  unfolding constraint_of uses_at list_of term_of term_count terms_from
  constraint-uses i c h k =
      uses-tab (number i) (term_of t (terms_from t c)) 0 (count c)
      ∙ sum-ext _ _ 0 (count c) (λ j l. ap bit_of (same-variable i (get_or t.bytes (terms_at + (terms_from t c + j)) 0) h (form.named (terms_from t c + j) (inside c k j (omega (arith, l))))))
      ∙ sym (sum-in _ (count c))

  -- of the constraints that are chosen
  chosen-uses : (p : ℕ → Bool) (i : ℕ) → i < variable_count t
      → sum_from (uses_if (number i) (constraint_of t) p) 0 (constraint_count t) ≡ sum_in (λ c. cond (p c) (uses_at t.bytes (term_count t.bytes c) (count c) (place i)) 0) 0 (constraint_count t)
  chosen-uses p i h = sum-ext _ _ 0 (constraint_count t) (λ c k. ap (λ (m : ℕ). cond (p c) m 0) (constraint-uses i c h (omega (arith, k)))) ∙ sym (sum-in _ (constraint_count t))

  -- how often a variable is in the terms that are taken
  taken_is : (x : Taken) (i : ℕ) → i < variable_count t → uses_in (number i) (terms_taken x (read t)) ≡ taken_in t.words t.bytes x i
  unfolding terms_taken taken_in taken_at takes_in edit_use read list_of constraint_of
  taken_is (taken.Constraint n) i h =
      found-uses (number i) (constraint_of t) n 0 (constraint_count t) (λ a b p q r. reads-constraints t good a b q (omega (arith, r)))
      ∙ chosen-uses (λ c. eqb n (get_or t.words (constraint_numbers_at + c) 0)) i h ∙ sym (zero-add _)
  taken_is (taken.Edit n) i h = unfold uses_in edit_terms bit_of in ap (λ (m : ℕ). cond (eqb (number i) n) 1 0 + m) (sym (sum-in _ (constraint_count t) ∙ sum-none _ 0 (constraint_count t) (λ j a b. refl)))
  taken_is (taken.Group g) i h =
      group-uses (number i) (constraint_of t) g 0 (constraint_count t) ∙ chosen-uses (λ c. eqb g (get_or t.words (constraint_groups_at + c) 0)) i h ∙ sym (zero-add _)

  entry-is : (x : Taken) (i : ℕ) → i < variable_count t → makes_entry (read t).changes.gone (terms_taken x (read t)) (variable_of t i) ≡ entry_at t.words t.bytes t.reals x i
  unfolding makes_entry goes_with never_reported entry_at live_in place_from variable_of
  entry-is x i h =
      let u : ℕ = get_or t.words (variable_uses_at + i) 0 in
      let o : Bool = not (ne (get_or t.reals (old_values_at + i) nan) (get_or t.reals (old_values_at + i) nan)) in
      ap (λ (k : ℕ). ltb 0 u && leb u k && o && not (member (number i) (read t).changes.gone)) (taken_is x i h)
      ∙ ap (λ (b : Bool). ltb 0 u && leb u (taken_in t.words t.bytes x i) && o && not b) (waits (number i))
    where
      waits : (n : ℕ) → member n (read t).changes.gone ≡ ltb (place_in (λ j. get_or t.words (gone_numbers_at + j) 0) (gone_count t) n) (gone_count t)
      waits n = unfold read gone_of in member-list (gone_count t) (λ j. get_or t.words (gone_numbers_at + j) 0) n

  gone-count : length (read t).changes.gone ≡ gone_count t
  unfolding read gone_of
  gone-count = length-list_of (gone_count t) _

  variables-are : (read t).changes.variables ≡ tab (variable_of t) 0 (variable_count t)
  unfolding read list_of
  variables-are = refl

  made-is : (x : Taken) → entries_made (read t).changes.gone (terms_taken x (read t)) (read t).changes.variables ≡ entries_in t.words t.bytes t.reals x
  unfolding entries_in
  made-is x =
      ap (λ (vs : List Variable). entries_made (read t).changes.gone (terms_taken x (read t)) vs) variables-are
      ∙ entries-tab (read t).changes.gone (terms_taken x (read t)) (variable_of t) 0 (variable_count t)
      ∙ sum-ext _ _ 0 (variable_count t) (λ i h. ap bit_of (entry-is x i (omega (arith, h)))) ∙ sym (sum-in _ (variable_count t))

  -- "25 a removal would make a 33rd gone entry"
  pub full_is : (x : Taken) → gone_full (terms_taken x (read t)) (read t) ≡ gone_full_in t.words t.bytes t.reals x
  unfolding gone_full gone_full_in
  full_is x = rw (gone-count, made-is x) refl
