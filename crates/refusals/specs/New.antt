-- New variables: the count over a pack's places is the length of the steps' list of them.
-- Assumes nothing.
use Prim.Native.Nat.{ℕ, zero, suc, ◌+◌}
use Rattle.std.specs.Prelude.{◌≡◌, Bool, ◌&&◌, ◌||◌, cond, T, get_or}
use Rattle.std.proofs.Math.Path.{refl, sym, ap}
use Rattle.std.proofs.Common.{◌∙◌, subst, add-zero, add-one, arith, eqb-true, ne_eqb}
use Rattle.std.proofs.Math.Bool.{true, false, not}
use mathlib.Core.List.{List, [], ◌∷◌, map}
use Rattle.std.proofs.Math.Option.{Option, none, some}
use Rattle.std.proofs.Math.Nat.{zero-add, sub-zero}
use Rattle.std.proofs.Math.Dec.{eqb}
use Rattle.std.proofs.Math.ListN.{length}
use Rattle.std.proofs.lemmas.Bool.{not-true, not-false}
use Rattle.steps.specs.State.{Term, Variable}
use Rattle.steps.specs.Changes.{find_variable}
use Rattle.steps.specs.Tests.{member, new_variables}
use Rattle.laws.specs.Lists.{tab, list_of, all_from, all_in, sum_from, sum_in}
use Rattle.layout.specs.Layout.{bit_of}
use Rattle.layout.specs.Copy.{most16}
use Rattle.rows.specs.places.Listed.{map-list, member-list}
use Rattle.sparse.specs.Places.{variable_numbers_at}
use Rattle.sparse.specs.Lookup.{place_from}
use Rattle.sparse.specs.Sparse.{Sparse, variable_count, variable_of, read}
use Rattle.changes.specs.declared.terms.Pack.{Pack}
use Rattle.changes.specs.terms.Terms.{term_of, term_in, terms_of}
use Rattle.refusals.specs.Refusals.{live_in, is_first_of, new_at, new_in}

-- ---- live

abbrev is_some : {A : Type 0} → Option A → Bool
is_some o = elim o [ none ↦ false | some a ↦ true ]

live-member : (x : ℕ) (vs : List Variable) → is_some (find_variable x vs) ≡ member x (map (λ (v : Variable). v.number) vs)
unfolding find_variable member
live-member x [] = refl
live-member x (v ∷ vs) = go (eqb x v.number) (live-member x vs)
  where
    go : (b : Bool) → is_some (find_variable x vs) ≡ member x (map (λ (v : Variable). v.number) vs)
        → is_some {A = Variable} (elim b [ true ↦ some v | false ↦ find_variable x vs ]) ≡ b || member x (map (λ (v : Variable). v.number) vs)
    go true r = refl
    go false r = r

abbrev pub variables_of : Sparse → List Variable
variables_of t = (read t).changes.variables

pub live-is : (t : Sparse) (x : ℕ) → is_some (find_variable x (variables_of t)) ≡ live_in t.words variable_numbers_at (variable_count t) x
unfolding read variable_of live_in place_from
live-is t x =
    let k : ℕ = variable_count t in
    let f : ℕ → ℕ = λ i. get_or t.words (variable_numbers_at + i) 0 in
    live-member x (list_of k (variable_of t)) ∙ ap (λ (l : List ℕ). member x l) (map-list (λ (v : Variable). v.number) k (variable_of t)) ∙ member-list k f x

-- ---- one by one

all_snoc : (p : ℕ → Bool) (i n : ℕ) → all_from p i (suc n) ≡ all_from p i n && p (i + n)
unfolding all_from
all_snoc p i zero = rw (add-zero i) (go (p i))
  where
    go : (b : Bool) → b && true ≡ b
    go true = refl
    go false = refl
all_snoc p i (suc n) =
    let e : suc i + n ≡ i + suc n = omega arith in
    ap (λ (b : Bool). p i && b) (all_snoc p (suc i) n) ∙ rw e (go (p i) (all_from p (suc i) n) (p (i + suc n)))
  where
    go : (a b c : Bool) → a && (b && c) ≡ (a && b) && c
    go true b c = refl
    go false b c = refl

known_is : {A : Type 0} (o : Option A) (m : Bool) → elim o [ none ↦ m | some a ↦ true ] ≡ is_some o || m
known_is none m = refl
known_is (some a) m = refl

true-false : {A : Type 0} → true ≡ false → A
true-false e = absurd (subst (λ (b : Bool). T b) e tt)

skip : (a b : Bool) → b ≡ false → not a ≡ not (a && not b)
skip true b e = rw e refl
skip false b e = refl

either : (a b : Bool) → b || not a ≡ not (a && not b)
either true true = refl
either true false = refl
either false true = refl
either false false = refl

module _ (vs : List Variable) (term : ℕ → Term) where
  abbrev live : ℕ → Bool
  live x = is_some (find_variable x vs)

  abbrev var : ℕ → ℕ
  var i = (term i).variable

  -- x is no variable of the first i terms
  abbrev apart : ℕ → ℕ → Bool
  apart i x = all_from (λ j. not (eqb x (term j).variable)) 0 i

  abbrev counts : ℕ → ℕ
  counts i = bit_of (not (live (var i)) && apart i (var i))

  -- of what is not live, the list has what the first i terms have
  abbrev Found : ℕ → List ℕ → Type 0
  Found i found = (x : ℕ) → live x ≡ false → member x found ≡ not (apart i x)

  abbrev grown : ℕ → List ℕ → List ℕ
  grown i found = cond (live (var i) || member (var i) found) found (var i ∷ found)

  apart-suc : (i x : ℕ) → apart (suc i) x ≡ apart i x && not (eqb x (var i))
  apart-suc i x = all_snoc (λ j. not (eqb x (term j).variable)) 0 i ∙ ap (λ (k : ℕ). apart i x && not (eqb x (var k))) (zero-add i)

  live-apart : (i x : ℕ) → live (var i) ≡ true → live x ≡ false → eqb x (var i) ≡ false
  live-apart i x a l = ne_eqb x (var i) λ q. true-false (sym a ∙ ap live (sym q) ∙ l)

  turn : (i : ℕ) (found : List ℕ) → Found i found → (Found (suc i) (grown i found)) × (length (grown i found) ≡ length found + counts i)
  unfolding bit_of member
  turn i found h = go (live (var i)) refl (member (var i) found) refl
    where
      go : (a : Bool) → live (var i) ≡ a → (m : Bool) → member (var i) found ≡ m
          → (Found (suc i) (cond (a || m) found (var i ∷ found))) × (length (cond (a || m) found (var i ∷ found)) ≡ length found + bit_of (not a && apart i (var i)))
      go true e m f = (
        λ x l. h x l ∙ skip (apart i x) (eqb x (var i)) (live-apart i x e l) ∙ ap not (sym (apart-suc i x)),
        sym (add-zero (length found)),
      )
      go false e true f = (
        λ x l. there x (eqb x (var i)) refl ∙ ap (λ (b : Bool). eqb x (var i) || b) (h x l) ∙ either (apart i x) (eqb x (var i)) ∙ ap not (sym (apart-suc i x)),
        sym (add-zero (length found)) ∙ sym (ap (λ (b : Bool). length found + bit_of b) (not-true (apart i (var i)) (sym (h (var i) e) ∙ f))),
      )
        where
          there : (x : ℕ) (b : Bool) → eqb x (var i) ≡ b → member x found ≡ b || member x found
          there x true k = rw (eqb-true x (var i) k) f
          there x false k = refl
      go false e false f = (
        λ x l. ap (λ (b : Bool). eqb x (var i) || b) (h x l) ∙ either (apart i x) (eqb x (var i)) ∙ ap not (sym (apart-suc i x)),
        sym (add-one (length found)) ∙ sym (ap (λ (b : Bool). length found + bit_of b) (not-false (apart i (var i)) (sym (h (var i) e) ∙ f))),
      )

  new-from : (n i : ℕ) (found : List ℕ) → Found i found → length (new_variables vs found (tab term i n)) ≡ length found + sum_from counts i n
  unfolding new_variables tab sum_from
  new-from zero i found h = sym (add-zero (length found))
  new-from (suc n) i found h =
      let t = turn i found h in
      let r = new-from n (suc i) (grown i found) t.0 in
      let e = t.1 in
      ap (λ (b : Bool). length (new_variables vs (cond b found (var i ∷ found)) (tab term (suc i) n))) (known_is (find_variable (var i) vs) (member (var i) found)) ∙ r ∙ omega (arith, e)

  new-list : (n : ℕ) → length (new_variables vs [] (tab term 0 n)) ≡ sum_from counts 0 n
  unfolding member all_from
  new-list n = new-from n 0 [] (λ x l. refl) ∙ zero-add (sum_from counts 0 n)

new-here : (t : Sparse) (p : Pack) (j : ℕ) → counts (variables_of t) (λ j. term_of (term_in p j)) j ≡ new_at t.words (variable_count t) p j
unfolding new_at is_first_of all_in term_of term_in
new-here t p j = rw (sub-zero j) (ap (λ (b : Bool). bit_of (not b && all_from (λ l. not (eqb (get_or p.vars j 0) (get_or p.vars l 0))) 0 j)) (live-is t (get_or p.vars j 0)))

-- 9 counts each new variable once
pub new_is : (t : Sparse) (p : Pack) → length (new_variables (variables_of t) [] (terms_of p)) ≡ new_in t.words (variable_count t) p
unfolding terms_of list_of term_of term_in new_in sum_in
new_is t p =
    let m : ℕ = most16 p.count in
    let term : ℕ → Term = λ j. term_of (term_in p j) in
    new-list (variables_of t) term m ∙ (λ k. sum_from (λ j. new-here t p j k) 0 m) ∙ sym (ap (λ (e : ℕ). sum_from (new_at t.words (variable_count t) p) 0 e) (sub-zero m))
