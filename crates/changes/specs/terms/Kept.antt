-- The terms of a pack that count: what the functions over a pack are of the terms that it reads as.
-- Assumes nothing.
use Prim.Native.Nat.{ℕ, zero, suc, ◌+◌, ◌≤◌}
use Rattle.std.specs.Prelude.{◌≡◌, refl, Bool, cond, leb, Float, length}
use Rattle.std.proofs.Math.Path.{sym, ap}
use Rattle.std.proofs.Common.{◌∙◌, leb-true}
use Rattle.std.proofs.Math.Bool.{true, false}
use mathlib.Core.List.{List, [], ◌∷◌, ◌++◌, append_assoc, append-nil}
use Rattle.std.proofs.Math.Nat.{sub-zero}
use native.Mathlib.Omega.{arith}
use Rattle.steps.specs.Number.{near_zero}
use Rattle.steps.specs.State as steps
use Rattle.steps.specs.Tests.{kept_terms}
use Rattle.laws.specs.Loops.{turns, run}
use Rattle.laws.specs.Lists.{tab, list_of, length-tab}
use Rattle.layout.specs.Copy.{most16}
use Rattle.layout.specs.Layout.{term_room}
use Rattle.changes.specs.declared.terms.Pack.{Pack}
use Rattle.changes.specs.terms.Terms.{no_pack, pushed, term_of, term_in, terms_of, pushed_kept, kept_of}
use Rattle.changes.specs.terms.Packed.{Sized, pushed_room, pushed-sized, none-sized, few-none, none-terms, terms-pushed}

pub most-le : (n : ℕ) → most16 n ≤ term_room
unfolding most16
most-le n = go (leb n term_room) refl
  where
    go : (b : Bool) → leb n term_room ≡ b → cond b n term_room ≤ term_room
    go true e = leb-true n term_room e
    go false e = omega arith

pub terms-length : (p : Pack) → length (terms_of p) ≡ most16 p.count
unfolding terms_of list_of
terms-length p = length-tab (λ j. term_of (term_in p j)) 0 (most16 p.count)

none_kept : (cutoff : Float) → kept_terms cutoff [] ≡ []
unfolding kept_terms
none_kept cutoff = refl

kept_cons : (cutoff : Float) (t : steps.Term) (ts : List steps.Term) → kept_terms cutoff (t ∷ ts) ≡ kept_terms cutoff (t ∷ []) ++ kept_terms cutoff ts
unfolding kept_terms
kept_cons cutoff t ts = go (near_zero cutoff t.coefficient)
  where
    go : (b : Bool) → elim b [ true ↦ kept_terms cutoff ts | false ↦ t ∷ kept_terms cutoff ts ] ≡ elim b [ true ↦ [] | false ↦ t ∷ [] ] ++ kept_terms cutoff ts
    go true = refl
    go false = refl

module _ (cutoff : Float) (p : Pack) where
  abbrev term : ℕ → steps.Term
  term j = term_of (term_in p j)

  abbrev keeps : ℕ → Pack → Pack
  keeps j q = pushed_kept cutoff q (term_in p j)

  -- what a turn gives: a pack with room for n terms more, which reads as the list
  abbrev Holds : ℕ → List steps.Term → Pack → Type 0
  Holds n l q = (Sized q) × (q.count + n ≤ term_room) × (terms_of q ≡ l)

  kept-turn : (j n : ℕ) (q : Pack) (l : List steps.Term) → Holds (suc n) l q → Holds n (l ++ kept_terms cutoff (term j ∷ [])) (keeps j q)
  unfolding pushed_kept kept_terms term_of
  kept-turn j n q l (s, c, e) = go (near_zero cutoff (term_in p j).coefficient)
    where
      go : (b : Bool) → Holds n (l ++ (elim b [ true ↦ [] | false ↦ term j ∷ [] ])) (cond b q (pushed q (term_in p j)))
      go true = (s, omega arith, e ∙ sym (append-nil l))
      go false =
          let r : (pushed q (term_in p j)).count ≡ q.count + 1 = ap (λ (z : Pack). z.count) (pushed_room q (term_in p j) (omega arith)) in (
            pushed-sized q (term_in p j) s,
            omega (arith, r),
            terms-pushed q (term_in p j) (omega arith) s ∙ ap (λ (m : List steps.Term). m ++ (term j ∷ [])) e,
          )

  kept_from : (n i : ℕ) (q : Pack) (l : List steps.Term) → Holds n l q → Holds 0 (l ++ kept_terms cutoff (tab term i n)) (turns keeps n i q)
  unfolding turns tab
  kept_from zero i q l h = rw (none_kept cutoff, append-nil l) h
  kept_from (suc n) i q l h =
      rw (kept_cons cutoff (term i) (tab term (suc i) n), ← append_assoc l (kept_terms cutoff (term i ∷ [])) (kept_terms cutoff (tab term (suc i) n)))
      (kept_from n (suc i) (keeps i q) (l ++ kept_terms cutoff (term i ∷ [])) (kept-turn i n q l h))

  kept-holds : Holds 0 (kept_terms cutoff (terms_of p)) (kept_of cutoff p)
  unfolding kept_of run terms_of list_of
  kept-holds = rw (sub-zero (most16 p.count)) (kept_from (most16 p.count) 0 no_pack [] (none-sized, few-none (most16 p.count) (most-le p.count), none-terms))

  pub kept-terms : terms_of (kept_of cutoff p) ≡ kept_terms cutoff (terms_of p)
  kept-terms = kept-holds.2
