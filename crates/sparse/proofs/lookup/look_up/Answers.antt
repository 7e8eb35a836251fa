use Prim.Native.Nat.{ℕ, ◌+◌, ◌-◌, ◌≤◌, ◌<◌}
use mathlib.Core.Path.{◌≡◌, ap, ◌∙◌}
use native.Mathlib.Omega.{arith}
use Rattle.std.specs.Prelude.{List, Result, Ok, Err, length, get_or, take, drop}
use Rattle.std.proofs.Common.{rules, nat_cmp}
use Rattle.std.specs.Result.{MatchResult, result_unwrap_or}
use Rattle.std.proofs.lemmas.List.Sorted.{searched}
use Rattle.std.proofs.lemmas.Fn.{always_returns_same}
use Rattle.sparse.specs.Lookup.{Ascends, place_from, rising, here, halved, place_here, place-nowhere}
use Rattle.sparse.proofs.lookup.look_up.Goals as goal

-- what the search comes to is what walking finds
found : (l : List ℕ) (a n x : ℕ) → a + n ≤ length l → Ascends l a n → (part : List ℕ) → part ≡ take n (drop a l) → (r : Result ℕ ℕ)
    → MatchResult r (λ i. (i < length part) × (get_or part i 0 ≡ x)) (λ i. (i ≤ length part) × ((k : ℕ) → k < i → get_or part k 0 < x) × ((k : ℕ) → i ≤ k → k < length part → x < get_or part k 0))
    → result_unwrap_or r n ≡ place_from l a n x
found l a n x fit up part is (Ok i) h = let p = here l a n x fit part is h.0 h.1 in place_here l a n x up i p.0 p.1
found l a n x fit up part is (Err i) h = let p = halved l a n x fit part is h.0 h.1 h.2 in place-nowhere l a n x up p.0 p.1

pub returns-clause-value : goal.returns-clause-value
returns-clause-value c =
    let fit : c.args.a + c.args.n ≤ length c.args.words.now = omega arith in
    let e : c.args.a + c.args.n - c.args.a ≡ c.args.n = omega arith in
    let is = ap (λ (k : ℕ). take k (drop c.args.a c.args.words.now)) e in
    let r = c.binary_search_by.ensures.position (λ y. nat_cmp y c.args.x) (always_returns_same _ _ _ (λ b o f' q. search (rules, q))) in
    let up = rising _ _ _ c.args.x fit _ is c.requires.ascends in
    c.unwrap_or.ensures ∙ found _ _ _ c.args.x fit c.requires.ascends _ is _ (searched _ c.args.x _ r up)
