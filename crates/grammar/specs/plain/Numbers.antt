-- A number in decimal reads as itself, and no bound that it keeps is met on the way.
use Rattle.std.specs.Prelude.{ℕ, zero, suc, ◌+◌, ◌-◌, ◌*◌, ◌/◌, ◌%◌, ◌≤◌, ◌<◌, ◌≡◌, refl, Bool, T, leb, ltb}
use Rattle.std.proofs.Common.{◌∙◌, arith, le-leb, ltb-true, ltb-false, le→leb}
use Rattle.std.proofs.Math.Bool.{true, false, cond}
use mathlib.Core.List.{List, [], ◌∷◌, ◌++◌}
use Rattle.std.proofs.Math.Option.{none}
use Rattle.grammar.specs.Bytes.{is_digit}
use Rattle.grammar.specs.Trees.{fault, are_digits, worth_from, passes}
use Rattle.grammar.specs.Reach.{one-is, are-more}
use Rattle.grammar.specs.edition.Free.{and_both}
use Rattle.grammar.specs.plain.Decimal.{decimal_in, decimal}

-- ---- one digit more

worth-snoc : (v : ℕ) (bs : List ℕ) (b : ℕ) → worth_from v (bs ++ (b ∷ [])) ≡ worth_from v bs * 10 + (b - 48)
unfolding worth_from
worth-snoc v [] b = refl
worth-snoc v (c ∷ bs) b = worth-snoc (v * 10 + (c - 48)) bs b

module _ (top : ℕ) where
  passes-snoc : (v at : ℕ) (bs : List ℕ) (b : ℕ) → passes top v at bs ≡ none → worth_from v bs * 10 + (b - 48) ≤ top → passes top v at (bs ++ (b ∷ [])) ≡ none
  unfolding passes worth_from
  passes-snoc v at [] b e h = rw (le-leb (v * 10 + (b - 48)) top h)
  passes-snoc v at (c ∷ bs) b e h = by (leb (v * 10 + (c - 48)) top) e (λ q. passes-snoc (v * 10 + (c - 48)) (suc at) bs b q h)
    where
      by : (t : Bool) → cond t (passes top (v * 10 + (c - 48)) (suc at) bs) (fault 22 at) ≡ none → (passes top (v * 10 + (c - 48)) (suc at) bs ≡ none → passes top (v * 10 + (c - 48)) (suc at) (bs ++ (b ∷ [])) ≡ none)
          → cond t (passes top (v * 10 + (c - 48)) (suc at) (bs ++ (b ∷ []))) (fault 22 at) ≡ none
      by true e k = k e
      by false e k = e

-- ---- a number below 10^k

unfoldable pub limit : ℕ → ℕ
limit zero = 1
limit (suc k) = limit k * 10

is-glyph : (d : ℕ) → d ≤ 9 → T (is_digit (48 + d))
is-glyph d h = and_both (leb 48 (48 + d)) (leb (48 + d) 57) (le→leb 48 (48 + d) (omega arith)) (le→leb (48 + d) 57 (omega arith))

-- what the reader makes of digits: they are digits, they are worth n, and n's bounds are not met
pub record Reads (n : ℕ) (bs : List ℕ) : Type 0 where
  pub digits : T (are_digits bs)
  pub worths : worth_from 0 bs ≡ n
  pub kept : (top at : ℕ) → n ≤ top → passes top 0 at bs ≡ none

one-digit : (n : ℕ) → n < 10 → Reads n ((48 + n) ∷ [])
unfolding worth_from passes
one-digit n h =
    let e : 0 * 10 + (48 + n - 48) ≡ n = omega arith in
    record { digits = one-is (48 + n) (is-glyph n (omega arith)); worths = e; kept = λ top at l. rw (e, le-leb n top l) }

more-digits : (n : ℕ) (bs : List ℕ) → Reads (n / 10) bs → Reads n (bs ++ ((48 + n % 10) ∷ []))
more-digits n bs r =
    let e : worth_from 0 bs * 10 + (48 + n % 10 - 48) ≡ n = omega (arith, r.worths) in
    record {
      digits = are-more bs (48 + n % 10) r.digits (is-glyph (n % 10) (omega arith));
      worths = worth-snoc 0 bs (48 + n % 10) ∙ e;
      kept = λ top at l. passes-snoc top 0 at bs (48 + n % 10) (r.kept top at (omega arith)) (omega (arith, e));
    }

decimal-in : (k n : ℕ) → n < limit k → 0 < k → Reads n (decimal_in k n)
unfolding decimal_in limit
decimal-in zero n h k = absurd (omega arith)
decimal-in (suc zero) n h k = by (ltb n 10) refl
  where
    by : (t : Bool) → ltb n 10 ≡ t → Reads n (cond t ((48 + n) ∷ []) ([] ++ ((48 + n % 10) ∷ [])))
    by true e = one-digit n (ltb-true n 10 e)
    by false e = absurd (omega (arith, ltb-false n 10 e))
decimal-in (suc (suc j)) n h k = by (ltb n 10) refl (decimal-in (suc j) (n / 10) (omega arith) (omega arith))
  where
    by : (t : Bool) → ltb n 10 ≡ t → Reads (n / 10) (decimal_in (suc j) (n / 10)) → Reads n (cond t ((48 + n) ∷ []) (decimal_in (suc j) (n / 10) ++ ((48 + n % 10) ∷ [])))
    by true e r = one-digit n (ltb-true n 10 e)
    by false e r = more-digits n (decimal_in (suc j) (n / 10)) r

-- at most 10 digits are needed for what a line says
pub decimal-reads : (n : ℕ) → n ≤ 4294967295 → Reads n (decimal n)
unfolding decimal limit
decimal-reads n h = decimal-in 20 n (omega arith) (omega arith)
