-- Up to an `@` the second edition's reader goes with T-01's.
use Rattle.std.specs.Prelude.{ℕ, suc, ◌+◌, ◌<◌, ◌≤◌, ◌≡◌, refl, Bool, true, false, cond, not, ◌&&◌, List, [], ◌∷◌, ◌++◌, T, eqb, length}
use Rattle.std.proofs.Common.{sym, ap, ◌∙◌, subst, add-zero, le_refl, arith}
use Rattle.grammar.specs.Bytes.{kind_of}
use Rattle.grammar.specs.Sums.{Sums}
use Rattle.grammar.specs.Reader.{Mode, Around, part, sum, inside, left, right, Next, go, ends, stop, step, Outcome, read, halted, whole, run, finished, flushed, is_read, is_bare, follow}
use Rattle.grammar.specs.Pieces.{both}
use Rattle.grammar.specs.edition.Steps.{opened, strong, rested, parted, grouped, State, head, tail, Move, on, halt, stepped, move, Found, met, found, unended, last, onward, pass}

unfoldable pub every : (ℕ → Bool) → List ℕ → Bool
every f [] = true
every f (b ∷ w) = f b && every f w

abbrev pub no_mark : ℕ → Bool
no_mark b = not (eqb b 64)

-- no `@` among these bytes
abbrev pub free : List ℕ → Bool
free w = every no_mark w

pub is_false : (t : Bool) → T (not t) → t ≡ false
is_false true h = absurd h
is_false false h = refl

-- ---- no `@`

pub unmarked : (w : List ℕ) (at : ℕ) (m : Mode) (a : Around) (s : Sums) → T (free w) → pass w at (head m a s) ≡ unended (run w at m a s)
unfolding pass run every
unmarked [] at m a s h = refl
unmarked (b ∷ w) at m a s h =
    let f = both (not (eqb b 64)) (free w) h in
    rw (is_false (eqb b 64) f.0) (by (step m a s (kind_of b)) (λ m' a' s'. unmarked w (suc at) m' a' s' f.1))
  where
    by : (x : Next) → ((m' : Mode) (a' : Around) (s' : Sums) → pass w (suc at) (head m' a' s') ≡ unended (run w (suc at) m' a' s')) → onward at (stepped x) (pass w (suc at)) ≡ unended (follow at m s x (run w (suc at)))
    by (go m' a' s') k = k m' a' s'
    by ends k = refl
    by (stop n) k = refl

-- ---- bytes without `@`, whatever follows: both pass them alike, or both meet the same refusal in them

pub data Along (p : List ℕ) (at : ℕ) (m : Mode) (a : Around) (s : Sums) : Type 0 where
  passed : (m' : Mode) (a' : Around) (s' : Sums) → ((z : List ℕ) → run (p ++ z) at m a s ≡ run z (at + length p) m' a' s') → ((z : List ℕ) → pass (p ++ z) at (head m a s) ≡ pass z (at + length p) (head m' a' s')) → Along p at m a s
  stopped : (n i : ℕ) → i < at + length p → ((z : List ℕ) → unended (run (p ++ z) at m a s) ≡ met n i) → ((z : List ℕ) → pass (p ++ z) at (head m a s) ≡ met n i) → Along p at m a s

pub along : (p : List ℕ) (at : ℕ) (m : Mode) (a : Around) (s : Sums) → T (free p) → Along p at m a s
unfolding pass run every
along [] at m a s h = passed m a s (λ z. ap (λ (n : ℕ). run z n m a s) (sym (add-zero at))) (λ z. ap (λ (n : ℕ). pass z n (head m a s)) (sym (add-zero at)))
along (b ∷ p) at m a s h =
    let f = both (not (eqb b 64)) (free p) h in
    by (step m a s (kind_of b)) refl (is_false (eqb b 64) f.0) (λ m' a' s'. along p (suc at) m' a' s' f.1)
  where
    by : (x : Next) → step m a s (kind_of b) ≡ x → eqb b 64 ≡ false → ((m' : Mode) (a' : Around) (s' : Sums) → Along p (suc at) m' a' s') → Along (b ∷ p) at m a s
    by (go m' a' s') e o k = then (k m' a' s')
      where
        then : Along p (suc at) m' a' s' → Along (b ∷ p) at m a s
        then (passed m'' a'' s'' f g) = passed m'' a'' s'' (λ z. rw e (f z ∙ ap (λ (n : ℕ). run z n m'' a'' s'') (omega arith))) (λ z. rw (o, e) (g z ∙ ap (λ (n : ℕ). pass z n (head m'' a'' s'')) (omega arith)))
        then (stopped n i l f g) = stopped n i (omega arith) (λ z. rw e (f z)) (λ z. rw (o, e) (g z))
    by ends e o k = stopped 20 at (omega arith) (λ z. rw e) (λ z. rw (o, e))
    by (stop n) e o k = stopped n at (omega arith) (λ z. rw e) (λ z. rw (o, e))

-- ---- a refusal is met by the bytes up to it

abbrev Late : ℕ → Found → Type 0
Late at (met n i) = at ≤ i
Late at (found r s n g) = Unit {0}

later : (at : ℕ) (x : Found) → Late (suc at) x → Late at x
later at (met n i) h = omega arith
later at (found r s n g) h = tt

late-if : (at : ℕ) (t : Bool) (x y : Outcome) → Late at (unended x) → Late at (unended y) → Late at (unended (cond t x y))
late-if at true x y h k = h
late-if at false x y h k = k

late-head : (at : ℕ) (r t : Bool) (a : Around) (s : Sums) → Late at (unended (finished at r t a s))
late-head at r t (part n) s = late-if at r (read at t s) (halted 20 at) (le_refl at) (le_refl at)
late-head at r t (sum n f) s = late-if at r (read at t s) (halted 20 at) (le_refl at) (le_refl at)
late-head at r t (inside f a) s = le_refl at
late-head at r t left s = le_refl at
late-head at r t (right x) s = late-if at t (whole x s) (halted 20 at) tt (le_refl at)

late-last : (at : ℕ) (x : State) → Late at (last at x)
late-last at (head m a s) = late-head at (is_read m) (is_bare m) a (flushed m s)
late-last at (tail r s opened) = le_refl at
late-last at (tail r s (strong n)) = le_refl at
late-last at (tail r s (rested n)) = le_refl at
late-last at (tail r s (parted n)) = le_refl at
late-last at (tail r s (grouped n g)) = tt

late : (z : List ℕ) (at : ℕ) (x : State) → Late at (pass z at x)
unfolding pass
late [] at x = late-last at x
late (b ∷ z) at x = by (move x b) (λ y. late z (suc at) y)
  where
    by : (y : Move) → ((x' : State) → Late (suc at) (pass z (suc at) x')) → Late at (onward at y (pass z (suc at)))
    by (on x') k = later at (pass z (suc at) x') (k x')
    by (halt n) k = le_refl at

-- lines that begin alike are read alike so far
pub alike : (p y z : List ℕ) (at : ℕ) (x : State) {n i : ℕ} → pass (p ++ y) at x ≡ met n i → i < at + length p → pass (p ++ z) at x ≡ met n i
unfolding pass
alike [] y z at x {n} {i} e h =
    let l : at ≤ i = subst (Late at) e (late y at x) in
    absurd (omega arith)
alike (b ∷ p) y z at x {n} {i} e h = by (move x b) e (λ x' q. alike p y z (suc at) x' q (omega arith))
  where
    by : (v : Move) → onward at v (pass (p ++ y) (suc at)) ≡ met n i → ((x' : State) → pass (p ++ y) (suc at) x' ≡ met n i → pass (p ++ z) (suc at) x' ≡ met n i) → onward at v (pass (p ++ z) (suc at)) ≡ met n i
    by (on x') q k = k x' q
    by (halt k) q f = q
