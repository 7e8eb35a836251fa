-- A refusal is met by the bytes up to it: lines that begin alike are read alike so far.
use Rattle.std.specs.Prelude.{ℕ, suc, ◌≤◌, ◌≡◌, refl, Bool, true, false, cond, List, [], ◌∷◌}
use Rattle.std.proofs.Common.{sym, ap, ◌∙◌, subst, add-zero, le_refl, arith}
use Rattle.grammar.specs.Bytes.{kind_of}
use Rattle.grammar.specs.Sums.{Sums}
use Rattle.grammar.specs.Reader.{Mode, Around, part, sum, inside, left, right, Next, go, ends, stop, step, Outcome, read, halted, whole, finished, follow, flushed, is_bare, is_read, run}
use Rattle.grammar.specs.Causal.{Through, left-off, met, passed}

-- no refusal is met before the place where the reader begins
abbrev Late : ℕ → Outcome → Type 0
Late at (read i t s) = Unit {0}
Late at (halted n i) = at ≤ i
Late at (whole r s) = Unit {0}

later : (at : ℕ) (x : Outcome) → Late (suc at) x → Late at x
later at (read i t s) h = tt
later at (halted n i) h = omega arith
later at (whole r s) h = tt

late-if : (at : ℕ) (t : Bool) (x y : Outcome) → Late at x → Late at y → Late at (cond t x y)
late-if at true x y h k = h
late-if at false x y h k = k

late-end : (at : ℕ) (r t : Bool) (a : Around) (s : Sums) → Late at (finished at r t a s)
late-end at r t (part n) s = late-if at r (read at t s) (halted 20 at) tt (le_refl at)
late-end at r t (sum n f) s = late-if at r (read at t s) (halted 20 at) tt (le_refl at)
late-end at r t (inside f a) s = le_refl at
late-end at r t left s = le_refl at
late-end at r t (right x) s = late-if at t (whole x s) (halted 20 at) tt (le_refl at)

late : (z : List ℕ) (at : ℕ) (m : Mode) (a : Around) (s : Sums) → Late at (run z at m a s)
unfolding run
late [] at m a s = late-end at (is_read m) (is_bare m) a (flushed m s)
late (b ∷ z) at m a s = by (step m a s (kind_of b)) (λ m' a' s'. late z (suc at) m' a' s')
  where
    by : (x : Next) → ((m' : Mode) (a' : Around) (s' : Sums) → Late (suc at) (run z (suc at) m' a' s')) → Late at (follow at m s x (run z (suc at)))
    by (go m' a' s') k = later at (run z (suc at) m' a' s') (k m' a' s')
    by ends k = tt
    by (stop n) k = le_refl at

pub not-before : (z : List ℕ) (at : ℕ) (m : Mode) (a : Around) (s : Sums) {n i : ℕ} → run z at m a s ≡ halted n i → at ≤ i
not-before z at m a s e = subst (Late at) e (late z at m a s)

pub through : (p : List ℕ) (at : ℕ) (m : Mode) (a : Around) (s : Sums) → Through p at m a s
unfolding run
through [] at m a s = passed m a s (λ z. ap (λ (n : ℕ). run z n m a s) (sym (add-zero at)))
through (b ∷ p) at m a s = by (step m a s (kind_of b)) refl (λ m' a' s'. through p (suc at) m' a' s')
  where
    by : (x : Next) → step m a s (kind_of b) ≡ x → ((m' : Mode) (a' : Around) (s' : Sums) → Through p (suc at) m' a' s') → Through (b ∷ p) at m a s
    by (go m' a' s') e k = on (k m' a' s')
      where
        on : Through p (suc at) m' a' s' → Through (b ∷ p) at m a s
        on (passed m'' a'' s'' f) = passed m'' a'' s'' (λ z. rw e (f z ∙ ap (λ (n : ℕ). run z n m'' a'' s'') (omega arith)))
        on (met n i h f) = met n i (omega arith) (λ z. rw e (f z))
        on (left-off i t u f) = left-off i t u (λ z. rw e (f z))
    by ends e k = left-off at (is_bare m) (flushed m s) (λ z. rw e)
    by (stop n) e k = met n at (omega arith) (λ z. rw e)
