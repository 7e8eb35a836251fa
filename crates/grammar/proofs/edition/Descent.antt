-- The second edition's reader by the laws of a descending one: a byte; a sum, and what stands around it goes on behind it.
use Rattle.std.specs.Prelude.{ℕ, suc, ◌+◌, ◌≤◌, ◌<◌, ◌≡◌, Bool, cond, length, drop, get_or}
use Rattle.std.proofs.Math.Path.{refl, ap}
use Rattle.std.proofs.Common.{sym, ◌∙◌, add-one, eqb-true, drop_of_length-le, drop-cons}
use Rattle.std.proofs.Math.Bool.{true, false}
use mathlib.Core.List.{List, [], ◌∷◌}
use Rattle.std.proofs.Math.Dec.{eqb}
use Rattle.grammar.specs.Bytes.{strange, kind_of}
use Rattle.grammar.specs.Sums.{Relation, Sums, one, turned}
use Rattle.grammar.specs.Reader.{Mode, first, spaced, wanted, lettered, number, numbered, named, closed, apart, half, Around, part, sum, inside, left, right, room_of, Next, stop, halts, step, read, halted, flushed, is_bare, is_read, finished, follow, run, read_sum}
use Rattle.grammar.specs.Descent.{over, Fits, rested, Inner, Alike, goes, ended, stops, behind_rest, Behind}
use Rattle.grammar.proofs.Descent.{alike, behind-is, unread, drop-tail}
use Rattle.grammar.specs.edition.Steps.{State, head, stepped, closing, move, unended, last, onward, pass}
use Rattle.grammar.specs.edition.Descent.{pass_from, resumed}

-- ---- one byte

module _ (w : List ℕ) (at : ℕ) (x : State) where
  pub byte : at < length w → pass_from w at x ≡ onward at (move x (get_or w at 0)) (λ y. pass_from w (at + 1) y)
  unfolding pass
  byte here = rw (drop-cons w at 0 here, add-one)

  pub no_byte : length w ≤ at → pass_from w at x ≡ last at x
  unfolding pass
  no_byte h = rw (drop_of_length-le w h)

-- ---- what stands around a sum goes on behind it

-- an `@` is a strange byte to T-01's reader
strange-step : (m : Mode) (a : Around) (s : Sums) → step m a s strange ≡ cond (is_read m) (halts a) (stop 20)
strange-step first a s = refl
strange-step spaced a s = refl
strange-step (wanted f) a s = refl
strange-step (lettered f) a s = refl
strange-step (number f n) a s = refl
strange-step (numbered f n) a s = refl
strange-step (named f v) a s = refl
strange-step closed a s = refl
strange-step apart a s = refl
strange-step (half r) a s = refl

module _ (line : List ℕ) (b : Around) where
  mark-alone : (w : List ℕ) (at : ℕ) (t : Bool) (s : Sums) → drop at line ≡ 64 ∷ w → onward at (closing true b s) (pass w (suc at)) ≡ pass_from line at (head (rested t) b s)
  unfolding pass
  mark-alone w at true s e = rw e
  mark-alone w at false s e = rw e

  -- behind a part or a sum that ends there it is what b makes of it; in brackets, or with no part before it, both refuse it
  at_mark : (w : List ℕ) (at : ℕ) (m : Mode) (t : Bool) (a : Around) (s : Sums) → Fits a b → drop at line ≡ 64 ∷ w
      → onward at (closing t (over a b) (flushed m s)) (pass w (suc at)) ≡ resumed line b (follow at m s (cond t (halts a) (stop 20)) (run w (suc at)))
  unfolding over
  at_mark w at m false a s h e = refl
  at_mark w at m true (part n) s h e = mark-alone w at (is_bare m) (flushed m s) e
  at_mark w at m true (sum n f) s h e = mark-alone w at (is_bare m) (flushed m s) e
  at_mark w at m true (inside f a) s h e = refl
  at_mark w at m true left s h e = absurd h
  at_mark w at m true (right r) s h e = absurd h

  at-end-alone : (at : ℕ) (q t : Bool) (s : Sums) → Behind q t → drop at line ≡ [] → unended (finished at q t b s) ≡ resumed line b (cond q (read at t s) (halted 20 at))
  unfolding Behind pass
  at-end-alone at true true s g e = rw e
  at-end-alone at true false s g e = rw e
  at-end-alone at false true s g e = absurd g
  at-end-alone at false false s g e = ap unended (unread at b s)

  at-end : (at : ℕ) (q t : Bool) (a : Around) (s : Sums) → Behind q t → Fits a b → drop at line ≡ [] → unended (finished at q t (over a b) s) ≡ resumed line b (finished at q t a s)
  unfolding over
  at-end at q t (part n) s g h e = at-end-alone at q t s g e
  at-end at q t (sum n f) s g h e = at-end-alone at q t s g e
  at-end at q t (inside f a) s g h e = refl
  at-end at q t left s g h e = absurd h
  at-end at q t (right r) s g h e = absurd h

  from : (w : List ℕ) (at : ℕ) (m : Mode) (a : Around) (s : Sums) → Inner m → Fits a b → drop at line ≡ w → pass w at (head m (over a b) s) ≡ resumed line b (run w at m a s)
  unfolding pass run kind_of
  from [] at m a s i h e = at-end at (is_read m) (is_bare m) a (flushed m s) (behind-is m) h e
  from (c ∷ w) at m a s i h e = by (eqb c 64) (eqb-true c 64) refl (λ m' a' s' i' h'. from w (suc at) m' a' s' i' h' (drop-tail at line e))
    where
      on_alike : eqb c 64 ≡ false → (x y : Next) → Alike b (behind_rest b m s (kind_of c)) x y
          → ((m' : Mode) (a' : Around) (s' : Sums) → Inner m' → Fits a' b → pass w (suc at) (head m' (over a' b) s') ≡ resumed line b (run w (suc at) m' a' s'))
          → onward at (stepped x) (pass w (suc at)) ≡ resumed line b (follow at m s y (run w (suc at)))
      on_alike o _ _ (goes {m = m'} {a = a'} {s = s'} i' h') next = next m' a' s' i' h'
      on_alike o _ _ ended next = rw (e, o)
      on_alike o _ _ stops next = refl

      by : (t : Bool) → (t ≡ true → c ≡ 64) → eqb c 64 ≡ t
          → ((m' : Mode) (a' : Around) (s' : Sums) → Inner m' → Fits a' b → pass w (suc at) (head m' (over a' b) s') ≡ resumed line b (run w (suc at) m' a' s'))
          → onward at (cond t (closing (is_read m) (over a b) (flushed m s)) (stepped (step m (over a b) s (kind_of c)))) (pass w (suc at)) ≡ resumed line b (follow at m s (step m a s (kind_of c)) (run w (suc at)))
      by true q o next =
          at_mark w at m (is_read m) a s h (e ∙ ap (λ (x : ℕ). x ∷ w) (q refl))
          ∙ sym (ap (λ (x : Next). resumed line b (follow at m s x (run w (suc at)))) (ap (λ (x : ℕ). step m a s (kind_of x)) (q refl) ∙ strange-step m a s))
      by false q o next = on_alike o (step m (over a b) s (kind_of c)) (step m a s (kind_of c)) (alike b m a s (kind_of c) i h) next

module _ (line : List ℕ) (at : ℕ) (s : Sums) where
  pub left-sum : pass_from line at (head (wanted one) left s) ≡ resumed line left (read_sum line at 16 one s)
  unfolding over room_of
  left-sum = from line left (drop at line) at (wanted one) (sum 16 one) s tt (refl, λ g u. refl) refl

  pub right-sum : (r : Relation) → pass_from line at (head (wanted (turned one)) (right r) s) ≡ resumed line (right r) (read_sum line at 16 (turned one) s)
  unfolding over room_of
  right-sum r = from line (right r) (drop at line) at (wanted (turned one)) (sum 16 (turned one)) s tt (refl, λ g u. refl) refl
