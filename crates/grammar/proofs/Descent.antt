-- The laws by which a descending reader reads: a byte; a part, and what stands around it goes on behind it; a sum likewise.
use Prim.Native.Nat.{ℕ, zero, suc, ◌+◌, ◌*◌, ◌≤◌, ◌<◌, pred}
use Rattle.std.specs.Prelude.{◌≡◌, Bool, cond, leb, length, drop, get_or}
use Rattle.std.proofs.Math.Path.{refl, ap, subst}
use Rattle.std.proofs.Common.{sym, add-one, drop_of_length-le, drop-cons}
use Rattle.std.proofs.Math.Bool.{true, false}
use mathlib.Core.List.{List, [], ◌∷◌}
use Rattle.grammar.specs.Bytes.{Kind, digit, letter, space, plus, minus, star, opening, closing, less, equals, more, strange, kind_of}
use Rattle.grammar.specs.Sums.{Relation, at_most, equal, at_least, Sums, most, most_name, Factor, one, turned, multiplied, with_number, with_variable}
use Rattle.grammar.specs.Reader.{Mode, first, spaced, wanted, lettered, number, numbered, named, closed, apart, half, Around, part, sum, inside, left, right, room_of, Next, go, ends, stop, opened, begins, digits, halts, joins, closes, relates, unturned, behind, step, Outcome, read, halted, flushed, is_bare, is_read, finished, follow, run, run_from, read_part, read_sum}
use Rattle.grammar.specs.Descent.{over, Fits, rested, Inner, Alike, resumed, Behind, ended, goes, stops}
use Rattle.grammar.specs.Descent as specs

-- ---- one byte

module _ (w : List ℕ) (at : ℕ) (m : Mode) (a : Around) (s : Sums) where
  pub byte : {k : Kind} → at < length w → kind_of (get_or w at 0) ≡ k → run_from w at m a s ≡ follow at m s (step m a s k) (λ m' a' s'. run_from w (at + 1) m' a' s')
  unfolding run
  byte here e = rw (drop-cons w at 0 here, e, add-one)

  pub no_byte : length w ≤ at → run_from w at m a s ≡ finished at (is_read m) (is_bare m) a (flushed m s)
  unfolding run
  no_byte h = rw (drop_of_length-le w h)

-- ---- what stands around a part or a sum takes the place of its end

module _ (b : Around) where
  abbrev behind_rest : Mode → Sums → Kind → Next
  behind_rest = specs.behind_rest b

  room : (a : Around) → Fits a b → room_of (over a b) ≡ room_of a
  unfolding over room_of
  room (part n) h = h
  room (sum n f) h = h.0
  room (inside f a) h = ap pred (room a h)
  room left h = absurd h
  room (right r) h = absurd h

  alike-opened : (x : Next) (f : Factor) (a : Around) (s : Sums) (n : ℕ) → Fits a b → Alike b x (opened f (over a b) s n) (opened f a s n)
  unfolding over
  alike-opened x f a s zero h = stops
  alike-opened x f a s (suc n) h = goes {a = inside f a} tt h

  alike-joins : (g : Factor → Factor) (a : Around) (s : Sums) → Fits a b → Alike b (joins g b s) (joins g (over a b) s) (joins g a s)
  unfolding over
  alike-joins g (part n) s h = ended
  alike-joins g (sum n f) s h = subst (λ (y : Next). Alike b (joins g b s) y (go (wanted (g f)) (sum n f) s)) (sym (h.1 g s)) (goes {a = sum n f} tt h)
  alike-joins g (inside f a) s h = goes {a = inside f a} tt h
  alike-joins g left s h = absurd h
  alike-joins g (right r) s h = absurd h

  alike-closes : (a : Around) (s : Sums) → Fits a b → Alike b (closes b s) (closes (over a b) s) (closes a s)
  unfolding over
  alike-closes (part n) s h = ended
  alike-closes (sum n f) s h = ended
  alike-closes (inside f a) s h = goes tt h
  alike-closes left s h = absurd h
  alike-closes (right r) s h = absurd h

  alike-relates : (m : Mode) (c a : Around) (s : Sums) → Fits a b → Alike b (relates m c b s) (relates m c (over a b) s) (relates m c a s)
  unfolding over
  alike-relates m c (part n) s h = ended
  alike-relates m c (sum n f) s h = ended
  alike-relates m c (inside f a) s h = stops
  alike-relates m c left s h = absurd h
  alike-relates m c (right r) s h = absurd h

  alike-halts : (a : Around) → Fits a b → Alike b (halts b) (halts (over a b)) (halts a)
  unfolding over
  alike-halts (part n) h = ended
  alike-halts (sum n f) h = ended
  alike-halts (inside f a) h = stops
  alike-halts left h = absurd h
  alike-halts (right r) h = absurd h

  alike-if : (x : Next) (t : Bool) (m : Mode) (a : Around) (s : Sums) (n : ℕ) → Inner m → Fits a b → Alike b x (cond t (go m (over a b) s) (stop n)) (cond t (go m a s) (stop n))
  alike-if x true m a s n i h = goes i h
  alike-if x false m a s n i h = stops

  module _ (x : Next) (f : Factor) (a : Around) (s : Sums) (h : Fits a b) where
    alike-begins : {n n' : ℕ → Next} {l l' g g' : Next} → ((d : ℕ) → Alike b x (n' d) (n d)) → Alike b x l' l → Alike b x g' g → (k : Kind) → Alike b x (begins n' l' g' f (over a b) s k) (begins n l g f a s k)
    alike-begins nn ll gg (digit d) = nn d
    alike-begins nn ll gg letter = ll
    alike-begins nn ll gg space = gg
    alike-begins nn ll gg plus = stops
    alike-begins nn ll gg minus = goes tt h
    alike-begins nn ll gg star = stops
    alike-begins nn ll gg opening = subst (λ (r : ℕ). Alike b x (opened f (over a b) s r) (opened f a s (room_of a))) (sym (room a h)) (alike-opened x f a s (room_of a) h)
    alike-begins nn ll gg closing = stops
    alike-begins nn ll gg less = stops
    alike-begins nn ll gg equals = stops
    alike-begins nn ll gg more = stops
    alike-begins nn ll gg strange = stops

  module _ (a : Around) (s : Sums) (h : Fits a b) where
    alike-behind : {n n' : ℕ → Next} {g g' t t' y : Next} → ((d : ℕ) → Alike b (halts b) (n' d) (n d)) → Alike b y g' g → Alike b (halts b) t' t → (k : Kind) → Alike b (behind (λ d. halts b) y (halts b) b s k) (behind n' g' t' (over a b) s k) (behind n g t a s k)
    alike-behind nn gg tt' (digit d) = nn d
    alike-behind nn gg tt' letter = alike-halts a h
    alike-behind nn gg tt' space = gg
    alike-behind nn gg tt' plus = alike-joins unturned a s h
    alike-behind nn gg tt' minus = alike-joins turned a s h
    alike-behind nn gg tt' star = tt'
    alike-behind nn gg tt' opening = alike-halts a h
    alike-behind nn gg tt' closing = alike-closes a s h
    alike-behind nn gg tt' less = alike-relates (half at_most) left a s h
    alike-behind nn gg tt' equals = alike-relates (wanted (turned one)) (right equal) a s h
    alike-behind nn gg tt' more = alike-relates (half at_least) left a s h
    alike-behind nn gg tt' strange = alike-halts a h

  alike-digits : (x : Next) {n n' : ℕ → Next} → ((d : ℕ) → Alike b x (n' d) (n d)) → (k : Kind) → Alike b x (digits n' k) (digits n k)
  alike-digits x nn (digit d) = nn d
  alike-digits x nn letter = stops
  alike-digits x nn space = stops
  alike-digits x nn plus = stops
  alike-digits x nn minus = stops
  alike-digits x nn star = stops
  alike-digits x nn opening = stops
  alike-digits x nn closing = stops
  alike-digits x nn less = stops
  alike-digits x nn equals = stops
  alike-digits x nn more = stops
  alike-digits x nn strange = stops

  pub alike : (m : Mode) (a : Around) (s : Sums) (k : Kind) → Inner m → Fits a b → Alike b (behind_rest m s k) (step m (over a b) s k) (step m a s k)
  alike first a s k i h = alike-begins (behind_rest first s k) one a s h (λ d. goes tt h) (goes tt h) (goes tt h) k
  alike spaced a s k i h = alike-begins (behind_rest spaced s k) one a s h (λ d. stops) stops (goes tt h) k
  alike (wanted f) a s k i h = alike-begins (behind_rest (wanted f) s k) f a s h (λ d. goes tt h) (goes tt h) (goes tt h) k
  alike (lettered f) a s k i h = alike-digits (behind_rest (lettered f) s k) (λ d. goes tt h) k
  alike (number f n) a s k i h = alike-behind a (with_number f n s) h (λ d. alike-if (halts b) (leb (n * 10 + d) most) (number f (n * 10 + d)) a s 22 tt h) (goes tt h) (alike-if (halts b) (leb (f.times * n) most) (wanted (multiplied f n)) a s 22 tt h) k
  alike (numbered f n) a s k i h = alike-behind a (with_number f n s) h (λ d. alike-halts a h) (goes tt h) (alike-if (halts b) (leb (f.times * n) most) (wanted (multiplied f n)) a s 22 tt h) k
  alike (named f v) a s k i h = alike-behind a (with_variable f v s) h (λ d. alike-if (halts b) (leb (v * 10 + d) most_name) (named f (v * 10 + d)) a s 22 tt h) (goes tt h) (alike-halts a h) k
  alike closed a s k i h = alike-behind a s h (λ d. alike-halts a h) (goes tt h) (alike-halts a h) k
  alike apart a s k i h = alike-behind a s h (λ d. alike-halts a h) (goes tt h) (alike-halts a h) k
  alike (half r) a s k i h = absurd i

pub drop-tail : (at : ℕ) (l : List ℕ) {c : ℕ} {w : List ℕ} → drop at l ≡ c ∷ w → drop (suc at) l ≡ w
drop-tail zero [] {c} {w} e = cc
drop-tail zero (x ∷ l) {c} {w} e = cc
drop-tail (suc n) [] {c} {w} e = cc
drop-tail (suc n) (x ∷ l) e = drop-tail n l e

rested-follow : (at : ℕ) (m : Mode) (s : Sums) (x : Next) (k : Mode → Around → Sums → Outcome) → follow at m s x k ≡ follow at (rested (is_bare m)) (flushed m s) x k
rested-follow at m s (go m' a' s') k = refl
rested-follow at m s ends k = by (is_bare m)
  where
    by : (t : Bool) → read at t (flushed m s) ≡ read at (is_bare (rested t)) (flushed (rested t) (flushed m s))
    by true = refl
    by false = refl
rested-follow at m s (stop n) k = refl

pub behind-is : (m : Mode) → Behind (is_read m) (is_bare m)
unfolding Behind
behind-is first = tt
behind-is spaced = tt
behind-is (wanted f) = tt
behind-is (lettered f) = tt
behind-is (number f n) = tt
behind-is (numbered f n) = tt
behind-is (named f v) = tt
behind-is closed = tt
behind-is apart = tt
behind-is (half r) = tt

pub unread : (at : ℕ) (b : Around) (s : Sums) → finished at false false b s ≡ halted 20 at
unread at (part n) s = refl
unread at (sum n f) s = refl
unread at (inside f a) s = refl
unread at left s = refl
unread at (right r) s = refl

module _ (line : List ℕ) (b : Around) where
  last : (at : ℕ) (r t : Bool) (s : Sums) → Behind r t → drop at line ≡ [] → finished at r t b s ≡ resumed line b (cond r (read at t s) (halted 20 at))
  unfolding Behind run
  last at true true s h e = rw e
  last at true false s h e = rw e
  last at false true s h e = absurd h
  last at false false s h e = unread at b s

  last-over : (at : ℕ) (r t : Bool) (a : Around) (s : Sums) → Behind r t → Fits a b → drop at line ≡ [] → finished at r t (over a b) s ≡ resumed line b (finished at r t a s)
  unfolding over
  last-over at r t (part n) s g h e = last at r t s g e
  last-over at r t (sum n f) s g h e = last at r t s g e
  last-over at r t (inside f a) s g h e = refl
  last-over at r t left s g h e = absurd h
  last-over at r t (right q) s g h e = absurd h

  -- behind the part or sum, b goes on
  from : (w : List ℕ) (at : ℕ) (m : Mode) (a : Around) (s : Sums) → Inner m → Fits a b → drop at line ≡ w → run w at m (over a b) s ≡ resumed line b (run w at m a s)
  unfolding run
  from [] at m a s i h e = last-over at (is_read m) (is_bare m) a (flushed m s) (behind-is m) h e
  from (c ∷ w) at m a s i h e = by (step m (over a b) s (kind_of c)) (step m a s (kind_of c)) (alike b m a s (kind_of c) i h) (λ m' a' s' i' h'. from w (suc at) m' a' s' i' h' (drop-tail at line e))
    where
      by : (x y : Next) → Alike b (behind_rest b m s (kind_of c)) x y
          → ((m' : Mode) (a' : Around) (s' : Sums) → Inner m' → Fits a' b → run w (suc at) m' (over a' b) s' ≡ resumed line b (run w (suc at) m' a' s'))
          → follow at m s x (run w (suc at)) ≡ resumed line b (follow at m s y (run w (suc at)))
      by _ _ (goes {m = m'} {a = a'} {s = s'} i' h') next = next m' a' s' i' h'
      by _ _ ended next = rw e (rested-follow at m s (behind_rest b m s (kind_of c)) (run w (suc at)))
      by _ _ stops next = refl

module _ (line : List ℕ) (at : ℕ) (s : Sums) where
  -- a sum is a part and what joins it
  pub sum-of-parts : (room : ℕ) (f g : Factor) → run_from line at (wanted g) (sum room f) s ≡ resumed line (sum room f) (read_part line at room g s)
  unfolding over room_of
  sum-of-parts room f g = from line (sum room f) (drop at line) at (wanted g) (part room) s tt refl refl

  -- a part in brackets is a sum, and what stands around the brackets goes on behind it
  pub sum-in-brackets : (f : Factor) (a : Around) → run_from line at (wanted f) (inside f a) s ≡ resumed line (inside f a) (read_sum line at (pred (room_of a)) f s)
  unfolding over room_of
  sum-in-brackets f a = from line (inside f a) (drop at line) at (wanted f) (sum (pred (room_of a)) f) s tt (refl, λ g u. refl) refl

  pub left-sum : run_from line at (wanted one) left s ≡ resumed line left (read_sum line at 16 one s)
  unfolding over room_of
  left-sum = from line left (drop at line) at (wanted one) (sum 16 one) s tt (refl, λ g u. refl) refl

  pub right-sum : (r : Relation) → run_from line at (wanted (turned one)) (right r) s ≡ resumed line (right r) (read_sum line at 16 (turned one) s)
  unfolding over room_of
  right-sum r = from line (right r) (drop at line) at (wanted (turned one)) (sum 16 (turned one)) s tt (refl, λ g u. refl) refl
