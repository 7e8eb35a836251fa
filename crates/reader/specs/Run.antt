-- How the grammar's reader goes over what the code finds at a place: spaces, digits, a byte by its kind, the line's end.
use Rattle.std.specs.Prelude.{ℕ, zero, suc, ◌+◌, ◌-◌, ◌*◌, ◌≤◌, ◌<◌, ◌≡◌, refl, Bool, true, false, cond, List, ltb, eqb, length, get_or}
use Rattle.std.proofs.Common.{sym, ◌∙◌, arith, ltb-true, ltb-false, eqb-true, le-leb}
use Rattle.std.proofs.Math.Path.{ap}
use Rattle.std.proofs.lemmas.Bool.{lt-leb}
use Rattle.grammar.specs.Bytes.{Kind, digit, letter, space, plus, minus, star, opening, closing, less, equals, more, strange, is_digit, kind_of}
use Rattle.grammar.specs.Sums.{Sums, one}
use Rattle.grammar.specs.Reader.{Mode, first, wanted, Around, left, room_of, Next, go, ends, stop, step, grows, follow, finished, is_read, is_bare, flushed, Outcome, halted, run_from}
use Rattle.grammar.proofs.Descent.{byte, no_byte}
use Rattle.reader.specs.Scan.{Skips, Digits, alone, longer, Over}

-- ---- a byte by its kind

module _ (P : Kind → Type 0) where
  pick : {x y : Kind} (t : Bool) → (t ≡ true → P x) → P y → P (cond t x y)
  pick true f g = f refl
  pick false f g = g

  pub by_kind : (b : ℕ) → (is_digit b ≡ true → P (digit (b - 48))) → (b ≡ 32 → P space) → (b ≡ 40 → P opening) → (b ≡ 41 → P closing) → (b ≡ 42 → P star)
      → (b ≡ 43 → P plus) → (b ≡ 45 → P minus) → (b ≡ 60 → P less) → (b ≡ 61 → P equals) → (b ≡ 62 → P more) → (b ≡ 118 → P letter) → P strange → P (kind_of b)
  unfolding kind_of
  by_kind b dg sp op cl st pl mi ls eq mo ltr str =
      pick (is_digit b) dg
      (pick (eqb b 32) (λ e. sp (eqb-true b 32 e))
      (pick (eqb b 40) (λ e. op (eqb-true b 40 e))
      (pick (eqb b 41) (λ e. cl (eqb-true b 41 e))
      (pick (eqb b 42) (λ e. st (eqb-true b 42 e))
      (pick (eqb b 43) (λ e. pl (eqb-true b 43 e))
      (pick (eqb b 45) (λ e. mi (eqb-true b 45 e))
      (pick (eqb b 60) (λ e. ls (eqb-true b 60 e))
      (pick (eqb b 61) (λ e. eq (eqb-true b 61 e)) (pick (eqb b 62) (λ e. mo (eqb-true b 62 e)) (pick (eqb b 118) (λ e. ltr (eqb-true b 118 e)) str))))))))))

-- ---- a place: a byte, or the line's end

pub at-either : (w : List ℕ) (at : ℕ) (m : Mode) (a : Around) (s : Sums) {o : Outcome}
    → (at < length w → follow at m s (step m a s (kind_of (get_or w at 0))) (λ m' a' s'. run_from w (at + 1) m' a' s') ≡ o) → (length w ≤ at → finished at (is_read m) (is_bare m) a (flushed m s) ≡ o) → run_from w at m a s ≡ o
at-either w at m a s {o = o} f g = by (ltb at (length w)) (ltb-true at (length w)) (ltb-false at (length w))
  where
    by : (t : Bool) → (t ≡ true → at < length w) → (t ≡ false → length w ≤ at) → run_from w at m a s ≡ o
    by true k l = byte w at m a s (k refl) refl ∙ f (k refl)
    by false k l = no_byte w at m a s (l refl) ∙ g (l refl)

pub at_place : (w : List ℕ) (at : ℕ) (m : Mode) (a : Around) (s : Sums) {o : Outcome} → at ≤ length w
    → follow at m s (step m a s (kind_of (get_or w at 0))) (λ m' a' s'. run_from w (at + 1) m' a' s') ≡ o → finished at (is_read m) (is_bare m) a (flushed m s) ≡ o → run_from w at m a s ≡ o
at_place w at m a s h f g = at-either w at m a s (λ k. f) (λ k. g)

-- ---- spaces

-- whatever a space leaves as it is, from place to place
module _ (w : List ℕ) {X : Type 0} (from : ℕ → X) (stays : (i : ℕ) → i < length w → get_or w i 0 ≡ 32 → from i ≡ from (i + 1)) where
  over-spaces : (n at : ℕ) → at + n ≤ length w → ((j : ℕ) → at ≤ j → j < at + n → get_or w j 0 ≡ 32) → from at ≡ from (at + n)
  over-spaces zero at h b = ap from (e at)
    where
      e : (at : ℕ) → at ≡ at + 0
      e at = omega arith
  over-spaces (suc n) at h b = stays at (omega arith) (b at (omega arith) (omega arith)) ∙ (over-spaces n (at + 1) (omega arith) (λ j g k. b j (omega arith) (omega arith)) ∙ ap from (e at n))
    where
      e : (at n : ℕ) → at + 1 + n ≡ at + suc n
      e at n = omega arith

  pub behind-spaces : (at r : ℕ) → Skips w at r → from at ≡ from r
  behind-spaces at r k =
      let e : at + (r - at) ≡ r = omega (arith, k.from) in
      over-spaces (r - at) at (omega (arith, k.within, k.from)) (λ j g h. k.spaces j g (omega arith)) ∙ ap from e

-- behind the first of them
pub fewer-spaces : (w : List ℕ) (at r : ℕ) → Skips w at r → at < r → Skips w (at + 1) r
fewer-spaces w at r k h = record { from = omega arith; within = k.within; spaces = λ j g l. k.spaces j (omega arith) l; stops = k.stops }

module _ (w : List ℕ) (m : Mode) (a : Around) (s : Sums) (stays : step m a s space ≡ go m a s) where
  pub skipped : (at r : ℕ) → Skips w at r → run_from w at m a s ≡ run_from w r m a s
  unfolding kind_of
  skipped = behind-spaces w (λ i. run_from w i m a s) (λ i h e. byte w i m a s {k = space} h (ap kind_of e) ∙ ap (λ x. follow i m s x (λ m' a' s'. run_from w (i + 1) m' a' s')) stays)

-- a space leads from m to m', which stays at spaces: with a space or more
pub left_behind : (w : List ℕ) (m m' : Mode) (a : Around) (s s' : Sums) (at r : ℕ) → step m a s space ≡ go m' a s' → step m' a s' space ≡ go m' a s' → Skips w at r → at < r
    → run_from w at m a s ≡ run_from w r m' a s'
unfolding kind_of
left_behind w m m' a s s' at r p q k h =
    byte w at m a s {k = space} (omega (arith, k.within)) (ap kind_of (k.spaces at (omega arith) h))
    ∙ (ap (λ x. follow at m s x (λ m' a' s'. run_from w (at + 1) m' a' s')) p ∙ skipped w m' a s' q (at + 1) r (fewer-spaces w at r k h))

-- ---- a reader that takes the grammar's steps from place to place, but at an `@` of its own; halt is how it refuses

pub record Follows (w : List ℕ) {X : Type 0} (from : ℕ → Mode → Around → Sums → X) (halt : ℕ → ℕ → X) : Type 0 where
  pub goes : (at : ℕ) (m : Mode) (a : Around) (s : Sums) {m' : Mode} {a' : Around} {s' : Sums} → at < length w → (get_or w at 0 ≡ 64 → ⊥) → step m a s (kind_of (get_or w at 0)) ≡ go m' a' s'
      → from at m a s ≡ from (at + 1) m' a' s'
  -- a line begins as a part does, unless by a space
  pub begins : (s : Sums) → (get_or w 0 0 ≡ 32 → ⊥) → from 0 first left s ≡ from 0 (wanted one) left s
  -- on the left side, where nothing that stands there can follow
  pub strays : (at : ℕ) (m : Mode) (s : Sums) → at ≤ length w → step m left s (kind_of (get_or w at 0)) ≡ stop 20 → from at m left s ≡ halt 20 at

-- the first byte, which is no space
pub first_step : (b : ℕ) (s : Sums) → (b ≡ 32 → ⊥) → step first left s (kind_of b) ≡ step (wanted one) left s (kind_of b)
unfolding room_of
first_step b s h =
    by_kind (λ (x : Kind). step first left s x ≡ step (wanted one) left s x) b
    (λ e. refl) (λ e. absurd (h e)) (λ e. refl) (λ e. refl) (λ e. refl) (λ e. refl) (λ e. refl) (λ e. refl) (λ e. refl) (λ e. refl) (λ e. refl) refl

pub run-follows : (w : List ℕ) → Follows w (run_from w) halted
run-follows w =
    record {
      goes = λ at m a s h n e. byte w at m a s h refl ∙ ap (λ x. follow at m s x (λ m' a' s'. run_from w (at + 1) m' a' s')) e;
      begins = λ s h. at-either w 0 first left s (λ k. ap (λ x. follow 0 first s x (λ m' a' s'. run_from w 1 m' a' s')) (first_step (get_or w 0 0) s h) ∙ (same s (step (wanted one) left s (kind_of (get_or w 0 0))) ∙ sym (byte w 0 (wanted one) left s k refl))) (λ k. sym (no_byte w 0 (wanted one) left s k));
      strays = λ at m s h e. at_place w at m left s h (ap (λ x. follow at m s x (λ m' a' s'. run_from w (at + 1) m' a' s')) e) refl;
    }
  where
    same : (s : Sums) (x : Next) → follow 0 first s x (λ m' a' s'. run_from w 1 m' a' s') ≡ follow 0 (wanted one) s x (λ m' a' s'. run_from w 1 m' a' s')
    same s (go m a z) = refl
    same s ends = refl
    same s (stop n) = refl

-- ---- digits, from a mode that a first one leads on to m, with a bound on the number

module _ (w : List ℕ) (most at : ℕ) (first : Mode) (m : ℕ → Mode) (a : Around) (s : Sums)
    (begins : (d : ℕ) → step first a s (digit d) ≡ go (m d) a s) (goes : (k d : ℕ) → step (m k) a s (digit d) ≡ grows most m a s (k * 10 + d)) where
  pub over-digits : {j k : ℕ} → Digits w most at j k → run_from w at first a s ≡ run_from w j (m k) a s
  over-digits (alone {d} h e) = byte w at first a s h e ∙ ap (λ x. follow at first s x (λ m' a' s'. run_from w (at + 1) m' a' s')) (begins d)
  over-digits (longer {j} {k} {d} q h e l) =
      over-digits q
      ∙ (byte w j (m k) a s h e
      ∙ (ap (λ x. follow j (m k) s x (λ m' a' s'. run_from w (j + 1) m' a' s')) (goes k d) ∙ rw (le-leb (k * 10 + d) most l)))

  pub too-big : {j : ℕ} → Over w most at j → run_from w at first a s ≡ halted 22 j
  too-big {j} o =
      over-digits o.digits
      ∙ (byte w j (m o.worth) a s o.within o.next
      ∙ (ap (λ x. follow j (m o.worth) s x (λ m' a' s'. run_from w (j + 1) m' a' s')) (goes o.worth o.last) ∙ rw (lt-leb (o.worth * 10 + o.last) most o.over)))
