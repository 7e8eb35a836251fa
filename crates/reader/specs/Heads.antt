-- What a part comes to: the reader's outcome behind its minus signs and multipliers.
use Prim.Native.Nat.{ℕ, zero, suc, ◌+◌, ◌-◌, ◌*◌, ◌≤◌, ◌<◌}
use Rattle.std.specs.Prelude.{◌≡◌, Bool, true, false, cond, List, leb, eqb, get_or, Result, Ok, Err}
use Rattle.std.proofs.Math.Path.{refl}
use Rattle.std.proofs.Common.{sym, ap, subst, ◌∙◌, arith, le-leb, eqb-true}
use Rattle.std.proofs.lemmas.Bool.{lt-leb, eqb-false}
use Rattle.std.proofs.Math.ListN.{length}
use Rattle.grammar.specs.Bytes.{Kind as Byte, letter, minus, star, opening, is_digit, kind_of}
use Rattle.grammar.specs.Sums.{Sums, Factor, most, turned, multiplied, with_number, with_variable}
use Rattle.grammar.specs.Reader.{opened, room_of, behind, multiplies, Mode, wanted, lettered, number, numbered, named, apart, part, inside, Next, go, ends, stop, step, follow, is_read, is_bare, flushed, Outcome, read, halted, run_from}
use Rattle.grammar.proofs.Descent.{byte}
use Rattle.reader.specs.Scan.{Skips, present}
use Rattle.reader.specs.Run.{by_kind, at_place, left_behind}
use Rattle.reader.specs.declared.heads.Kind.{Kind}
use Rattle.reader.specs.declared.heads.Kind.TheVariants.{Number, Variable, Open}
use Rattle.reader.specs.declared.heads.Head.{Head}
use Rattle.reader.specs.declared.heads.Turn.{Turn}
use Rattle.reader.specs.declared.heads.Turn.TheVariants.{Ends, GoesOn}
use Rattle.reader.specs.declared.sums.Factor as code
use Rattle.reader.specs.declared.fault.Fault.{Fault}
use Rattle.reader.specs.Faults.{number_of, place_of}

abbrev pub factor : Bool → ℕ → Factor
factor m k = record { negative = m; times = k }

abbrev pub factor_of : code.Factor → Factor
factor_of f = factor f.minus f.product

-- a bracket at a place, under f: there is room for it or not
abbrev pub opens : List ℕ → ℕ → Factor → Sums → ℕ → Outcome
opens w b f s zero = halted 21 b
opens w b f s (suc n) = run_from w (b + 1) (wanted f) (inside f (part (suc n))) s

-- the outcome of a part alone, with room for so many brackets, once its kind is known
abbrev pub comes_to : List ℕ → ℕ → Factor → Sums → Kind → Outcome
comes_to w room f s (Number n at bare) = read at bare (with_number f n s)
comes_to w room f s (Variable v at bare) = read at bare (with_variable f v s)
comes_to w room f s (Open b) = opens w b f s room

-- where it stands
abbrev pub Placed : List ℕ → ℕ → Kind → Type 0
Placed w at (Number n b bare) = (at < b) × (b ≤ length w) × (n ≤ 1048576)
Placed w at (Variable v b bare) = (at + 1 < b) × (b ≤ length w)
Placed w at (Open b) = (at ≤ b) × (b < length w)

pub record Headed (w : List ℕ) (at : ℕ) (f : Factor) (h : Head) : Type 0 where
  pub outcome : (room : ℕ) (s : Sums) → run_from w at (wanted f) (part room) s ≡ comes_to w room (factor_of h.factor) s h.kind
  pub placed : Placed w at h.kind
  pub small : h.factor.product ≤ 1048576

-- a part is refused
abbrev pub Refused : List ℕ → ℕ → Factor → Fault → Type 0
Refused w at f e = (room : ℕ) (s : Sums) → run_from w at (wanted f) (part room) s ≡ halted (number_of e) (place_of e)

abbrev pub HeadIs : List ℕ → ℕ → Factor → Result Head Fault → Type 0
HeadIs w at f (Ok h) = Headed w at f h
HeadIs w at f (Err e) = Refused w at f e

-- behind a minus or a multiplier
pub record Onward (w : List ℕ) (at : ℕ) (f : Factor) (b : ℕ) (g : code.Factor) : Type 0 where
  pub outcome : (room : ℕ) (s : Sums) → run_from w at (wanted f) (part room) s ≡ run_from w b (wanted (factor_of g)) (part room) s
  pub later : at < b
  pub within : b ≤ length w
  pub small : g.product ≤ 1048576

abbrev pub TurnIs : List ℕ → ℕ → Factor → Result Turn Fault → Type 0
TurnIs w at f (Ok (Ends h)) = Headed w at f h
TurnIs w at f (Ok (GoesOn b g)) = Onward w at f b g
TurnIs w at f (Err e) = Refused w at f e

-- behind `v`, under f
pub record Lettered (w : List ℕ) (at : ℕ) (k : Kind) : Type 0 where
  pub outcome : (f : Factor) (room : ℕ) (s : Sums) → run_from w at (lettered f) (part room) s ≡ comes_to w room f s k
  pub placed : (i : ℕ) → i + 1 ≤ at → Placed w i k

abbrev pub VariableIs : List ℕ → ℕ → Result Kind Fault → Type 0
VariableIs w at (Ok k) = Lettered w at k
VariableIs w at (Err e) = (f : Factor) (room : ℕ) (s : Sums) → run_from w at (lettered f) (part room) s ≡ halted (number_of e) (place_of e)

-- no byte that `number` is not for: a space, `(`, `-`, `v`
pub record Unmarked (b : ℕ) : Type 0 where
  pub no-space : b ≡ 32 → ⊥
  pub no-bracket : b ≡ 40 → ⊥
  pub no_minus : b ≡ 45 → ⊥
  pub no-letter : b ≡ 118 → ⊥

differ : {t : Bool} → t ≡ false → t ≡ true → ⊥
differ {t} p q = let z : true ≡ false = sym q ∙ p in let e : ◌≡◌ {A = ℕ} 0 1 = cc in omega arith

module _ (w : List ℕ) (at : ℕ) (room : ℕ) (s : Sums) where
  -- ---- what a part may begin with

  pub no_part : (f : Factor) → at ≤ length w → is_digit (get_or w at 0) ≡ false → Unmarked (get_or w at 0) → run_from w at (wanted f) (part room) s ≡ halted 20 at
  no_part f h d u =
      at_place w at (wanted f) (part room) s h
      (by_kind (λ (k : Byte). follow at (wanted f) s (step (wanted f) (part room) s k) (λ m' a' s'. run_from w (at + 1) m' a' s') ≡ halted 20 at) (get_or w at 0) (λ e. absurd (differ d e))
      (λ e. absurd (u.no-space e)) (λ e. absurd (u.no-bracket e)) (λ e. refl) (λ e. refl) (λ e. refl) (λ e. absurd (u.no_minus e)) (λ e. refl) (λ e. refl) (λ e. refl) (λ e. absurd (u.no-letter e)) refl)
      refl

  pub no_name : (f : Factor) → at ≤ length w → is_digit (get_or w at 0) ≡ false → run_from w at (lettered f) (part room) s ≡ halted 20 at
  no_name f h d =
      at_place w at (lettered f) (part room) s h
      (by_kind (λ (k : Byte). follow at (lettered f) s (step (lettered f) (part room) s k) (λ m' a' s'. run_from w (at + 1) m' a' s') ≡ halted 20 at) (get_or w at 0) (λ e. absurd (differ d e))
      (λ e. refl) (λ e. refl) (λ e. refl) (λ e. refl) (λ e. refl) (λ e. refl) (λ e. refl) (λ e. refl) (λ e. refl) (λ e. refl) refl)
      refl

  pub at-minus : (f : Factor) → at < length w → get_or w at 0 ≡ 45 → run_from w at (wanted f) (part room) s ≡ run_from w (at + 1) (wanted (turned f)) (part room) s
  unfolding kind_of
  at-minus f h e = byte w at (wanted f) (part room) s {k = minus} h (ap kind_of e)

  pub at-letter : (f : Factor) → at < length w → get_or w at 0 ≡ 118 → run_from w at (wanted f) (part room) s ≡ run_from w (at + 1) (lettered f) (part room) s
  unfolding kind_of
  at-letter f h e = byte w at (wanted f) (part room) s {k = letter} h (ap kind_of e)

  pub at_bracket : (f : Factor) → at < length w → get_or w at 0 ≡ 40 → run_from w at (wanted f) (part room) s ≡ opens w at f s room
  unfolding kind_of room_of
  at_bracket f h e = byte w at (wanted f) (part room) s {k = opening} h (ap kind_of e) ∙ by room
    where
      by : (n : ℕ) → follow at (wanted f) s (opened f (part n) s (room_of (part n))) (λ m' a' s'. run_from w (at + 1) m' a' s') ≡ opens w at f s n
      by zero = refl
      by (suc n) = refl

-- ---- behind a number or a variable, at a byte that ends the part: not a space, and nothing that goes on with the number

module _ (w : List ℕ) (room : ℕ) (s' : Sums) where
  pub ends_at : (i : ℕ) (m : Mode) (s : Sums) (bare : Bool) → i ≤ length w → is_read m ≡ true → is_bare m ≡ bare → flushed m s ≡ s' → step m (part room) s (kind_of (get_or w i 0)) ≡ ends → run_from w i m (part room) s ≡ read i bare s'
  ends_at i m s bare h rd ba fl e = at_place w i m (part room) s h (rw (e, ba, fl)) (rw (rd, ba, fl))

-- the kinds of byte that end a part alone, unless the mode takes digits or a `*` for its own
pub ended : (N : ℕ → Next) (g t : Next) (n : ℕ) (s : Sums) (b : ℕ) → (is_digit b ≡ true → N (b - 48) ≡ ends) → (b ≡ 42 → t ≡ ends) → (b ≡ 32 → ⊥) → behind N g t (part n) s (kind_of b) ≡ ends
ended N g t n s b dg st sp =
    by_kind (λ (k : Byte). behind N g t (part n) s k ≡ ends) b dg (λ e. absurd (sp e)) (λ e. refl) (λ e. refl) st (λ e. refl) (λ e. refl) (λ e. refl) (λ e. refl) (λ e. refl) (λ e. refl) refl

module _ (w : List ℕ) (at r room : ℕ) (f : Factor) (s : Sums) (k : Skips w at r) (d : is_digit (get_or w at 0) ≡ false) where
  pub number-ends : (n : ℕ) → (get_or w r 0 ≡ 42 → ⊥) → run_from w at (number f n) (part room) s ≡ read r (eqb r at) (with_number f n s)
  number-ends n st = by (eqb r at) (eqb-true r at) (eqb-false r at)
    where
      by : (t : Bool) → (t ≡ true → r ≡ at) → (t ≡ false → r ≡ at → ⊥) → run_from w at (number f n) (part room) s ≡ read r t (with_number f n s)
      by true p q =
          let e : r ≡ at = p refl in
          subst (λ (i : ℕ). run_from w at (number f n) (part room) s ≡ read i true (with_number f n s)) (sym e)
          (ends_at w room (with_number f n s) at (number f n) s true (omega (arith, k.within)) refl refl refl
          (ended _ _ _ room (with_number f n s) (get_or w at 0) (λ x. absurd (differ d x)) (λ x. absurd (st (ap (λ (i : ℕ). get_or w i 0) e ∙ x))) (λ x. k.stops (ap (λ (i : ℕ). get_or w i 0) e ∙ x))))
      by false p q =
          left_behind w (number f n) (numbered f n) (part room) s s at r refl refl k (omega (arith, k.from, q refl))
          ∙ ends_at w room (with_number f n s) r (numbered f n) s false k.within refl refl refl
          (ended _ _ _ room (with_number f n s) (get_or w r 0) (λ x. refl) (λ x. absurd (st x)) k.stops)

  pub variable-ends : (v : ℕ) → run_from w at (named f v) (part room) s ≡ read r (eqb r at) (with_variable f v s)
  variable-ends v = by (eqb r at) (eqb-true r at) (eqb-false r at)
    where
      by : (t : Bool) → (t ≡ true → r ≡ at) → (t ≡ false → r ≡ at → ⊥) → run_from w at (named f v) (part room) s ≡ read r t (with_variable f v s)
      by true p q =
          let e : r ≡ at = p refl in
          subst (λ (i : ℕ). run_from w at (named f v) (part room) s ≡ read i true (with_variable f v s)) (sym e)
          (ends_at w room (with_variable f v s) at (named f v) s true (omega (arith, k.within)) refl refl refl
          (ended _ _ _ room (with_variable f v s) (get_or w at 0) (λ x. absurd (differ d x)) (λ x. refl) (λ x. k.stops (ap (λ (i : ℕ). get_or w i 0) e ∙ x))))
      by false p q =
          left_behind w (named f v) apart (part room) s (with_variable f v s) at r refl refl k (omega (arith, k.from, q refl))
          ∙ ends_at w room (with_variable f v s) r apart (with_variable f v s) false k.within refl refl refl
          (ended _ _ _ room (with_variable f v s) (get_or w r 0) (λ x. refl) (λ x. refl) k.stops)

  -- a `*`: the number is a multiplier, and the product may be too large
  times : (n : ℕ) → get_or w r 0 ≡ 42 → run_from w at (number f n) (part room) s ≡ follow r (number f n) s (multiplies (multiplied f n) (part room) s) (λ m' a' s'. run_from w (r + 1) m' a' s')
  unfolding kind_of
  times n st = by (eqb r at) (eqb-true r at) (eqb-false r at)
    where
      here : r < length w
      here = present w r (omega (arith, st))

      same : (t : Bool) → follow r (numbered f n) s (cond t (go (wanted (multiplied f n)) (part room) s) (stop 22)) (λ m' a' s'. run_from w (r + 1) m' a' s') ≡ follow r (number f n) s (cond t (go (wanted (multiplied f n)) (part room) s) (stop 22)) (λ m' a' s'. run_from w (r + 1) m' a' s')
      same true = refl
      same false = refl

      by : (t : Bool) → (t ≡ true → r ≡ at) → (t ≡ false → r ≡ at → ⊥) → run_from w at (number f n) (part room) s ≡ follow r (number f n) s (multiplies (multiplied f n) (part room) s) (λ m' a' s'. run_from w (r + 1) m' a' s')
      by true p q =
          let e : r ≡ at = p refl in
          subst (λ (i : ℕ). run_from w i (number f n) (part room) s ≡ follow r (number f n) s (multiplies (multiplied f n) (part room) s) (λ m' a' s'. run_from w (r + 1) m' a' s')) e
          (byte w r (number f n) (part room) s {k = star} here (ap kind_of st))
      by false p q =
          left_behind w (number f n) (numbered f n) (part room) s s at r refl refl k (omega (arith, k.from, q refl))
          ∙ (byte w r (numbered f n) (part room) s {k = star} here (ap kind_of st) ∙ same (leb (f.times * n) most))

  pub multiplier : (n : ℕ) → get_or w r 0 ≡ 42 → f.times * n ≤ 1048576 → run_from w at (number f n) (part room) s ≡ run_from w (r + 1) (wanted (multiplied f n)) (part room) s
  multiplier n st h = times n st ∙ rw (le-leb (f.times * n) 1048576 h)

  pub product-over : (n : ℕ) → get_or w r 0 ≡ 42 → 1048576 < f.times * n → run_from w at (number f n) (part room) s ≡ halted 22 r
  product-over n st h = times n st ∙ rw (lt-leb (f.times * n) 1048576 h)
