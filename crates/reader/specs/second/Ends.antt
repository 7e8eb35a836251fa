-- The second edition's reader over a line's two sides, and what the code finds behind them.
use Rattle.std.specs.Prelude.{ℕ, ◌+◌, ◌≤◌, ◌<◌, ◌≡◌, refl, Bool, true, false, cond, List, eqb, ltb, length, get_or, Result, Ok, Err}
use Rattle.std.proofs.Common.{sym, ap, subst, ◌∙◌, arith, ne_eqb, ltb-true, ltb-false}
use Rattle.grammar.specs.Bytes.{kind_of}
use Rattle.grammar.specs.Sums.{Sums, one}
use Rattle.grammar.specs.Reader.{Mode, first, wanted, Around, left, right, Next, stop, step, flushed, is_read}
use Rattle.grammar.specs.Descent.{rested}
use Rattle.grammar.specs.edition.Endings.{required, most_group}
use Rattle.grammar.specs.edition.Steps.{State, head, tail, opened, halt, stepped, closing, Found, met, found, onward, start}
use Rattle.grammar.specs.edition.Descent.{pass_from, resumed}
use Rattle.grammar.proofs.edition.Descent.{byte, no_byte, left-sum, right-sum}
use Rattle.reader.specs.Run.{Follows, first_step}
use Rattle.reader.specs.Parts.{sums_of}
use Rattle.reader.specs.Sides.{relation_of}
use Rattle.reader.specs.Ends.{Descends, goes_on, sided-is, reach_of, Reached, SidesIs, none-follows}
use Rattle.reader.specs.declared.parts.Place.{Place}
use Rattle.reader.specs.declared.sides.Mark.{Mark}
use Rattle.reader.specs.Faults.{number_of, place_of}
use Rattle.reader.specs.declared.fault.Fault.{Fault}
use Rattle.reader.specs.declared.fault.Fault.TheVariants.{Astray}
use Rattle.reader.specs.second.Numbers.{capped, capped-in}
use Rattle.reader.specs.second.Tails.{EndingIs}
use Rattle.reader.specs.declared.second.endings.Ending.{Ending}
use Rattle.reader.specs.declared.second.ends.Second.{Second}

-- ---- it takes the first edition's steps up to an `@`

module _ (w : List ℕ) where
  abbrev pub head_from : ℕ → Mode → Around → Sums → Found
  head_from at m a s = pass_from w at (head m a s)

  either : (at : ℕ) (x : State) {o : Found} → (at < length w → pass_from w at x ≡ o) → (length w ≤ at → pass_from w at x ≡ o) → pass_from w at x ≡ o
  either at x {o} f g = by (ltb at (length w)) (ltb-true at (length w)) (ltb-false at (length w))
    where
      by : (t : Bool) → (t ≡ true → at < length w) → (t ≡ false → length w ≤ at) → pass_from w at x ≡ o
      by true p q = f (p refl)
      by false p q = g (q refl)

  unmarked : (at : ℕ) (m : Mode) (a : Around) (s : Sums) {x : Next} → at < length w → (get_or w at 0 ≡ 64 → ⊥) → step m a s (kind_of (get_or w at 0)) ≡ x → head_from at m a s ≡ onward at (stepped x) (λ y. pass_from w (at + 1) y)
  unmarked at m a s h n e = byte w at (head m a s) h ∙ rw (ne_eqb (get_or w at 0) 64 n, e)

  pub follows : Follows w head_from met
  follows = record { goes = λ at m a s h n e. unmarked at m a s h n e; begins = begins; strays = strays }
    where
      begins : (s : Sums) → (get_or w 0 0 ≡ 32 → ⊥) → head_from 0 first left s ≡ head_from 0 (wanted one) left s
      begins s n =
          either 0 (head first left s)
          (λ h. byte w 0 (head first left s) h
          ∙ (ap (λ (x : Next). onward 0 (cond (eqb (get_or w 0 0) 64) (closing false left s) (stepped x)) (λ y. pass_from w 1 y)) (first_step (get_or w 0 0) s n)
          ∙ sym (byte w 0 (head (wanted one) left s) h)))
          (λ h. no_byte w 0 (head first left s) h ∙ sym (no_byte w 0 (head (wanted one) left s) h))

      refuses : (t : Bool) (s : Sums) → closing t left s ≡ halt 20
      refuses true s = refl
      refuses false s = refl

      strays : (at : ℕ) (m : Mode) (s : Sums) → at ≤ length w → step m left s (kind_of (get_or w at 0)) ≡ stop 20 → head_from at m left s ≡ met 20 at
      strays at m s h e =
          either at (head m left s)
          (λ k. byte w at (head m left s) k ∙ rw (refuses (is_read m) (flushed m s), e) (same (eqb (get_or w at 0) 64)))
          (λ k. no_byte w at (head m left s) k)
        where
          same : (t : Bool) → onward at (cond t (halt 20) (halt 20)) (λ y. pass_from w (at + 1) y) ≡ met 20 at
          same true = refl
          same false = refl

  pub descends : Descends w head_from met (resumed w)
  descends = record { follows = follows; stops = λ a n b. refl; rests = λ a at t s. refl; lefts = λ at s. left-sum w at s; rights = λ at s r. right-sum w at s r }

-- ---- the end

-- the strength and the group as far as they are in range
abbrev pub Agrees : List ℕ → List ℕ → Result Second Fault → Found → Type 0
Agrees numbers sums (Ok z) x = (j k : ℕ) × (x ≡ found (relation_of z.relation) (sums_of numbers sums z.place) j k) × (z.ending.strength ≡ capped required j) × (z.ending.group ≡ capped most_group k)
Agrees numbers sums (Err e) x = x ≡ met (number_of e) (place_of e)

abbrev pub Counted : Result Second Fault → Type 0
Counted (Ok z) = z.place.count ≤ 1366
Counted (Err e) = Unit {0}

pub record EndIs (w : List ℕ) (m : Mark) (e : Place) (l : Result Second Fault) : Type 0 where
  pub outcome : (numbers sums : List ℕ) → Agrees numbers sums l (head_from w e.at (rested e.bare) (right (relation_of m)) (sums_of numbers sums e))
  pub counted : Counted l

module _ (w : List ℕ) (m : Mark) (e : Place) (h : Reached w e) where
  abbrev at : ℕ
  at = e.at

  abbrev behind : Bool → Sums → Found
  behind t s = head_from w at (rested t) (right (relation_of m)) s

  to-ending : get_or w at 0 ≡ 64 → at < length w → (t : Bool) (s : Sums) → behind t s ≡ pass_from w (at + 1) (tail (relation_of m) s opened)
  to-ending c k true s = byte w at (head (rested true) (right (relation_of m)) s) k ∙ rw c
  to-ending c k false s = byte w at (head (rested false) (right (relation_of m)) s) k ∙ rw c

  pub end_marked : {x : Ending} → get_or w at 0 ≡ 64 → at < length w → EndingIs w (at + 1) (Ok x) → EndIs w m e (Ok (record { relation = m; place = e; ending = x }))
  end_marked c k (j, i, f, a, b) = record { outcome = λ numbers sums. (j, i, to-ending c k e.bare (sums_of numbers sums e) ∙ f (relation_of m) (sums_of numbers sums e), a, b); counted = h.counted }

  pub end-astray : {x : Fault} → get_or w at 0 ≡ 64 → at < length w → EndingIs w (at + 1) (Err x) → EndIs w m e (Err x)
  end-astray c k f = record { outcome = λ numbers sums. to-ending c k e.bare (sums_of numbers sums e) ∙ f (relation_of m) (sums_of numbers sums e); counted = tt }

  pub end_whole : e.bare ≡ true → at ≡ length w → EndIs w m e (Ok (record { relation = m; place = e; ending = record { strength = required; group = 1 } }))
  end_whole b q =
      record {
        outcome = λ numbers sums.
            (required, 1, ap (λ (t : Bool). behind t (sums_of numbers sums e)) b ∙ no_byte w at (head (rested true) (right (relation_of m)) (sums_of numbers sums e)) (omega arith), sym (capped-in required required (omega arith)), sym (capped-in most_group 1 (omega arith)));
        counted = h.counted;
      }

  pub end-not : (get_or w at 0 ≡ 64 → ⊥) → (e.bare ≡ true → at ≡ length w → ⊥) → EndIs w m e (Err (Astray at))
  end-not c n = record { outcome = λ numbers sums. by e.bare (sums_of numbers sums e) n; counted = tt }
    where
      by : (t : Bool) (s : Sums) → (t ≡ true → at ≡ length w → ⊥) → behind t s ≡ met 20 at
      by true s n =
          either w at (head (rested true) (right (relation_of m)) s) (λ k. unmarked w at (rested true) (right (relation_of m)) s k c (none-follows w at h.unjoined (relation_of m) true s))
          (λ k. absurd (n refl (omega (arith, h.within))))
      by false s n =
          either w at (head (rested false) (right (relation_of m)) s) (λ k. unmarked w at (rested false) (right (relation_of m)) s k c (none-follows w at h.unjoined (relation_of m) false s))
          (λ k. no_byte w at (head (rested false) (right (relation_of m)) s) k)

-- ---- the whole line

module _ (w numbers sums : List ℕ) (x : Result (Mark × Place) Fault) (h : SidesIs w numbers sums x) where
  goes_on_lem : pass_from w 0 start ≡ goes_on w (head_from w) met (resumed w) (descends w) (reach_of numbers sums x)
  goes_on_lem = sided-is w (head_from w) met (resumed w) (descends w) h.sided

module _ (w numbers sums : List ℕ) where
  pub line-sides : {m : Mark} {e : Place} (l : Result Second Fault) → SidesIs w numbers sums (Ok (m, e)) → EndIs w m e l → Agrees numbers sums l (pass_from w 0 start) × Counted l
  line-sides {m} {e} l h k = (subst (Agrees numbers sums l) (sym (goes_on_lem w numbers sums (Ok (m, e)) h)) (k.outcome numbers sums), k.counted)

  pub line-halted : {x : Fault} → SidesIs w numbers sums (Err x) → pass_from w 0 start ≡ met (number_of x) (place_of x)
  line-halted {x} h = goes_on_lem w numbers sums (Err x) h
