-- What the code answers at each of its returns is the part's head.
use Rattle.std.specs.Prelude.{ℕ, ◌+◌, ◌*◌, ◌≤◌, ◌<◌, ◌≡◌, not, List, eqb, length, get_or, Result, Ok, Err}
use Rattle.std.proofs.Math.Path.{refl}
use Rattle.std.proofs.Common.{◌∙◌, arith}
use Rattle.grammar.specs.Sums.{Sums, Factor, most_name}
use Rattle.grammar.specs.Reader.{wanted, lettered, number, named, part, run_from}
use Rattle.reader.specs.Scan.{Skips, WholeIs, present}
use Rattle.reader.specs.Run.{skipped, over-digits, too-big}
use Rattle.reader.specs.Heads.{factor_of, Placed, Headed, Refused, Onward, TurnIs, Lettered, VariableIs, Unmarked, no_part, no_name, at-minus, at-letter, at_bracket, number-ends, variable-ends, multiplier, product-over}
use Rattle.reader.specs.declared.fault.Fault.{Fault}
use Rattle.reader.specs.declared.fault.Fault.TheVariants.{Astray, TooDeep, TooLarge}
use Rattle.reader.specs.declared.sums.Factor as code
use Rattle.reader.specs.declared.heads.Kind.{Kind}
use Rattle.reader.specs.declared.heads.Kind.TheVariants.{Number, Variable, Open}
use Rattle.reader.specs.declared.heads.Head.{Head}
use Rattle.reader.specs.declared.heads.Turn.{Turn}
use Rattle.reader.specs.declared.heads.Turn.TheVariants.{Ends, GoesOn}

abbrev pub head_of : code.Factor → Kind → Head
head_of f x = record { factor = f; kind = x }

-- ---- behind `v`

module _ (w : List ℕ) (at : ℕ) where
  pub variable-is : {n next : ℕ} (mark : ℕ) → WholeIs w 4294967295 at (Ok (n, next)) → Skips w next mark → Lettered w at (Variable n mark (eqb mark next))
  variable-is {n} {next} mark (d, a, b, c, x) k =
      record {
        outcome = λ f room s. over-digits w most_name at (lettered f) (named f) (part room) s (λ d. refl) (λ k d. refl) d ∙ variable-ends w next mark room f s k x n;
        placed = λ i g. (omega (arith, k.from), k.within);
      }

  pub variable-not : (e : Fault) → WholeIs w 4294967295 at (Err e) → at ≤ length w → VariableIs w at (Err e)
  variable-not (Astray b) (q, d) l = rw q (λ f room s. no_name w at room s f l d)
  variable-not (TooDeep b) h l = absurd h
  variable-not (TooLarge b) o l = λ f room s. too-big w most_name at (lettered f) (named f) (part room) s (λ d. refl) (λ k d. refl) o

-- ---- a number

module _ (w : List ℕ) (at : ℕ) (f : code.Factor) (small : f.product ≤ 1048576) where
  pub number-plain : {n next : ℕ} (mark : ℕ) → WholeIs w 1048576 at (Ok (n, next)) → Skips w next mark → (get_or w mark 0 ≡ 42 → ⊥) → Headed w at (factor_of f) (head_of f (Number n mark (eqb mark next)))
  number-plain {n} {next} mark (d, a, b, c, x) k st =
      record {
        outcome = λ room s. over-digits w 1048576 at (wanted (factor_of f)) (number (factor_of f)) (part room) s (λ d. refl) (λ k d. refl) d ∙ number-ends w next mark room (factor_of f) s k x n st;
        placed = (omega (arith, k.from), k.within, c);
        small = small;
      }

  pub number_more : {n next : ℕ} (mark : ℕ) → WholeIs w 1048576 at (Ok (n, next)) → Skips w next mark → get_or w mark 0 ≡ 42 → f.product * n ≤ 1048576 → Onward w at (factor_of f) (mark + 1) (record { minus = f.minus; product = f.product * n })
  number_more {n} {next} mark (d, a, b, c, x) k st h =
      record {
        outcome = λ room s. over-digits w 1048576 at (wanted (factor_of f)) (number (factor_of f)) (part room) s (λ d. refl) (λ k d. refl) d ∙ multiplier w next mark room (factor_of f) s k x n st h;
        later = omega (arith, k.from);
        within = omega (arith, present w mark (omega (arith, st)));
        small = h;
      }

  pub number-over : {n next : ℕ} (mark : ℕ) → WholeIs w 1048576 at (Ok (n, next)) → Skips w next mark → get_or w mark 0 ≡ 42 → 1048576 < f.product * n → Refused w at (factor_of f) (TooLarge mark)
  number-over {n} {next} mark (d, a, b, c, x) k st h =
      λ room s. over-digits w 1048576 at (wanted (factor_of f)) (number (factor_of f)) (part room) s (λ d. refl) (λ k d. refl) d ∙ product-over w next mark room (factor_of f) s k x n st h

  pub number-not : (e : Fault) → WholeIs w 1048576 at (Err e) → at ≤ length w → Unmarked (get_or w at 0) → Refused w at (factor_of f) e
  number-not (Astray b) (q, d) l u = rw q (λ room s. no_part w at room s (factor_of f) l d u)
  number-not (TooDeep b) h l u = absurd h
  number-not (TooLarge b) o l u = λ room s. too-big w 1048576 at (wanted (factor_of f)) (number (factor_of f)) (part room) s (λ d. refl) (λ k d. refl) o

  -- ---- one step

  pub step-minus : at < length w → get_or w at 0 ≡ 45 → Onward w at (factor_of f) (at + 1) (record { minus = not f.minus; product = f.product })
  step-minus h e = record { outcome = λ room s. at-minus w at room s (factor_of f) h e; later = omega arith; within = omega arith; small = small }

  pub step-open : at < length w → get_or w at 0 ≡ 40 → Headed w at (factor_of f) (head_of f (Open at))
  step-open h e = record { outcome = λ room s. at_bracket w at room s (factor_of f) h e; placed = (omega arith, h); small = small }

  pub step-letter : {k : Kind} → at < length w → get_or w at 0 ≡ 118 → Lettered w (at + 1) k → Headed w at (factor_of f) (head_of f k)
  step-letter h e v = record { outcome = λ room s. at-letter w at room s (factor_of f) h e ∙ v.outcome (factor_of f) room s; placed = v.placed at (omega arith); small = small }

  pub step-no-name : (e : Fault) → at < length w → get_or w at 0 ≡ 118 → VariableIs w (at + 1) (Err e) → Refused w at (factor_of f) e
  step-no-name x h e v = λ room s. at-letter w at room s (factor_of f) h e ∙ v (factor_of f) room s

-- ---- further on

pub placed-from : (w : List ℕ) (at i : ℕ) (k : Kind) → at ≤ i → Placed w i k → Placed w at k
placed-from w at i (Number n b bare) h p = (omega (arith, p.0), p.1, p.2)
placed-from w at i (Variable v b bare) h p = (omega (arith, p.0), p.1)
placed-from w at i (Open b) h p = (omega (arith, p.0), p.1)

-- from at on it reads as from i on
abbrev pub Same : List ℕ → ℕ → Factor → ℕ → Factor → Type 0
Same w at f i g = (room : ℕ) (s : Sums) → run_from w at (wanted f) (part room) s ≡ run_from w i (wanted g) (part room) s

pub headed-from : (w : List ℕ) (at i : ℕ) {f g : Factor} {h : Head} → at ≤ i → Same w at f i g → Headed w i g h → Headed w at f h
headed-from w at i {h = h} l e k = record { outcome = λ room s. e room s ∙ k.outcome room s; placed = placed-from w at i h.kind l k.placed; small = k.small }

pub refused-from : (w : List ℕ) (at i : ℕ) (f g : Factor) (x : Fault) → Same w at f i g → Refused w i g x → Refused w at f x
refused-from w at i f g x e k = λ room s. e room s ∙ k room s

pub skips-same : (w : List ℕ) (at i : ℕ) (f : Factor) → Skips w at i → Same w at f i f
skips-same w at i f k = λ room s. skipped w (wanted f) (part room) s refl at i k

pub turn-skips : (w : List ℕ) (at i : ℕ) (f : Factor) (x : Result Turn Fault) → Skips w at i → TurnIs w i f x → TurnIs w at f x
turn-skips w at i f (Ok (Ends h)) k t = headed-from w at i k.from (skips-same w at i f k) t
turn-skips w at i f (Ok (GoesOn b g)) k t = record { outcome = λ room s. skips-same w at i f k room s ∙ t.outcome room s; later = omega (arith, t.later, k.from); within = t.within; small = t.small }
turn-skips w at i f (Err e) k t = refused-from w at i f f e (skips-same w at i f k) t
