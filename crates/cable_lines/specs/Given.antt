-- What the code gives, by the definition's step.
use Rattle.std.specs.Prelude.{ℕ, suc, ◌≤◌, ◌<◌, ◌≡◌, refl, Bool, true, false, cond, List, [], ◌∷◌, eqb, length, Option as Optional, Some, None, Result}
use Rattle.std.proofs.Common.{ap, ◌∙◌, arith}
use Rattle.std.proofs.Math.Option.{Option, none, some}
use Rattle.laws.specs.streams.Lines.{grown}
use Rattle.grammar.specs.edition.Endings.{Reply as Answer}
use Rattle.reader.specs.second.Replies.{Reply, answered, as_reply}
use Rattle.reader.specs.declared.second.Weighted.{Weighted}
use Rattle.reader.specs.declared.fault.Refusal.{Refusal}
use Rattle.cable_lines.specs.declared.Taken as code
use Rattle.cable_lines.specs.Cable.{limit, new, answer_of, Step, further, takes}
use Rattle.cable_lines.specs.Bytes.{bytes_of}

-- what the code answers and takes, with the answer by its number
pub record Taken : Type 0 where
  pub answer : Optional Reply
  pub taken : ℕ

abbrev pub told_answer : Optional (Result Weighted Refusal) → Optional Reply
told_answer None = None
told_answer (Some x) = Some (answered x)

abbrev pub told : code.Taken → Taken
told t = record { answer = told_answer t.answer; taken = t.taken }

abbrev pub as_taken : Option Answer → ℕ → Taken
as_taken none n = record { answer = None; taken = n }
as_taken (some a) n = record { answer = Some (as_reply a); taken = n }

-- what is handed back, and the bytes that then stand in the lent table
pub record Given : Type 0 where
  pub back : Taken
  pub left : List ℕ

abbrev pub given : Taken → List ℕ → Given
given r b = record { back = r; left = b }

abbrev pub as_given : Step → Given
as_given s = record { back = as_taken s.answer s.taken; left = bytes_of s.left }

-- the same with the line that has then begun, before what stands behind its bytes is cleared
pub record Begun : Type 0 where
  pub back : Taken
  pub left : Option (List ℕ)

abbrev pub begun : Taken → Option (List ℕ) → Begun
begun r h = record { back = r; left = h }

abbrev pub as_begun : Step → Begun
as_begun s = record { back = as_taken s.answer s.taken; left = s.left }

pub same-begun : {r q : Taken} {h k : Option (List ℕ)} → r ≡ q → h ≡ k → begun r h ≡ begun q k
same-begun p q = cc

pub begun-given : {r : Taken} {h : Option (List ℕ)} {b : List ℕ} (s : Step) → begun r h ≡ as_begun s → b ≡ bytes_of h → given r b ≡ as_given s
begun-given {r} s e f = ap (given r) f ∙ ap (λ (g : Begun). given g.back (bytes_of g.left)) e

-- ---- a step takes bytes of the piece alone, and one at least if there is one

within_step : (n : ℕ) (t : Bool) (h : Option Answer) (x : Step) → x.taken ≤ n → (cond t (record { answer = h; taken = 1; left = new }) (further x)).taken ≤ suc n
within_step n true h x p = omega arith
within_step n false h x p = omega arith

pub taken-within : (h : Option (List ℕ)) (s : List ℕ) → (takes h s).taken ≤ length s
unfolding takes
taken-within h [] = omega arith
taken-within h (b ∷ s) = within_step (length s) (eqb b 10) (some (answer_of h)) (takes (grown limit h b) s) (taken-within (grown limit h b) s)

pub taken-byte : (h : Option (List ℕ)) (s : List ℕ) → 0 < length s → 0 < (takes h s).taken
unfolding takes
taken-byte h [] p = absurd (omega arith)
taken-byte h (b ∷ s) p = test (eqb b 10)
  where
    test : (t : Bool) → 0 < (cond t (record { answer = some (answer_of h); taken = 1; left = new }) (further (takes (grown limit h b) s))).taken
    test true = omega arith
    test false = omega arith

taken_as : (a : Option Answer) (n : ℕ) → (as_taken a n).taken ≡ n
taken_as none n = refl
taken_as (some a) n = refl

pub taken_is : {r : Taken} {b : List ℕ} (k : Option (List ℕ)) (s : List ℕ) → given r b ≡ as_given (takes k s) → r.taken ≡ (takes k s).taken
taken_is k s e = ap (λ (g : Given). g.back.taken) e ∙ taken_as (takes k s).answer (takes k s).taken
