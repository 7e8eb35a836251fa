-- The state in a lent table of 201 bytes: the line's, and last how many they are; from 201 on the line is too long. Any content reads.
use Rattle.std.specs.Prelude.{ℕ, zero, suc, ◌+◌, ◌≤◌, ◌<◌, ◌≡◌, refl, Bool, true, false, cond, List, [], ◌∷◌, leb, length, take, drop, get_or, set}
use Rattle.std.proofs.Common.{sym, ap, ◌∙◌, add-one, zero-add, arith, ne_eqb, le-leb, length-set, get_or-set_same, drop-cons}
use Rattle.std.proofs.Math.Option.{Option, none, some}
use Rattle.std.proofs.lemmas.Bool.{lt-leb}
use Rattle.std.proofs.lemmas.List.{take-set-le}
use Rattle.std.proofs.Math.Seq.{drop-length}
use Rattle.laws.specs.streams.Lines.{grown}
use Rattle.laws.specs.streams.Held.{held_of, held_more, held-over}
use Rattle.cable_lines.specs.Cable.{limit, new, answer_of, unended, Step, takes, further}
use Rattle.grammar.specs.edition.Endings.{denied}
use Rattle.grammar.specs.edition.Steps.{read_second}

abbrev pub held_by : List ℕ → Option (List ℕ)
held_by s = held_of limit s (get_or s 200 0)

-- ---- a byte kept

module _ (s : List ℕ) (long : length s ≡ 201) where
  pub kept_more : (b : ℕ) → get_or s 200 0 < 200 → held_by (set (set s (get_or s 200 0) b) 200 (get_or s 200 0 + 1)) ≡ grown limit (held_by s) b
  kept_more b h =
      let n : ℕ = get_or s 200 0 in
      let l : length (set s n b) ≡ 201 = length-set s n b ∙ long in
      let t : take (n + 1) (set (set s n b) 200 (n + 1)) ≡ take (n + 1) (set s n b) = take-set-le (n + 1) (set s n b) 200 (n + 1) (omega arith) in
      let g : get_or (set (set s n b) 200 (n + 1)) 200 0 ≡ n + 1 = get_or-set_same (set s n b) 200 (n + 1) 0 (omega arith) in
      ap (λ (m : ℕ). held_of limit (set (set s n b) 200 (n + 1)) m) g
      ∙ (ap (λ (l : List ℕ). cond (leb (n + 1) limit) (some l) none) t ∙ held_more limit s (omega arith) n b h)

  pub kept-over : (b : ℕ) → 200 ≤ get_or s 200 0 → held_by (set s 200 201) ≡ grown limit (held_by s) b
  kept-over b h = ap (λ (m : ℕ). held_of limit (set s 200 201) m) (get_or-set_same s 200 201 0 (omega arith)) ∙ held-over limit s (omega arith) (get_or s 200 0) b h

  -- a count of 0 is a new reader
  pub kept-none : held_by (set s 200 0) ≡ new
  kept-none = ap (λ (m : ℕ). held_of limit (set s 200 0) m) (get_or-set_same s 200 0 0 (omega arith))

-- ---- bytes kept up to a place: the step goes on from there

abbrev pub behind : ℕ → Step → Step
behind n x = record { answer = x.answer; taken = n + x.taken; left = x.left }

pub record Kept (h : Option (List ℕ)) (s : List ℕ) (k : Option (List ℕ)) (at : ℕ) : Type 0 where
  pub within : at ≤ length s
  pub goes : takes h s ≡ behind at (takes k (drop at s))

pub kept-start : (h : Option (List ℕ)) (s : List ℕ) → Kept h s h 0
kept-start h s = record { within = omega arith; goes = ap (λ (m : ℕ). record { answer = (takes h s).answer; taken = m; left = (takes h s).left }) (sym (zero-add (takes h s).taken)) }

pub kept_byte : {h k : Option (List ℕ)} {s : List ℕ} {at : ℕ} → Kept h s k at → at < length s → (get_or s at 0 ≡ 10 → ⊥) → Kept h s (grown limit k (get_or s at 0)) (at + 1)
unfolding takes
kept_byte {h} {k} {s} {at} q l e =
    let b : ℕ = get_or s at 0 in
    let d : drop at s ≡ b ∷ drop (at + 1) s = rw add-one (drop-cons s at 0 l) in
    let z : at + suc (takes (grown limit k b) (drop (at + 1) s)).taken ≡ at + 1 + (takes (grown limit k b) (drop (at + 1) s)).taken = omega arith in
    record {
      within = omega arith;
      goes =
          q.goes
          ∙ (ap (λ (t : List ℕ). behind at (takes k t)) d
          ∙ (ap (λ (t : Bool). behind at (cond t (record { answer = some (answer_of k); taken = 1; left = new }) (further (takes (grown limit k b) (drop (at + 1) s))))) (ne_eqb b 10 e)
          ∙ ap (λ (m : ℕ). record { answer = (takes (grown limit k b) (drop (at + 1) s)).answer; taken = m; left = (takes (grown limit k b) (drop (at + 1) s)).left }) z));
    }

-- at a newline the line is answered
pub kept-ends : {h k : Option (List ℕ)} {s : List ℕ} {at : ℕ} → Kept h s k at → at < length s → get_or s at 0 ≡ 10 → takes h s ≡ record { answer = some (answer_of k); taken = at + 1; left = new }
unfolding takes
kept-ends {h} {k} {s} {at} q l e =
    let d : drop at s ≡ 10 ∷ drop (at + 1) s = rw (add-one, ← e) (drop-cons s at 0 l) in
    q.goes ∙ ap (λ (t : List ℕ). behind at (takes k t)) d

-- at the piece's end there is no answer
pub kept-all : {h k : Option (List ℕ)} {s : List ℕ} {at : ℕ} → Kept h s k at → at ≡ length s → takes h s ≡ record { answer = none; taken = at; left = k }
unfolding takes
kept-all {h} {k} {s} {at} q e =
    let d : drop at s ≡ [] = ap (λ (m : ℕ). drop m s) e ∙ drop-length s in
    let z : at + 0 ≡ at = omega arith in
    q.goes ∙ (ap (λ (t : List ℕ). behind at (takes k t)) d ∙ ap (λ (m : ℕ). record { answer = none; taken = m; left = k }) z)

-- ---- the line answered, and the close, by the count

pub answer-within : (s : List ℕ) → get_or s 200 0 ≤ 200 → answer_of (held_by s) ≡ read_second (take (get_or s 200 0) s)
answer-within s h = rw (le-leb (get_or s 200 0) 200 h) refl

pub answer-over : (s : List ℕ) → 200 < get_or s 200 0 → answer_of (held_by s) ≡ denied 32
answer-over s h = rw (lt-leb (get_or s 200 0) 200 h) refl

pub unended-none : (s : List ℕ) → get_or s 200 0 ≡ 0 → unended (held_by s) ≡ none
unended-none s e = rw e refl

pub unended-some : (s : List ℕ) (n : ℕ) → 0 < length s → (n ≡ 0 → ⊥) → unended (held_of limit s n) ≡ some (denied 33)
unended-some [] n h e = absurd (omega arith)
unended-some (b ∷ s) zero h e = absurd (e refl)
unended-some (b ∷ s) (suc n) h e = test (leb (suc n) limit)
  where
    test : (t : Bool) → unended (cond t (some (take (suc n) (b ∷ s))) none) ≡ some (denied 33)
    test true = refl
    test false = refl
