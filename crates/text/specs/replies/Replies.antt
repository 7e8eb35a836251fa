-- The answer to a line as text: `ok RELATION STRENGTH GROUP CONSTANT N V1 K1 ..`, `no 20 OFFSET`, or `no NUMBER`.
use Rattle.std.specs.Prelude.{◌≡◌, ℕ, zero, suc, ◌+◌, ◌-◌, cond, List, [], ◌∷◌, ◌++◌, ◌==◌, nat_le, nat_lt, slice_index, Bool, true, false, Result, Ok, Err}
use Rattle.std.proofs.Common.{add-one, refl, sym, ◌∙◌}
use Rattle.text.specs.Answers.{number_text}
use Rattle.reader.specs.declared.sides.Mark.{Mark}
use Rattle.reader.specs.declared.sides.Mark.TheVariants.{AtMost, Equal, AtLeast}
use Rattle.reader.specs.declared.answers.Constraint.{Constraint}
use Rattle.reader.specs.declared.second.Weighted.{Weighted}
use Rattle.reader.specs.declared.fault.Refusal.{Refusal}
use Rattle.text.specs.declared.replies.Numbered.{Numbered}
use Rattle.reader.specs.Faults.{refusal_number, offset_of, some-number}
use Rattle.reader.specs.Answers.{Reading, shown}
use Rattle.reader.specs.second.Replies.{Reply, answered}

-- a whole number that stands as what it is above 2 to the power of 53
abbrev pub signed_text : ℕ → List ℕ
signed_text x = cond (nat_lt x 9007199254740992) ((45 ∷ []) ++ number_text (9007199254740992 - x)) (number_text (x - 9007199254740992))

-- ` V K`
abbrev pub term_text : ℕ → ℕ → List ℕ
term_text v k = (32 ∷ []) ++ (number_text v ++ ((32 ∷ []) ++ signed_text k))

-- the first n terms
unfoldable pub terms_text : ℕ → List ℕ → List ℕ → List ℕ
terms_text zero vs ks = []
terms_text (suc n) vs ks = terms_text n vs ks ++ term_text (slice_index vs n) (slice_index ks n)

abbrev pub relation_text : Mark → List ℕ
relation_text AtMost = 108 ∷ 101 ∷ 32 ∷ []
relation_text Equal = 101 ∷ 113 ∷ 32 ∷ []
relation_text AtLeast = 103 ∷ 101 ∷ 32 ∷ []

-- `no NUMBER`, and the offset of 20
abbrev pub refusal_text : ℕ → ℕ → List ℕ
refusal_text n at = (110 ∷ 111 ∷ 32 ∷ []) ++ (number_text n ++ cond (n == 20) ((32 ∷ []) ++ number_text at) [])

-- `ok RELATION STRENGTH GROUP CONSTANT N`
abbrev pub head_text : Mark → ℕ → ℕ → ℕ → ℕ → List ℕ
head_text m s g k n = (111 ∷ 107 ∷ 32 ∷ []) ++ (relation_text m ++ (number_text s ++ ((32 ∷ []) ++ (number_text g ++ ((32 ∷ []) ++ (signed_text k ++ ((32 ∷ []) ++ number_text n)))))))

-- a reading has room for 16 terms
abbrev pub few_of : ℕ → ℕ
few_of n = cond (nat_le n 16) n 16

abbrev pub reading_text : Reply → List ℕ
reading_text x =
    head_text x.reading.relation x.strength x.group x.reading.constant (few_of x.reading.count) ++ terms_text (few_of x.reading.count) x.reading.variables x.reading.coefficients

-- "without it the constraint is required and in group 1"
abbrev pub usual : Reading → Reply
usual r = record { reading = r; strength = 1001001000; group = 1 }

unfoldable pub reply_text : Reply → List ℕ
reply_text x = cond (x.reading.number == 0) (reading_text x) (refusal_text x.reading.number x.reading.offset)

-- ---- as the code has it: what reads, or a refusal by its number

abbrev pub result_text : Result Weighted Numbered → List ℕ
result_text (Ok x) = reading_text (answered (Ok x))
result_text (Err n) = refusal_text n.number n.offset

abbrev pub usual_of : Result Constraint Numbered → Result Weighted Numbered
usual_of (Ok c) = Ok (record { constraint = c; strength = 1001001000; group = 1 })
usual_of (Err n) = Err n

abbrev pub numbered_by : Refusal → Numbered
numbered_by r = record { number = refusal_number r; offset = offset_of r }

-- every reading, of any number: 0 reads
abbrev pub constraint_in : Reading → Constraint
constraint_in r = record { relation = r.relation; constant = r.constant; count = r.count; variables = r.variables; coefficients = r.coefficients }

unfoldable pub result_of : Reply → Result Weighted Numbered
result_of x = cond (x.reading.number == 0) (Ok (record { constraint = constraint_in x.reading; strength = x.strength; group = x.group })) (Err (record { number = x.reading.number; offset = x.reading.offset }))

unfoldable pub line_of : Reading → Result Constraint Numbered
line_of r = cond (r.number == 0) (Ok (constraint_in r)) (Err (record { number = r.number; offset = r.offset }))

pub result-reply : (x : Reply) → result_text (result_of x) ≡ reply_text x
unfolding result_of reply_text
result-reply x = by (x.reading.number == 0)
  where
    by : (b : Bool) → result_text (cond b (Ok (record { constraint = constraint_in x.reading; strength = x.strength; group = x.group })) (Err (record { number = x.reading.number; offset = x.reading.offset }))) ≡ cond b (reading_text x) (refusal_text x.reading.number x.reading.offset)
    by true = refl
    by false = refl

pub line-reply : (r : Reading) → result_text (usual_of (line_of r)) ≡ reply_text (usual r)
unfolding line_of reply_text
line-reply r = by (r.number == 0)
  where
    by : (b : Bool) → result_text (usual_of (cond b (Ok (constraint_in r)) (Err (record { number = r.number; offset = r.offset })))) ≡ cond b (reading_text (usual r)) (refusal_text r.number r.offset)
    by true = refl
    by false = refl

pub terms-next : (n : ℕ) (vs ks : List ℕ) → terms_text (n + 1) vs ks ≡ terms_text n vs ks ++ term_text (slice_index vs n) (slice_index ks n)
unfolding terms_text
terms-next n vs ks = rw add-one

-- a refusal is said whatever stands beside it
pub refused-text : (r : Refusal) (s g : ℕ) → reply_text (record { reading = shown (Err r); strength = s; group = g }) ≡ refusal_text (refusal_number r) (offset_of r)
unfolding reply_text
refused-text r s g = rw (some-number r) refl

-- in either edition
pub refused-line : (r : Refusal) → reply_text (answered (Err r)) ≡ reply_text (usual (shown (Err r)))
refused-line r = refused-text r 0 0 ∙ sym (refused-text r 1001001000 1)

-- what a reader answers, its refusal by its number, is said as the reader's reply
abbrev pub numbered : {A : Type 0} → Result A Refusal → Result A Numbered
numbered (Ok x) = Ok x
numbered (Err r) = Err (numbered_by r)

pub answered-text : (x : Result Weighted Refusal) → result_text (numbered x) ≡ reply_text (answered x)
unfolding reply_text
answered-text (Ok x) = refl
answered-text (Err r) = sym (refused-text r 0 0)

pub shown-text : (r : Result Constraint Refusal) → result_text (usual_of (numbered r)) ≡ reply_text (usual (shown r))
unfolding reply_text
shown-text (Ok c) = refl
shown-text (Err r) = sym (refused-text r 1001001000 1)
