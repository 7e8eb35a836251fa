-- Why the code refuses a line, as the grammar's reader numbers it, and where that is met.
use Rattle.std.specs.Prelude.{◌≡◌, ℕ, ◌==◌, false, refl}
use Rattle.reader.specs.declared.fault.Fault.{Fault}
use Rattle.reader.specs.declared.fault.Fault.TheVariants.{Astray, TooDeep, TooLarge}
use Rattle.reader.specs.declared.fault.Refusal.{Refusal}
use Rattle.reader.specs.declared.fault.Refusal.TheVariants as refusal

abbrev pub number_of : Fault → ℕ
number_of (Astray b) = 20
number_of (TooDeep b) = 21
number_of (TooLarge b) = 22

abbrev pub place_of : Fault → ℕ
place_of (Astray b) = b
place_of (TooDeep b) = b
place_of (TooLarge b) = b

abbrev pub refusal_number : Refusal → ℕ
refusal_number refusal.TooLong = 19
refusal_number (refusal.Astray b) = 20
refusal_number refusal.TooDeep = 21
refusal_number refusal.TooLarge = 22
refusal_number refusal.TooManyVariables = 23
refusal_number refusal.CableLineTooLong = 32
refusal_number refusal.Unended = 33
refusal_number refusal.StrengthOutOfRange = 34
refusal_number refusal.GroupOutOfRange = 35

abbrev pub offset_of : Refusal → ℕ
offset_of refusal.TooLong = 0
offset_of (refusal.Astray b) = b
offset_of refusal.TooDeep = 0
offset_of refusal.TooLarge = 0
offset_of refusal.TooManyVariables = 0
offset_of refusal.CableLineTooLong = 0
offset_of refusal.Unended = 0
offset_of refusal.StrengthOutOfRange = 0
offset_of refusal.GroupOutOfRange = 0

abbrev pub refused_by : Fault → Refusal
refused_by (Astray b) = refusal.Astray b
refused_by (TooDeep b) = refusal.TooDeep
refused_by (TooLarge b) = refusal.TooLarge

-- 0 is no refusal's number
pub some-number : (r : Refusal) → (refusal_number r == 0) ≡ false
some-number refusal.TooLong = refl
some-number (refusal.Astray b) = refl
some-number refusal.TooDeep = refl
some-number refusal.TooLarge = refl
some-number refusal.TooManyVariables = refl
some-number refusal.CableLineTooLong = refl
some-number refusal.Unended = refl
some-number refusal.StrengthOutOfRange = refl
some-number refusal.GroupOutOfRange = refl
