-- What is handed over, worked by computation.
use Rattle.std.specs.Prelude.{◌≡◌, ℕ, true, false, List, [], ◌∷◌, ◌++◌, replicate, refl}
use Prim.Native.Char.{code}
use Prim.Native.String.{String, [] as none, ◌∷◌ as ◌then◌}
use Rattle.std.specs.Float.{binary64}
use Rattle.std.specs.Float.Ieee.{of_bits, of_int, neg}
use Rattle.laws.specs.streams.Lines.{grown}
use Rattle.grammar.specs.edition.Steps.{read_second}
use Rattle.cable_lines.specs.Cable.{new, takes}
use Rattle.cable_lines.specs.Bytes.{bytes_of}
use Rattle.steps.specs.Number.{zero64}
use Rattle.steps.specs.Strength.{required}
use Rattle.entry.specs.typed.Typed.{whole_of}
use Rattle.knobharbor.specs.handed.Handed.{handed, without, handed_of, handed_by, read_by}

abbrev bytes : String → List ℕ
bytes none = []
bytes (c then s) = code c ∷ bytes s

-- "`2*(v1 + 3) <= v2` reads as 2 v1 - v2 + 6 at most 0.": 17 bytes taken, no refusal, at most, two terms, group 1
document : handed_by (takes new (bytes "2*(v1 + 3) <= v2" ++ (10 ∷ []))) ≡ handed true (17 ∷ 0 ∷ 0 ∷ 0 ∷ 2 ∷ 1 ∷ []) (of_bits binary64 0x4018_0000_0000_0000 ∷ required ∷ []) (1 ∷ 2 ∷ replicate 14 0) (of_bits binary64 0x4000_0000_0000_0000 ∷ of_bits binary64 0xbff0_0000_0000_0000 ∷ replicate 14 zero64) (replicate 201 0)
unfolding takes grown read_second handed_of bytes_of whole_of of_bits of_int neg required
document = refl

-- a strength of 1000 and group 2, by the reader of a line by itself
ended : read_by (bytes "v1>=-5@1000,2") ≡ handed true (13 ∷ 0 ∷ 0 ∷ 2 ∷ 1 ∷ 2 ∷ []) (of_bits binary64 0x4014_0000_0000_0000 ∷ of_bits binary64 0x408f_4000_0000_0000 ∷ []) (1 ∷ replicate 15 0) (of_bits binary64 0x3ff0_0000_0000_0000 ∷ replicate 15 zero64) []
unfolding read_second handed_of whole_of of_bits of_int neg
ended = refl

unread : handed_by (takes new (bytes "v1<" ++ (10 ∷ []))) ≡ without true 4 20 3 (replicate 201 0)
unfolding takes grown read_second handed_of bytes_of
unread = refl

nothing : handed_by (takes new []) ≡ without false 0 0 0 (replicate 201 0)
unfolding takes handed_of bytes_of
nothing = refl
