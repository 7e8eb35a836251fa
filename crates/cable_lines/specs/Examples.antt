-- Streams and their answers, computed: the smallest that tell apart how document 02's sentences could be read (docs/DECISIONS.md).
use Rattle.std.specs.Prelude.{ℕ, ◌≡◌, refl, List, [], ◌∷◌, ◌++◌, replicate, pos}
use Prim.Native.Char.{code}
use Prim.Native.String.{String, [] as none, ◌∷◌ as ◌then◌}
use Rattle.std.proofs.Math.Option.{Option, some}
use Rattle.laws.specs.streams.Lines.{grown}
use Rattle.grammar.specs.Sums.{Relation, at_most, equal}
use Rattle.grammar.specs.edition.Endings.{Reply as Answer, taken, astray, denied, required}
use Rattle.grammar.specs.edition.Steps.{read_second}
use Rattle.cable_lines.specs.Cable.{new, takes, closes, Fed, steps, feed, feed_all}

abbrev bytes : String → List ℕ
bytes none = []
bytes (c then s) = code c ∷ bytes s

-- with its newline
abbrev line : String → List ℕ
line s = bytes s ++ (10 ∷ [])

abbrev fed : List Answer → Option (List ℕ) → Fed
fed l h = record { answers = l; left = h }

-- v1 against 0
abbrev one : Relation → Answer
one r = taken (record { reading = record { relation = r; constant = pos 0; terms = record { variable = 1; coefficient = pos 1 } ∷ [] }; strength = required; group = 1 })

-- a cut inside `<=`, and a piece of no bytes
cut-in-a-mark : feed_all new (bytes "v1<" ∷ [] ∷ line "=0" ∷ []) ≡ fed (one at_most ∷ []) new
unfolding feed_all steps takes grown read_second
cut-in-a-mark = refl

-- a cut inside an ending's strength
cut-in-an-ending : feed_all new (bytes "v1=0@10" ∷ line "00,2" ∷ []) ≡ fed (taken (record { reading = record { relation = equal; constant = pos 0; terms = record { variable = 1; coefficient = pos 1 } ∷ [] }; strength = 1000; group = 2 }) ∷ []) new
unfolding feed_all steps takes grown read_second
cut-in-an-ending = refl

-- one line a step: the caller goes on behind the bytes taken
first-line : takes new (line "v1=0" ++ line "v1<=0") ≡ record { answer = some (one equal); taken = 5; left = new }
unfolding takes grown read_second
first-line = refl

-- an empty line is a line
empty-line : feed new (10 ∷ 10 ∷ []) ≡ fed (astray 0 ∷ astray 0 ∷ []) new
unfolding steps takes grown read_second
empty-line = refl

-- CR is a byte of the line
carriage-return : feed new (bytes "v1=0" ++ (13 ∷ 10 ∷ [])) ≡ fed (astray 4 ∷ []) new
unfolding steps takes grown read_second
carriage-return = refl

-- 200 bytes are read, 201 are not; reading goes on after the newline, and the long line's tail is no line of its own
at-the-limit : feed new (replicate 196 45 ++ line "v1=0") ≡ fed (one equal ∷ []) new
unfolding steps takes grown read_second
at-the-limit = refl

above-the-limit : feed_all new (replicate 197 45 ∷ line "v1=0" ∷ line "v1=0" ∷ []) ≡ fed (denied 32 ∷ one equal ∷ []) new
unfolding feed_all steps takes grown read_second
above-the-limit = refl

-- 33 for a line of one byte or more, too long or not
close-behind-a-byte : (closes (feed new (bytes "v")).left).answer ≡ some (denied 33)
unfolding steps takes grown
close-behind-a-byte = refl

close-too-long : (closes (feed new (replicate 999 45)).left).answer ≡ some (denied 33)
unfolding steps takes grown
close-too-long = refl
