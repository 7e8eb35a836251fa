-- Lines and their answers, computed: the smallest that tell apart how document 02's sentences could be read (docs/DECISIONS.md).
use Rattle.std.specs.Prelude.{ℕ, ◌≡◌, refl, List, [], ◌∷◌, ◌++◌, replicate, pos}
use Prim.Native.Char.{code}
use Prim.Native.String.{String, [] as none, ◌∷◌ as ◌then◌}
use Rattle.grammar.specs.Sums.{equal, refused, outside}
use Rattle.grammar.specs.Reader.{read_line}
use Rattle.grammar.specs.edition.Endings.{required, Reply, taken, astray, denied}
use Rattle.grammar.specs.edition.Steps.{read_second}

-- a text of bytes below 128
abbrev bytes : String → List ℕ
bytes none = []
bytes (c then s) = code c ∷ bytes s

-- v1 equals 0
abbrev level : ℕ → ℕ → Reply
level n g = taken (record { reading = record { relation = equal; constant = pos 0; terms = record { variable = 1; coefficient = pos 1 } ∷ [] }; strength = n; group = g })

-- "without it the constraint is required and in group 1"
unended : read_second (bytes "v1=0") ≡ level required 1
unfolding read_second
unended = refl

ended : read_second (bytes "v1=0@1000,7") ≡ level 1000 7
unfolding read_second
ended = refl

-- spaces around the marks, none behind the last digit
spaced : read_second (bytes "v1=0 @ 0 , 65535") ≡ level 0 65535
unfolding read_second
spaced = refl

space-behind : read_second (bytes "v1=0@1,1 ") ≡ astray 8
unfolding read_second
space-behind = refl

-- zeros may lead, and the numbers are judged by 34 and 35 alone
zeros-lead : read_second (bytes "v1=0@0001001001000,00001") ≡ level required 1
unfolding read_second
zeros-lead = refl

too-strong : read_second (bytes "v1=0@1001001001,0") ≡ denied 34
unfolding read_second
too-strong = refl

no-group : read_second (bytes "v1=0@1,0") ≡ denied 35
unfolding read_second
no-group = refl

group-too-big : read_second (bytes "v1=0@1,65536") ≡ denied 35
unfolding read_second
group-too-big = refl

-- all of T-01's first, also a 20 further right
further-right : read_second (bytes "v1=0@1001001001,x") ≡ astray 16
unfolding read_second
further-right = refl

sums_first : read_second (bytes "1048576*v1=-v1@1001001001,0") ≡ denied 22
unfolding read_second
sums_first = refl

-- not in the grammar
negative : read_second (bytes "v1=0@-1,1") ≡ astray 5
unfolding read_second
negative = refl

half-an-ending : read_second (bytes "v1=0@1") ≡ astray 6
unfolding read_second
half-an-ending = refl

two-endings : read_second (bytes "v1=0@1,1@1,1") ≡ astray 8
unfolding read_second
two-endings = refl

in-brackets : read_second (bytes "v1=(0@1,1)") ≡ astray 5
unfolding read_second
in-brackets = refl

-- ---- an old reader

old : read_line (bytes "v1=0@1,1") ≡ outside 4
unfolding read_line
old = refl

old-sums : read_line (bytes "1048576*v1=-v1@1,1") ≡ outside 14
unfolding read_line
old-sums = refl

old-too-long : read_line (bytes "v1=0@" ++ replicate 4092 48) ≡ refused 19
unfolding read_line
old-too-long = refl
