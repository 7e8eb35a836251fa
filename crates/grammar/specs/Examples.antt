-- Lines and their answers, computed: document 02's own, and the smallest that tell apart how its sentences could be read (docs/DECISIONS.md).
use Rattle.std.specs.Prelude.{ℕ, ◌≡◌, refl, List, [], ◌∷◌, ◌++◌, replicate, ℤ, pos, negsuc}
use Prim.Native.Char.{code}
use Prim.Native.String.{String, [] as none, ◌∷◌ as ◌then◌}
use Rattle.grammar.specs.Sums.{Relation, at_most, equal, at_least, Term, Answer, reads, outside, refused}
use Rattle.grammar.specs.Reader.{read_line}

-- a text of bytes below 128
abbrev bytes : String → List ℕ
bytes none = []
bytes (c then s) = code c ∷ bytes s

abbrev v : ℕ → ℤ → Term
v n k = record { variable = n; coefficient = k }

abbrev read : Relation → ℤ → List Term → Answer
read r k ts = reads (record { relation = r; constant = k; terms = ts })

-- "`2*(v1 + 3) <= v2` reads as 2 v1 - v2 + 6 at most 0"
document : read_line (bytes "2*(v1 + 3) <= v2") ≡ read at_most (pos 6) (v 1 (pos 2) ∷ v 2 (negsuc 0) ∷ [])
unfolding read_line
document = refl

-- spaces: next to marks alone
space-behind : read_line (bytes "v1=0 ") ≡ outside 5
unfolding read_line
space-behind = refl

space-before : read_line (bytes " v1=0") ≡ outside 1
unfolding read_line
space-before = refl

space-at-marks : read_line (bytes " - v1=( 0 ) ") ≡ read equal (pos 0) (v 1 (negsuc 0) ∷ [])
unfolding read_line
space-at-marks = refl

-- "never after `v`"
space-in-name : read_line (bytes "v 1=0") ≡ outside 1
unfolding read_line
space-in-name = refl

-- 20 at the first byte with which no line can go on, or at the end
no-multiplier : read_line (bytes "(2)*v1=0") ≡ outside 3
unfolding read_line
no-multiplier = refl

half-a-mark : read_line (bytes "v1<0") ≡ outside 3
unfolding read_line
half-a-mark = refl

empty : read_line [] ≡ outside 0
unfolding read_line
empty = refl

carriage-return : read_line (bytes "v1=0" ++ 13 ∷ []) ≡ outside 4
unfolding read_line
carriage-return = refl

-- a product of all multipliers over a part, met at the `*`
product-through-brackets : read_line (bytes "1048576*(2*v1)-1048576*(2*v1)=0") ≡ refused 22
unfolding read_line
product-through-brackets = refl

product-of-zero : read_line (bytes "0*(1048576*1048576*v1)=0") ≡ read equal (pos 0) []
unfolding read_line
product-of-zero = refl

number-is-no-multiplier : read_line (bytes "1048576*2=1048576*2") ≡ read equal (pos 0) []
unfolding read_line
number-is-no-multiplier = refl

product-so-far : read_line (bytes "1048576*2*0*v1=0") ≡ refused 22
unfolding read_line
product-so-far = refl

product-before : read_line (bytes "1048576*2x") ≡ outside 9
unfolding read_line
product-before = refl

product_at : read_line (bytes "1048576*2*x") ≡ refused 22
unfolding read_line
product_at = refl

-- a number, met at the digit that passes the bound
number-too-big : read_line (bytes "1048577x") ≡ refused 22
unfolding read_line
number-too-big = refl

zeros-lead : read_line (bytes "01048576=v1") ≡ read equal (pos 1048576) (v 1 (negsuc 0) ∷ [])
unfolding read_line
zeros-lead = refl

name-too-big : read_line (bytes "v4294967296") ≡ refused 22
unfolding read_line
name-too-big = refl

-- once the whole line reads
sum-too-big : read_line (bytes "1048576*v1>=-v1") ≡ refused 22
unfolding read_line
sum-too-big = refl

-- like terms are summed over the whole line before they are counted
like-terms : read_line (bytes "v17+v16+v15+v14+v13+v12+v11+v10+v9+v8+v7+v6+v5+v4+v3+v2+v1>=v17+v16+v15+v14+v13+v12+v11+v10+v9+v8+v7+v6+v5+v4+v3+v2+2*v1") ≡ read at_least (pos 0) (v 1 (negsuc 0) ∷ [])
unfolding read_line
like-terms = refl

too_many : read_line (bytes "v0+v1+v2+v3+v4+v5+v6+v7+v8+v9+v10+v11+v12+v13+v14+v15+v16=0") ≡ refused 23
unfolding read_line
too_many = refl

-- "up to 16 levels of brackets"; 21 is met at the 17th
deep : read_line (replicate 17 40) ≡ refused 21
unfolding read_line
deep = refl

not-so-deep : read_line (replicate 16 40 ++ bytes "v0" ++ replicate 16 41 ++ bytes "<=7") ≡ read at_most (negsuc 6) (v 0 (pos 1) ∷ [])
unfolding read_line
not-so-deep = refl

-- a chain of `-` is no depth
minus-of-minus : read_line (replicate 4092 45 ++ bytes "v1=0") ≡ read equal (pos 0) (v 1 (pos 1) ∷ [])
unfolding read_line
minus-of-minus = refl

-- "19 a longer line"
one_more : read_line (replicate 4093 45 ++ bytes "v1=0") ≡ refused 19
unfolding read_line
one_more = refl
