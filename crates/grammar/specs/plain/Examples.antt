-- Constraints and their plain lines, computed.
use Rattle.std.specs.Prelude.{ℕ, ◌≡◌, refl, List, [], ◌∷◌, ℤ, pos, negsuc}
use Prim.Native.Char.{code}
use Prim.Native.String.{String, [] as none, ◌∷◌ as ◌then◌}
use Rattle.grammar.specs.Sums.{Relation, equal, at_most, at_least, Term}
use Rattle.grammar.specs.edition.Endings.{required}
use Rattle.grammar.specs.plain.Plain.{Written, wrote, refused, write_line}

-- a text of bytes below 128
abbrev bytes : String → List ℕ
bytes none = []
bytes (c then s) = code c ∷ bytes s

abbrev v : ℕ → ℤ → Term
v n k = record { variable = n; coefficient = k }

abbrev write : Relation → ℤ → List Term → ℕ → ℕ → Written
write r c ts n g = write_line (record { reading = record { relation = r; constant = c; terms = ts }; strength = n; group = g })

-- document 02's own line of T-01, `2*(v1 + 3) <= v2`
document : write at_most (pos 6) (v 1 (pos 2) ∷ v 2 (negsuc 0) ∷ []) required 1 ≡ wrote (bytes "2*v1-v2+6<=0")
unfolding write_line
document = refl

-- "In a coefficient a size of 1 is left out."
size-of-one : write equal (negsuc 0) (v 0 (negsuc 0) ∷ v 7 (pos 1) ∷ []) required 1 ≡ wrote (bytes "-v0+v7-1=0")
unfolding write_line
size-of-one = refl

-- "the constant unless it is zero and terms stand"
no-terms : write equal (pos 0) [] required 1 ≡ wrote (bytes "0=0")
unfolding write_line
no-terms = refl

constant-alone : write at_most (negsuc 4) [] required 1 ≡ wrote (bytes "-5<=0")
unfolding write_line
constant-alone = refl

no-constant : write at_least (pos 0) (v 3 (pos 1048576) ∷ []) required 1 ≡ wrote (bytes "1048576*v3>=0")
unfolding write_line
no-constant = refl

-- "the ending unless it is required and group 1"
ending : write equal (pos 0) (v 1 (pos 1) ∷ []) 1000 1 ≡ wrote (bytes "v1=0@1000,1")
unfolding write_line
ending = refl

other-group : write equal (pos 0) (v 1 (pos 1) ∷ []) required 65535 ≡ wrote (bytes "v1=0@1001001000,65535")
unfolding write_line
other-group = refl

-- 36
not-ascending : write equal (pos 0) (v 2 (pos 1) ∷ v 1 (pos 1) ∷ []) required 1 ≡ refused 36
unfolding write_line
not-ascending = refl

repeated : write equal (pos 0) (v 1 (pos 1) ∷ v 1 (pos 1) ∷ []) required 1 ≡ refused 36
unfolding write_line
repeated = refl

zero-coefficient : write equal (pos 0) (v 1 (pos 0) ∷ []) required 1 ≡ refused 36
unfolding write_line
zero-coefficient = refl

too-big : write equal (pos 1048577) [] required 1 ≡ refused 36
unfolding write_line
too-big = refl

too-strong : write equal (pos 0) [] 1001001001 1 ≡ refused 36
unfolding write_line
too-strong = refl

no-group : write equal (pos 0) [] 0 0 ≡ refused 36
unfolding write_line
no-group = refl

-- "then 32"
abbrev long : ℕ → Term
long n = v n (negsuc 1048575)

eleven : List Term
eleven = long 4294967280 ∷ long 4294967281 ∷ long 4294967282 ∷ long 4294967283 ∷ long 4294967284 ∷ long 4294967285 ∷ long 4294967286 ∷ long 4294967287 ∷ long 4294967288 ∷ long 4294967289 ∷ long 4294967290 ∷ []

too_long : write equal (pos 0) eleven required 1 ≡ refused 32
unfolding write_line eleven
too_long = refl
