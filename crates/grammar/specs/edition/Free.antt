-- No line of T-01 holds an `@`.
use Rattle.std.specs.Prelude.{ℕ, zero, suc, ◌≡◌, refl, Bool, true, false, not, ◌&&◌, List, [], ◌∷◌, ◌++◌, T, eqb, leb}
use Rattle.std.proofs.Common.{arith, ne_eqb, leb→le}
use Rattle.grammar.specs.Bytes.{is_digit}
use Rattle.grammar.specs.Sums.{Relation, at_most, equal, at_least}
use Rattle.grammar.specs.Trees.{Digits, Gap, Sort, Tree, amount, variable, multiple, negated, bracketed, single, added, subtracted, Line, all_digits, are_digits, spaces, around, bytes_of, mark_of, line_bytes}
use Rattle.grammar.specs.Pieces.{both}
use Rattle.grammar.specs.edition.Follow.{every, free}

pub and_both : (p q : Bool) → T p → T q → T (p && q)
and_both true q h k = k
and_both false q h k = h

pub free-append : (v w : List ℕ) → T (free v) → T (free w) → T (free (v ++ w))
unfolding every
free-append [] w h k = k
free-append (b ∷ v) w h k =
    let f = both (not (eqb b 64)) (free v) h in
    and_both (not (eqb b 64)) (free (v ++ w)) f.0 (free-append v w f.1 k)

pub free-spaces : (n : ℕ) → T (free (spaces n))
unfolding every
free-spaces zero = tt
free-spaces (suc n) = free-spaces n

free-mark : (g : Gap) (m : List ℕ) → T (free m) → T (free (around g m))
free-mark g m h = free-append (spaces g.before) (m ++ spaces g.after) (free-spaces g.before) (free-append m (spaces g.after) h (free-spaces g.after))

digit-free : (b : ℕ) → T (is_digit b) → T (not (eqb b 64))
digit-free b h =
    let l = leb→le b 57 (both (leb 48 b) (leb b 57) h).1 in
    rw (ne_eqb b 64 (λ e. omega arith)) tt

all-free : (bs : List ℕ) → T (all_digits bs) → T (free bs)
unfolding every all_digits
all-free [] h = tt
all-free (b ∷ bs) h =
    let d = both (is_digit b) (all_digits bs) h in
    and_both (not (eqb b 64)) (free bs) (digit-free b d.0) (all-free bs d.1)

free-digits : (n : Digits) → T (free n.bytes)
unfolding all_digits
free-digits n = by n.bytes n.are-digits
  where
    by : (bs : List ℕ) → T (are_digits bs) → T (free bs)
    by [] h = absurd h
    by (b ∷ bs) h = all-free (b ∷ bs) h

free-tree : {k : Sort} (t : Tree k) → T (free (bytes_of t))
unfolding every bytes_of
free-tree (amount n) = free-digits n
free-tree (variable n) = free-digits n
free-tree (multiple n g t) = free-append n.bytes (around g (42 ∷ []) ++ bytes_of t) (free-digits n) (free-append (around g (42 ∷ [])) (bytes_of t) (free-mark g (42 ∷ []) tt) (free-tree t))
free-tree (negated g t) = free-append (around g (45 ∷ [])) (bytes_of t) (free-mark g (45 ∷ []) tt) (free-tree t)
free-tree (bracketed g t h) =
    free-append (around g (40 ∷ [])) (bytes_of t ++ around h (41 ∷ [])) (free-mark g (40 ∷ []) tt) (free-append (bytes_of t) (around h (41 ∷ [])) (free-tree t) (free-mark h (41 ∷ []) tt))
free-tree (single t) = free-tree t
free-tree (added s g t) = free-append (bytes_of s) (around g (43 ∷ []) ++ bytes_of t) (free-tree s) (free-append (around g (43 ∷ [])) (bytes_of t) (free-mark g (43 ∷ []) tt) (free-tree t))
free-tree (subtracted s g t) = free-append (bytes_of s) (around g (45 ∷ []) ++ bytes_of t) (free-tree s) (free-append (around g (45 ∷ [])) (bytes_of t) (free-mark g (45 ∷ []) tt) (free-tree t))

free-relation : (r : Relation) → T (free (mark_of r))
unfolding every
free-relation at_most = tt
free-relation equal = tt
free-relation at_least = tt

pub free-line : (l : Line) → T (free (line_bytes l))
unfolding line_bytes
free-line l =
    let m = around l.gap (mark_of l.relation) in
    free-append (bytes_of l.left_side) (m ++ bytes_of l.right_side) (free-tree l.left_side) (free-append m (bytes_of l.right_side) (free-mark l.gap (mark_of l.relation) (free-relation l.relation)) (free-tree l.right_side))

-- ---- where the `@` stands

pub not_free : (p z : List ℕ) → T (free (p ++ (64 ∷ z))) → ⊥
unfolding every
not_free [] z h = h
not_free (b ∷ p) z h = not_free p z (both (not (eqb b 64)) (free (p ++ (64 ∷ z))) h).1

-- the first byte that is not as those before it
pub split : (ok : ℕ → Bool) (c : ℕ) → (T (ok c) → ⊥) → (p q y z : List ℕ) → T (every ok p) → T (every ok q) → p ++ (c ∷ y) ≡ q ++ (c ∷ z) → (p ≡ q) × (y ≡ z)
unfolding every
split ok c other [] [] y z h k e = (refl, cc)
split ok c other [] (b ∷ q) y z h k e =
    let f : c ≡ b = cc in
    absurd (other (rw f (both (ok b) (every ok q) k).0))
split ok c other (b ∷ p) [] y z h k e =
    let f : b ≡ c = cc in
    absurd (other (rw (← f) (both (ok b) (every ok p) h).0))
split ok c other (a ∷ p) (b ∷ q) y z h k e =
    let f : a ≡ b = cc in
    let g : p ++ (c ∷ y) ≡ q ++ (c ∷ z) = cc in
    let r = split ok c other p q y z (both (ok a) (every ok p) h).1 (both (ok b) (every ok q) k).1 g in
    (λ i. f i ∷ r.0 i, r.1)
