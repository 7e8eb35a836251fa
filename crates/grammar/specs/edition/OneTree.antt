-- No line of the second edition has two trees.
use Rattle.std.specs.Prelude.{ℕ, zero, suc, ◌≡◌, refl, Bool, true, false, cond, List, [], ◌∷◌, ◌++◌, T, eqb, leb}
use Rattle.std.proofs.Common.{sym, ap, ap₂, ◌∙◌, subst, append_assoc, append-nil, arith, ne_eqb, leb→le}
use Rattle.std.proofs.Math.Option.{Option, none, some}
use Rattle.grammar.specs.Bytes.{is_digit}
use Rattle.grammar.specs.Trees.{Digits, Gap, Line, all_digits, are_digits, spaces, around, line_bytes}
use Rattle.grammar.specs.Pieces.{both}
use Rattle.grammar.specs.OneTree.{Same, one-tree-spaced}
use Rattle.grammar.specs.edition.Endings.{Ending, Second, numbers_of, ending_bytes, second_bytes}
use Rattle.grammar.specs.edition.Follow.{every, no_mark, free}
use Rattle.grammar.specs.edition.Free.{and_both, free-append, free-spaces, free-line, not_free, split}

-- ---- bytes without their spaces

unfoldable squeezed : List ℕ → List ℕ
squeezed [] = []
squeezed (b ∷ w) = cond (eqb b 32) (squeezed w) (b ∷ squeezed w)

squeezed-append : (v w : List ℕ) → squeezed (v ++ w) ≡ squeezed v ++ squeezed w
unfolding squeezed
squeezed-append [] w = refl
squeezed-append (b ∷ v) w = by (eqb b 32) (squeezed-append v w)
  where
    by : (t : Bool) → squeezed (v ++ w) ≡ squeezed v ++ squeezed w → cond t (squeezed (v ++ w)) (b ∷ squeezed (v ++ w)) ≡ cond t (squeezed v) (b ∷ squeezed v) ++ squeezed w
    by true e = e
    by false e = ap (λ (l : List ℕ). b ∷ l) e

squeezed-spaces : (n : ℕ) → squeezed (spaces n) ≡ []
unfolding squeezed
squeezed-spaces zero = refl
squeezed-spaces (suc n) = squeezed-spaces n

digits-squeezed : (bs : List ℕ) → T (all_digits bs) → (squeezed bs ≡ bs) × T (every is_digit bs)
unfolding squeezed all_digits every
digits-squeezed [] h = (refl, tt)
digits-squeezed (b ∷ bs) h =
    let d = both (is_digit b) (all_digits bs) h in
    let g = leb→le 48 b (both (leb 48 b) (leb b 57) d.0).0 in
    let r = digits-squeezed bs d.1 in
    (rw (ne_eqb b 32 (λ e. omega arith)) (ap (λ (l : List ℕ). b ∷ l) r.0), and_both (is_digit b) (every is_digit bs) d.0 r.1)

all_of : (d : Digits) → T (all_digits d.bytes)
unfolding all_digits
all_of d = by d.bytes d.are-digits
  where
    by : (bs : List ℕ) → T (are_digits bs) → T (all_digits bs)
    by [] h = absurd h
    by (b ∷ bs) h = h

-- strength, comma, group
squeezed-numbers : (j : ℕ) (e : Ending) → squeezed (spaces j ++ numbers_of e) ≡ e.strength.bytes ++ (44 ∷ e.group.bytes)
unfolding squeezed
squeezed-numbers j e =
    let d = digits-squeezed e.strength.bytes (all_of e.strength) in
    let g = digits-squeezed e.group.bytes (all_of e.group) in
    squeezed-append (spaces j) (numbers_of e) ∙ (ap (λ (l : List ℕ). l ++ squeezed (numbers_of e)) (squeezed-spaces j)
    ∙ (squeezed-append e.strength.bytes (around e.comma (44 ∷ []) ++ e.group.bytes)
    ∙ ap₂ (λ (x y : List ℕ). x ++ y) d.0 (squeezed-append (around e.comma (44 ∷ [])) e.group.bytes ∙ ap₂ (λ (x y : List ℕ). x ++ y) (comma-alone e.comma) g.0)))
  where
    comma-alone : (c : Gap) → squeezed (around c (44 ∷ [])) ≡ 44 ∷ []
    comma-alone c = squeezed-append (spaces c.before) (44 ∷ spaces c.after) ∙ (ap (λ (l : List ℕ). l ++ (44 ∷ squeezed (spaces c.after))) (squeezed-spaces c.before) ∙ ap (λ (l : List ℕ). 44 ∷ l) (squeezed-spaces c.after))

-- ---- the tree

-- an ending's digits
abbrev pub SameEnding : Option Ending → Option Ending → Type 0
SameEnding none none = Unit {0}
SameEnding none (some f) = ⊥
SameEnding (some e) none = ⊥
SameEnding (some e) (some f) = (e.strength.bytes ≡ f.strength.bytes) × (e.group.bytes ≡ f.group.bytes)

mark-first : (l : Line) (e : Ending) → line_bytes l ++ ending_bytes (some e) ≡ (line_bytes l ++ spaces e.mark.before) ++ (64 ∷ (spaces e.mark.after ++ numbers_of e))
mark-first l e = by (line_bytes l) (numbers_of e) e.mark.before e.mark.after
  where
    by : (v w : List ℕ) (b a : ℕ) → v ++ ((spaces b ++ ((64 ∷ []) ++ spaces a)) ++ w) ≡ (v ++ spaces b) ++ (64 ∷ (spaces a ++ w))
    by v w b a = simp append_assoc

free-head : (l : Line) (n : ℕ) → T (free (line_bytes l ++ spaces n))
free-head l n = free-append (line_bytes l) (spaces n) (free-line l) (free-spaces n)

ending-or-not : (l m : Line) (e : Ending) → line_bytes l ++ [] ≡ line_bytes m ++ ending_bytes (some e) → ⊥
ending-or-not l m e q =
    not_free (line_bytes m ++ spaces e.mark.before) (spaces e.mark.after ++ numbers_of e)
    (subst (λ (w : List ℕ). T (free w)) (sym (append-nil (line_bytes l)) ∙ (q ∙ mark-first m e)) (free-line l))

trees : (l m : Line) (x y : Option Ending) → line_bytes l ++ ending_bytes x ≡ line_bytes m ++ ending_bytes y → Same l m × SameEnding x y
trees l m none none q = (one-tree-spaced l m 0 0 q, tt)
trees l m none (some f) q = absurd (ending-or-not l m f q)
trees l m (some e) none q = absurd (ending-or-not m l e (sym q))
trees l m (some e) (some f) q =
    let h = split no_mark 64 (λ z. z) (line_bytes l ++ spaces e.mark.before) (line_bytes m ++ spaces f.mark.before) (spaces e.mark.after ++ numbers_of e) (spaces f.mark.after ++ numbers_of f)
    (free-head l e.mark.before) (free-head m f.mark.before) (sym (mark-first l e) ∙ (q ∙ mark-first m f)) in
    let g = sym (squeezed-numbers e.mark.after e) ∙ (ap squeezed h.1 ∙ squeezed-numbers f.mark.after f) in (
      one-tree-spaced l m e.mark.before f.mark.before h.0,
      split is_digit 44 (λ z. z) e.strength.bytes f.strength.bytes e.group.bytes f.group.bytes (digits-squeezed e.strength.bytes (all_of e.strength)).1 (digits-squeezed f.strength.bytes (all_of f.strength)).1 g,
    )

pub one-tree : (l m : Second) → second_bytes l ≡ second_bytes m → Same l.line m.line × SameEnding l.ending m.ending
unfolding second_bytes
one-tree l m e = trees l.line m.line l.ending m.ending e
