-- What the code's flags and cells stand for: a mark of the steps, and what an operation leaves at a cell's place.
use Rattle.std.specs.Prelude.{◌≡◌, Bool, true, false, cond, ◌&&◌, refl, Float}
use Rattle.steps.specs.Number.{◌+₆₄◌, ◌*₆₄◌, near_zero, Mark, all_whole, not_whole, not_finite, worse, whole_if}
use Rattle.steps.specs.Symbol.{absent}
use Rattle.steps.specs.Row.{Cell, kept, wrote, goes_if_near_zero, insert_cell, insert_times}
use Rattle.rows.specs.declared.number.Wrote.{Wrote}
use Rattle.rows.specs.declared.cell.Left.{Left}
use Rattle.rows.specs.declared.cell.Left.TheVariants.{Kept, Written}

unfoldable pub mark_of : Wrote → Mark
mark_of w = cond w.finite (whole_if w.whole) not_finite

unfoldable pub clean : Wrote
clean = record { finite = true; whole = true }

unfoldable pub join : Wrote → Wrote → Wrote
join v w = record { finite = v.finite && w.finite; whole = v.whole && w.whole }

unfoldable pub cell_of : Left → Cell
cell_of (Kept c) = kept c
cell_of (Written c) = wrote c

pub mark-clean : mark_of clean ≡ all_whole
unfolding mark_of clean whole_if
mark-clean = refl

pub mark-join : (v w : Wrote) → mark_of (join v w) ≡ worse (mark_of v) (mark_of w)
unfolding mark_of join whole_if worse
mark-join v w = by_cases v.finite v.whole w.finite w.whole
  where
    by_cases : (a b c d : Bool) → cond (a && c) (cond (b && d) all_whole not_whole) not_finite ≡ worse (cond a (cond b all_whole not_whole) not_finite) (cond c (cond d all_whole not_whole) not_finite)
    by_cases false b c d = refl
    by_cases true true true d = refl
    by_cases true false true true = refl
    by_cases true false true false = refl
    by_cases true true false d = refl
    by_cases true false false d = refl

pub worse-unit : (m : Mark) → worse m all_whole ≡ m
unfolding worse
worse-unit all_whole = refl
worse-unit not_whole = refl
worse-unit not_finite = refl

pub worse-assoc : (l m n : Mark) → worse (worse l m) n ≡ worse l (worse m n)
unfolding worse
worse-assoc all_whole m n = refl
worse-assoc not_finite m n = refl
worse-assoc not_whole all_whole n = refl
worse-assoc not_whole not_finite n = refl
worse-assoc not_whole not_whole all_whole = refl
worse-assoc not_whole not_whole not_whole = refl
worse-assoc not_whole not_whole not_finite = refl

-- the flags of two writes, from the marks of each
pub joined-mark : (v w : Wrote) {t : Wrote} {m n : Mark} → t ≡ join v w → mark_of v ≡ m → mark_of w ≡ n → mark_of t ≡ worse m n
joined-mark v w h p q = rw (h, mark-join, p, q)

-- ---- the steps' cells by their tests, as the code goes

pub insert_cell-is : (cutoff old k : Float) → insert_cell cutoff old k ≡ cond (absent old) (cond (near_zero cutoff k) (kept old) (wrote k)) (wrote (goes_if_near_zero cutoff (old +₆₄ k)))
unfolding insert_cell
insert_cell-is cutoff old k = go (absent old) (near_zero cutoff k)
  where
    go : (a n : Bool) → elim a [ true ↦ elim n [ true ↦ kept old | false ↦ wrote k ] | false ↦ wrote (goes_if_near_zero cutoff (old +₆₄ k)) ] ≡ cond a (cond n (kept old) (wrote k)) (wrote (goes_if_near_zero cutoff (old +₆₄ k)))
    go true true = refl
    go true false = refl
    go false n = refl

pub insert_times-is : (cutoff k o c : Float) → insert_times cutoff k o c ≡ cond (absent o) (kept c) (insert_cell cutoff c (o *₆₄ k))
unfolding insert_times
insert_times-is cutoff k o c = go (absent o)
  where
    go : (a : Bool) → elim a [ true ↦ kept c | false ↦ insert_cell cutoff c (o *₆₄ k) ] ≡ cond a (kept c) (insert_cell cutoff c (o *₆₄ k))
    go true = refl
    go false = refl
