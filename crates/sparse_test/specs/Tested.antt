-- The test as the code runs it, loop by loop.
use Rattle.std.specs.Prelude.{ℕ, ◌+◌, ◌-◌, ◌/◌, ◌%◌, Bool, true, not, ◌&&◌, ◌||◌, cond, List, eqb, leb, ltb, Float, get_or, set, replicate}
use Rattle.std.proofs.Math.Option.{none, some}
use Rattle.std.specs.Float.{nan}
use Rattle.std.specs.Float.Ieee.{is_nan, ne, lt}
use Rattle.laws.specs.Loops.{run}
use Rattle.laws.specs.Lists.{list_of, all_in, sum_in}
use Rattle.layout.specs.Layout.{kind_of, comparison_in, term_room}
use Rattle.steps.specs.Number.{is_finite, zero64, cutoff_fits}
use Rattle.steps.specs.Symbol.{Symbol, absent}
use Rattle.steps.specs.State.{Tag}
use Rattle.steps.specs.Tests.{member}
use Rattle.steps.specs.Strength.{required}
use Rattle.steps.specs.Readable.{tag_kinds, marker_fits}
use Rattle.layout.specs.cells.Names.{row_span, place_room}
use Rattle.layout.specs.cells.Cells.{ascends_of}
use Rattle.rows.specs.places.Finding.{place_in}
use Rattle.rows.specs.places.Shares.{Shares, shares, finite_in}
use Rattle.sparse.specs.Places.{next_id_at, ids_at, variable_numbers_at, variable_uses_at, constraint_numbers_at, constraint_groups_at, gone_numbers_at, kinds_at, row_places_at, variable_places_at, changed_at, constraint_markers_at, constraint_others_at, term_counts_at, edit_variables_at, edit_markers_at, edit_others_at, terms_at, relations_at, constants_at, old_values_at, objective_at, cutoff_at, constraint_strengths_at, edit_strengths_at, suggestions_at, coefficients_at, constraint_constants_at}
use Rattle.sparse.specs.Lookup.{place_from}
use Rattle.sparse.specs.Sparse.{Sparse, symbol_count, row_count, cell_count, variable_count, constraint_count, edit_count, gone_count}
use Rattle.sparse_test.specs.Stretch.{up_in, most_in, above_zero_in}
use Rattle.sparse_test.specs.Reads.{counts_fit}

-- the least number that no u32 holds
abbrev pub above_u32 : ℕ
above_u32 = 4294967296

-- ---- words: ids and numbers in order, groups, gone numbers

unfoldable pub words_fit : List ℕ → ℕ → ℕ → ℕ → ℕ → Bool
words_fit w k v c g =
    up_in w (ids_at + 1) k 1 (get_or w next_id_at 0)
    && up_in w variable_numbers_at v 0 above_u32
    && up_in w constraint_numbers_at c 0 above_u32
    && above_zero_in w constraint_groups_at c
    && up_in w gone_numbers_at g 0 above_u32

-- ---- bytes: counts of terms; rows' symbols in order

unfoldable pub bytes_fit : List ℕ → ℕ → ℕ → ℕ → Bool
bytes_fit b k r c = most_in b term_counts_at c term_room && up_in b (row_places_at + 1) r 1 (k + 1)

-- ---- kinds

unfoldable pub kind_at : List ℕ → ℕ → ℕ
kind_at b p = get_or b (kinds_at + p) 0

unfoldable pub externals_in : List ℕ → ℕ → Bool
externals_in b v = all_in (λ i. eqb (kind_at b (get_or b (variable_places_at + i) 0)) 0) 0 v

abbrev pub kind_symbol : ℕ → Symbol
kind_symbol k = record { id = 0; kind = kind_of k }

-- a tag whose marker has the kind m, and whose other symbol, if p is not 0, the kind o
unfoldable pub tag_of_kinds : ℕ → ℕ → ℕ → Tag
tag_of_kinds m p o = record { marker = kind_symbol m; other = cond (eqb p 0) none (some (kind_symbol o)) }

-- "each tag's kinds are those Add gives", of n tags
unfoldable pub tags_fit : List ℕ → List Float → ℕ → ℕ → ℕ → ℕ → Bool
tags_fit b r strengths m o n = all_in (λ i. tag_kinds (get_or r (strengths + i) nan) (tag_of_kinds (kind_at b (get_or b (m + i) 0)) (get_or b (o + i) 0) (kind_at b (get_or b (o + i) 0)))) 0 n

-- the kind of each constraint's marker is that of its relation
unfoldable pub markers_fit : List ℕ → ℕ → Bool
markers_fit b c = all_in (λ i. marker_fits (comparison_in (get_or b (relations_at + i) 0)) (kind_symbol (kind_at b (get_or b (constraint_markers_at + i) 0)))) 0 c

-- an edit's marker is an Error
unfoldable pub errors_in : List ℕ → ℕ → Bool
errors_in b e = all_in (λ i. eqb (kind_at b (get_or b (edit_markers_at + i) 0)) 2) 0 e

-- ---- owners: a table has a code for each place, and each owner claims its symbols' places there

-- a live symbol's code is one more than its kind, since 0 is the code of a place that is claimed; 9 is no symbol's
unfoldable pub code_of : ℕ → ℕ
code_of kind = cond (leb kind 3) (kind + 1) 9

unfoldable pub code_at : List ℕ → ℕ → ℕ → ℕ
code_at b k p = cond (leb 1 p && leb p k) (code_of (kind_at b p)) 9

unfoldable pub codes : List ℕ → ℕ → List ℕ
codes b k = list_of place_room (code_at b k)

-- the place p, where the code x is expected
unfoldable pub claim : ℕ → ℕ → Shares → Shares
claim p x s = shares (set s.left p 0) (s.ok && eqb (get_or s.left p 0) x)

unfoldable pub claim_other : ℕ → Shares → Shares
claim_other p s = cond (eqb p 0) s (claim p 3 s)

unfoldable pub claim_variables : List ℕ → ℕ → Shares → Shares
claim_variables b v s = run (λ i z. claim (get_or b (variable_places_at + i) 0) 1 z) 0 v s

-- an inequality's marker is its slack; an equality's is an Error, or a Dummy where there is no other symbol
unfoldable pub marker_code : ℕ → ℕ → ℕ
marker_code relation o = cond (eqb relation 1) (cond (eqb o 0) 4 3) 2

unfoldable pub claim_constraints : List ℕ → ℕ → Shares → Shares
claim_constraints b c s = run (λ i z. claim_other (get_or b (constraint_others_at + i) 0) (claim (get_or b (constraint_markers_at + i) 0) (marker_code (get_or b (relations_at + i) 0) (get_or b (constraint_others_at + i) 0)) z)) 0 c s

unfoldable pub claim_edits : List ℕ → ℕ → Shares → Shares
claim_edits b e s = run (λ i z. claim_other (get_or b (edit_others_at + i) 0) (claim (get_or b (edit_markers_at + i) 0) 3 z)) 0 e s

-- there is no other symbol exactly if the constraint is required
unfoldable pub softly : Float → ℕ → Bool
softly strength o = cond (eqb o 0) (not (lt strength required)) (lt strength required)

unfoldable pub constraint_fits : List ℕ → List Float → ℕ → Bool
constraint_fits b r c = all_in (λ i. softly (get_or r (constraint_strengths_at + i) nan) (get_or b (constraint_others_at + i) 0) && leb (get_or b (relations_at + i) 0) 2) 0 c

unfoldable pub edit_fits : List ℕ → List Float → ℕ → Bool
edit_fits b r e = all_in (λ i. lt (get_or r (edit_strengths_at + i) nan) required && not (eqb (get_or b (edit_others_at + i) 0) 0)) 0 e

-- what is left of the codes after the variables, after the constraints, after the edits
abbrev pub after₁ : List ℕ → ℕ → ℕ → Shares
after₁ b k v = claim_variables b v (shares (codes b k) true)

abbrev pub after₂ : List ℕ → ℕ → ℕ → ℕ → Shares
after₂ b k v c = claim_constraints b c (shares (after₁ b k v).left true)

abbrev pub after₃ : List ℕ → ℕ → ℕ → ℕ → ℕ → Shares
after₃ b k v c e = claim_edits b e (shares (after₂ b k v c).left true)

unfoldable pub claimed : List ℕ → ℕ → ℕ → ℕ → ℕ → List ℕ
claimed b k v c e = (after₃ b k v c e).left

unfoldable pub owned_fit : List ℕ → List Float → ℕ → ℕ → ℕ → ℕ → Bool
owned_fit b r k v c e =
    ((after₁ b k v).ok && most_in b changed_at v 1)
    && ((after₂ b k v c).ok && constraint_fits b r c)
    && ((after₃ b k v c e).ok && edit_fits b r e)
    && all_in (λ i. eqb (get_or (claimed b k v c e) (1 + i) 0) 0) 0 k

-- ---- finite numbers, and a cutoff that reset takes

unfoldable pub olds_fit : List Float → ℕ → Bool
olds_fit r v = all_in (λ i. is_finite (get_or r (old_values_at + i) nan) || is_nan (get_or r (old_values_at + i) nan)) 0 v

-- "a variable whose number is among them has NaN for its old value", which alone differs from itself
unfoldable pub returned_fit : List ℕ → List Float → ℕ → ℕ → Bool
returned_fit w r v g = all_in (λ i. not (ltb (place_from w gone_numbers_at g (get_or w (variable_numbers_at + i) 0)) g) || ne (get_or r (old_values_at + i) nan) (get_or r (old_values_at + i) nan)) 0 v

-- m terms
unfoldable pub reals_fit : List Float → ℕ → ℕ → ℕ → ℕ → ℕ → ℕ → Bool
reals_fit f k r v c e m =
    finite_in f (constants_at + 1) r
    && olds_fit f v
    && finite_in f (objective_at + 1) k
    && finite_in f constraint_strengths_at c
    && finite_in f edit_strengths_at e
    && finite_in f suggestions_at e
    && finite_in f coefficients_at m
    && finite_in f constraint_constants_at c
    && cutoff_fits (get_or f cutoff_at nan)

-- ---- variables by the places of their symbols

-- which of v variables has its symbol at place p; v if none
unfoldable pub index_in : List ℕ → ℕ → ℕ → ℕ
index_in b v p = place_in (λ j. get_or b (variable_places_at + j) 0) v p

unfoldable pub number_in : List ℕ → List ℕ → ℕ → ℕ → ℕ
number_in w b v p = cond (ltb (index_in b v p) v) (get_or w (variable_numbers_at + index_in b v p) 0) 0

unfoldable pub edits_up : List ℕ → List ℕ → ℕ → ℕ → Bool
edits_up w b v e = all_in (λ i. ltb (number_in w b v (get_or b (edit_variables_at + (i - 1)) 0)) (number_in w b v (get_or b (edit_variables_at + i) 0))) 1 e

-- uses: each variable has as many as terms and edits name it; names that are none's are counted last

unfoldable pub tally : ℕ → List ℕ → List ℕ
tally p l = set l p (get_or l p 0 + 1)

-- n of them from place a on
unfoldable pub count_uses : List ℕ → ℕ → ℕ → ℕ → List ℕ → List ℕ
count_uses b v a n l = run (λ j z. tally (index_in b v (get_or b (a + j) 0)) z) 0 n l

unfoldable pub no_uses : List ℕ
no_uses = replicate 33 0

unfoldable pub all_uses : List ℕ → ℕ → ℕ → ℕ → List ℕ
all_uses b v e m = count_uses b v edit_variables_at e (count_uses b v terms_at m no_uses)

unfoldable pub uses_are : List ℕ → List ℕ → ℕ → Bool
uses_are w l v = all_in (λ i. eqb (get_or w (variable_uses_at + i) 0) (get_or l i 0)) 0 v && eqb (get_or l v 0) 0

unfoldable pub uses_fit : List ℕ → List ℕ → ℕ → ℕ → ℕ → Bool
uses_fit w b v e m = uses_are w (all_uses b v e m) v

-- ---- the tableau

-- p is a live symbol's place, and no row's
unfoldable pub open_at : List ℕ → ℕ → ℕ → ℕ → Bool
open_at b k r p = leb 1 p && leb p k && not (member p (list_of r λ i. get_or b (row_places_at + 1 + i) 0))

-- "no basic symbol is a cell of any row", the objective among the rows
unfoldable pub costs_fit : List Float → List ℕ → ℕ → Bool
costs_fit f b r = all_in (λ i. absent (get_or f (objective_at + get_or b (row_places_at + 1 + i) 0) nan)) 0 r

unfoldable pub rows_in : List ℕ → ℕ → ℕ → Bool
rows_in keys n r = all_in (λ j. leb 1 (get_or keys j 0 / row_span) && leb (get_or keys j 0 / row_span) r) 0 n

unfoldable pub open_in : List ℕ → List ℕ → ℕ → ℕ → ℕ → Bool
open_in keys b n k r = all_in (λ j. open_at b k r (get_or keys j 0 % row_span)) 0 n

unfoldable pub keys_fit : List ℕ → List ℕ → ℕ → ℕ → ℕ → Bool
keys_fit keys b n k r = ascends_of keys n && rows_in keys n r && open_in keys b n k r

unfoldable pub values_fit : List Float → ℕ → Bool
values_fit vals n = all_in (λ j. ne (get_or vals j nan) zero64 && is_finite (get_or vals j nan)) 0 n

-- ---- the test

unfoldable pub term_count : List ℕ → ℕ → ℕ
term_count b c = sum_in (λ i. get_or b (term_counts_at + i) 0) 0 c

unfoldable pub content_fits : Sparse → Bool
content_fits t =
    owned_fit t.bytes t.reals (symbol_count t) (variable_count t) (constraint_count t) (edit_count t)
    && (reals_fit t.reals (symbol_count t) (row_count t) (variable_count t) (constraint_count t) (edit_count t) (term_count t.bytes (constraint_count t))
    && edits_up t.words t.bytes (variable_count t) (edit_count t)
    && uses_fit t.words t.bytes (variable_count t) (edit_count t) (term_count t.bytes (constraint_count t))
    && costs_fit t.reals t.bytes (row_count t)
    && keys_fit t.keys t.bytes (cell_count t) (symbol_count t) (row_count t)
    && values_fit t.values (cell_count t)
    && returned_fit t.words t.reals (variable_count t) (gone_count t))

unfoldable pub tested : Sparse → Bool
tested t =
    counts_fit t
    && (words_fit t.words (symbol_count t) (variable_count t) (constraint_count t) (gone_count t) && (bytes_fit t.bytes (symbol_count t) (row_count t) (constraint_count t) && content_fits t))
