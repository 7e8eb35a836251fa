-- Demand 3 in the documents' words, for a reader who knows Cassowary and not antt: document 01's of adds and removals, document 02's T-11 of drags. An
-- add optimises in one or two passes, a removal in one, a drop in one for each of its removals (T-05), a suggestion makes a dual pass. A pass is pivots by the steps' own rule, one after the other:
-- `choose_pivot` or `choose_dual_pivot` finds what enters and what leaves, `counted_pivot` makes the pivot and counts it. Its moments are the work before
-- its first pivot and after each of them. `passes_of` gives the passes of a call, each by where it starts, in the steps' own words and with the call's
-- own budget. Of every add, removal and suggestion of a whole run it is then said: no two moments of a pass have the same set of basic symbols; a pass
-- makes fewer pivots than there are ways to choose r of n, which stay the same all along; a budget as large as these ways, summed over the call's
-- passes, is not used up; and 16 is not given. The last section says, of every call, that these are its passes. Nothing here speaks of numbers in rows.
-- `never-stalls` in proofs/stall/Whole.antt proves the first part, `passes-are-the-calls` in proofs/stall/Calls.antt the second.
use Rattle.std.specs.Prelude.{ℕ, zero, suc, ◌+◌, ◌-◌, ◌≤◌, ◌<◌, ◌≡◌, ◌⊎◌, ◌≢◌, Bool, true, false, List, [], ◌∷◌, ◌++◌, eqb, Float}
use Rattle.std.proofs.Math.Option.{Option, none, some}
use Rattle.simplex.specs.Choose.{choose, All}
use Rattle.steps.specs.Number.{zero64, cutoff_fits, ◌-₆₄◌, constant_bound, is_finite, whole_if}
use Rattle.steps.specs.Strength.{clip}
use Rattle.steps.specs.Symbol.{Slack, Symbol, is_restricted}
use Rattle.steps.specs.State.{Term, Relation, equal, Tag, Basic, Constraint, Edit, State}
use Rattle.steps.specs.Work.{Work, Outcome, refused, going, ◌>>=◌, check_finite, marking, find_row, new_symbol}
use Rattle.steps.specs.CreateRow.{Created, create_row, choose_subject, all_dummies}
use Rattle.steps.specs.Optimise.{Goal, the_objective, the_artificial, Choice, ended, stuck, pivot_on, choose_pivot, counted_pivot, optimise, choose_dual_pivot, dual_optimise}
use Rattle.steps.specs.Artificial.{stand_temporary}
use Rattle.steps.specs.Add.{whole_inputs, whole_within, add_created}
use Rattle.steps.specs.Remove.{remove_constraint_effects, drop_marker, purge_tag}
use Rattle.steps.specs.Edit.{edit_terms, shift_constants}
use Rattle.steps.specs.Tests.{first_refusal, add_tests, add_edit_tests, drop_tests, group_of, find_constraint, find_edit, gone_full}
use Rattle.steps.specs.Calls.{Result, begin, remove_stored}
use Rattle.run.specs.Demand.{Call, resets, fetches, adds, removes, drops, adds_edit, removes_edit, suggests, make, after, Whole}

-- ---- a pass

-- by which rule a pass pivots: it optimises a goal, or it is the dual pass
pub data Rule : Type 0 where
  optimising : Goal → Rule
  dual : Rule

-- what the steps choose by it
unfoldable pub chosen : Rule → Work → Choice
chosen (optimising g) w = choose_pivot g w
chosen dual w = choose_dual_pivot w

-- where a pass starts: its rule, what is left of the budget, and the work then
pub record PassStart : Type 0 where
  pub rule : Rule
  pub left : ℕ
  pub work : Work

-- what the steps get with so much left of the budget, and from where a pass starts
unfoldable pub outcome_by : Rule → ℕ → Work → Outcome Work
outcome_by (optimising g) left w = optimise left g w
outcome_by dual left w = dual_optimise left w

unfoldable pub outcome_of : PassStart → Outcome Work
outcome_of p = outcome_by p.rule p.left p.work

-- the work that a step goes on with, none where it refuses
unfoldable pub goes_on : Outcome Work → Option Work
goes_on (refused n p m) = none
goes_on (going w) = some w

-- the work one pivot later, none where the pass has ended, finds no leaving row or no entering symbol, or writes a number that is not finite
unfoldable pub turn : Rule → Work → Option Work
turn r w = elim (chosen r w) [ ended ↦ none | stuck ↦ none | pivot_on l e ↦ goes_on (counted_pivot l e w) ]

-- the work i pivots later, of at most `left`, none where fewer are made
unfoldable pub later : ℕ → ℕ → Rule → Work → Option Work
later zero left r w = some w
later (suc i) zero r w = none
later (suc i) (suc left) r w = elim (turn r w) [ none ↦ none | some v ↦ later i left r v ]

-- the moments of a pass: the work after i of its pivots
unfoldable pub moment : ℕ → PassStart → Option Work
moment i p = later i p.left p.rule p.work

-- how many pivots are made, of at most `left`
unfoldable pub pivots_from : ℕ → Rule → Work → ℕ
pivots_from zero r w = 0
pivots_from (suc left) r w = elim (turn r w) [ none ↦ 0 | some v ↦ suc (pivots_from left r v) ]

-- the pivots that a pass makes
unfoldable pub pivots_of : PassStart → ℕ
pivots_of p = pivots_from p.left p.rule p.work

-- ---- the set of basic symbols

-- the symbol j is basic: it has a row
unfoldable pub is_basic : ℕ → Work → Bool
is_basic j w = elim (find_row j w.tableau.rows) [ none ↦ false | some r ↦ true ]

-- both works hold the same set of basic symbols
abbrev pub SameBasics : Work → Work → Type 0
SameBasics u v = (j : ℕ) → is_basic j u ≡ is_basic j v

-- ---- r, n, and the ways to choose r of n

-- "r rows on restricted symbols"
unfoldable pub restricted_rows : List Basic → ℕ
restricted_rows [] = 0
restricted_rows (b ∷ bs) = elim (is_restricted b.symbol) [ true ↦ suc (restricted_rows bs) | false ↦ restricted_rows bs ]

-- "n live restricted symbols"
unfoldable pub restricted_symbols : List Symbol → ℕ
restricted_symbols [] = 0
restricted_symbols (x ∷ xs) = elim (is_restricted x) [ true ↦ suc (restricted_symbols xs) | false ↦ restricted_symbols xs ]

-- "Demand 3's n and r count the temporary while it stands, and a new constraint's symbols from Add's step 2 on; a removed one's are gone before its pass."
-- They are counted on the work that the pass starts with; `choose` is Pascal's triangle.
unfoldable pub ways : PassStart → ℕ
ways p = choose (restricted_symbols p.work.tableau.symbols) (restricted_rows p.work.tableau.rows)

-- "these ways summed over such a call's passes"
unfoldable pub all_ways : List PassStart → ℕ
all_ways [] = 0
all_ways (p ∷ ps) = ways p + all_ways ps

-- their pivots summed
unfoldable pub all_pivots : List PassStart → ℕ
all_pivots [] = 0
all_pivots (p ∷ ps) = pivots_of p + all_pivots ps

-- ---- the passes of a call

-- the pass on the objective of what the steps have come to, with what is left of the budget; none where they refuse before
unfoldable pub objective_pass : ℕ → (Work → Work) → Outcome Work → List PassStart
objective_pass budget f (refused n p m) = []
objective_pass budget f (going v) = record { rule = optimising the_objective; left = budget - v.pivots; work = f v } ∷ []

-- Add's step 6: the pass on the artificial objective, of a row without a subject that does not hold dummies alone
unfoldable pub artificial_pass : ℕ → Created → List PassStart
artificial_pass budget c =
    let standing : Work = stand_temporary (new_symbol Slack c.work) (record { work = c.work; row = c.row }) in
    elim (choose_subject c) [
      | some s ↦ []
      | none ↦ elim (all_dummies c) [ true ↦ [] | false ↦ record { rule = optimising the_artificial; left = budget - standing.pivots; work = standing } ∷ [] ]
    ]

-- Add's passes: step 6's, if it comes to that, and step 7's
unfoldable pub add_passes : ℕ → List Term → Float → Relation → Work → List PassStart
add_passes budget terms constant relation w =
    let c : Created = create_row terms constant relation (marking (whole_if (whole_inputs terms constant relation)) w) in
    elim (check_finite c.work) [
      | refused n p m ↦ []
      | going v ↦ artificial_pass budget c ++ objective_pass budget (λ v. v) (add_created budget c)
    ]

-- Remove's pass, with both tag symbols gone
unfoldable pub remove_passes : ℕ → Tag → Float → Work → List PassStart
remove_passes budget tag strength w = objective_pass budget (purge_tag tag) (check_finite (remove_constraint_effects tag strength w) >>= drop_marker tag.marker)

-- the passes of removals one after the other: a removal's, and if it is accepted those of the others, with what it left of the budget
unfoldable pub drop_passes : List Constraint → ℕ → State → List PassStart
drop_passes [] budget s = []
drop_passes (c ∷ cs) budget s =
    let r : Result = remove_stored c.number c budget s in
    remove_passes budget c.tag c.strength (begin s)
    ++ elim (eqb r.answer.number 0) [ false ↦ [] | true ↦ drop_passes cs (budget - r.answer.pivots) r.state ]

-- Suggest's dual pass, from the rows that the new value has shifted; none where a number is not finite
unfoldable pub suggest_passes : ℕ → Edit → Float → Work → List PassStart
suggest_passes budget e new w =
    let shifted : Work = shift_constants e.tag (new -₆₄ e.suggestion) (marking (whole_if (whole_within constant_bound new)) w) in
    elim (check_finite shifted) [ refused n p m ↦ [] | going v ↦ record { rule = dual; left = budget; work = v } ∷ [] ]

-- a removal that 25 refuses makes none
unfoldable pub passes_unless : List Term → State → List PassStart → List PassStart
passes_unless ts s ps = elim (gone_full ts s) [ true ↦ [] | false ↦ ps ]

-- the passes of a call on a state: none where its tests refuse it
unfoldable pub passes_of : Call → State → List PassStart
passes_of (resets z) s = []
passes_of fetches s = []
passes_of (adds g n ts k r b) s = elim (first_refusal (add_tests g n ts k r s)) [ some x ↦ [] | none ↦ add_passes b ts k r (begin s) ]
passes_of (removes n b) s =
    elim (find_constraint n s.constraints) [ none ↦ [] | some c ↦ passes_unless c.terms s (remove_passes b c.tag c.strength (begin s)) ]
passes_of (drops g b) s = elim (first_refusal (drop_tests g s)) [ some x ↦ [] | none ↦ drop_passes (group_of g s.constraints) b s ]
passes_of (adds_edit v k b) s =
    elim (first_refusal (add_edit_tests v (clip k) s)) [ some x ↦ [] | none ↦ add_passes b (edit_terms v) zero64 (equal (clip k)) (begin s) ]
passes_of (removes_edit v b) s =
    elim (find_edit v s.edits) [ none ↦ [] | some e ↦ passes_unless (edit_terms v) s (remove_passes b e.tag e.strength (begin s)) ]
passes_of (suggests v x b) s =
    elim (is_finite x) [ false ↦ [] | true ↦ elim (find_edit v s.edits) [ none ↦ [] | some e ↦ suggest_passes b e x (begin s) ] ]

-- an add or a removal, of a constraint, an edit or a group, or a suggestion, with its budget
unfoldable pub budget_of : Call → Option ℕ
budget_of (resets z) = none
budget_of fetches = none
budget_of (adds g n ts k r b) = some b
budget_of (removes n b) = some b
budget_of (drops g b) = some b
budget_of (adds_edit v k b) = some b
budget_of (removes_edit v b) = some b
budget_of (suggests v x b) = some b

-- ---- demand 3

-- "no optimise pass of an add or a removal holds the same set of basic symbols twice"; "a dual pass then never holds the same basic set twice"
abbrev pub NoReturn : PassStart → Type 0
NoReturn p = (i j : ℕ) (u v : Work) → i < j → moment i p ≡ some u → moment j p ≡ some v → SameBasics u v → ⊥

-- n and r are the same at every moment of the pass
abbrev pub Level : PassStart → Type 0
Level p =
    (i : ℕ) (u : Work)
    → moment i p ≡ some u
    → (restricted_symbols u.tableau.symbols ≡ restricted_symbols p.work.tableau.symbols) × (restricted_rows u.tableau.rows ≡ restricted_rows p.work.tableau.rows)

-- "it makes fewer pivots than there are ways to choose r of n"
abbrev pub Fewer : PassStart → Type 0
Fewer p = pivots_of p < ways p

-- "a budget no smaller than these ways summed over such a call's passes is never the reason for its refusal"
-- 14: "a pass needs a pivot and the budget is used"
abbrev pub Enough : ℕ → Call → State → Type 0
Enough b c s = all_ways (passes_of c s) ≤ b → (make c s).answer.number ≢ 14

-- "and 16 is never given": "a dual pass finds no entering symbol"
abbrev pub SomeWay : Call → State → Type 0
SomeWay c s = (make c s).answer.number ≢ 16

-- all of it, of a call with the budget b on a state
pub record Demand3 (b : ℕ) (c : Call) (s : State) : Type 0 where
  pub no_return : All NoReturn (passes_of c s)
  pub level : All Level (passes_of c s)
  pub fewer : All Fewer (passes_of c s)
  pub enough : Enough b c s
  pub some-way : SomeWay c s

-- "In a whole run", "from a reset with this cutoff": every call before answered yes, and so does this one
abbrev pub NeverStalls : Type 0
NeverStalls =
    (cutoff : Float) → cutoff_fits cutoff ≡ true
    → (cs : List Call) (c : Call) (b : ℕ) → budget_of c ≡ some b → Whole cutoff (c ∷ cs) → Demand3 b c (after cutoff cs).state

-- ---- a drop, all its passes together

-- two passes hold no set of basic symbols in common
abbrev pub Different : PassStart → PassStart → Type 0
Different p q = (i j : ℕ) (u v : Work) → moment i p ≡ some u → moment j q ≡ some v → SameBasics u v → ⊥

-- no set of basic symbols comes twice, within a pass or in two of them
abbrev pub NoSetTwice : List PassStart → Type 0
NoSetTwice [] = Unit
NoSetTwice (p ∷ ps) = NoReturn p × All (Different p) ps × NoSetTwice ps

-- "Demand 3 reads over the passes of all the removals together, and demand 2's least error holds at the end of the drop."
abbrev pub NeverReturns : Type 0
NeverReturns = (cutoff : Float) → cutoff_fits cutoff ≡ true → (cs : List Call) (g b : ℕ) → Whole cutoff (drops g b ∷ cs) → NoSetTwice (passes_of (drops g b) (after cutoff cs).state)

-- ---- these are the call's passes: said of every call, whole or not

-- a pass has one moment for its start and one for each of its pivots
abbrev pub Counted : PassStart → Type 0
Counted p = (i : ℕ) → (i ≤ pivots_of p → (u : Work) × (moment i p ≡ some u)) × (pivots_of p < i → moment i p ≡ none)

-- the number by which steps refuse, 0 where they go on
unfoldable pub refusal_of : Outcome Work → ℕ
refusal_of (refused n p m) = n
refusal_of (going w) = 0

-- the pass needs a pivot and its budget is used
abbrev pub UsedUp : PassStart → Type 0
UsedUp p = refusal_of (outcome_of p) ≡ 14

-- one of the passes is so
abbrev pub Some : (PassStart → Type 0) → List PassStart → Type 0
Some Q [] = ⊥
Some Q (p ∷ ps) = Q p ⊎ Some Q ps

-- each pass has what those before it left of the budget
abbrev pub Shares : ℕ → List PassStart → Type 0
Shares b [] = Unit
Shares b (p ∷ ps) = (p.left ≡ b) × Shares (b - pivots_of p) ps

-- the passes share the call's budget, the pivots that it answers are theirs, and it answers 14 only if one of them used the budget up
pub record TheCalls (b : ℕ) (c : Call) (s : State) : Type 0 where
  pub counted : All Counted (passes_of c s)
  pub shares : Shares b (passes_of c s)
  pub pivots : (make c s).answer.pivots ≡ all_pivots (passes_of c s)
  pub used-up : (make c s).answer.number ≡ 14 → Some UsedUp (passes_of c s)
