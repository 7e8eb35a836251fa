-- A suggestion keeps the invariant of a whole run, whatever it answers. Assumes nothing.
use Rattle.std.specs.Prelude.{◌≡◌, Bool, true, false, not, ℕ, ◌^◌, ◌<◌, eqb, ℤ, neg_ℤ, ◌-ℤ◌, Float}
use Rattle.std.proofs.Math.Path.{refl, sym, ap, ap₂, subst}
use Rattle.std.proofs.Common.{◌∙◌, arith}
use Rattle.std.proofs.Math.Bool.{cond}
use mathlib.Core.List.{List, [], ◌∷◌, map}
use Rattle.std.proofs.Math.Option.{none, some}
use Rattle.std.specs.Float.{nan, inf, fin}
use Rattle.std.specs.Float.Ieee.{neg}
use Rattle.laws.specs.Z.{◌≺◌}
use Rattle.laws.specs.Ring.{ring, v, ⊟◌, ◌⊟⊟◌}
use Rattle.laws.specs.exact.Whole.{Zb, val, isz-val, neg-z, neg-b, sub-b}
use Rattle.simplex.specs.Ord.{0ℤ}
use Rattle.simplex.specs.Lin.{Vec, δ, plus}
use Rattle.simplex.specs.Choose.{All}
use Rattle.simplex.specs.Opt.{slack}
use Rattle.simplex.specs.Pass.{State as StateZ}
use Rattle.simplex.specs.Form.{Form, eq, eq! }
use Rattle.simplex.specs.Problem.{Con, Meets, Models}
use Rattle.simplex.specs.Drag.{edit}
use Rattle.steps.specs.Number.{◌-₆₄◌, constant_bound, Mark, all_whole, not_whole, not_finite, whole_if}
use Rattle.steps.specs.Symbol.{Symbol}
use Rattle.steps.specs.State.{strength_of, Tag, Edit, State}
use Rattle.steps.specs.Work.{Work, Outcome, refused, going, ◌>>=◌, refuse, check_finite, marking}
use Rattle.steps.specs.Optimise.{dual_optimise}
use Rattle.steps.specs.Add.{whole_within}
use Rattle.steps.specs.Edit.{shift_of, shift_rows, shift_constants, suggest_steps}
use Rattle.steps.specs.Calls.{Result, begin, refused_by, accepted_as}
use Rattle.simplex.specs.bridge.Nums.{finite≢, worse-r, constant_bound-z, whole-if}
use Rattle.simplex.specs.bridge.Table.{ReadsWork}
use Rattle.simplex.proofs.bridge.Looks.{slack-in}
use Rattle.simplex.specs.bridge.Runs.{mark_of}
use Rattle.simplex.proofs.bridge.Runs.{dual-mark}
use Rattle.simplex.specs.bridge.Drags.{Drag as Dragging, Dragged, Ends}
use Rattle.simplex.proofs.bridge.Drags.{drag}
use Rattle.run.specs.Demand.{of_edit, Call, make, accepted, live_after, Moment, next}
use Rattle.run.specs.Inv.{non_zero_terms, columns, Held, expr_of, form_of, other_id, con_of, find_held, Shaped, EditedAs, WholeDemand, Inv}
use Rattle.run.specs.AtRest.{one, best-columns}
use Rattle.run.specs.Perm.{without_held, all_found, all_first, models-first}
use Rattle.run.specs.Inputs.{whole-within, inputs-z}
use Rattle.run.specs.Steady.{Kept, kept_trans, IfGoing, dual-kept}
use Rattle.run.specs.Drag.{shift_kept, shift-marks, table, starts}

-- ---- a refused call, and an accepted one

pub unchanged : (c : Call) (m : Moment) (k p : ℕ) (b : Bool) → make c m.state ≡ refused_by k p b m.state → eqb k 0 ≡ false → Inv m → Inv (next c m)
unfolding next live_after refused_by
unchanged c m k p b e n I =
    subst (λ (r : Result). Inv (record { state = r.state; live = cond (eqb r.answer.number 0) (accepted c m.live) m.live })) (sym e)
    (subst (λ (t : Bool). Inv (record { state = m.state; live = cond t (accepted c m.live) m.live })) (sym n) I)

pub changed : (c : Call) (m : Moment) (w : Work) (s : State) → make c m.state ≡ accepted_as w s → Inv (record { state = s; live = accepted c m.live }) → Inv (next c m)
unfolding next live_after accepted_as
changed c m w s e I = subst (λ (r : Result). Inv (record { state = r.state; live = cond (eqb r.answer.number 0) (accepted c m.live) m.live })) (sym e) I

-- ---- signs

not-not : (b : Bool) → not (not b) ≡ b
not-not true = refl
not-not false = refl

neg-neg : (x : Float) → neg (neg x) ≡ x
unfolding neg
neg-neg nan = refl
neg-neg (inf s) = ap inf (not-not s)
neg-neg (fin s m e) = ap (λ (t : Bool). fin t m e) (not-not s)

neg-back : {b : ℕ} {x : Float} {z : ℤ} → Zb b (neg x) z → Zb b x (neg_ℤ z)
neg-back {b} {x} {z} h = subst (λ (y : Float). Zb b y (neg_ℤ z)) (neg-neg x) (neg-b h)

-- ---- the steps, in a moment with the invariant

module _ (m : Moment) (I : Inv m) (u : ℕ) (x : Float) (e : Edit) (h : Held) (found : find_held (of_edit u) I.held ≡ some h) (E : EditedAs u e h) where
  pub soft : form_of h.demand.relation ≡ eq
  unfolding form_of
  soft = ap form_of E.relation ∙ ap (λ (b : Bool). cond b eq eq!) E.soft

  pub shape : Shaped eq h.tag
  shape = subst (λ (f : Form). Shaped f h.tag) soft (all_found (λ (h : Held). Shaped (form_of h.demand.relation) h.tag) (of_edit u) I.held h found I.shaped)

  unfoldable pub o : Symbol
  o = shape.1.0

  unfoldable pub expr : Vec
  expr = expr_of I.sym (non_zero_terms h.demand.terms) (val h.demand.constant)

  unfoldable pub weight : ℤ
  weight = val (strength_of h.demand.relation)

  unfoldable pub others : List Con
  others = map (con_of I.sym) (without_held (of_edit u) I.held)

  as-edit : con_of I.sym h ≡ edit expr weight h.tag.marker.id o.id
  unfolding con_of expr weight o other_id
  as-edit =
      ap₂ (λ (f : Form) (q : ℕ). record { expr = expr_of I.sym (non_zero_terms h.demand.terms) (val h.demand.constant); form = f; weight = val (strength_of h.demand.relation); marker = h.tag.marker.id; other = q }) soft (ap other_id shape.1.1)

  pub in-front : Models columns I.kind I.table.B I.table.R I.table.o (edit expr weight h.tag.marker.id o.id ∷ others)
  unfolding others
  in-front =
      subst (λ (c : Con). Models columns I.kind I.table.B I.table.R I.table.o (c ∷ map (con_of I.sym) (without_held (of_edit u) I.held))) as-edit
      (models-first (con_of I.sym) (of_edit u) columns I.kind I.table.B I.table.R I.table.o I.held h found I.models)

  unfoldable pub inside : (j : ℕ) → I.kind j ≡ slack → j < columns
  unfolding begin
  inside j k = omega (arith, I.ids j (slack-in I.kind m.state.tableau.symbols I.good.zero I.reads.unknown j k), I.room)

  -- the stored suggestion is whole
  old : Zb (2 ^ 30) (neg e.suggestion) (val h.demand.constant)
  old = subst (λ (c : Float). Zb (2 ^ 30) c (val h.demand.constant)) E.constant
      (inputs-z h.demand.terms h.demand.constant h.demand.relation (all_found WholeDemand (of_edit u) I.held h found I.inputs).0).const

  -- the work that the shift starts from: the input's mark beside the stored one
  unfoldable pub work : Work
  work = marking (whole_if (whole_within constant_bound x)) (begin m.state)

  unfoldable pub delta : Float
  delta = x -₆₄ e.suggestion

  unfoldable pub grown : ℤ
  grown = val x -ℤ neg_ℤ (val h.demand.constant)

  delta-z : whole_within constant_bound x ≡ true → Zb (2 ^ 31) delta grown
  unfolding delta grown
  delta-z w = Rattle.laws.specs.exact.Whole.within (sub-b (whole-within constant_bound (2 ^ 30) constant_bound-z x w) (neg-back old) (omega arith)) (omega arith)

  pub new-constant : whole_within constant_bound x ≡ true → val h.demand.constant -ℤ grown ≡ val (neg x)
  unfolding grown
  new-constant w =
      ring (val h.demand.constant ∷ val x ∷ []) (v 0 ⊟⊟ (v 1 ⊟⊟ (⊟ v 0))) (⊟ v 1) tt
      ∙ sym (isz-val (neg-z (whole-within constant_bound (2 ^ 30) constant_bound-z x w).isz))

  -- what the steps end in, where the mark stays whole
  pub record Reached (y : Work) : Type 0 where
    pub dragged : Dragged columns I.kind inside (edit (plus expr (neg_ℤ grown) (δ 0)) weight h.tag.marker.id o.id ∷ others) y
    pub kept : Kept (begin m.state) y
    pub input : whole_within constant_bound x ≡ true

  abbrev pub Comes : Outcome Work → Type 0
  Comes (refused k p t) = k ≡ 14
  Comes (going y) = Reached y

  start-mark : work.mark ≡ all_whole → whole_within constant_bound x ≡ true
  unfolding work marking begin
  start-mark e = whole-if (whole_within constant_bound x) (worse-r (cond m.state.whole all_whole not_whole) (whole_if (whole_within constant_bound x)) e)

  begin-kept : Kept (begin m.state) work
  unfolding work marking
  begin-kept = record { symbols = refl; next_id = refl; variables = refl; artificial = λ e. e }

  work-reads : ReadsWork I.kind work I.table.B I.table.R I.table.o (λ _. 0ℤ)
  unfolding work marking begin
  work-reads = I.reads

  no-art : work.artificial ≡ none
  unfolding work marking begin
  no-art = refl

  two : e.tag.other ≡ some o
  unfolding o
  two = ap (λ (t : Tag). t.other) E.tag ∙ shape.1.1

  tagged : Models columns I.kind I.table.B I.table.R I.table.o (edit expr weight e.tag.marker.id o.id ∷ others)
  tagged = subst (λ (t : Tag). Models columns I.kind I.table.B I.table.R I.table.o (edit expr weight t.marker.id o.id ∷ others)) (sym E.tag) in-front

  -- the values before the drag meet what is required, for an edit is not
  denominator : 0ℤ ≺ I.table.R 0 0
  denominator = subst (λ (z : ℤ). 0ℤ ≺ z) (sym (one m I)) (record { lt = tt })

  met : All (Meets columns (λ j. I.table.R j 0)) others
  unfolding others
  met = (all_first (con_of I.sym) (of_edit u) (Meets columns (λ j. I.table.R j 0)) I.held h found (best-columns m I).meets).1

  -- the pass from the shifted rows
  unfoldable pub shifted-work : Work
  shifted-work = shift_constants e.tag delta work

  pub shifted-kept : Kept (begin m.state) shifted-work
  unfolding shifted-work
  shifted-kept = kept_trans (begin m.state) work shifted-work begin-kept (shift_kept e.tag delta work)

  module _ (a : shifted-work.mark ≡ all_whole) where
    marks : (work.mark ≡ all_whole) × (Rattle.steps.specs.Substitute.marks_of (shift_rows (shift_of e.tag delta work) work.tableau.rows) ≡ all_whole)
    unfolding shifted-work
    marks = shift-marks e.tag delta work a

    input : whole_within constant_bound x ≡ true
    input = start-mark marks.0

    pub shifted-table : StateZ
    shifted-table = table columns I.kind (omega arith) inside work I.table (λ _. 0ℤ) I.good I.rest work-reads no-art expr weight e.tag o two others tagged delta grown (delta-z input) marks.1

    pub shifted-starts : Dragging columns I.kind inside (edit (plus expr (neg_ℤ grown) (δ 0)) weight e.tag.marker.id o.id ∷ others) shifted-work shifted-table (λ _. 0ℤ)
    unfolding shifted-work shifted-table
    shifted-starts = starts columns I.kind (omega arith) inside work I.table (λ _. 0ℤ) I.good I.rest work-reads no-art expr weight e.tag o two others tagged delta grown (delta-z input) marks.1

    ended : (left : ℕ) → mark_of (dual_optimise left shifted-work) ≡ all_whole → Comes (dual_optimise left shifted-work)
    ended left q =
        go (dual_optimise left shifted-work)
        (drag columns I.kind inside (edit (plus expr (neg_ℤ grown) (δ 0)) weight e.tag.marker.id o.id ∷ others) (omega arith) (λ j. I.table.R j 0) denominator (tt, met) left shifted-work shifted-table (λ _. 0ℤ) shifted-starts q)
        (dual-kept left shifted-work)
      where
        go : (t : Outcome Work) → Ends columns I.kind inside (edit (plus expr (neg_ℤ grown) (δ 0)) weight e.tag.marker.id o.id ∷ others) t → IfGoing (Kept shifted-work) t → Comes t
        go (refused k p t) f g = f
        go (going y) f g = record {
          dragged = subst (λ (t : Tag). Dragged columns I.kind inside (edit (plus expr (neg_ℤ grown) (δ 0)) weight t.marker.id o.id ∷ others) y) E.tag f;
          kept = kept_trans (begin m.state) shifted-work y shifted-kept g;
          input = input;
        }

  pub steps-come : (left : ℕ) → mark_of (suggest_steps left e x (begin m.state)) ≡ all_whole → Comes (suggest_steps left e x (begin m.state))
  unfolding suggest_steps check_finite refuse ◌>>=◌ shifted-work delta work mark_of
  steps-come left = go shifted-work.mark refl
    where
      go : (t : Mark) → shifted-work.mark ≡ t → mark_of ((elim t [ all_whole ↦ going shifted-work | not_whole ↦ going shifted-work | not_finite ↦ refused 13 shifted-work.pivots shifted-work.mark ]) >>= dual_optimise left) ≡ all_whole
          → Comes ((elim t [ all_whole ↦ going shifted-work | not_whole ↦ going shifted-work | not_finite ↦ refused 13 shifted-work.pivots shifted-work.mark ]) >>= dual_optimise left)
      go all_whole q h = ended q left h
      go not_whole q h = ended (dual-mark left shifted-work h) left h
      go not_finite q h = absurd (finite≢ (sym q ∙ h))
