-- Demand 3 for one pass, of either rule and any call: from a start that reads as a good tableau of the theory, with the mark whole at its end. Assumes nothing.
use Prim.Native.Nat.{ℕ, ◌≤◌, ◌<◌}
use native.Mathlib.Decide.{dec_le}
use native.Mathlib.Omega.{arith}
use mathlib.Core.Path.{◌≡◌, sym, ap, ◌∙◌, subst}
use mathlib.Core.Logic.{◌≢◌}
use mathlib.Core.Bool.{true}
use mathlib.Core.List.{List, map}
use mathlib.Core.Option.{some}
use Rattle.simplex.specs.Lin.{Vec}
use Rattle.simplex.specs.Choose.{Distinct, trues}
use Rattle.simplex.specs.Opt.{Kind as KindZ, const, external, slack}
use Rattle.simplex.specs.Pass.{State}
use Rattle.simplex.specs.Bound.{Mem}
use Rattle.simplex.proofs.Bound.{basics}
use Rattle.simplex.specs.Search.{Asc}
use Rattle.steps.specs.Number.{all_whole}
use Rattle.steps.specs.Symbol.{Symbol}
use Rattle.steps.specs.Work.{Work}
use Rattle.simplex.specs.bridge.Finds.{UpRows, none≢some}
use Rattle.simplex.specs.bridge.Rows.{In}
use Rattle.simplex.specs.bridge.Table.{ReadsWork}
use Rattle.simplex.specs.bridge.Runs.{mark_of, ReadsGoal, obj_of, art_of}
use Rattle.simplex.proofs.bridge.Runs.{reads_of}
use Rattle.run.specs.Passes.{ids_of, restricted_ids, ways_of, live-asc, live-cover, live_inside, live-once, live-basics, live-slacks}
use Rattle.run.specs.stall.Stall.{Rule, optimising, dual, PassStart, outcome_of, moment, pivots_of, restricted_symbols, ways, NoReturn, Level, Fewer}
use Rattle.run.proofs.stall.Turns.{moments}
use Rattle.run.proofs.stall.Rows.{rows_are, ways-are}
use Rattle.run.proofs.stall.Moments.{goal_of, GoodBy, Theory, theory, Traced, trace, symbols-stay}

-- the work that the pass starts with reads as a good tableau of the theory, the goal's row as its objective
pub record Starts (p : PassStart) : Type 0 where
  pub n : ℕ
  pub kind : ℕ → KindZ
  pub table : State
  pub other : Vec
  pub good : GoodBy p.rule n kind table
  pub reads : ReadsGoal (goal_of p.rule) kind p.work table other
  pub inside : (j : ℕ) → In j p.work.tableau.symbols → j < n

-- its mark is whole at its end, a refusal or not
abbrev pub Unmarred : PassStart → Type 0
Unmarred p = mark_of (outcome_of p) ≡ all_whole

good-zero : (r : Rule) (n : ℕ) (kind : ℕ → KindZ) (S : State) → GoodBy r n kind S → kind 0 ≡ const
good-zero (optimising g) n kind S G = G.zero
good-zero dual n kind S G = G.zero

module _ (p : PassStart) (S : Starts p) (m : Unmarred p) where
  abbrev o : Vec
  o = obj_of (goal_of p.rule) S.table.o S.other

  abbrev a : Vec
  a = art_of (goal_of p.rule) S.table.o S.other

  R : ReadsWork S.kind p.work S.table.B S.table.R o a
  R = reads_of S.kind (goal_of p.rule) p.work S.table S.other S.reads

  Z : S.kind 0 ≡ const
  Z = good-zero p.rule S.n S.kind S.table S.good

  abbrev rs : List ℕ
  rs = restricted_ids p.work.tableau.symbols

  once : Distinct rs
  once = live-once S.n S.kind p.work S.table.B S.table.R o a Z R S.inside

  slacks : (j : ℕ) → S.kind j ≡ slack → Mem j rs
  slacks = live-slacks S.n S.kind p.work S.table.B S.table.R o a Z R S.inside

  -- the theory's states beside its moments
  abbrev ids : List ℕ
  ids = ids_of p.work.tableau.symbols

  asc : Asc ids
  asc = live-asc S.n S.kind p.work S.table.B S.table.R o a Z R S.inside

  cover : (j : ℕ) → S.kind j ≡ slack → Mem j ids
  cover = live-cover S.n S.kind p.work S.table.B S.table.R o a Z R S.inside

  in_ids : (j : ℕ) → Mem j ids → j < S.n
  in_ids = live_inside S.n S.kind p.work S.table.B S.table.R o a Z R S.inside

  T : Traced S.n S.kind ids asc cover in_ids p.rule (pivots_of p) (λ i. moment i p) S.table
  unfolding moment outcome_of pivots_of
  T = trace S.n S.kind ids asc cover in_ids p.left p.rule p.work S.table S.other S.good S.reads m

  says : Theory S.kind (pivots_of p) T.states T.le T.en
  says = theory p.rule S.n S.kind (pivots_of p) T.states T.le T.en T.track

  -- a moment comes after no more pivots than are made
  made : (i : ℕ) (u : Work) → moment i p ≡ some u → i ≤ pivots_of p
  unfolding moment pivots_of
  made i u q = go (dec_le i (pivots_of p))
    where
      go : Dec (i ≤ pivots_of p) → i ≤ pivots_of p
      go (yes h) = h
      go (no h) = absurd (none≢some (sym ((moments i p.left p.rule p.work).1 (omega (arith, h))) ∙ q))

  -- NO BASIS TWICE
  pub returns-not : NoReturn p
  returns-not i j u v l q r same = says.never i j l (made j v r) (λ x. sym ((T.shown i u q).basics x) ∙ same x ∙ (T.shown j v r).basics x)

  -- n AND r STAY
  start-basics : (j : ℕ) → (T.states 0).B j ≡ true → S.kind j ≢ external → Mem j rs
  start-basics = subst (λ (t : State). (j : ℕ) → t.B j ≡ true → S.kind j ≢ external → Mem j rs) (sym T.first) (live-basics S.n S.kind p.work S.table.B S.table.R o a Z R S.inside)

  later-basics : (i : ℕ) → i < pivots_of p → Mem (T.en i) rs
  later-basics i h = slacks (T.en i) (says.ins i h)

  pub level : Level p
  unfolding moment
  level i u q =
      let e = symbols-stay i p.left p.rule p.work u q in (
        ap restricted_symbols e,
        sym (T.shown i u q).rows ∙ ap (λ (xs : List Symbol). trues (map (T.states i).B (restricted_ids xs))) e
            ∙ basics S.kind (pivots_of p) (λ i. (T.states i).B) T.le T.en says.flips says.outs says.ins says.never rs once start-basics later-basics i (made i u q)
            ∙ ap (λ (t : State). trues (map t.B rs)) T.first ∙ rows_are S.kind p.work S.table.B S.table.R o a R,
      )

  -- FEWER PIVOTS THAN WAYS
  pub fewer : Fewer p
  unfolding ways ways_of
  fewer =
      subst (λ (k : ℕ). pivots_of p < k)
      (ap (λ (t : State). ways_of p.work.tableau.symbols t.B) T.first ∙ ways-are S.kind p.work S.table.B S.table.R o a R) (says.bound rs once start-basics later-basics)

  -- the rows of a moment stand by ascending id, and are as many as at the start
  pub moment-up : (i : ℕ) (u : Work) → moment i p ≡ some u → UpRows 0 u.tableau.rows
  moment-up i u q = (T.shown i u q).up
