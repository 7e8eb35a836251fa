-- The moments of a pass whose mark stays whole are states of the theory, one by one, by its rule: Bland's, or the dual one. Assumes nothing.
use Prim.Native.Nat.{ℕ, zero, suc, ◌≤◌, ◌<◌}
use native.Mathlib.Omega.{arith}
use mathlib.Core.Path.{◌≡◌, refl, sym, ap, ◌∙◌, subst}
use mathlib.Core.Logic.{◌≢◌}
use mathlib.Core.Bool.{true}
use mathlib.Core.List.{List, map}
use mathlib.Core.Option.{Option, none, some}
use lib.ListN.{length}
use Rattle.simplex.specs.Lin.{Vec}
use Rattle.simplex.specs.Choose.{Distinct, choose, trues}
use Rattle.simplex.specs.Tab.{pivoted}
use Rattle.simplex.specs.Opt.{Kind as KindZ, external, slack}
use Rattle.simplex.specs.Pass.{State, step, Good, Choice}
use Rattle.simplex.specs.Cycle.{Flips}
use Rattle.simplex.specs.Bland.{Pass}
use Rattle.simplex.proofs.Bland.{flips, no_return}
use Rattle.simplex.specs.Bound.{Mem}
use Rattle.simplex.proofs.Bound.{pass-bound}
use Rattle.simplex.specs.Dual
use Rattle.simplex.proofs.Count.{dual-bound}
use Rattle.simplex.specs.Search.{Asc}
use Rattle.steps.specs.Number.{all_whole}
use Rattle.steps.specs.Symbol.{Symbol}
use Rattle.steps.specs.Work.{Work, Outcome, count_pivot}
use Rattle.steps.specs.Substitute.{pivot}
use Rattle.steps.specs.Optimise.{Goal, the_objective, pivot_on}
use Rattle.simplex.specs.bridge.Finds.{UpRows, none≢some, some-injective}
use Rattle.simplex.specs.bridge.Table.{ReadsWork}
use Rattle.simplex.specs.bridge.Looks.{Choose, pivots}
use Rattle.simplex.specs.bridge.Duals.{Dual, moves}
use Rattle.simplex.proofs.bridge.Duals.{dual-is, dual-pivot}
use Rattle.simplex.specs.bridge.Runs.{mark_of, ReadsGoal, obj_of, art_of}
use Rattle.simplex.proofs.bridge.Runs.{counted-mark, view, turn_is, is-choice, is-good, reads_of, reads_on, count-reads}
use Rattle.run.specs.Steady.{pivot-kept}
use Rattle.run.specs.Passes.{restricted_ids}
use Rattle.run.specs.DropRows.{pivot-rows}
use Rattle.run.specs.stall.Stall.{Rule, optimising, dual, chosen, outcome_by, turn, later, pivots_from, is_basic, restricted_rows}
use Rattle.run.proofs.stall.Turns.{Step, pass-mark}
use Rattle.run.proofs.stall.Rows.{basic-is, rows_are}

-- ---- the rules: the objective that a pass reads, a good state, a choice
abbrev pub goal_of : Rule → Goal
goal_of (optimising g) = g
goal_of dual = the_objective

abbrev pub GoodBy : Rule → ℕ → (ℕ → KindZ) → State → Type 0
GoodBy (optimising g) n kind S = Good n kind S
GoodBy dual n kind S = Dual.Good n kind S

abbrev ChoiceBy : Rule → ℕ → (ℕ → KindZ) → State → ℕ → ℕ → Type 0
ChoiceBy (optimising g) n kind S l e = Choice n kind S l e
ChoiceBy dual n kind S l e = Dual.Choice n kind S l e

-- states one after the other by a rule
pub record Track (r : Rule) (n : ℕ) (kind : ℕ → KindZ) (m : ℕ) (S : ℕ → State) (le en : ℕ → ℕ) : Type 0 where
  pub start : GoodBy r n kind (S 0)
  pub next : (i : ℕ) → i < m → S (suc i) ≡ step (le i) (en i) (S i)
  pub choice : (i : ℕ) → i < m → ChoiceBy r n kind (S i) (le i) (en i)

-- what the theory says of them, whichever the rule
pub record Theory (kind : ℕ → KindZ) (m : ℕ) (S : ℕ → State) (le en : ℕ → ℕ) : Type 0 where
  pub flips : Flips m (λ i. (S i).B) le en
  pub outs : (i : ℕ) → i < m → kind (le i) ≡ slack
  pub ins : (i : ℕ) → i < m → kind (en i) ≡ slack
  pub never : (a b : ℕ) → a < b → b ≤ m → ((j : ℕ) → (S a).B j ≡ (S b).B j) → ⊥
  pub bound : (rs : List ℕ) → Distinct rs → ((j : ℕ) → (S 0).B j ≡ true → kind j ≢ external → Mem j rs) → ((i : ℕ) → i < m → Mem (en i) rs) → m < choose (length rs) (trues (map (S 0).B rs))

pub theory : (r : Rule) (n : ℕ) (kind : ℕ → KindZ) (m : ℕ) (S : ℕ → State) (le en : ℕ → ℕ) → Track r n kind m S le en → Theory kind m S le en
theory (optimising g) n kind m S le en T =
    let P : Pass n kind m S le en = record { start = T.start; next = T.next; choice = T.choice } in
    record {
      flips = flips n kind m S le en P;
      outs = λ i h. (T.choice i h).l-slack;
      ins = λ i h. (T.choice i h).e-slack;
      never = no_return n kind m S le en P;
      bound = pass-bound n kind m S le en P;
    }
theory dual n kind m S le en T =
    let P : Dual.Pass n kind m S le en = record { start = T.start; next = T.next; choice = T.choice } in
    record {
      flips = Dual.flips n kind m S le en P;
      outs = λ i h. (T.choice i h).move.l-slack;
      ins = λ i h. (T.choice i h).move.e-slack;
      never = Dual.no_return n kind m S le en P;
      bound = dual-bound n kind m S le en P;
    }

-- ---- a sequence with one more in front
abbrev cons : {A : Type 0} → A → (ℕ → A) → ℕ → A
cons x f zero = x
cons x f (suc i) = f i

module _ (n : ℕ) (kind : ℕ → KindZ) (ids : List ℕ) (asc : Asc ids) (cover : (j : ℕ) → kind j ≡ slack → Mem j ids) (inside : (j : ℕ) → Mem j ids → j < n) where
  -- ---- one pivot
  record Moved (r : Rule) (v : Work) (S : State) (z : Vec) (l e : ℕ) : Type 0 where
    choice : ChoiceBy r n kind S l e
    good : GoodBy r n kind (step l e S)
    reads : ReadsGoal (goal_of r) kind v (step l e S) (pivoted l e S.R z)

  moved : (r : Rule) (w : Work) (S : State) (z : Vec) → GoodBy r n kind S → ReadsGoal (goal_of r) kind w S z → (l e : Symbol) → chosen r w ≡ pivot_on l e → (pivot l.id e w).mark ≡ all_whole
      → Moved r (count_pivot (pivot l.id e w)) S z l.id e.id
  unfolding chosen
  moved (optimising g) w S z G H l e q m = by l e (subst (Choose n kind w S.B S.R (obj_of g S.o z) (art_of g S.o z) R S.o G) q (view n kind ids asc cover inside g w S z G H)) m
    where
      R : ReadsWork kind w S.B S.R (obj_of g S.o z) (art_of g S.o z)
      R = reads_of kind g w S z H

      by : (l e : Symbol) → Choose n kind w S.B S.R (obj_of g S.o z) (art_of g S.o z) R S.o G (pivot_on l e) → (pivot l.id e w).mark ≡ all_whole → Moved (optimising g) (count_pivot (pivot l.id e w)) S z l.id e.id
      by l e (pivots l' e' E L) m = record {
        choice = is-choice n kind ids asc cover inside w S G (obj_of g S.o z) (art_of g S.o z) R l e E L m;
        good = is-good n kind ids asc cover inside w S G (obj_of g S.o z) (art_of g S.o z) R l e E L m;
        reads = count-reads kind g (pivot l.id e w) (step l.id e.id S) (pivoted l.id e.id S.R z)
            (reads_on kind g w S z l.id e H (turn_is n kind ids asc cover inside w S G (obj_of g S.o z) (art_of g S.o z) R l e E L m).2);
      }
  moved dual w S z G H l e q m = by l e (subst (Dual n kind w S G z H) q (dual-is n kind w S G z H)) m
    where
      by : (l e : Symbol) → Dual n kind w S G z H (pivot_on l e) → (pivot l.id e w).mark ≡ all_whole → Moved dual (count_pivot (pivot l.id e w)) S z l.id e.id
      by l e (moves b e' L E) m =
          let M = dual-pivot n kind w S G z H (λ j s. inside j (cover j s)) b L e E m in
          record { choice = M.choice; good = M.good; reads = count-reads kind the_objective (pivot l.id e w) (step l.id e.id S) (pivoted l.id e.id S.R z) M.reads }

  -- ---- what a moment shows of its state
  pub record Shown (u : Work) (S : State) : Type 0 where
    pub basics : (j : ℕ) → is_basic j u ≡ S.B j
    pub up : UpRows 0 u.tableau.rows
    pub rows : trues (map S.B (restricted_ids u.tableau.symbols)) ≡ restricted_rows u.tableau.rows

  shows : (g : Goal) (w : Work) (S : State) (z : Vec) → ReadsGoal g kind w S z → Shown w S
  shows g w S z H =
      let R = reads_of kind g w S z H in
      record { up = R.rows-up; basics = basic-is kind w S.B S.R (obj_of g S.o z) (art_of g S.o z) R; rows = rows_are kind w S.B S.R (obj_of g S.o z) (art_of g S.o z) R }

  -- a pass of m pivots and its moments: states of the theory, the first S, that the moments show
  pub record Traced (r : Rule) (m : ℕ) (at : ℕ → Option Work) (S : State) : Type 0 where
    pub states : ℕ → State
    pub le : ℕ → ℕ
    pub en : ℕ → ℕ
    pub first : states 0 ≡ S
    pub track : Track r n kind m states le en
    pub shown : (i : ℕ) (u : Work) → at i ≡ some u → Shown u (states i)

  -- the start alone
  alone : (r : Rule) (w : Work) (S : State) (z : Vec) → GoodBy r n kind S → ReadsGoal (goal_of r) kind w S z → Traced r 0 (cons (some w) (λ _. none)) S
  alone r w S z G H = record {
    states = λ _. S;
    le = λ _. 0;
    en = λ _. 0;
    first = refl;
    track = record { start = G; next = λ i h. absurd (omega arith); choice = λ i h. absurd (omega arith) };
    shown = only;
  }
    where
      only : (i : ℕ) (u : Work) → cons (some w) (λ _. none) i ≡ some u → Shown u S
      only zero u q = subst (λ (v : Work). Shown v S) (some-injective q) (shows (goal_of r) w S z H)
      only (suc i) u q = absurd (none≢some q)

  -- and a pivot before the rest
  onward : (r : Rule) (m : ℕ) (at : ℕ → Option Work) (w : Work) (S : State) (z : Vec) (l e : ℕ) → GoodBy r n kind S → ReadsGoal (goal_of r) kind w S z → ChoiceBy r n kind S l e
      → Traced r m at (step l e S) → Traced r (suc m) (cons (some w) at) S
  onward r m at w S z l e G H C T = record {
    states = cons S T.states;
    le = cons l T.le;
    en = cons e T.en;
    first = refl;
    track = record { start = G; next = next; choice = choice };
    shown = shown;
  }
    where
      next : (i : ℕ) → i < suc m → T.states i ≡ step (cons l T.le i) (cons e T.en i) (cons S T.states i)
      next zero h = T.first
      next (suc i) h = T.track.next i (omega arith)

      choice : (i : ℕ) → i < suc m → ChoiceBy r n kind (cons S T.states i) (cons l T.le i) (cons e T.en i)
      choice zero h = C
      choice (suc i) h = T.track.choice i (omega arith)

      shown : (i : ℕ) (u : Work) → cons (some w) at i ≡ some u → Shown u (cons S T.states i)
      shown zero u q = subst (λ (v : Work). Shown v S) (some-injective q) (shows (goal_of r) w S z H)
      shown (suc i) u q = T.shown i u q

  renamed : (r : Rule) (m : ℕ) (f g : ℕ → Option Work) (S : State) → ((i : ℕ) → f i ≡ g i) → Traced r m f S → Traced r m g S
  renamed r m f g S h T = record { states = T.states; le = T.le; en = T.en; first = T.first; track = T.track; shown = λ i u q. T.shown i u (h i ∙ q) }

  -- THE MOMENTS ARE THE THEORY'S STATES
  pub trace : (left : ℕ) (r : Rule) (w : Work) (S : State) (z : Vec) → GoodBy r n kind S → ReadsGoal (goal_of r) kind w S z → mark_of (outcome_by r left w) ≡ all_whole
      → Traced r (pivots_from left r w) (λ i. later i left r w) S
  unfolding later pivots_from mark_of
  trace zero r w S z G H m = renamed r 0 (cons (some w) (λ _. none)) (λ i. later i zero r w) S same (alone r w S z G H)
    where
      same : (i : ℕ) → cons (some w) (λ _. none) i ≡ later i zero r w
      same zero = refl
      same (suc i) = refl
  trace (suc left) r w S z G H m =
      renamed r (pivots_from (suc left) r w) (cons (some w) (rest (turn r w))) (λ i. later i (suc left) r w) S same (go (turn r w) (outcome_by r (suc left) w) (Rattle.run.proofs.stall.Turns.step left r w) m (trace left r))
    where
      rest : Option Work → ℕ → Option Work
      rest t i = elim t [ none ↦ none | some v ↦ later i left r v ]

      same : (i : ℕ) → cons (some w) (rest (turn r w)) i ≡ later i (suc left) r w
      same zero = refl
      same (suc i) = refl

      go : (t : Option Work) (o : Outcome Work) → Step left r w t o → mark_of o ≡ all_whole
          → ((v : Work) (S : State) (z : Vec) → GoodBy r n kind S → ReadsGoal (goal_of r) kind v S z → mark_of (outcome_by r left v) ≡ all_whole → Traced r (pivots_from left r v) (λ i. later i left r v) S)
          → Traced r (elim t as (λ x. ℕ) [ none ↦ 0 | some v ↦ suc (pivots_from left r v) ]) (cons (some w) (rest t)) S
      go t o Step.rests m ih = alone r w S z G H
      go t o (Step.stays k d) m ih = alone r w S z G H
      go t o (Step.broken_write p e k q) m ih = alone r w S z G H
      go t o (Step.pivots l e c) m ih =
          let v : Work = count_pivot (pivot l.id e w) in
          let M : Moved r v S z l.id e.id = moved r w S z G H l e c (counted-mark (pivot l.id e w) (pass-mark r left v m)) in
          onward r (pivots_from left r v) (λ i. later i left r v) w S z l.id e.id G H M.choice (ih v (step l.id e.id S) (pivoted l.id e.id S.R z) M.good M.reads m)

-- ---- no pivot touches the symbols
counted-symbols : (l : ℕ) (e : Symbol) (w : Work) → (count_pivot (pivot l e w)).tableau.symbols ≡ w.tableau.symbols
unfolding count_pivot
counted-symbols l e w = (pivot-kept l e w).symbols

pub symbols-stay : (i left : ℕ) (r : Rule) (w u : Work) → later i left r w ≡ some u → u.tableau.symbols ≡ w.tableau.symbols
unfolding later
symbols-stay zero left r w u q = ap (λ (v : Work). v.tableau.symbols) (sym (some-injective q))
symbols-stay (suc i) zero r w u q = absurd (none≢some q)
symbols-stay (suc i) (suc left) r w u q = go (turn r w) (outcome_by r (suc left) w) (Rattle.run.proofs.stall.Turns.step left r w) q (λ v. symbols-stay i left r v u)
  where
    go : (t : Option Work) (o : Outcome Work) → Step left r w t o → elim t as (λ x. Option Work) [ none ↦ none | some v ↦ later i left r v ] ≡ some u
        → ((v : Work) → later i left r v ≡ some u → u.tableau.symbols ≡ v.tableau.symbols) → u.tableau.symbols ≡ w.tableau.symbols
    go t o Step.rests q ih = absurd (none≢some q)
    go t o (Step.stays k d) q ih = absurd (none≢some q)
    go t o (Step.broken_write p e k x) q ih = absurd (none≢some q)
    go t o (Step.pivots l e c) q ih = ih (count_pivot (pivot l.id e w)) q ∙ counted-symbols l.id e w

-- nor the number of rows
pub rows_stay : (i left : ℕ) (r : Rule) (w u : Work) → later i left r w ≡ some u → length u.tableau.rows ≡ length w.tableau.rows
unfolding later
rows_stay zero left r w u q = ap (λ (v : Work). length v.tableau.rows) (sym (some-injective q))
rows_stay (suc i) zero r w u q = absurd (none≢some q)
rows_stay (suc i) (suc left) r w u q = go (turn r w) (outcome_by r (suc left) w) (Rattle.run.proofs.stall.Turns.step left r w) q (λ v. rows_stay i left r v u)
  where
    go : (t : Option Work) (o : Outcome Work) → Step left r w t o → elim t as (λ x. Option Work) [ none ↦ none | some v ↦ later i left r v ] ≡ some u
        → ((v : Work) → later i left r v ≡ some u → length u.tableau.rows ≡ length v.tableau.rows) → length u.tableau.rows ≡ length w.tableau.rows
    go t o Step.rests q ih = absurd (none≢some q)
    go t o (Step.stays k d) q ih = absurd (none≢some q)
    go t o (Step.broken_write p e k x) q ih = absurd (none≢some q)
    go t o (Step.pivots l e c) q ih = ih (count_pivot (pivot l.id e w)) q ∙ pivot-rows l.id e w
