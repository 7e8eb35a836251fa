use mathlib.Core.Path.{refl}
use mathlib.Core.List.{[]}
use native.Mathlib.Omega.{arith}
use Rattle.steps.specs.Number.{zero64}
use Rattle.rows.specs.Marks.{mark-clean}
use Rattle.layout.specs.cells.Cells.{cells}
use Rattle.waist.specs.merging.Merging.{merging_start, merging-end, merging-first, merging-second, merging-third, own_turn, other-turn, both-turn}
use Rattle.waist.specs.merging.Paste.{packed-few}
use Rattle.std.proofs.Common.{rules}
use Rattle.waist.proofs.merging.merge.merge_run.Goals as goal

pub loop-s-init : goal.loop-s-init
loop-s-init c = (rw (c.nothing-w.ensures, mark-clean) (merging_start _ _ _ _ _ _ _ _ _ _ _ _ c.requires.run_of c.requires.run_of_2 _ refl (search rules)), refl, search rules, omega arith)

pub bounds-vals-s : goal.bounds-vals-s
bounds-vals-s c =
    let h = merging-first _ _ _ _ _ _ _ _ _ _ _ _ c.requires.run_of c.requires.run_of_2 _ _ _ _ (cells _ _ _) _ _ c.loop-s.invariant.0 c.front-p.ensures.value c.front-q.ensures.value c.if-p-q.true in
    omega (arith, h.0)

pub put_if-n-requires : goal.put_if-n-requires
put_if-n-requires c =
    let h = merging-first _ _ _ _ _ _ _ _ _ _ _ _ c.requires.run_of c.requires.run_of_2 _ _ _ _ (cells _ _ _) _ _ c.loop-s.invariant.0 c.front-p.ensures.value c.front-q.ensures.value c.if-p-q.true in
    omega (arith, h.1)

pub loop-s-preserved-then-p-q : goal.loop-s-preserved-then-p-q
loop-s-preserved-then-p-q c =
    let h = merging-first _ _ _ _ _ _ _ _ _ _ _ _ c.requires.run_of c.requires.run_of_2 _ _ _ _ (cells _ _ _) _ _ c.loop-s.invariant.0 c.front-p.ensures.value c.front-q.ensures.value c.if-p-q.true in
    (own_turn _ _ _ _ _ _ _ _ _ _ _ _ c.requires.run_of c.requires.run_of_2 _ _ _ _ _ _ _ _ _ _ _ _ _ c.loop-s.invariant.0 c.loop-s.invariant.1 c.front-p.ensures.value c.front-q.ensures.value (omega arith) _ c.if-p-q.true c.own-x.ensures c.put_if-n.ensures.result_after, c.loop-s.invariant.1, omega (arith, h.0), omega arith)

pub bounds-other-j : goal.bounds-other-j
bounds-other-j c =
    let h = merging-second _ _ _ _ _ _ _ _ _ _ _ _ c.requires.run_of c.requires.run_of_2 _ _ _ _ (cells _ _ _) _ _ c.loop-s.invariant.0 c.front-p.ensures.value c.front-q.ensures.value c.if-q-p.true in
    omega (arith, h.0)

pub put_sum-r-requires : goal.put_sum-r-requires
put_sum-r-requires c =
    let h = merging-second _ _ _ _ _ _ _ _ _ _ _ _ c.requires.run_of c.requires.run_of_2 _ _ _ _ (cells _ _ _) _ _ c.loop-s.invariant.0 c.front-p.ensures.value c.front-q.ensures.value c.if-q-p.true in
    omega (arith, h.1)

pub loop-s-preserved-then-q-p : goal.loop-s-preserved-then-q-p
unfolding zero64
loop-s-preserved-then-q-p c =
    let h = merging-second _ _ _ _ _ _ _ _ _ _ _ _ c.requires.run_of c.requires.run_of_2 _ _ _ _ (cells _ _ _) _ _ c.loop-s.invariant.0 c.front-p.ensures.value c.front-q.ensures.value c.if-q-p.true in
    (other-turn _ _ _ _ _ _ _ _ _ _ _ _ c.requires.run_of c.requires.run_of_2 _ _ _ _ _ _ _ _ _ _ _ _ _ c.loop-s.invariant.0 c.loop-s.invariant.1 c.front-p.ensures.value c.front-q.ensures.value (omega arith) _ c.if-q-p.true c.put_sum-r.ensures.size_after c.put_sum-r.ensures.wrote_value, c.loop-s.invariant.1, omega arith, omega (arith, h.0))

pub bounds-vals-s-in-loop-s : goal.bounds-vals-s-in-loop-s
bounds-vals-s-in-loop-s c =
    let h = merging-third _ _ _ _ _ _ _ _ _ _ _ _ c.requires.run_of c.requires.run_of_2 _ _ _ _ (cells _ _ _) _ _ c.loop-s.invariant.0 c.front-p.ensures.value c.front-q.ensures.value c.if-p-q.false c.if-q-p.false c.loop-s-test.true in
    omega (arith, h.0)

pub bounds-other-j-in-loop-s : goal.bounds-other-j-in-loop-s
bounds-other-j-in-loop-s c =
    let h = merging-third _ _ _ _ _ _ _ _ _ _ _ _ c.requires.run_of c.requires.run_of_2 _ _ _ _ (cells _ _ _) _ _ c.loop-s.invariant.0 c.front-p.ensures.value c.front-q.ensures.value c.if-p-q.false c.if-q-p.false c.loop-s-test.true in
    omega (arith, h.1)

pub put_sum-r-requires-in-loop-s : goal.put_sum-r-requires-in-loop-s
put_sum-r-requires-in-loop-s c =
    let h = merging-third _ _ _ _ _ _ _ _ _ _ _ _ c.requires.run_of c.requires.run_of_2 _ _ _ _ (cells _ _ _) _ _ c.loop-s.invariant.0 c.front-p.ensures.value c.front-q.ensures.value c.if-p-q.false c.if-q-p.false c.loop-s-test.true in
    omega (arith, h.2)

pub loop-s-preserved : goal.loop-s-preserved
loop-s-preserved c =
    let h = merging-third _ _ _ _ _ _ _ _ _ _ _ _ c.requires.run_of c.requires.run_of_2 _ _ _ _ (cells _ _ _) _ _ c.loop-s.invariant.0 c.front-p.ensures.value c.front-q.ensures.value c.if-p-q.false c.if-q-p.false c.loop-s-test.true in
    (both-turn _ _ _ _ _ _ _ _ _ _ _ _ c.requires.run_of c.requires.run_of_2 _ _ _ _ _ _ _ _ _ _ _ _ _ c.loop-s.invariant.0 c.loop-s.invariant.1 c.front-p.ensures.value c.front-q.ensures.value (omega arith) _ _ c.if-p-q.false c.if-q-p.false c.loop-s-test.true c.own-x-in-loop-s.ensures c.put_sum-r-in-loop-s.ensures.size_after c.put_sum-r-in-loop-s.ensures.wrote_value, c.loop-s.invariant.1, omega (arith, h.0), omega (arith, h.1))

pub returns : goal.returns
returns c =
    let h = merging-end _ _ _ _ _ _ _ _ _ _ _ _ c.requires.run_of c.requires.run_of_2 _ _ (cells _ _ _) _ _ c.loop-s.invariant.0 c.loop-s-test.false in
    record { run_after = h.0; wrote_value = h.1; size_le_last_place = (packed-few 0 _ _ [] [] _ _ _ _ _ h.0).1 }
