-- 25 IS NEVER ANSWERED, of the public calls: in any sequence of them over lent tables from a reset on, accepted or refused, with resets, drops, lines of text and fetches anywhere, no fit call is answered 25; an unfit one has its own
-- number (`tables-unfit`). Assumes nothing.
use Rattle.std.proofs.Common.{arith}
use Rattle.std.specs.Prelude.{◌≡◌, refl, ◌≢◌, Bool, true, false, List, [], ◌∷◌, Float}
use Rattle.std.proofs.Math.Option.{some}
use Rattle.steps.specs.Number.{cutoff_fits}
use Rattle.steps.specs.State.{State}
use Rattle.steps.specs.Calls.{reset, refused_by}
use Rattle.steps.specs.Changing as changing
use Rattle.steps.proofs.Cutoff.{reset-refused, reset-taken}
use Rattle.keeps.specs.Lists.{All}
use Rattle.keeps.specs.Keeps as keeps
use Rattle.keeps.specs.Never.{never-25}
use Rattle.sparse.specs.Sparse.{Sparse}
use Rattle.sparse.specs.Fits.{Lengths}
use Rattle.run.specs.Demand.{Call, resets, fetches, adds, removes, drops, adds_edit, removes_edit, suggests, make, next, start, after}
use Rattle.lasting.specs.Runs.{Step, Lent, call_of_step, calls_of, answers}
use Rattle.lasting.proofs.Runs.{tables-answer}

run-make : (c : Call) (s : State) → keeps.Run s → keeps.Run (make c s).state
unfolding make
run-make (resets cutoff) s h = keeps.resets cutoff h
run-make fetches s h = keeps.fetches h
run-make (adds g n ts k x b) s h = keeps.adds g n ts k x b h
run-make (removes n b) s h = keeps.removes n b h
run-make (drops g b) s h = keeps.drops g b h
run-make (adds_edit v k b) s h = keeps.adds_edit v k b h
run-make (removes_edit v b) s h = keeps.removes_edit v b h
run-make (suggests v x b) s h = keeps.suggests v x b h

run-after : (cutoff : Float) → cutoff_fits cutoff ≡ true → (cs : List Call) → keeps.Run (after cutoff cs).state
unfolding after start next
run-after cutoff fits [] = keeps.starts cutoff fits
run-after cutoff fits (c ∷ cs) = run-make c (after cutoff cs).state (run-after cutoff fits cs)

reset-25 : (cutoff : Float) (s : State) → (reset cutoff s).answer.number ≢ 25
reset-25 cutoff s = go (cutoff_fits cutoff) refl
  where
    go : (b : Bool) → cutoff_fits cutoff ≡ b → (reset cutoff s).answer.number ≢ 25
    go true e q = omega (arith, rw (reset-taken cutoff s e) at q)
    go false e q = unfold refused_by in omega (arith, rw (reset-refused cutoff s e) at q)

make-25 : (c : Call) (s : State) → keeps.Run s → (make c s).answer.number ≢ 25
unfolding make
make-25 (resets cutoff) s h = reset-25 cutoff s
make-25 fetches s h = λ q. omega (arith, q)
make-25 (adds g n ts k x b) s h = never-25 (changing.adds g n ts k x b) h
make-25 (removes n b) s h = never-25 (changing.removes n b) h
make-25 (drops g b) s h = never-25 (changing.drops g b) h
make-25 (adds_edit v k b) s h = never-25 (changing.adds_edit v k b) h
make-25 (removes_edit v b) s h = never-25 (changing.removes_edit v b) h
make-25 (suggests v x b) s h = never-25 (changing.suggests v x b) h

-- "from a reset with this cutoff"
module _ (cutoff : Float) (fits : cutoff_fits cutoff ≡ true) (t : Sparse) (long : Lengths t) where
  -- "25 a removal would make a 33rd gone entry": in such a sequence none would
  pub tables-25 : (s : Step) (ss : List Step) → All Lent (s ∷ ss) → (c : Call) → call_of_step s ≡ some c → (answers cutoff t s ss).number ≢ 25
  tables-25 s ss h c is = rw (tables-answer cutoff fits t long s ss h c is) (make-25 c (after cutoff (calls_of ss)).state (run-after cutoff fits (calls_of ss)))
