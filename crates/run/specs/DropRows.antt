-- Each removal of a drop takes a row away: its pass starts with fewer rows than the state before it has, and the state that it leaves has no more. Assumes nothing.
use Rattle.std.specs.Prelude.{◌≡◌, true, ℕ, zero, suc, ◌≤◌, length}
use Rattle.std.proofs.Math.Option.{some}
use Rattle.std.proofs.Common.{arith}
use Rattle.steps.specs.State.{Constraint, State}
use Rattle.steps.specs.Symbol.{Symbol}
use Rattle.steps.specs.Work.{Work, Outcome, going, count_pivot, ◌>>=◌, check_finite}
use Rattle.steps.specs.Substitute.{pivot}
use Rattle.steps.specs.Remove.{remove_constraint_effects, drop_marker, purge_tag, remove_steps}
use Rattle.steps.specs.Tests.{member, find_constraint, drop_constraint}
use Rattle.steps.specs.Calls.{begin, finish, refused_by, accepted_as, conclude, remove_stored}
use Rattle.steps.specs.Readable.{readable}
use Rattle.steps.proofs.Ends.{Within, Ends, stops, goes}
use Rattle.steps.proofs.Steps.{remove_steps-ends}
use Rattle.steps.proofs.Answered.{limits, starts}
use Rattle.keeps.specs.Passes as keeps
use Rattle.keeps.specs.Frame.{pivot-count}
use Rattle.keeps.specs.Tested.{reads_in}
use Rattle.keeps.specs.Removal.{removed-rows}

-- where the pass of a removal starts, before the symbols go
abbrev pub marker_gone : Constraint → State → Outcome Work
marker_gone d s = check_finite (remove_constraint_effects d.tag d.strength (begin s)) >>= drop_marker d.tag.marker

accepted-rows : (n : ℕ) (b : ℕ) (s : State) (k : ℕ) (o : Outcome Work) → Ends (limits b s) (Within (limits b s)) o → keeps.Ends (λ u. length u.tableau.rows ≤ k) o
    → (conclude s o (λ w. finish w (drop_constraint n s.constraints) s.edits)).answer.number ≡ 0 → length (conclude s o (λ w. finish w (drop_constraint n s.constraints) s.edits)).state.tableau.rows ≤ k
unfolding conclude refused_by accepted_as finish member
accepted-rows n b s k o (stops {n = zero} h) f e = absurd h.listed
accepted-rows n b s k o (stops {n = suc j} h) f e = absurd (omega (arith, e))
accepted-rows n b s k o (goes {a = u} h) f e = f

pub removal-rows : (d : Constraint) (b : ℕ) (s : State) → readable s ≡ true → find_constraint d.number s.constraints ≡ some d → (v : Work) → marker_gone d s ≡ going v
    → (suc (length (purge_tag d.tag v).tableau.rows) ≤ length s.tableau.rows)
    × ((remove_stored d.number d b s).answer.number ≡ 0 → length (remove_stored d.number d b s).state.tableau.rows ≤ length (purge_tag d.tag v).tableau.rows)
unfolding remove_stored member
removal-rows d b s R f v q =
    let h = removed-rows d.number b s d (reads_in s R) f v q in
    (h.0, accepted-rows d.number b s (length (purge_tag d.tag v).tableau.rows) (remove_steps b d.tag d.strength d.terms (begin s)) (remove_steps-ends {lim = limits b s} tt tt tt tt d.tag d.strength d.terms (begin s) (starts b s)) h.1)

-- a pivot leaves as many rows as there were
pub pivot-rows : (l : ℕ) (e : Symbol) (w : Work) → length (count_pivot (pivot l e w)).tableau.rows ≡ length w.tableau.rows
unfolding count_pivot
pivot-rows l e w = pivot-count l e w
