-- The numbers of the tests are at most 27.
-- Assumes nothing.
use Rattle.std.specs.Prelude.{ℕ, ◌≤◌, Bool, true, false, not, ◌&&◌, cond, List, eqb, Float}
use Rattle.std.proofs.Common.{arith}
use Rattle.std.specs.Float.Ieee.{eq}
use Rattle.steps.specs.Number.{below_zero, is_finite}
use Rattle.steps.specs.Strength.{required}
use Rattle.sparse.specs.Places.{constraint_numbers_at}
use Rattle.changes.specs.declared.terms.Pack.{Pack}
use Rattle.refusals.specs.declared.gone.Taken.{Taken}
use Rattle.refusals.specs.Refusals.{constraints_in, live_in, edited_in, group_in, gone_full_in, constraints_full_in, variables_full_in, ids_used_in, room_refusal, input_refusal, add_refusal, edit_pack, add_edit_refusal, suggest_refusal, remove_refusal, remove_edit_refusal, drop_refusal}

low : (b : Bool) (k y : ℕ) → k ≤ 27 → y ≤ 27 → cond b k y ≤ 27
low true k y h q = h
low false k y h q = q

room-low : (u : Float) (w : List ℕ) (p : Pack) → room_refusal u w p ≤ 27
unfolding room_refusal
room-low u w p = low (constraints_full_in w) 10 _ (omega arith) (low (variables_full_in u w p) 9 _ (omega arith) (low (ids_used_in w) 11 0 (omega arith) (omega arith)))

pub add_low : (u : Float) (g x : ℕ) (p : Pack) (constant strength : Float) (w : List ℕ) → add_refusal u g x p constant strength w ≤ 27
unfolding add_refusal input_refusal
add_low u g x p constant strength w =
    low (eqb g 0) 26 _ (omega arith)
    (low (not (p.finite && is_finite constant && is_finite strength)) 1 _ (omega arith)
    (low (below_zero strength) 2 _ (omega arith) (low (eqb p.count 17) 3 _ (omega arith) (low (live_in w constraint_numbers_at (constraints_in w) x) 4 _ (omega arith) (room-low u w p)))))

pub add-edit-low : (u : Float) (x : ℕ) (strength : Float) (w b : List ℕ) → add_edit_refusal u x strength w b ≤ 27
unfolding add_edit_refusal
add-edit-low u x strength w b = low (edited_in w b x) 6 _ (omega arith) (low (eq strength required) 7 _ (omega arith) (room-low u w (edit_pack x)))

pub suggest-low : (x : ℕ) (new : Float) (w b : List ℕ) → suggest_refusal x new w b ≤ 27
unfolding suggest_refusal
suggest-low x new w b = low (not (is_finite new)) 1 _ (omega arith) (low (not (edited_in w b x)) 8 0 (omega arith) (omega arith))

full-low : (w b : List ℕ) (r : List Float) (x : Taken) → cond (gone_full_in w b r x) 25 0 ≤ 27
full-low w b r x = low (gone_full_in w b r x) 25 0 (omega arith) (omega arith)

pub remove-low : (x : ℕ) (w b : List ℕ) (r : List Float) → remove_refusal x w b r ≤ 27
unfolding remove_refusal
remove-low x w b r = low (not (live_in w constraint_numbers_at (constraints_in w) x)) 5 _ (omega arith) (full-low w b r _)

pub remove-edit-low : (x : ℕ) (w b : List ℕ) (r : List Float) → remove_edit_refusal x w b r ≤ 27
unfolding remove_edit_refusal
remove-edit-low x w b r = low (not (edited_in w b x)) 8 _ (omega arith) (full-low w b r _)

pub drop-low : (g : ℕ) (w b : List ℕ) (r : List Float) → drop_refusal g w b r ≤ 27
unfolding drop_refusal
drop-low g w b r = low (eqb g 0) 26 _ (omega arith) (low (not (group_in w (constraints_in w) g)) 27 _ (omega arith) (full-low w b r _))
