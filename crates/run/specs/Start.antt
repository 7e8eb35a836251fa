-- A reset begins a whole run, with any cutoff that it takes, and a fetch goes on with it. Assumes nothing.
use Rattle.std.specs.Prelude.{◌≡◌, refl, ◌≢◌, false, cond, true, [], ℕ, Float}
use Rattle.std.proofs.Common.{sym, ap, ◌∙◌, true≢false, arith}
use Rattle.simplex.specs.Ord.{0ℤ, ≼_refl}
use Rattle.simplex.specs.Lin.{δ, δ-other, dot-δ}
use Rattle.simplex.specs.At.{at, At, here, there, at?, at_here}
use Rattle.simplex.specs.Choose.{all_map}
use Rattle.simplex.specs.Opt.{Kind as KindZ, const, external, dummy}
use Rattle.simplex.specs.Pass.{State as StateZ, Good}
use Rattle.simplex.specs.Steps.{dot-nil}
use Rattle.simplex.specs.Problem.{Models}
use Rattle.simplex.specs.Gone.{dummy≢external, const≢external}
use Rattle.steps.specs.Number.{cutoff_fits}
use Rattle.steps.specs.State.{Term, State}
use Rattle.steps.specs.Changes.{find_variable, clear_changed, fetch_changes}
use Rattle.steps.specs.Tests.{find_constraint, find_edit}
use Rattle.steps.specs.Calls.{empty, begin}
use Rattle.steps.proofs.Cutoff.{reset-taken}
use Rattle.simplex.specs.bridge.Columns.{reset-z}
use Rattle.run.specs.Demand.{Moment, start, next, make, live_after, accepted, resets, fetches}
use Rattle.run.specs.Inv.{non_zero_terms, columns, Held, find_held, Inv}
use Rattle.run.specs.Vars.{Same, same_refl, same-trans, same_cond, same-clear, same-reported, at_same, known_same, known-back}

-- ---- the empty tableau: column 0 is the constant's, every other is free

bare : ℕ → KindZ
bare = at 0 const (λ _. external)

blank : StateZ
blank = record { B = λ _. false; R = δ; o = λ _. 0ℤ }

kind-apart : (j : ℕ) → bare j ≢ external → j ≡ 0
unfolding bare
kind-apart j h = go (at? 0 const (λ _. external) j)
  where
    go : At 0 const (λ _. external) j → j ≡ 0
    go (here p e) = p
    go (there p e) = absurd (h e)

not-external : (j : ℕ) (t : KindZ) → t ≢ external → bare j ≡ t → j ≡ 0
not-external j t n e = kind-apart j (λ q. n (sym e ∙ q))

dummy≢const : dummy ≢ const
dummy≢const p = let z : ◌≡◌ {A = ℕ} 0 1 = cc in omega arith

no-dummy : (j : ℕ) → bare j ≡ dummy → ⊥
unfolding bare
no-dummy j e = let z = not-external j dummy dummy≢external e in dummy≢const (sym e ∙ ap (at 0 const (λ _. external)) z ∙ at_here 0 const (λ _. external))

blank-good : Good columns bare blank
unfolding blank bare
blank-good = record {
  zero = at_here 0 const (λ _. external);
  consts = λ j e. not-external j const const≢external e;
  shape = record { below = λ b e. absurd (true≢false (sym e)); const = refl; unit = λ j e i. refl; gone = λ b e j. absurd (true≢false (sym e)) };
  clear = λ b e. absurd (true≢false (sym e));
  feasible = λ j e s. absurd (true≢false (sym e));
  no-var = λ i e. refl;
  no-vars = λ j i n e. δ-other (λ p. n (ap (at 0 const (λ _. external)) p ∙ e));
  dummies = λ j i d s. absurd (no-dummy j d);
  still-dummies = λ j d. absurd (no-dummy j d);
}

blank-models : Models columns bare blank.B blank.R blank.o []
unfolding blank
blank-models = record {
  shape = blank-good.shape;
  clear = blank-good.clear;
  sounds = tt;
  solves = λ σ. ((λ s. tt), (λ e j l. sym (dot-δ columns j σ l)));
  worth = λ σ s. dot-nil columns σ;
}

-- A RUN STARTS AT A RESET
pub start-inv : (cutoff : Float) → cutoff_fits cutoff ≡ true → Inv (start cutoff)
unfolding start empty begin blank bare find_variable find_constraint find_edit find_held
start-inv cutoff fits = record {
  kind = bare;
  table = blank;
  sym = λ v. 0;
  name = λ j. 0;
  held = [];
  good = blank-good;
  rest = λ j s. ≼_refl 0ℤ;
  models = blank-models;
  whole = refl;
  reads = reset-z cutoff fits 1 (λ _. 0ℤ);
  first = omega arith;
  room = omega arith;
  ids = λ j m. absurd m;
  live = refl;
  once = tt;
  inputs = tt;
  shaped = tt;
  constraints = λ n. tt;
  edits = λ v. tt;
  vars = λ v. tt;
  names = λ v k. absurd (k refl);
  known = tt;
}

pub reset-inv : (cutoff : Float) → cutoff_fits cutoff ≡ true → (m : Moment) → Inv (next (resets cutoff) m)
unfolding next make live_after accepted start
reset-inv cutoff fits m = rw (reset-taken cutoff m.state fits) (start-inv cutoff fits)

-- ---- a fetch moves flags and old values only

fetched : (s : State) → Same s.changes.variables (fetch_changes s).state.changes.variables
unfolding fetch_changes
fetched s =
    same-trans s.changes.variables (cond s.changes.should_clear (clear_changed s.changes.variables) s.changes.variables) _
    (same_cond s.changes.should_clear s.changes.variables (clear_changed s.changes.variables) s.changes.variables (same-clear s.changes.variables) (same_refl s.changes.variables))
    (same-reported s.changes.gone s.tableau.rows (cond s.changes.should_clear (clear_changed s.changes.variables) s.changes.variables))

-- the invariant reads only the tables' numbers and the variables' names
pub fetch-inv : (m : Moment) → Inv m → Inv (next fetches m)
unfolding next make live_after accepted fetch_changes begin
fetch-inv m I = record {
  kind = I.kind;
  table = I.table;
  sym = I.sym;
  name = I.name;
  held = I.held;
  good = I.good;
  rest = I.rest;
  models = I.models;
  whole = I.whole;
  reads = I.reads;
  first = I.first;
  room = I.room;
  ids = I.ids;
  live = I.live;
  once = I.once;
  inputs = I.inputs;
  shaped = I.shaped;
  constraints = I.constraints;
  edits = I.edits;
  vars = λ v. at_same I.kind m.state.tableau.symbols (find_variable v m.state.changes.variables) _ (I.sym v) (fetched m.state v) (I.vars v);
  names = λ v k. I.names v (known-back (find_variable v m.state.changes.variables) _ (fetched m.state v) k);
  known = all_map (λ (h : Held). all_map (λ (t : Term) k. known_same (find_variable t.variable m.state.changes.variables) _ (fetched m.state t.variable) k) (non_zero_terms h.demand.terms)) I.held I.known;
}
