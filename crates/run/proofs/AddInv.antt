-- An accepted add's state meets the invariant of a whole run; a refusal 12 means that nothing meets the demands. For an add and an add edit alike. Assumes nothing.
use Rattle.std.specs.Prelude.{ℕ, ◌≤◌, ◌<◌, ◌≡◌, ◌≢◌, Bool, true, false, length, ℤ, Float}
use Rattle.std.proofs.Common.{arith, ◌∙◌, lit<}
use Rattle.std.proofs.Math.Path.{refl, sym, ap, subst}
use mathlib.Core.List.{List, [], ◌∷◌, map}
use Rattle.std.proofs.Math.Option.{Option, none, some}
use Rattle.laws.specs.Z.{◌≺◌}
use Rattle.laws.specs.exact.Whole.{val}
use Rattle.simplex.specs.Ord.{0ℤ}
use Rattle.simplex.specs.Lin.{Vec}
use Rattle.simplex.specs.At.{at, at_here, at_there}
use Rattle.simplex.specs.Choose.{All, all_map}
use Rattle.simplex.specs.Opt.{const, external}
use Rattle.simplex.specs.Problem.{Con, Models}
use Rattle.steps.specs.Number.{below_zero, all_whole, whole_if, says_whole}
use Rattle.steps.specs.Symbol.{Symbol}
use Rattle.steps.specs.State.{Term, strength_of, Constraint, Edit, Variable}
use Rattle.steps.specs.Work.{Work, marking}
use Rattle.steps.specs.Changes.{find_variable}
use Rattle.steps.specs.CreateRow.{Created}
use Rattle.steps.specs.Add.{whole_inputs, add_steps}
use Rattle.steps.specs.Tests.{find_constraint, find_edit}
use Rattle.steps.specs.Calls.{begin, finish}
use Rattle.simplex.specs.bridge.Rows.{In}
use Rattle.run.specs.Demand.{Key, of_constraint, of_edit, same_key, Demand, Moment, Meets, None}
use Rattle.run.specs.Inv.{non_zero_terms, columns, Held, expr_of, other_id, con_of, form_of, find_held, ConstraintAt, EditAt, VarAt, Inv}
use Rattle.run.specs.Words.{Agrees, meets-from}
use Rattle.run.specs.Vars.{Same, same_kept, at_same, known_same, known-back}
use Rattle.run.specs.Perm.{found-hit, found-miss}
use Rattle.run.specs.Inputs.{inputs-z}
use Rattle.run.specs.Build.{KnownIn, new_held, Built}
use Rattle.run.specs.BuildRow.{built}
use Rattle.run.specs.AddEnds.{Unmet, ArtificialEnds}
use Rattle.run.specs.AddMarks.{mark_added, created_of, placed_and_rested, WholeSteps, whole-steps}
use Rattle.run.specs.AddSteps.{Finished, Final, final}
use Rattle.run.proofs.AtRest.{whole-terms}

-- a key that is not found is no one's
pub held_none : (k : Key) (hs : List Held) → find_held k hs ≡ none → All (λ (g : Held). same_key k g.demand.key ≡ false) hs
held_none k [] e = tt
held_none k (g ∷ hs) e = go (same_key k g.demand.key) refl (held_none k hs)
  where
    is_none : Option Held → Type 0
    is_none none = Unit
    is_none (some h) = ⊥

    go : (b : Bool) → same_key k g.demand.key ≡ b → (find_held k hs ≡ none → All (λ (g : Held). same_key k g.demand.key ≡ false) hs) → (same_key k g.demand.key ≡ false) × All (λ (g : Held). same_key k g.demand.key ≡ false) hs
    go true q ih = absurd (subst is_none (sym e ∙ found-hit k g hs q) tt)
    go false q ih = (q, ih (sym (found-miss k g hs q) ∙ e))

module _ (art : ArtificialEnds) (m : Moment) (I : Inv m) (d : Demand) (budget : ℕ) (up : below_zero (strength_of d.relation) ≡ false) (few : length d.terms ≤ 16) (low : m.state.tableau.next_id ≤ 4_294_900_000)
    (whole : mark_added (add_steps budget d.terms d.constant d.relation (begin m.state)) ≡ all_whole) where
  abbrev w : Work
  w = marking (whole_if (whole_inputs d.terms d.constant d.relation)) (begin m.state)

  abbrev c : Created
  c = created_of d.terms d.constant d.relation (begin m.state)

  pub W : WholeSteps budget d.terms d.constant d.relation (begin m.state)
  W = whole-steps budget d.terms d.constant d.relation (begin m.state) whole

  pub B : Built columns I.kind I.table I.held d w c
  unfolding created_of begin marking
  B =
      built columns I.kind I.table I.sym I.name I.held d w (lit< tt) I.good I.models I.reads refl I.first I.ids I.vars I.names I.known (omega (arith, few, low))
      (inputs-z d.terms d.constant d.relation W.inputs) up W.created

  start-next : w.tableau.next_id ≡ m.state.tableau.next_id
  unfolding begin marking
  start-next = refl

  pub room : c.work.tableau.next_id < columns
  room = omega (arith, few, low, B.next, start-next)

  pub ends : Final art columns I.kind I.table I.held d w c B (lit< tt) room budget (placed_and_rested budget c)
  ends = final art columns I.kind I.table I.held d w c B (lit< tt) room budget W.middle W.last

  -- ---- the demand as it lives: a number of the same worth for its constant
  module _ (k : Float) (same : val k ≡ val d.constant) (inputs : whole_inputs d.terms k d.relation ≡ true) where
    abbrev e : Demand
    e = record { key = d.key; group = d.group; terms = d.terms; constant = k; relation = d.relation }

    abbrev new : Held
    new = record { demand = e; tag = c.tag }

    same-con : con_of B.column new ≡ con_of B.column (new_held d c)
    unfolding con_of new_held
    same-con = ap (λ (z : ℤ). record { expr = expr_of B.column (non_zero_terms d.terms) z; form = form_of d.relation; weight = val (strength_of d.relation); marker = c.tag.marker.id; other = other_id c.tag.other }) same

    same-cons : map (con_of B.column) (new_held d c ∷ I.held) ≡ map (con_of B.column) (new ∷ I.held)
    same-cons = ap (λ (x : Con). x ∷ map (con_of B.column) I.held) (sym same-con)

    known : All (KnownIn c.work) (new ∷ I.held)
    unfolding new_held
    known = B.known

    -- ---- 12: nothing meets the demands
    column-in : (v : ℕ) → find_variable v c.work.changes.variables ≢ none → (B.column v < columns) × (B.column v ≢ 0)
    column-in v h = go (find_variable v c.work.changes.variables) refl (B.vars v)
      where
        go : (t : Option Variable) → find_variable v c.work.changes.variables ≡ t → VarAt B.kind c.work.tableau.symbols t (B.column v) → (B.column v < columns) × (B.column v ≢ 0)
        go none q a = absurd (h q)
        go (some u) q a = (omega (arith, room, B.ids (B.column v) a.2), λ z. clash (sym a.3 ∙ ap B.kind z ∙ B.good.zero))
          where
            clash : external ≡ const → ⊥
            clash p = let z : ◌≡◌ {A = ℕ} 0 1 = cc in omega arith

    pub none-meet : Unmet columns (map (con_of B.column) (new_held d c ∷ I.held)) → None (e ∷ m.live)
    none-meet U a x above M = U σ (subst (λ (z : ℤ). 0ℤ ≺ z) (sym (at_here 0 a (λ j. x (B.name j)))) above) (subst (All (Rattle.simplex.specs.Problem.Meets columns σ)) (sym same-cons) met)
      where
        σ : Vec
        σ = at 0 a (λ j. x (B.name j))

        agree : All (Agrees B.column σ x) (new ∷ I.held)
        agree = all_map (λ (h : Held) q. all_map (λ (t : Term) z. let l = column-in t.variable z in (l.0, at_there 0 a (λ j. x (B.name j)) (B.column t.variable) l.1 ∙ ap x (B.names t.variable z))) (non_zero_terms h.demand.terms) q) (new ∷ I.held) known

        met : All (Rattle.simplex.specs.Problem.Meets columns σ) (map (con_of B.column) (new ∷ I.held))
        met = meets-from B.column σ x (new ∷ I.held) (all_map whole-terms (new ∷ I.held) ((inputs, up), I.inputs)) agree
            (subst (λ (z : ℤ). Meets (map (λ (h : Held). h.demand) (new ∷ I.held)) z x) (sym (at_here 0 a (λ j. x (B.name j)))) (subst (λ (l : List Demand). Meets (e ∷ l) a x) I.live M))

    -- ---- accepted
    module _ (x : Work) (F : Finished art columns I.kind I.table I.held d w c B (lit< tt) room budget x) (mark : x.mark ≡ all_whole) where
      abbrev v : Work
      v = F.middle

      symbols : x.tableau.symbols ≡ c.work.tableau.symbols
      symbols = F.rested.kept.symbols ∙ F.placed.symbols

      vars : Same c.work.changes.variables x.changes.variables
      vars = same_kept c.work.changes.variables x.changes.variables (F.rested.kept.variables ∙ F.placed.variables)

      next-is : x.tableau.next_id ≡ v.tableau.next_id
      next-is = F.rested.kept.next_id

      pub after-add : find_held d.key I.held ≡ none → (cs : List Constraint) (es : List Edit) → ((j : ℕ) → ConstraintAt (find_constraint j cs) (find_held (of_constraint j) (new ∷ I.held)))
          → ((j : ℕ) → EditAt j (find_edit j es) (find_held (of_edit j) (new ∷ I.held))) → Inv (record { state = finish x cs es; live = e ∷ m.live })
      unfolding finish begin says_whole
      after-add lone cs es constraints edits = record {
        kind = B.kind;
        table = F.rested.table;
        sym = B.column;
        name = B.name;
        held = new ∷ I.held;
        good = F.rested.good;
        rest = F.rested.rest;
        models = subst (Models columns B.kind F.rested.table.B F.rested.table.R F.rested.table.o) same-cons F.rested.models;
        whole = ap says_whole mark;
        reads = record {
          up = F.rested.reads.up;
          kinds = F.rested.reads.kinds;
          unknown = F.rested.reads.unknown;
          rows-up = F.rested.reads.rows-up;
          rows-live = F.rested.reads.rows-live;
          rows = F.rested.reads.rows;
          objective = F.rested.reads.objective;
          beyond = F.rested.reads.beyond;
          cutoff = F.rested.reads.cutoff;
          artificial = tt;
        };
        first = omega (arith, next-is, F.placed.above, B.first);
        room = omega (arith, next-is, F.placed.next, room);
        ids = λ j i. omega (arith, next-is, F.placed.above, B.ids j (subst (In j) symbols i));
        live = ap (λ (l : List Demand). e ∷ l) I.live;
        once = (held_none d.key I.held lone, I.once);
        inputs = ((inputs, up), I.inputs);
        shaped = (B.shaped, I.shaped);
        constraints = constraints;
        edits = edits;
        vars = λ u. at_same B.kind x.tableau.symbols (find_variable u c.work.changes.variables) (find_variable u x.changes.variables) (B.column u) (vars u)
            (subst (λ (xs : List Symbol). VarAt B.kind xs (find_variable u c.work.changes.variables) (B.column u)) (sym symbols) (B.vars u));
        names = λ u h. B.names u (known-back (find_variable u c.work.changes.variables) (find_variable u x.changes.variables) (vars u) h);
        known = all_map (λ (h : Held) q. all_map (λ (t : Term) z. known_same (find_variable t.variable c.work.changes.variables) (find_variable t.variable x.changes.variables) (vars t.variable) z) (non_zero_terms h.demand.terms) q) (new ∷ I.held) known;
      }
