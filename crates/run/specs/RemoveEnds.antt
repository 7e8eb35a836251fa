-- What a removal's steps end in, in a whole run: the other demands' tableau at rest, or refusal 14 after fewer pivots than there are bases. 13, 15 and 17 are not given. Assumes nothing.
use Rattle.std.specs.Prelude.{◌≡◌, ◌≢◌, List, [], map, ℕ, ◌+◌, ◌-◌, ◌≤◌, ◌<◌}
use Rattle.std.proofs.Math.Path.{refl, sym as back, ap, subst}
use Rattle.std.proofs.Common.{◌∙◌, arith}
use Rattle.std.proofs.Math.Option.{Option, none, some}
use Rattle.simplex.specs.Choose.{All, all_map}
use Rattle.simplex.specs.Opt.{Kind as KindZ, external}
use Rattle.simplex.specs.Problem.{Tag as TagOf}
use Rattle.simplex.specs.Pass.{State as StateZ}
use Rattle.simplex.specs.Gone.{tag-kind, not-variable}
use Rattle.steps.specs.Number.{all_whole, not_whole, not_finite, Mark}
use Rattle.steps.specs.State.{Term, strength_of, Variable, Changes}
use Rattle.steps.specs.Work.{Work, Outcome, refused, going, ◌>>=◌, refuse, check_finite}
use Rattle.steps.specs.Changes.{find_variable, clear_changed}
use Rattle.steps.specs.Optimise.{the_objective, optimise}
use Rattle.steps.specs.Remove.{drop_marker, purge_tag, drop_uses, remove_steps}
use Rattle.steps.specs.Calls.{begin}
use Rattle.steps.specs.Readable.{uses_in}
use Rattle.keeps.specs.Lists.{Up}
use Rattle.keeps.specs.Uses.{var_number, uses_of}
use Rattle.simplex.specs.bridge.Nums.{finite≢}
use Rattle.simplex.specs.bridge.Rows.{In}
use Rattle.simplex.specs.bridge.Runs.{mark_of}
use Rattle.simplex.proofs.bridge.Runs.{optimise-mark}
use Rattle.simplex.specs.bridge.Ranks.{Goes}
use Rattle.run.specs.Demand.{Key, Moment}
use Rattle.run.specs.Inv.{non_zero_terms, columns, Held, con_of, find_held, VarAt, Inv}
use Rattle.run.specs.Vars.{AlikeAt, Same, same_kept, at_same, known_same, known-back}
use Rattle.run.specs.Passes.{ways_of, Rested, Optimised}
use Rattle.run.specs.Perm.{without_held, all-out}
use Rattle.run.specs.RemoveDrop.{Dropped}
use Rattle.run.specs.RemoveMarks.{drop-mark, purge-mark, uses-mark}
use Rattle.run.specs.RemoveSteps.{sounds, first, drops, Begun, begun, old-symbol, passed}
use Rattle.run.specs.Uses.{single-up, single-kept, uses-found}
use Rattle.run.specs.RemoveUses.{Unnamed, Counts, Using, Went, uses-fall}

module _ (m : Moment) (I : Inv m) (k : Key) (h : Held) (found : find_held k I.held ≡ some h) (K : ℕ → ℕ)
    -- the uses of the demand that goes, and those that are left
    (split : (x : ℕ) → uses_of x m.state.changes.variables ≡ uses_in x (non_zero_terms h.demand.terms) + K x) (unused : (x : ℕ) → K x ≡ 0 → Unnamed x (without_held k I.held))
    (up : Up 0 (map var_number m.state.changes.variables)) where
  abbrev terms : List Term
  terms = non_zero_terms h.demand.terms

  abbrev rest : List Held
  rest = without_held k I.held

  abbrev vs : List Variable
  vs = m.state.changes.variables

  module _ (v : Work) (B : Begun m I k h found v) (left ways : ℕ) (x : Work) (r : Rested columns B.cleared.kind' (map (con_of I.sym) (without_held k I.held)) left ways (purge_tag h.tag v) x) where
    abbrev kind' : ℕ → KindZ
    kind' = B.cleared.kind'

    names-kept : clear_changed x.changes.variables ≡ clear_changed m.state.changes.variables
    unfolding begin
    names-kept = r.kept.variables ∙ ap (λ (c : Changes). clear_changed c.variables) B.cleared.cuts.changes ∙ B.kept.variables

    next-kept : x.tableau.next_id ≡ m.state.tableau.next_id
    unfolding begin
    next-kept = r.kept.next_id ∙ B.cleared.cuts.next_id ∙ B.kept.next_id

    same : Same m.state.changes.variables x.changes.variables
    same = same_kept m.state.changes.variables x.changes.variables names-kept

    -- a variable's column is no symbol of the demand that goes
    no-tag : (j : ℕ) → I.kind j ≡ external → TagOf j (con_of I.sym h) → ⊥
    no-tag j e t = not-variable I.kind j (tag-kind columns I.kind (con_of I.sym h) (sounds m I k h found).0 j t) e

    at-column : (o : Option Variable) (c : ℕ) → VarAt I.kind m.state.tableau.symbols o c → VarAt kind' x.tableau.symbols o c
    unfolding begin
    at-column none c a = tt
    at-column (some u) c a = (
      a.0,
      a.1,
      subst (In c) (back r.kept.symbols) (B.cleared.cuts.stays c (no-tag c a.3) (subst (In c) (back B.kept.symbols) a.2)),
      B.cleared.variables c a.3,
    )

    counted : (o u : Option Variable) (z : ℕ) → find_variable z vs ≡ o → AlikeAt o u → Counts u (uses_in z terms + K z)
    counted none none z e a = tt
    counted none (some u) z e a = absurd a
    counted (some o) none z e a = tt
    counted (some o) (some u) z e a = back a.uses ∙ uses-found z vs (single-up 0 vs up) o e ∙ split z

    starts : Using I.sym I.name (without_held k I.held) K r.table kind' terms x
    starts = record {
      read = record { good = r.good; models = r.models; reads = r.reads; bare = r.kept.artificial B.cleared.read.bare };
      rest = r.rest;
      room = subst (λ (i : ℕ). i ≤ columns) (back next-kept) I.room;
      ids = λ j i. subst (λ (n : ℕ). j < n) (back next-kept) (I.ids j (old-symbol m I k h found v B j (subst (In j) r.kept.symbols i)));
      vars = λ z. at-column (find_variable z x.changes.variables) (I.sym z) (at_same I.kind m.state.tableau.symbols (find_variable z vs) (find_variable z x.changes.variables) (I.sym z) (same z) (I.vars z));
      names = λ z n. I.names z (known-back (find_variable z vs) (find_variable z x.changes.variables) (same z) n);
      single = single-kept vs x.changes.variables names-kept (single-up 0 vs up);
      known = all_map (λ (g : Held) a. all_map (λ (t : Term) n. known_same (find_variable t.variable vs) (find_variable t.variable x.changes.variables) (same t.variable) n) (non_zero_terms g.demand.terms) a) rest
          (all-out (λ (g : Held). All (λ (t : Term). find_variable t.variable vs ≢ none) (non_zero_terms g.demand.terms)) k I.held I.known);
      counts = λ z. counted (find_variable z vs) (find_variable z x.changes.variables) z refl (same z);
    }

    falls : Went I.sym I.name (without_held k I.held) K r.table unused [] x (drop_uses terms x)
    falls = uses-fall I.sym I.name (without_held k I.held) K r.table unused terms kind' x starts

  -- ---- what the steps end in
  pub record Removed (budget : ℕ) (x : Work) : Type 0 where
    pub table : StateZ
    pub kind' : ℕ → KindZ
    pub left : Using I.sym I.name (without_held k I.held) K table kind' [] x
    pub next_id : x.tableau.next_id ≡ m.state.tableau.next_id
    -- the pass, which begins once the demand's symbols are gone
    pub start : Work
    pub begins : Begun m I k h found start
    pub within : x.pivots ≤ budget
    pub fewer : x.pivots < ways_of (purge_tag h.tag start).tableau.symbols begins.table.B

  -- the budget is used up by fewer pivots than there are bases
  pub record Spent (budget : ℕ) : Type 0 where
    pub start : Work
    pub begins : Begun m I k h found start
    pub fewer : budget < ways_of (purge_tag h.tag start).tableau.symbols begins.table.B

  abbrev pub Ends : ℕ → Outcome Work → Type 0
  Ends budget (refused n p t) = (n ≡ 14) × Spent budget
  Ends budget (going x) = Removed budget x

  -- ---- the steps, one after the other
  module _ (budget : ℕ) where
    pass : Work → Outcome Work
    pass v = optimise (budget - v.pivots) the_objective (purge_tag h.tag v)

    fall : Work → Outcome Work
    fall v = going (drop_uses terms v)

    fall-mark : (t : Outcome Work) → mark_of (t >>= fall) ≡ all_whole → mark_of t ≡ all_whole
    unfolding ◌>>=◌ mark_of fall
    fall-mark (refused n p q) e = e
    fall-mark (going x) e = back (uses-mark terms x) ∙ e

    pass-mark : (t : Outcome Work) → mark_of (t >>= pass) ≡ all_whole → mark_of t ≡ all_whole
    unfolding ◌>>=◌ mark_of pass
    pass-mark (refused n p q) e = e
    pass-mark (going v) e = back (purge-mark h.tag v) ∙ optimise-mark (budget - v.pivots) the_objective (purge_tag h.tag v) e

    abbrev ways : (v : Work) → Begun m I k h found v → ℕ
    ways v B = ways_of (purge_tag h.tag v).tableau.symbols B.table.B

    at-end : (v : Work) (B : Begun m I k h found v) (t : Outcome Work) → mark_of (t >>= fall) ≡ all_whole
        → (mark_of t ≡ all_whole → Optimised columns B.cleared.kind' (map (con_of I.sym) (without_held k I.held)) (budget - v.pivots) (ways v B) (purge_tag h.tag v) t) → Ends budget (t >>= fall)
    unfolding ◌>>=◌ mark_of fall
    at-end v B (refused n p q) e f = let o = f e in (o.0, record { start = v; begins = B; fewer = omega (arith, o.1, B.pivots) })
    at-end v B (going x) e f =
        let r = f (back (uses-mark terms x) ∙ e) in
        let w = falls v B (budget - v.pivots) (ways v B) x r in
        record {
          table = r.table;
          kind' = w.kind';
          left = w.used;
          next_id = w.next_id ∙ next-kept v B (budget - v.pivots) (ways v B) x r;
          start = v;
          begins = B;
          within = omega (arith, w.pivots, r.count, B.cleared.cuts.pivots, B.pivots, r.within);
          fewer = omega (arith, w.pivots, r.count, B.cleared.cuts.pivots, B.pivots, r.fewer);
        }

    after-drop : (t : Outcome Work) → mark_of (t >>= pass >>= fall) ≡ all_whole → (mark_of t ≡ all_whole → Goes (Dropped columns I.kind (map (con_of I.sym) (without_held k I.held)) (first m I k h found)) t) → Ends budget (t >>= pass >>= fall)
    unfolding ◌>>=◌ mark_of pass
    after-drop (refused n p q) e f = absurd (f e)
    after-drop (going v) e f =
        let B : Begun m I k h found v = begun m I k h found v (f (pass-mark (going v) (fall-mark (pass v) e))) in
        at-end v B (pass v) e (λ q. passed m I k h found v B (budget - v.pivots) q)

    pub steps-end : mark_of (remove_steps budget h.tag (strength_of h.demand.relation) (non_zero_terms h.demand.terms) (begin m.state)) ≡ all_whole
        → Ends budget (remove_steps budget h.tag (strength_of h.demand.relation) (non_zero_terms h.demand.terms) (begin m.state))
    unfolding remove_steps check_finite refuse first pass fall
    steps-end = go (first m I k h found).mark refl
      where
        w : Work
        w = first m I k h found

        on : mark_of (drop_marker h.tag.marker w >>= pass >>= fall) ≡ all_whole → Ends budget (drop_marker h.tag.marker w >>= pass >>= fall)
        on e =
            let d : mark_of (drop_marker h.tag.marker w) ≡ all_whole = pass-mark (drop_marker h.tag.marker w) (fall-mark (drop_marker h.tag.marker w >>= pass) e) in
            after-drop (drop_marker h.tag.marker w) e (λ q. drops m I k h found (drop-mark h.tag.marker w d) q)

        go : (t : Mark) → w.mark ≡ t
            → mark_of ((elim t [ all_whole ↦ going w | not_whole ↦ going w | not_finite ↦ refused 13 w.pivots w.mark ]) >>= drop_marker h.tag.marker >>= pass >>= fall) ≡ all_whole
            → Ends budget ((elim t [ all_whole ↦ going w | not_whole ↦ going w | not_finite ↦ refused 13 w.pivots w.mark ]) >>= drop_marker h.tag.marker >>= pass >>= fall)
        go all_whole q = unfold ◌>>=◌ in on
        go not_whole q = unfold ◌>>=◌ in on
        go not_finite q = unfold ◌>>=◌ mark_of in λ e. absurd (finite≢ (back q ∙ e))
