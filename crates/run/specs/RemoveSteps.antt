-- A removal's steps in a whole run, for a constraint and an edit alike: they leave a tableau at rest that models the other demands, or are refused 14. Assumes nothing.
use Rattle.std.proofs.Math.Path.{◌≡◌, refl, ap, subst}
use Rattle.std.proofs.Common.{sym as back, ◌∙◌, inr}
use Rattle.std.specs.Prelude.{◌⊎◌, ◌≢◌, List, ◌∷◌, map, ℕ, ◌^◌, ◌<◌, true, Float}
use Rattle.std.proofs.Math.Logic.{inl}
use Rattle.std.proofs.Math.Option.{none, some}
use native.Mathlib.Omega.{arith}
use Rattle.laws.specs.exact.Whole.{Zb, val}
use Rattle.simplex.specs.Ord.{0ℤ}
use Rattle.simplex.specs.Opt.{Kind as KindZ, const, slack, dummy}
use Rattle.simplex.specs.Form.{Form, le!, eq!, ge!, le, eq, ge, soft}
use Rattle.simplex.specs.Problem.{Con, marker_kind, Tag as TagOf, Sounds, Models}
use Rattle.simplex.specs.Pass.{State as StateZ}
use Rattle.simplex.specs.Gone.{tag-kind, not-variable}
use Rattle.steps.specs.Number.{all_whole}
use Rattle.steps.specs.Symbol.{Symbol}
use Rattle.steps.specs.State.{strength_of, Tag}
use Rattle.steps.specs.Work.{Work, going}
use Rattle.steps.specs.Optimise.{the_objective, optimise}
use Rattle.steps.specs.Remove.{remove_constraint_effects, drop_marker, purge_tag}
use Rattle.steps.specs.Calls.{begin}
use Rattle.steps.proofs.AfterRemove.{remove_effects-after}
use Rattle.simplex.specs.bridge.Rows.{In, NotIn}
use Rattle.simplex.specs.bridge.Table.{kind_of, Live}
use Rattle.simplex.proofs.bridge.Looks.{in-or-not}
use Rattle.simplex.specs.bridge.Runs.{mark_of}
use Rattle.simplex.specs.bridge.Ranks.{Goes}
use Rattle.run.specs.Demand.{Key, Moment}
use Rattle.run.specs.Inv.{columns, Held, form_of, other_id, con_of, find_held, Shaped, WholeDemand, Inv}
use Rattle.run.specs.Inputs.{inputs-z}
use Rattle.run.specs.Steady.{Kept, kept_trans}
use Rattle.run.specs.Passes.{ways_of, Optimised, optimised}
use Rattle.run.specs.Perm.{without_held, all_found, models-first}
use Rattle.run.specs.Effects.{freed, effects-half, effects-good, Freed, effects-z, kept-effects}
use Rattle.run.specs.RemoveDrop.{Dropped, drop-marker}
use Rattle.run.specs.RemovePurge.{Untagged, untagged}
use Rattle.run.specs.RemoveMarks.{drop-mark, soft-below, soft-strength, paired}

marker-of : (f : Form) (tag : Tag) → Shaped f tag → marker_kind f ≡ kind_of tag.marker.kind
marker-of le! tag h = ap kind_of (back h.0)
marker-of eq! tag h = ap kind_of (back h.0)
marker-of ge! tag h = ap kind_of (back h.0)
marker-of le tag h = ap kind_of (back h.0)
marker-of eq tag h = ap kind_of (back h.0)
marker-of ge tag h = ap kind_of (back h.0)

module _ (m : Moment) (I : Inv m) (k : Key) (h : Held) (found : find_held k I.held ≡ some h) where
  abbrev c : Con
  c = con_of I.sym h

  abbrev cs : List Con
  cs = map (con_of I.sym) (without_held k I.held)

  abbrev s₀ : Work
  s₀ = begin m.state

  abbrev S₀ : StateZ
  S₀ = I.table

  abbrev strength : Float
  strength = strength_of h.demand.relation

  in-front : Models columns I.kind S₀.B S₀.R S₀.o (c ∷ cs)
  in-front = models-first (con_of I.sym) k columns I.kind S₀.B S₀.R S₀.o I.held h found I.models

  pub sounds : Sounds columns I.kind (c ∷ cs)
  sounds = in-front.sounds

  shaped : Shaped (form_of h.demand.relation) h.tag
  shaped = all_found (λ (h : Held). Shaped (form_of h.demand.relation) h.tag) k I.held h found I.shaped

  restricted-in : (j : ℕ) → (I.kind j ≡ slack) ⊎ (I.kind j ≡ dummy) → In j m.state.tableau.symbols
  unfolding begin
  restricted-in j r = go (in-or-not j m.state.tableau.symbols)
    where
      not-zero : (I.kind j ≡ slack) ⊎ (I.kind j ≡ dummy) → j ≢ 0
      not-zero (inl e) z = let a : I.kind 0 ≡ const = I.good.zero in let b : I.kind j ≡ I.kind 0 = ap I.kind z in let y : ◌≡◌ {A = ℕ} 0 1 = cc in omega arith
      not-zero (inr e) z = let a : I.kind 0 ≡ const = I.good.zero in let b : I.kind j ≡ I.kind 0 = ap I.kind z in let y : ◌≡◌ {A = ℕ} 0 1 = cc in omega arith

      go : In j m.state.tableau.symbols ⊎ NotIn j m.state.tableau.symbols → In j m.state.tableau.symbols
      go (inl i) = i
      go (inr n) = absurd (not-variable I.kind j r (I.reads.unknown j (not-zero r) n))

  tag_in : (j : ℕ) → TagOf j c → In j m.state.tableau.symbols
  tag_in j t = restricted-in j (tag-kind columns I.kind c sounds.0 j t)

  pair : (o : Symbol) → h.tag.other ≡ some o → (soft c.form ≡ true) × (o.id ≡ c.other)
  unfolding con_of other_id
  pair o e = (paired (form_of h.demand.relation) h.tag shaped o e, ap other_id (back e))

  marker-tag : TagOf h.tag.marker.id c
  unfolding con_of
  marker-tag = inl refl

  -- ---- the effects
  unfoldable pub first : Work
  first = remove_constraint_effects h.tag strength s₀

  weighs : soft (form_of h.demand.relation) ≡ true → Zb (2 ^ 30) strength (val strength)
  weighs e =
      let w = all_found WholeDemand k I.held h found I.inputs in
      soft-strength (inputs-z h.demand.terms h.demand.constant h.demand.relation w.0).strength w.1 (soft-below h.demand.relation e)

  effects : first.mark ≡ all_whole → Freed I.kind S₀.B S₀.R (freed columns I.kind S₀.B S₀.R S₀.o c cs) (λ _. 0ℤ) s₀ first
  unfolding first con_of begin
  effects =
      effects-z I.kind s₀ S₀.B S₀.R S₀.o (λ _. 0ℤ) I.reads I.good.shape.unit h.tag strength (val strength) (tag_in h.tag.marker.id marker-tag)
      (λ o e. tag_in o.id (inr (pair o e))) (form_of h.demand.relation) shaped weighs

  kept-first : Kept s₀ first
  unfolding first
  kept-first = kept-effects h.tag strength s₀

  -- ---- the marker's row
  S₁ : StateZ
  S₁ = record { B = S₀.B; R = S₀.R; o = freed columns I.kind S₀.B S₀.R S₀.o c cs }

  bare-first : first.artificial ≡ none
  unfolding begin
  bare-first = kept-first.artificial refl

  live-marker : Live I.kind first.tableau.symbols h.tag.marker
  unfolding con_of begin
  live-marker = (
    subst (In h.tag.marker.id) (back kept-first.symbols) (tag_in h.tag.marker.id marker-tag),
    sounds.0.marker-kind ∙ marker-of (form_of h.demand.relation) h.tag shaped,
  )

  pub drops : first.mark ≡ all_whole → mark_of (drop_marker h.tag.marker first) ≡ all_whole → Goes (Dropped columns I.kind cs first) (drop_marker h.tag.marker first)
  unfolding con_of S₁
  drops e =
      drop-marker columns I.kind first S₁ c cs (effects-good columns I.kind S₀.B S₀.R S₀.o c cs sounds.0 I.good) (effects-half columns I.kind S₀.B S₀.R S₀.o c cs in-front)
      (effects e).reads bare-first h.tag.marker refl live-marker

  -- ---- the pass's start: "a removed one's are gone before its pass"
  pub record Begun (v : Work) : Type 0 where
    pub table : StateZ
    pub cleared : Untagged columns I.kind table cs (λ j. TagOf j c) v (purge_tag h.tag v)
    pub kept : Kept s₀ v
    pub pivots : v.pivots ≡ 0

  pub begun : (v : Work) → Dropped columns I.kind cs first v → Begun v
  unfolding con_of first begin
  begun v d = record {
    table = d.table;
    cleared = untagged columns I.kind d.table c cs v (record { good = d.good; models = d.models; reads = d.reads; bare = d.kept.artificial bare-first }) sounds h.tag refl pair;
    kept = kept_trans s₀ first v kept-first d.kept;
    pivots = d.pivots ∙ (remove_effects-after h.tag strength s₀).pivots;
  }

  -- where the steps get as far as the pass with their mark whole, it begins so
  pub begins : (v : Work) → drop_marker h.tag.marker first ≡ going v → v.mark ≡ all_whole → Begun v
  unfolding mark_of
  begins v e q = begun v (subst (Goes (Dropped columns I.kind cs first)) e (drops (drop-mark h.tag.marker first w) w))
    where
      w : mark_of (drop_marker h.tag.marker first) ≡ all_whole
      w = ap mark_of e ∙ q

  -- ---- the pass
  module _ (v : Work) (B : Begun v) where
    abbrev y : Work
    y = purge_tag h.tag v

    abbrev kind' : ℕ → KindZ
    kind' = B.cleared.kind'

    pub old-symbol : (j : ℕ) → In j y.tableau.symbols → In j m.state.tableau.symbols
    unfolding begin
    old-symbol j i = subst (In j) B.kept.symbols (B.cleared.cuts.old j i)

    pub inside : (j : ℕ) → In j (purge_tag h.tag v).tableau.symbols → j < columns
    inside j i = omega (arith, I.ids j (old-symbol j i), I.room)

    pub passed : (left : ℕ) → mark_of (optimise left the_objective y) ≡ all_whole → Optimised columns kind' cs left (ways_of y.tableau.symbols B.table.B) y (optimise left the_objective y)
    passed left e =
        optimised columns kind' y B.table (λ _. 0ℤ) cs (omega arith) inside B.cleared.read.good B.cleared.read.models B.cleared.read.reads B.cleared.read.bare left e
