-- Add's step 6, its end: where the temporary can be 0 it leaves, and the tableau models one demand more; where it cannot, nothing meets the demands. Assumes nothing.
use Rattle.std.specs.Prelude.{◌≡◌, refl, ◌⊎◌, ◌≢◌, Bool, true, false, ℕ, ◌<◌, ℤ, ◌*ℤ◌}
use Rattle.std.proofs.Common.{sym, ap, ◌∙◌, inl, inr, arith}
use mathlib.Core.List.{List, [], ◌∷◌, map}
use Rattle.std.proofs.Math.Option.{Option, none, some}
use Rattle.laws.specs.Z.{◌≼◌, ◌≺◌}
use Rattle.laws.specs.Ring.{ring, v, k as κ, ◌⊠◌}
use Rattle.simplex.specs.Ord.{0ℤ, ≼-of-eq, ≼_trans, ≺-or-≼}
use Rattle.simplex.specs.Lin.{Vec, δ-other}
use Rattle.simplex.specs.At.{at, at_here, at_there}
use Rattle.simplex.specs.Choose.{All}
use Rattle.simplex.specs.Tab.{Solves}
use Rattle.simplex.specs.Basis.{at-column, basic-solves}
use Rattle.simplex.specs.Opt.{Kind as KindZ, const, external, slack, dummy, slack≢external}
use Rattle.simplex.specs.Pass.{State as StateZ}
use Rattle.simplex.specs.Problem.{Con, Meets, Sounds, Equation, Tag, cannot-be-met}
use Rattle.simplex.specs.Run.{Foreign}
use Rattle.simplex.specs.Gone.{tag-kind}
use Rattle.steps.specs.State.{Term, Variable}
use Rattle.steps.specs.Work.{Work}
use Rattle.steps.specs.Changes.{find_variable}
use Rattle.steps.specs.CreateRow.{Created}
use Rattle.run.specs.Demand.{Demand}
use Rattle.run.specs.Inv.{non_zero_terms, Held, con_of, VarAt}
use Rattle.run.specs.Build.{KnownIn, new_held, Built}
use Rattle.run.specs.BuildCons.{expr-plain, PlainIn, sounds-on}
use Rattle.run.specs.TempStart.{tid≢0, fresh, good₁}
use Rattle.run.specs.TempPass.{Passed}

module _ (n : ℕ) (old : ℕ → KindZ) (S : StateZ) (held : List Held) (d : Demand) (w : Work) (c : Created) (Q : Built n old S held d w c) (in-n : 0 < n) (room : c.work.tableau.next_id < n)
    (plain : (i : ℕ) → Q.kind i ≡ external → Q.r i ≡ 0ℤ) where
  abbrev t : ℕ
  t = c.work.tableau.next_id

  abbrev kind : ℕ → KindZ
  kind = at c.work.tableau.next_id slack Q.kind

  abbrev cs : List Con
  cs = map (con_of Q.column) (new_held d c ∷ held)

  -- ---- no demand holds the temporary

  was : Q.kind t ≡ external
  was = Q.reads.unknown t (tid≢0 n old S held d w c Q room plain) (fresh n old S held d w c Q room plain)

  zero₁ : kind 0 ≡ const
  zero₁ = (good₁ n old S held d w c Q room plain).zero

  -- a known variable's column is another, and external still
  column-kind : (u : ℕ) → find_variable u c.work.changes.variables ≢ none → kind (Q.column u) ≡ external
  column-kind u k = go (find_variable u c.work.changes.variables) refl (Q.vars u)
    where
      go : (o : Option Variable) → find_variable u c.work.changes.variables ≡ o → VarAt Q.kind c.work.tableau.symbols o (Q.column u) → kind (Q.column u) ≡ external
      go none e a = absurd (k e)
      go (some x) e a = at_there t slack Q.kind (Q.column u) (λ p. omega (arith, Q.ids (Q.column u) a.2, p)) ∙ a.3

  columns-kind : (ts : List Term) → All (λ (s : Term). find_variable s.variable c.work.changes.variables ≢ none) ts → All (λ (s : Term). kind (Q.column s.variable) ≡ external) ts
  columns-kind [] a = tt
  columns-kind (s ∷ ts) a = (column-kind s.variable a.0, columns-kind ts a.1)

  plain-each : (hs : List Held) → All (KnownIn c.work) hs → All (PlainIn kind) (map (con_of Q.column) hs)
  unfolding con_of
  plain-each [] a = tt
  plain-each (h ∷ hs) a = (expr-plain kind Q.column (non_zero_terms h.demand.terms) _ (columns-kind (non_zero_terms h.demand.terms) a.0) zero₁, plain-each hs a.1)

  plains : All (PlainIn kind) cs
  plains = plain-each (new_held d c ∷ held) Q.known

  untagged : (l : List Con) → Sounds n Q.kind l → All (λ (x : Con). Tag t x → ⊥) l
  untagged [] s = tt
  untagged (x ∷ l) s = ((λ g. apart (tag-kind n Q.kind x s.0 t g)), untagged l s.2)
    where
      apart : (Q.kind t ≡ slack) ⊎ (Q.kind t ≡ dummy) → ⊥
      apart (inl p) = slack≢external (sym p ∙ was)
      apart (inr p) = let e = was in let z : ◌≡◌ {A = ℕ} 0 1 = cc in omega arith

  pub foreigns : All (Foreign t) cs
  foreigns = go cs (untagged cs Q.sounds) plains
    where
      go : (l : List Con) → All (λ (x : Con). Tag t x → ⊥) l → All (PlainIn kind) l → All (Foreign t) l
      go [] a b = tt
      go (x ∷ l) a b = ((a.0, b.0 t (inl (at_here t slack Q.kind))), go l a.1 b.1)

  sounds₁ : Sounds n kind cs
  sounds₁ = sounds-on n Q.kind kind (λ j ne. at_there t slack Q.kind j (λ p. ne (ap Q.kind p ∙ was))) cs Q.sounds plains

  -- ---- the temporary's value, at the end of the pass
  module _ (left : ℕ) (x : Work) (P : Passed n old S held d w c Q in-n room plain left x) where
    pub worth-0 : P.T.o 0 ≡ P.T.R t 0
    worth-0 = sym (at-column n P.T.B P.T.R P.good.shape 0 P.good.shape.const in-n P.T.o P.good.clear) ∙ P.art (λ j. P.T.R j 0) (basic-solves n P.T.B P.T.R P.good.shape in-n)

    value-up : 0ℤ ≼ P.T.R t 0
    value-up = go (P.T.B t) refl
      where
        go : (b : Bool) → P.T.B t ≡ b → 0ℤ ≼ P.T.R t 0
        go true e = P.good.feasible t e (at_here t slack Q.kind)
        go false e = ≼-of-eq (sym (P.good.shape.unit t e 0 ∙ δ-other (tid≢0 n old S held d w c Q room plain)))

    -- REFUSAL 12 IS RIGHT
    pub unmet : P.T.o 0 ≢ 0ℤ → (y : Vec) → 0ℤ ≺ y 0 → All (Meets n y) cs → ⊥
    unmet ne =
        cannot-be-met n kind P.T.R P.T.o t cs in-n zero₁ sounds₁ (at_here t slack Q.kind) (untagged cs Q.sounds) solves P.art
        (record { consts = P.good.consts; externals = λ j _ e. P.good.no-var j e; slacks = λ j _ e. P.low j e }) (above (≺-or-≼ 0ℤ (P.T.o 0)))
      where
        above : (0ℤ ≺ P.T.o 0) ⊎ (P.T.o 0 ≼ 0ℤ) → 0ℤ ≺ P.T.o 0
        above (inl h) = h
        above (inr h) = absurd (ne (Rattle.laws.specs.Z.≼-antisym h (≼_trans value-up (≼-of-eq (sym worth-0)))))

        solves : (σ : Vec) → All (Equation n σ) cs → σ t ≡ 0ℤ → Solves n P.T.R σ
        solves σ E z =
            let s = (Q.models.solves σ).1 E.1 in
            (P.solves σ).1 (s, z ∙ sym (Q.row σ s ∙ ap (λ (y : ℤ). Q.g *ℤ y) E.0 ∙ ring (Q.g ∷ []) (v 0 ⊠ κ 0ℤ) (κ 0ℤ) tt))
