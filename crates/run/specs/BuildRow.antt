-- Add's steps 1 to 3 in a whole run, put together. Assumes nothing.
use Rattle.std.specs.Prelude.{ℕ, ◌+◌, ◌≤◌, ◌<◌, ◌≡◌, ◌≢◌, Bool, length, ℤ, negsuc, ◌+ℤ◌, ◌*ℤ◌}
use Rattle.std.proofs.Common.{arith, ◌∙◌, subst, inl, inr, true≢false}
use Rattle.std.proofs.Math.Path.{refl, sym, ap}
use mathlib.Core.List.{List, [], ◌∷◌, map}
use Rattle.std.proofs.Math.Option.{Option, none, some}
use Rattle.std.proofs.Math.Bool.{true, false}
use Rattle.std.proofs.Math.IntN.{neg_ℤ}
use Rattle.laws.specs.Z.{◌≼◌}
use Rattle.laws.specs.Ring.{ring, v as ν, k as lit, ◌⊞◌, ◌⊠◌, ⊟◌}
use Rattle.laws.specs.exact.Whole.{val}
use Rattle.simplex.specs.Ord.{0ℤ, 1ℤ, ≺→≼, neg-nonneg}
use Rattle.simplex.specs.Lin.{Vec, δ, δ-same, δ-other, dot, plus}
use Rattle.simplex.specs.Tab.{Solves}
use Rattle.simplex.specs.Choose.{All, all_map}
use Rattle.simplex.specs.Opt.{Kind as KindZ, external, slack}
use Rattle.simplex.specs.Pass.{State as StateZ, Good}
use Rattle.simplex.specs.Form.{soft, resid, cost}
use Rattle.simplex.specs.Problem.{Con, Models, Sound, Sounds, Tag as TagZ, total}
use Rattle.simplex.specs.Run.{left}
use Rattle.steps.specs.Number.{zero64, below_zero, all_whole}
use Rattle.steps.specs.Symbol.{Symbol}
use Rattle.steps.specs.Row.{Row, reverse_sign}
use Rattle.steps.specs.State.{Term, strength_of, Variable}
use Rattle.steps.specs.Work.{Work}
use Rattle.steps.specs.Changes.{find_variable}
use Rattle.steps.specs.CreateRow.{Building, Created, insert_terms, add_tag, create_row}
use Rattle.simplex.specs.bridge.Nums.{zero64-z}
use Rattle.simplex.specs.bridge.Rows.{Reads, In, ReadsRow, zb-to}
use Rattle.simplex.specs.bridge.Table.{ReadsWork, in-nonzero}
use Rattle.simplex.proofs.bridge.Enter.{reverse-z}
use Rattle.run.specs.Demand.{Demand, sum_of}
use Rattle.run.specs.Inv.{non_zero_terms, Held, expr_of, other_id, con_of, form_of, VarAt}
use Rattle.run.specs.Inputs.{Inputs, nonneg-z, below-z}
use Rattle.run.specs.Build.{KnownIn, NewTag, new_held, Built}
use Rattle.run.specs.BuildVars.{stays-known, LiveAt, column_in, AgreesAt, Agrees, own-columns, agrees_back}
use Rattle.run.specs.BuildTerms.{Stage, Grew, grew_trans}
use Rattle.run.specs.BuildSum.{Summed, terms}
use Rattle.run.specs.BuildTag.{Tagged}
use Rattle.run.specs.BuildTags.{tag, tag-mark}
use Rattle.run.specs.BuildCons.{expr-dot, expr-plain, cons_same, dot-reversed, shaped-marker, shaped-other, PlainIn, sounds-on, apart-new}

-- a known variable's column
pub known-agrees : (column : ℕ → ℕ) (vs : List Variable) → Agrees column vs → (m : ℕ) → find_variable m vs ≢ none → (u : Variable) × (find_variable m vs ≡ some u) × (u.symbol.id ≡ column m)
known-agrees column vs a m h = go (find_variable m vs) refl (a m)
  where
    go : (t : Option Variable) → find_variable m vs ≡ t → AgreesAt t (column m) → (u : Variable) × (find_variable m vs ≡ some u) × (u.symbol.id ≡ column m)
    go none e x = absurd (h e)
    go (some u) e x = (u, e, x)

module _ (n : ℕ) (old : ℕ → KindZ) (S : StateZ) (column₀ name₀ : ℕ → ℕ) (held : List Held) (d : Demand) (w : Work)
    (in-n : 0 < n) (G : Good n old S) (D : Models n old S.B S.R S.o (map (con_of column₀) held)) (H : ReadsWork old w S.B S.R S.o (λ _. 0ℤ)) (no-art : w.artificial ≡ none)
    (above : 0 < w.tableau.next_id) (ids : (j : ℕ) → In j w.tableau.symbols → j < w.tableau.next_id) (vars : (m : ℕ) → VarAt old w.tableau.symbols (find_variable m w.changes.variables) (column₀ m))
    (names : (m : ℕ) → find_variable m w.changes.variables ≢ none → name₀ (column₀ m) ≡ m) (known : All (KnownIn w) held)
    (room : w.tableau.next_id + length d.terms + 2 ≤ n) (I : Inputs d.terms d.constant d.relation) (up : below_zero (strength_of d.relation) ≡ false) where
  abbrev bare : Row
  bare = record { constant = d.constant; cells = map (λ _. zero64) w.tableau.symbols }

  abbrev b₀ : Building
  b₀ = record { work = w; row = bare }

  abbrev b₁ : Building
  b₁ = insert_terms w.tableau.cutoff d.terms b₀

  abbrev c : Created
  c = add_tag d.relation b₁

  abbrev κ₀ : ℤ
  κ₀ = val d.constant

  abbrev r₀ : Vec
  r₀ = plus (λ _. 0ℤ) κ₀ (δ 0)

  off : (j : ℕ) → j ≢ 0 → r₀ j ≡ 0ℤ
  off j h = ap (λ (y : ℤ). 0ℤ +ℤ κ₀ *ℤ y) (δ-other (λ e. h (sym e))) ∙ ring (κ₀ ∷ []) (lit 0ℤ ⊞ ν 0 ⊠ lit 0ℤ) (lit 0ℤ) tt

  bare-cells : (xs : List Symbol) → ((j : ℕ) → In j xs → j ≢ 0) → Reads 1024 xs (map (λ _. zero64) xs) r₀
  bare-cells [] h = tt
  bare-cells (x ∷ xs) h = (zb-to (record { isz = zero64-z; small = omega arith }) (sym (off x.id (h x.id (inl refl)))), bare-cells xs (λ j m. h j (inr m)))

  live₀ : (m : ℕ) → LiveAt old w.tableau.symbols name₀ m (find_variable m w.changes.variables)
  live₀ m = go (find_variable m w.changes.variables) refl (vars m)
    where
      is_some : Option Variable → Type 0
      is_some none = ⊥
      is_some (some u) = Unit

      go : (t : Option Variable) → find_variable m w.changes.variables ≡ t → VarAt old w.tableau.symbols t (column₀ m) → LiveAt old w.tableau.symbols name₀ m t
      go none e h = tt
      go (some u) e h = (h.1, subst (λ (j : ℕ). In j w.tableau.symbols) (sym h.0) h.2, ap old h.0 ∙ h.3, ap name₀ h.0 ∙ names m (λ p. subst is_some (sym e ∙ p) tt))

  stage₀ : Stage n old S name₀ w bare r₀
  stage₀ = record {
    reads = H;
    good = G;
    line = record {
      constant = zb-to I.const (ring (κ₀ ∷ []) (ν 0) (lit 0ℤ ⊞ ν 0 ⊠ lit 1ℤ) tt ∙ ap (λ (y : ℤ). 0ℤ +ℤ κ₀ *ℤ y) (sym (δ-same 0)));
      cells = bare-cells w.tableau.symbols (λ j m. in-nonzero j w.tableau.symbols H.up m);
      outside = λ i h m. off i h;
    };
    clear = λ j h. off j (λ e. true≢false (sym h ∙ ap S.B e ∙ G.shape.const));
    artificial = no-art;
    first = above;
    ids = ids;
    vars = live₀;
  }

  module _ (mk : c.work.mark ≡ all_whole) where
    m₁ : b₁.work.mark ≡ all_whole
    m₁ = tag-mark d.relation b₁ mk

    U : Summed n old S d.terms b₀ b₁ r₀
    U = terms n old S w.tableau.cutoff H.cutoff d.terms I.terms b₀ name₀ r₀ stage₀ (omega (arith, room)) m₁

    T : Tagged n (form_of d.relation) (val (strength_of d.relation)) old S b₁.work U.vec c
    T = tag n old S U.name b₁ U.vec U.stage (omega (arith, room, U.grew.next)) d.relation I.strength up mk

    abbrev vs : List Variable
    vs = c.work.changes.variables

    abbrev column : ℕ → ℕ
    column = column_in vs

    agrees : Agrees column vs
    agrees = own-columns vs

    grown : Grew (length d.terms + 2) w c.work
    grown = grew_trans (length d.terms) 2 w b₁.work c.work U.grew T.grew

    -- a known variable's column is live and external
    at-known : (m : ℕ) → find_variable m vs ≢ none → (column m < n) × (T.kinds (column m) ≡ external)
    at-known m h =
        let k = known-agrees column vs agrees m h in
        let l : LiveAt T.kinds c.work.tableau.symbols T.name m (some k.0) = subst (LiveAt T.kinds c.work.tableau.symbols T.name m) k.1 (T.stage.vars m) in
        (subst (λ (j : ℕ). j < n) k.2 (omega (arith, room, grown.next, T.stage.ids k.0.symbol.id l.1)), sym (ap T.kinds k.2) ∙ l.2)

    new-known : All (λ (t : Term). find_variable t.variable vs ≢ none) (non_zero_terms d.terms)
    new-known = all_map (λ (t : Term) h. stays-known b₁.work.changes.variables vs T.grew.vars t.variable h) (non_zero_terms d.terms) U.found

    held-known : All (KnownIn c.work) held
    held-known = all_map (λ (h : Held) k. all_map (λ (t : Term) x. stays-known w.changes.variables vs grown.vars t.variable x) (non_zero_terms h.demand.terms) k) held known

    -- the held demands' columns stay
    same-columns : (m : ℕ) → find_variable m w.changes.variables ≢ none → column m ≡ column₀ m
    same-columns m h = go (find_variable m w.changes.variables) refl (agrees_back column w.changes.variables vs grown.vars agrees m) (vars m)
      where
        go : (t : Option Variable) → find_variable m w.changes.variables ≡ t → AgreesAt t (column m) → VarAt old w.tableau.symbols t (column₀ m) → column m ≡ column₀ m
        go none e a v = absurd (h e)
        go (some u) e a v = sym a ∙ v.0

    cons : map (con_of column) held ≡ map (con_of column₀) held
    cons = cons_same column column₀ held (all_map (λ (h : Held) k. all_map (λ (t : Term) x. same-columns t.variable x) (non_zero_terms h.demand.terms) k) held known)

    -- ---- the new demand
    module _ (row' : Row) where
      abbrev c' : Created
      c' = record { work = c.work; row = row'; tag = c.tag }

      abbrev con : Con
      con = con_of column (new_held d c')

      plain_of : (h : Held) → KnownIn c.work h → PlainIn T.kinds (con_of column h)
      unfolding con_of
      plain_of h k = expr-plain T.kinds column (non_zero_terms h.demand.terms) (val h.demand.constant) (all_map (λ (t : Term) x. (at-known t.variable x).1) (non_zero_terms h.demand.terms) k) T.stage.good.zero

      plains : (hs : List Held) → All (KnownIn c.work) hs → All (PlainIn T.kinds) (map (con_of column) hs)
      plains [] k = tt
      plains (h ∷ hs) k = (plain_of h k.0, plains hs k.1)

      old-sounds : Sounds n old (map (con_of column) held)
      old-sounds = subst (Sounds n old) (sym cons) D.sounds

      other-of : (o : Symbol) → c.tag.other ≡ some o → other_id c.tag.other ≡ o.id
      unfolding other_id
      other-of o e = ap other_id e

      new-other : soft (form_of d.relation) ≡ true → (other_id c.tag.other < n) × (T.kinds (other_id c.tag.other) ≡ slack) × (old (other_id c.tag.other) ≡ external)
      new-other b =
          let s = shaped-other (form_of d.relation) c.tag T.shaped b in
          let N = T.other s.0 s.1 in
          let e = other-of s.0 s.1 in
          (subst (λ (j : ℕ). j < n) (sym e) N.inside, ap T.kinds e ∙ N.live.1 ∙ s.2, ap old e ∙ N.was)

      new-sound : Sound n T.kinds con
      unfolding con_of new_held
      new-sound = record {
        weighs = nonneg-z I.strength up;
        marker-in = T.marker.inside;
        marker-kind = T.marker.live.1 ∙ shaped-marker (form_of d.relation) c.tag T.shaped;
        other-in = λ b. (new-other b).0;
        other-kind = λ b. (new-other b).1;
        two = T.two;
        plain = plain_of (new_held d c') new-known;
      }

      sounds : Sounds n T.kinds (map (con_of column) (new_held d c' ∷ held))
      unfolding con_of new_held
      sounds = (new-sound, apart-new n old T.kinds T.older con fresh (map (con_of column) held) old-sounds, sounds-on n old T.kinds T.older (map (con_of column) held) old-sounds (plains held held-known))
        where
          fresh : (j : ℕ) → TagZ j con → old j ≡ external
          fresh j (inl e) = ap old e ∙ T.marker.was
          fresh j (inr e) = ap old e.1 ∙ (new-other e.0).2

      models : Models n T.kinds S.B S.R S.o (map (con_of column) held)
      models =
          let E = subst (Models n old S.B S.R S.o) (sym cons) D in
          record { shape = D.shape; clear = D.clear; sounds = sounds.2; solves = E.solves; worth = E.worth }

      -- ---- its row and its worth
      value : (σ : Vec) → Solves n S.R σ → dot n U.vec σ ≡ dot n con.expr σ
      unfolding con_of new_held expr_of sum_of
      value σ s =
          U.value column (agrees_back column b₁.work.changes.variables vs T.grew.vars agrees) σ s
          ∙ ap (λ (z : ℤ). z +ℤ sum_of (non_zero_terms d.terms) (λ m. σ (column m))) (expr-dot n in-n column [] κ₀ σ tt ∙ ring ((κ₀ *ℤ σ 0) ∷ []) (ν 0 ⊞ lit 0ℤ) (ν 0) tt)
          ∙ sym (expr-dot n in-n column (non_zero_terms d.terms) κ₀ σ (all_map (λ (t : Term) x. (at-known t.variable x).0) (non_zero_terms d.terms) new-known))

      row : (σ : Vec) → Solves n S.R σ → dot n T.vec σ ≡ left n σ con
      unfolding con_of new_held
      row σ s = T.row σ ∙ ap (λ (z : ℤ). resid (form_of d.relation) z (σ c.tag.marker.id) (σ (other_id c.tag.other))) (value σ s)

      worth : (σ : Vec) → Solves n S.R σ → dot n T.o σ ≡ total (map (con_of column) (new_held d c' ∷ held)) σ
      unfolding con_of new_held
      worth σ s = T.worth σ ∙ ap (λ (z : ℤ). val (strength_of d.relation) *ℤ cost (form_of d.relation) (σ c.tag.marker.id) (σ (other_id c.tag.other)) +ℤ z) (models.worth σ s)

      -- ---- all of it, for a row that is the tag's times g
      make : (g : ℤ) (r : Vec) → ReadsRow c.work.tableau.symbols row' r → g *ℤ g ≡ 1ℤ → ((j : ℕ) → r j ≡ g *ℤ T.vec j) → ((σ : Vec) → dot n r σ ≡ g *ℤ dot n T.vec σ) → 0ℤ ≼ r 0 → Built n old S held d w c'
      unfolding con_of new_held
      make g r line gg cells dots top = record {
        kind = T.kinds;
        column = column;
        name = T.name;
        o = T.o;
        r = r;
        g = g;
        good = T.stage.good;
        models = models;
        sounds = sounds;
        clear = λ j h. cells j ∙ ap (λ (z : ℤ). g *ℤ z) (T.stage.clear j h) ∙ ring (g ∷ []) (ν 0 ⊠ lit 0ℤ) (lit 0ℤ) tt;
        sign = gg;
        row = λ σ s. dots σ ∙ ap (λ (z : ℤ). g *ℤ z) (row σ s);
        worth = worth;
        up = top;
        whole = mk;
        reads = T.stage.reads;
        line = line;
        shaped = T.shaped;
        marker = turned c.tag.marker T.marker;
        other = λ s e. turned s (T.other s e);
        artificial = T.stage.artificial;
        pivots = grown.pivots;
        first = T.stage.first;
        next = omega (arith, grown.next);
        ids = T.stage.ids;
        vars = λ m. at-var m (find_variable m vs) refl (T.stage.vars m);
        names = λ m h. let k = known-agrees column vs agrees m h in ap T.name (sym k.2) ∙ (subst (LiveAt T.kinds c.work.tableau.symbols T.name m) k.1 (T.stage.vars m)).3;
        known = (new-known, held-known);
      }
        where
          square : (x : ℤ) → g *ℤ x *ℤ (g *ℤ x) ≡ x *ℤ x
          square x = ring (g ∷ x ∷ []) (ν 0 ⊠ ν 1 ⊠ (ν 0 ⊠ ν 1)) (ν 0 ⊠ ν 0 ⊠ (ν 1 ⊠ ν 1)) tt ∙ ap (λ (z : ℤ). z *ℤ (x *ℤ x)) gg ∙ ring (x ∷ []) (lit 1ℤ ⊠ (ν 0 ⊠ ν 0)) (ν 0 ⊠ ν 0) tt

          turned : (s : Symbol) → NewTag n old T.kinds S c.work T.vec s → NewTag n old T.kinds S c.work r s
          turned s N = record { was = N.was; live = N.live; dead = N.dead; inside = N.inside; unit = ap (λ (z : ℤ). z *ℤ z) (cells s.id) ∙ square (T.vec s.id) ∙ N.unit }

          at-var : (m : ℕ) (t : Option Variable) → find_variable m vs ≡ t → LiveAt T.kinds c.work.tableau.symbols T.name m t → VarAt T.kinds c.work.tableau.symbols t (column m)
          at-var m none e l = tt
          at-var m (some u) e l =
              let q : u.symbol.id ≡ column m = subst (λ (t : Option Variable). AgreesAt t (column m)) e (agrees m) in
              (q, l.0, subst (λ (j : ℕ). In j c.work.tableau.symbols) q l.1, sym (ap T.kinds q) ∙ l.2)

  -- ---- step 3: the constant is not below 0, or all signs are reversed
  pub built : (create_row d.terms d.constant d.relation w).work.mark ≡ all_whole → Built n old S held d w (create_row d.terms d.constant d.relation w)
  unfolding create_row
  built = go (below_zero c.row.constant) refl
    where
      go : (t : Bool) → below_zero c.row.constant ≡ t → (elim t as (λ _. Created) [ false ↦ c | true ↦ record { work = c.work; row = reverse_sign c.row; tag = c.tag } ]).work.mark ≡ all_whole
          → Built n old S held d w (elim t [ false ↦ c | true ↦ record { work = c.work; row = reverse_sign c.row; tag = c.tag } ])
      go false e mk =
          make mk c.row 1ℤ (T mk).vec (T mk).stage.line refl (λ j. ring ((T mk).vec j ∷ []) (ν 0) (lit 1ℤ ⊠ ν 0) tt) (λ σ. ring (dot n (T mk).vec σ ∷ []) (ν 0) (lit 1ℤ ⊠ ν 0) tt)
          (nonneg-z (T mk).stage.line.constant.isz e)
      go true e mk =
          make mk (reverse_sign c.row) (negsuc 0) (λ j. neg_ℤ ((T mk).vec j)) (reverse-z c.work.tableau.symbols c.row (T mk).vec (T mk).stage.line) refl
          (λ j. ring ((T mk).vec j ∷ []) (⊟ ν 0) (lit (negsuc 0) ⊠ ν 0) tt) (λ σ. dot-reversed n (T mk).vec σ) (neg-nonneg (≺→≼ (below-z (T mk).stage.line.constant.isz e)))
