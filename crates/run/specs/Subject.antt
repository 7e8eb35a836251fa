-- Add's step 4 in a whole run: what the choice of a subject says of the created row. Assumes nothing.
use Rattle.std.specs.Prelude.{ℕ, ◌≡◌, ◌⊎◌, ◌≢◌, Bool, List, [], ◌∷◌, ℤ, Float}
use Rattle.std.proofs.Common.{arith, sym, ap, ◌∙◌, subst, inl, inr, true≢false}
use Rattle.std.proofs.Math.Path.{refl}
use Rattle.std.proofs.Math.Bool.{true, false, not}
use Rattle.std.proofs.Math.Option.{Option, none, some}
use Rattle.laws.specs.Z.{◌≺◌, ≡→eq_zb}
use Rattle.laws.specs.exact.Whole.{IsZ}
use Rattle.simplex.specs.Ord.{0ℤ}
use Rattle.simplex.specs.Lin.{Vec}
use Rattle.simplex.specs.Choose.{All}
use Rattle.simplex.specs.Opt.{Kind as KindZ, const, external, slack, dummy, dummy≢slack}
use Rattle.simplex.specs.Pass.{State as StateZ}
use Rattle.simplex.specs.Look.{both}
use Rattle.steps.specs.Number.{below_zero}
use Rattle.steps.specs.Symbol.{Kind, External, Slack, Error, Dummy, Symbol, is_external, is_dummy, is_pivotable, absent, holds, coefficient_for, first_symbol}
use Rattle.steps.specs.Work.{Work}
use Rattle.steps.specs.CreateRow.{Created, negative_tag, choose_subject, all_dummies}
use Rattle.simplex.specs.bridge.Nums.{absent-z, absent-yes}
use Rattle.simplex.specs.bridge.Rows.{Reads, NotIn, In}
use Rattle.simplex.proofs.bridge.Rows.{row-cell}
use Rattle.simplex.specs.bridge.Finds.{none≢some}
use Rattle.simplex.specs.bridge.Table.{kind_of, Live, in-nonzero}
use Rattle.simplex.specs.bridge.Chosen.{MemS}
use Rattle.simplex.proofs.bridge.Looks.{in-or-not, is_live}
use Rattle.run.specs.Demand.{Demand}
use Rattle.run.specs.Inv.{Held}
use Rattle.run.specs.Steady.{Kinded}
use Rattle.run.specs.Inputs.{below-z}
use Rattle.run.specs.Build.{Built}
use Rattle.run.specs.RanksIs.{is-external, external-is}

-- ---- the first symbol of a kind that the row holds
pub data Holding (p : Symbol → Bool) (q : Vec) (xs : List Symbol) : Option Symbol → Type 0 where
  nobody : All (λ (x : Symbol). p x ≡ true → q x.id ≡ 0ℤ) xs → Holding p q xs none
  somebody : (e : Symbol) → MemS e xs → p e ≡ true → q e.id ≢ 0ℤ → Holding p q xs (some e)

holds-no : {x : Float} {z : ℤ} → IsZ x z → holds x ≡ false → z ≡ 0ℤ
unfolding holds
holds-no {x} h e = absent-yes h (not-false (absent x) e)
  where
    not-false : (b : Bool) → not b ≡ false → b ≡ true
    not-false true e = refl
    not-false false e = absurd (true≢false e)

holds-yes : {x : Float} {z : ℤ} → IsZ x z → holds x ≡ true → z ≢ 0ℤ
unfolding holds
holds-yes {x} {z} h e q = go (absent x) e (absent-z h)
  where
    go : (b : Bool) → not b ≡ true → b ≡ Rattle.laws.specs.Z.eq_zb z 0ℤ → ⊥
    go true e w = true≢false (sym e)
    go false e w = subst lib.Dec.T (sym w) (≡→eq_zb q)

pub holding : (p : Symbol → Bool) (b : ℕ) (q : Vec) (xs : List Symbol) (cs : List Float) → Reads b xs cs q → Holding p q xs (first_symbol p holds xs cs)
unfolding first_symbol
holding p b q [] [] h = nobody tt
holding p b q [] (c ∷ cs) h = absurd h
holding p b q (x ∷ xs) [] h = absurd h
holding p b q (x ∷ xs) (c ∷ cs) h = go (p x) refl (holds c) refl (first_symbol p holds xs cs) (holding p b q xs cs h.1)
  where
    more : (p x ≡ true → q x.id ≡ 0ℤ) → (t : Option Symbol) → Holding p q xs t → Holding p q (x ∷ xs) t
    more f t (nobody A) = nobody (f, A)
    more f t (somebody e m k z) = somebody e (inr m) k z

    go : (s : Bool) → p x ≡ s → (t : Bool) → holds c ≡ t → (o : Option Symbol) → Holding p q xs o → Holding p q (x ∷ xs) (elim s [ false ↦ o | true ↦ elim t [ false ↦ o | true ↦ some x ] ])
    go false e t f o ih = more (λ w. absurd (true≢false (sym w ∙ e))) o ih
    go true e false f o ih = more (λ _. holds-no h.0.isz f) o ih
    go true e true f o ih = somebody x (inl refl) e (holds-yes h.0.isz f)

-- ---- kinds
no-dummy : (x : Symbol) → kind_of x.kind ≢ dummy → not (is_dummy x) ≡ true
unfolding is_dummy
no-dummy x n = go x.kind n
  where
    go : (t : Kind) → kind_of t ≢ dummy → not (elim t [ External ↦ false | Slack ↦ false | Error ↦ false | Dummy ↦ true ]) ≡ true
    go External n = refl
    go Slack n = refl
    go Error n = refl
    go Dummy n = absurd (n refl)

not-dummy-kind : (x : Symbol) → not (is_dummy x) ≡ true → kind_of x.kind ≢ dummy
unfolding is_dummy
not-dummy-kind x e = go x.kind e
  where
    go : (t : Kind) → not (elim t [ External ↦ false | Slack ↦ false | Error ↦ false | Dummy ↦ true ]) ≡ true → kind_of t ≢ dummy
    go External e q = let z : ◌≡◌ {A = ℕ} 0 1 = cc in omega arith
    go Slack e q = dummy≢slack (sym q)
    go Error e q = dummy≢slack (sym q)
    go Dummy e q = true≢false (sym e)

pub pivotable-kind : (x : Symbol) → is_pivotable x ≡ true → kind_of x.kind ≡ slack
unfolding is_pivotable
pivotable-kind x e = go x.kind e
  where
    go : (t : Kind) → elim t [ External ↦ false | Slack ↦ true | Error ↦ true | Dummy ↦ false ] ≡ true → kind_of t ≡ slack
    go External e = absurd (true≢false (sym e))
    go Slack e = refl
    go Error e = refl
    go Dummy e = absurd (true≢false (sym e))

-- ---- what step 4 finds
module _ (n : ℕ) (old : ℕ → KindZ) (S : StateZ) (held : List Held) (d : Demand) (w : Work) (c : Created) (B : Built n old S held d w c) where
  abbrev xs : List Symbol
  xs = c.work.tableau.symbols

  -- a cell of a kind that the row does not hold
  absent-kind : (p : Symbol → Bool) → All (λ (x : Symbol). p x ≡ true → B.r x.id ≡ 0ℤ) xs → (i : ℕ) → i ≢ 0 → ((x : Symbol) → Kinded B.kind x → x.id ≡ i → p x ≡ true) → B.r i ≡ 0ℤ
  absent-kind p A i ni f = go (in-or-not i xs)
    where
      at : (ys : List Symbol) → All (λ (x : Symbol). p x ≡ true → B.r x.id ≡ 0ℤ) ys → All (Kinded B.kind) ys → In i ys → B.r i ≡ 0ℤ
      at [] a k m = absurd m
      at (y ∷ ys) a k (inl e) = ap B.r e ∙ a.0 (f y k.0 (sym e))
      at (y ∷ ys) a k (inr m) = at ys a.1 k.1 m

      go : In i xs ⊎ NotIn i xs → B.r i ≡ 0ℤ
      go (inl m) = at xs A B.reads.kinds m
      go (inr m) = B.line.outside i ni m

  pub external≢0 : (i : ℕ) → B.kind i ≡ external → i ≢ 0
  external≢0 i k e = let z : ◌≡◌ {A = ℕ} 0 1 = cc (k, B.good.zero, ap B.kind e) in omega arith

  pub slack≢0 : (i : ℕ) → B.kind i ≡ slack → i ≢ 0
  slack≢0 i k e = let z : ◌≡◌ {A = ℕ} 0 1 = cc (k, B.good.zero, ap B.kind e) in omega arith

  unfoldable pub NoExternal : Type 0
  NoExternal = (i : ℕ) → B.kind i ≡ external → B.r i ≡ 0ℤ

  pub data Subjected : Option Symbol → Type 0 where
    variable : (s : Symbol) → Live B.kind xs s → B.kind s.id ≡ external → B.r s.id ≢ 0ℤ → Subjected (some s)
    marker : NoExternal → B.kind c.tag.marker.id ≡ slack → B.r c.tag.marker.id ≺ 0ℤ → Subjected (some c.tag.marker)
    other : NoExternal → (o : Symbol) → c.tag.other ≡ some o → B.kind o.id ≡ slack → B.r o.id ≺ 0ℤ → Subjected (some o)
    nothing : NoExternal → Subjected none

  tag-cell : (s : Symbol) → Live B.kind xs s → negative_tag c s ≡ true → (B.kind s.id ≡ slack) × (B.r s.id ≺ 0ℤ)
  unfolding negative_tag
  tag-cell s l e =
      let t = both (is_pivotable s) (below_zero (coefficient_for s.id xs c.row.cells)) e in
      (l.1 ∙ pivotable-kind s t.0, below-z (row-cell s.id xs c.row B.r (in-nonzero s.id xs B.reads.up l.0) B.line).isz t.1)

  pub subjected : Subjected (choose_subject c)
  unfolding choose_subject NoExternal
  subjected = go (first_symbol is_external holds xs c.row.cells) (holding is_external 1024 B.r xs c.row.cells B.line.cells)
    where
      by-other : NoExternal → (t : Option Symbol) → c.tag.other ≡ t → Subjected (elim t [ none ↦ none | some o ↦ elim (negative_tag c o) [ true ↦ some o | false ↦ none ] ])
      by-other f none q = nothing f
      by-other f (some o) q = at (negative_tag c o) refl
        where
          at : (b : Bool) → negative_tag c o ≡ b → Subjected (elim b [ true ↦ some o | false ↦ none ])
          at true e = let t = tag-cell o (B.other o q).live e in other f o q t.0 t.1
          at false e = nothing f

      by-marker : NoExternal → (b : Bool) → negative_tag c c.tag.marker ≡ b
          → Subjected (elim b [ true ↦ some c.tag.marker | false ↦ elim c.tag.other [ none ↦ none | some o ↦ elim (negative_tag c o) [ true ↦ some o | false ↦ none ] ] ])
      by-marker f true e = let t = tag-cell c.tag.marker B.marker.live e in marker f t.0 t.1
      by-marker f false e = by-other f c.tag.other refl

      go : (t : Option Symbol) → Holding is_external B.r xs t
          → Subjected (elim t [ some s ↦ some s | none ↦ elim (negative_tag c c.tag.marker) [ true ↦ some c.tag.marker | false ↦ elim c.tag.other [ none ↦ none | some o ↦ elim (negative_tag c o) [ true ↦ some o | false ↦ none ] ] ] ])
      go t (somebody s m k z) = let l = is_live B.kind s xs B.reads.kinds m in variable s l (l.1 ∙ external-is s k) z
      go t (nobody A) = by-marker (λ i k. absent-kind is_external A i (external≢0 i k) (λ x q e. is-external x (sym q ∙ ap B.kind e ∙ k))) (negative_tag c c.tag.marker) refl

  pub no-externals : choose_subject c ≡ none → (i : ℕ) → B.kind i ≡ external → B.r i ≡ 0ℤ
  unfolding NoExternal
  no-externals e = go (choose_subject c) e subjected
    where
      go : (t : Option Symbol) → t ≡ none → Subjected t → NoExternal
      go t e (variable s l k z) = absurd (none≢some (sym e))
      go t e (marker f k z) = f
      go t e (other f o q k z) = f
      go t e (nothing f) = f

  -- ---- all cells are dummies, or one is not
  pub data Dummies : Bool → Type 0 where
    all-dummies : ((i : ℕ) → i ≢ 0 → B.kind i ≢ dummy → B.r i ≡ 0ℤ) → Dummies true
    one-not : (e : Symbol) → Live B.kind xs e → B.kind e.id ≢ dummy → B.r e.id ≢ 0ℤ → Dummies false

  pub dummies : Dummies (all_dummies c)
  unfolding all_dummies
  dummies = go (first_symbol (λ s. not (is_dummy s)) holds xs c.row.cells) (holding (λ s. not (is_dummy s)) 1024 B.r xs c.row.cells B.line.cells)
    where
      go : (t : Option Symbol) → Holding (λ s. not (is_dummy s)) B.r xs t → Dummies (elim t [ none ↦ true | some s ↦ false ])
      go t (nobody A) = all-dummies (λ i ni k. absent-kind (λ s. not (is_dummy s)) A i ni (λ x q e. no-dummy x (λ z. k (ap B.kind (sym e) ∙ q ∙ z))))
      go t (somebody s m k z) = let l = is_live B.kind s xs B.reads.kinds m in one-not s l (λ q. not-dummy-kind s k (sym l.1 ∙ q)) z

  -- step 6's row holds a slack or an error
  pub some-slack : choose_subject c ≡ none → all_dummies c ≡ false → (e : Symbol) × Live B.kind xs e × (B.kind e.id ≡ slack) × (B.r e.id ≢ 0ℤ)
  some-slack h a = go (all_dummies c) a dummies
    where
      by : (e : Symbol) → Live B.kind xs e → B.kind e.id ≢ dummy → B.r e.id ≢ 0ℤ → (t : KindZ) → B.kind e.id ≡ t → B.kind e.id ≡ slack
      by e l nd nz const k = absurd (in-nonzero e.id xs B.reads.up l.0 (B.good.consts e.id k))
      by e l nd nz external k = absurd (nz (no-externals h e.id k))
      by e l nd nz slack k = k
      by e l nd nz dummy k = absurd (nd k)

      go : (t : Bool) → t ≡ false → Dummies t → (e : Symbol) × Live B.kind xs e × (B.kind e.id ≡ slack) × (B.r e.id ≢ 0ℤ)
      go t q (all-dummies f) = absurd (true≢false q)
      go t q (one-not e l nd nz) = (e, l, by e l nd nz (B.kind e.id) refl, nz)
