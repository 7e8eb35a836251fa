-- A removal's leaving row: whichever rank gives it, the pivot on it keeps the state good; and where no rank gives one, no row holds the marker. Assumes nothing.
use Rattle.std.specs.Prelude.{◌≡◌, ◌⊎◌, ◌≢◌, ℕ, ◌<◌, Bool, ◌&&◌, cond, ℤ, ◌*ℤ◌}
use Rattle.std.proofs.Math.Path.{refl}
use Rattle.std.proofs.Common.{sym, ap, ◌∙◌, subst, inl, inr, true≢false}
use mathlib.Core.List.{List, [], ◌∷◌}
use Rattle.std.proofs.Math.Option.{Option, none, some}
use Rattle.std.proofs.Math.Bool.{true, false, not}
use Rattle.laws.specs.Z.{◌≼◌, ◌≺◌}
use Rattle.simplex.specs.Ord.{0ℤ, 1ℤ, ≼-antisym, ≺-irrefl, ≺-or-≼}
use Rattle.simplex.specs.Lin.{Vec, δ-other}
use Rattle.simplex.specs.Choose.{All}
use Rattle.simplex.specs.Basis.{Mask}
use Rattle.simplex.specs.Opt.{Kind as KindZ, const, external, slack, dummy, slack≢external, slack≢dummy}
use Rattle.simplex.specs.Pass.{State as StateZ, Good}
use Rattle.simplex.specs.Gone.{dummy≢external, const≢external}
use Rattle.simplex.specs.Remove.{Rank, keep-dummy, keep-negative, keep-positive, keep-external}
use Rattle.steps.specs.Symbol.{Kind, External, Slack, Error, Dummy, Symbol, is_external, is_dummy, absent, holds, coefficient_for}
use Rattle.steps.specs.State.{Basic}
use Rattle.steps.specs.Row.{Row}
use Rattle.steps.specs.Work.{Work, find_row}
use Rattle.steps.specs.Optimise.{smallest_ratio, negative_ratios}
use Rattle.steps.specs.Remove.{cell_in, first_dummy_row, positive_ratios, last_external_row, get_marker_leaving_row}
use Rattle.simplex.specs.bridge.Nums.{absent-yes}
use Rattle.simplex.specs.bridge.Finds.{none≢some}
use Rattle.simplex.specs.bridge.Rows.{ReadsRow}
use Rattle.simplex.proofs.bridge.Rows.{row-cell}
use Rattle.simplex.specs.bridge.Table.{kind_of, RowAt, Live, ReadsWork}
use Rattle.simplex.proofs.bridge.Table.{found_in}
use Rattle.simplex.specs.bridge.Chosen.{Leaves, Leaving}
use Rattle.simplex.proofs.bridge.Chosen.{restricted-is, known, leaving-is}
use Rattle.simplex.proofs.bridge.Looks.{minus_one}
use Rattle.simplex.specs.bridge.Ranks.{Leaves as LeavesUp, Leaving as LeavingUp}
use Rattle.simplex.proofs.bridge.Ranks.{positive-is}
use Rattle.simplex.proofs.bridge.Duals.{one_of}

-- ---- numbers and kinds
is-dummy : (x : Symbol) → kind_of x.kind ≡ dummy → is_dummy x ≡ true
unfolding is_dummy
is-dummy x e = go x.kind e
  where
    go : (t : Kind) → kind_of t ≡ dummy → elim t as (λ x. Bool) [ External ↦ false | Slack ↦ false | Error ↦ false | Dummy ↦ true ] ≡ true
    go External e = absurd (dummy≢external (sym e))
    go Slack e = absurd (slack≢dummy e)
    go Error e = absurd (slack≢dummy e)
    go Dummy e = refl

dummy-is : (x : Symbol) → is_dummy x ≡ true → kind_of x.kind ≡ dummy
unfolding is_dummy
dummy-is x e = go x.kind e
  where
    go : (t : Kind) → elim t as (λ x. Bool) [ External ↦ false | Slack ↦ false | Error ↦ false | Dummy ↦ true ] ≡ true → kind_of t ≡ dummy
    go External e = absurd (true≢false (sym e))
    go Slack e = absurd (true≢false (sym e))
    go Error e = absurd (true≢false (sym e))
    go Dummy e = refl

pub is-external : (x : Symbol) → kind_of x.kind ≡ external → is_external x ≡ true
unfolding is_external
is-external x e = go x.kind e
  where
    go : (t : Kind) → kind_of t ≡ external → elim t as (λ x. Bool) [ External ↦ true | Slack ↦ false | Error ↦ false | Dummy ↦ false ] ≡ true
    go External e = refl
    go Slack e = absurd (slack≢external e)
    go Error e = absurd (slack≢external e)
    go Dummy e = absurd (dummy≢external e)

pub external-is : (x : Symbol) → is_external x ≡ true → kind_of x.kind ≡ external
unfolding is_external
external-is x e = go x.kind e
  where
    go : (t : Kind) → elim t as (λ x. Bool) [ External ↦ true | Slack ↦ false | Error ↦ false | Dummy ↦ false ] ≡ true → kind_of t ≡ external
    go External e = refl
    go Slack e = absurd (true≢false (sym e))
    go Error e = absurd (true≢false (sym e))
    go Dummy e = absurd (true≢false (sym e))

module _ (kind : ℕ → KindZ) (xs : List Symbol) (B : Mask) (R : ℕ → Vec) (e : ℕ) (e≢0 : e ≢ 0) where
  abbrev Known : Basic → Type 0
  Known b = Live kind xs b.symbol × ((B b.symbol.id ≡ true) × ReadsRow xs b.row (R b.symbol.id))

  -- a row that does not hold e
  not-held : (b : Basic) → Known b → holds (cell_in e xs b) ≡ false → R b.symbol.id e ≡ 0ℤ
  unfolding holds cell_in
  not-held b k h = absent-yes (row-cell e xs b.row (R b.symbol.id) e≢0 k.1.1).isz (go (absent (coefficient_for e xs b.row.cells)) refl h)
    where
      go : (t : Bool) → absent (coefficient_for e xs b.row.cells) ≡ t → not t ≡ false → absent (coefficient_for e xs b.row.cells) ≡ true
      go true q h = q
      go false q h = absurd (true≢false h)

  -- a basic symbol of the kind t
  pub record Basic-of (t : KindZ) (l : Symbol) : Type 0 where
    pub live : Live kind xs l
    pub basic : B l.id ≡ true
    pub is : kind l.id ≡ t

  abbrev Empty : KindZ → List Basic → Type 0
  Empty t bs = All (λ (b : Basic). kind b.symbol.id ≡ t → R b.symbol.id e ≡ 0ℤ) bs

  -- ---- "the first Dummy row holding the marker"
  abbrev FirstDummy : List Basic → Option Symbol → Type 0
  FirstDummy bs none = Empty dummy bs
  FirstDummy bs (some l) = Basic-of dummy l

  first-dummy : (bs : List Basic) → All Known bs → FirstDummy bs (first_dummy_row e xs bs)
  unfolding first_dummy_row
  first-dummy [] k = tt
  first-dummy (b ∷ bs) k = go (is_dummy b.symbol) refl (holds (cell_in e xs b)) refl (first_dummy_row e xs bs) (first-dummy bs k.1)
    where
      more : (kind b.symbol.id ≡ dummy → R b.symbol.id e ≡ 0ℤ) → (t : Option Symbol) → FirstDummy bs t → FirstDummy (b ∷ bs) t
      more f none h = (f, h)
      more f (some l) h = h

      go : (s : Bool) → is_dummy b.symbol ≡ s → (h : Bool) → holds (cell_in e xs b) ≡ h → (t : Option Symbol) → FirstDummy bs t → FirstDummy (b ∷ bs) (elim (s && h) [ true ↦ some b.symbol | false ↦ t ])
      go true p true q t ih = record { live = k.0.0; basic = k.0.1.0; is = k.0.0.1 ∙ dummy-is b.symbol p }
      go true p false q t ih = more (λ _. not-held b k.0 q) t ih
      go false p h q t ih = more (λ d. absurd (true≢false (sym (is-dummy b.symbol (sym k.0.0.1 ∙ d)) ∙ p))) t ih

  -- ---- "the last External row holding it"
  abbrev Last : Option Symbol → List Basic → Option Symbol → Type 0
  Last last bs none = (last ≡ none) × Empty external bs
  Last last bs (some l) = Basic-of external l

  abbrev Before : Option Symbol → Type 0
  Before none = Unit
  Before (some l) = Basic-of external l

  ends : (last : Option Symbol) → Before last → Last last [] last
  ends none a = (refl, tt)
  ends (some l) a = a

  last-external : (last : Option Symbol) → Before last → (bs : List Basic) → All Known bs → Last last bs (last_external_row e xs last bs)
  unfolding last_external_row
  last-external last a [] k = ends last a
  last-external last a (b ∷ bs) k = go (is_external b.symbol) refl (holds (cell_in e xs b)) refl (λ l h. last-external l h bs k.1)
    where
      here : Basic-of external b.symbol → (t : Option Symbol) → Last (some b.symbol) bs t → Last last (b ∷ bs) t
      here h none r = absurd (none≢some (sym r.0))
      here h (some l) r = r

      more : (kind b.symbol.id ≡ external → R b.symbol.id e ≡ 0ℤ) → (t : Option Symbol) → Last last bs t → Last last (b ∷ bs) t
      more f none h = (h.0, (f, h.1))
      more f (some l) h = h

      go : (s : Bool) → is_external b.symbol ≡ s → (h : Bool) → holds (cell_in e xs b) ≡ h
          → ((l : Option Symbol) → Before l → Last l bs (last_external_row e xs l bs)) → Last last (b ∷ bs) (last_external_row e xs (cond (s && h) (some b.symbol) last) bs)
      go true p true q ih =
          let own : Basic-of external b.symbol = record { live = k.0.0; basic = k.0.1.0; is = k.0.0.1 ∙ external-is b.symbol p } in
          here own (last_external_row e xs (some b.symbol) bs) (ih (some b.symbol) own)
      go true p false q ih = more (λ _. not-held b k.0 q) (last_external_row e xs last bs) (ih last a)
      go false p h q ih = more (λ x. absurd (true≢false (sym (is-external b.symbol (sym k.0.0.1 ∙ x)) ∙ p))) (last_external_row e xs last bs) (ih last a)

-- ---- the four ranks
module _ (n : ℕ) (kind : ℕ → KindZ) (w : Work) (S : StateZ) (a : Vec) (G : Good n kind S) (H : ReadsWork kind w S.B S.R S.o a) (e : ℕ) (in-n : e < n) (e≢0 : e ≢ 0) (free : S.B e ≡ false)
    -- where no restricted row holds e, the objective does not
    (cost : ((j : ℕ) → kind j ≢ external → j ≢ e → S.R j e ≡ 0ℤ) → S.o e ≡ 0ℤ) where
  abbrev xs : List Symbol
  xs = w.tableau.symbols

  abbrev bs : List Basic
  bs = w.tableau.rows

  -- a fact of the rows of a kind, by column
  empty : (t : KindZ) → All (λ (b : Basic). kind b.symbol.id ≡ t → S.R b.symbol.id e ≡ 0ℤ) bs → (j : ℕ) → kind j ≡ t → j ≢ e → S.R j e ≡ 0ℤ
  empty t A j k ne = go (find_row j bs) refl (H.rows j)
    where
      go : (r : Option Row) → find_row j bs ≡ r → RowAt xs r (S.B j) (S.R j) → S.R j e ≡ 0ℤ
      go none q h = G.shape.unit j h e ∙ δ-other ne
      go (some r) q h = found_in (λ j. kind j ≡ t → S.R j e ≡ 0ℤ) j bs r A q k

  pub record Ranked (l : Symbol) : Type 0 where
    pub live : Live kind xs l
    pub basic : S.B l.id ≡ true
    pub rank : S.R l.id e *ℤ S.R l.id e ≡ 1ℤ → Rank n kind S l.id e

  abbrev pub Found : Option Symbol → Type 0
  Found none = (j : ℕ) → j ≢ e → S.R j e ≡ 0ℤ
  Found (some l) = Ranked l

  at-dummy : (l : Symbol) → Basic-of kind xs S.B S.R e e≢0 dummy l → Ranked l
  at-dummy l D = record {
    live = D.live;
    basic = D.basic;
    rank = λ one. record {
      basic = D.basic;
      free = free;
      in-n = in-n;
      not-0 = e≢0;
      one = one;
      side = inl (λ x. dummy≢external (sym D.is ∙ x));
      first = λ j d ne. inr D.is;
      keeps = λ j b s ne. keep-dummy (S.R j 0) (S.R j e) (S.R l.id e) (S.R l.id 0) (G.feasible j b s) (G.still-dummies l.id D.is);
    };
  }

  module _ (no-dummy : (j : ℕ) → kind j ≡ dummy → j ≢ e → S.R j e ≡ 0ℤ) where
    is-slack : (l : Symbol) → Live kind xs l → S.R l.id e ≢ 0ℤ → l.id ≢ e → (kind_of l.kind ≡ slack) ⊎ (kind_of l.kind ≡ dummy) → kind l.id ≡ slack
    is-slack l v c ne (inl k) = v.1 ∙ k
    is-slack l v c ne (inr k) = absurd (c (no-dummy l.id (v.1 ∙ k) ne))

    not-e : (l : ℕ) → S.B l ≡ true → l ≢ e
    not-e l b q = true≢false (sym b ∙ ap S.B q ∙ free)

    at-negative : (l : Symbol) → Leaves kind w.tableau.cutoff xs bs w.tableau.objective w.artificial S.B S.R S.o a H e e≢0 l → Ranked l
    at-negative l L = record {
      live = L.live;
      basic = L.basic;
      rank = λ one. record {
        basic = L.basic;
        free = free;
        in-n = in-n;
        not-0 = e≢0;
        one = one;
        side = inl (λ x. slack≢external (sym own ∙ x));
        first = λ j d ne. inl (no-dummy j d ne);
        keeps = λ j b s ne. let u = minus_one (S.R l.id e) one L.cell in
            keep-negative (S.R j 0) (S.R j e) (S.R l.id e) (S.R l.id 0) (G.feasible j b s) (G.feasible l.id L.basic own) u (λ h. (L.before u j b s h).least);
      };
    }
      where
        own : kind l.id ≡ slack
        own = is-slack l L.live (λ z. ≺-irrefl (subst (λ (x : ℤ). x ≺ 0ℤ) z L.cell)) (not-e l.id L.basic) (restricted-is l L.restricted)

    module _ (no-negative : (j : ℕ) → S.B j ≡ true → kind j ≡ slack → S.R j e ≺ 0ℤ → ⊥) where
      at-positive : (l : Symbol) → LeavesUp kind w.tableau.cutoff xs bs w.tableau.objective w.artificial S.B S.R S.o a H e e≢0 l → Ranked l
      at-positive l L = record {
        live = L.live;
        basic = L.basic;
        rank = λ one. record {
          basic = L.basic;
          free = free;
          in-n = in-n;
          not-0 = e≢0;
          one = one;
          side = inl (λ x. slack≢external (sym own ∙ x));
          first = λ j d ne. inl (no-dummy j d ne);
          keeps = λ j b s ne. let u = one_of (S.R l.id e) one L.cell in
              keep-positive (S.R j 0) (S.R j e) (S.R l.id e) (S.R l.id 0) (G.feasible j b s) (G.feasible l.id L.basic own) u (no-negative j b s) (λ h. L.least u j b s h);
        };
      }
        where
          own : kind l.id ≡ slack
          own = is-slack l L.live (λ z. ≺-irrefl (subst (λ (x : ℤ). 0ℤ ≺ x) z L.cell)) (not-e l.id L.basic) (restricted-is l L.restricted)

      module _ (no-positive : (j : ℕ) → S.B j ≡ true → kind j ≡ slack → 0ℤ ≺ S.R j e → ⊥) where
        no-slack : (j : ℕ) → kind j ≡ slack → j ≢ e → S.R j e ≡ 0ℤ
        no-slack j s ne = go (S.B j) refl
          where
            go : (b : Bool) → S.B j ≡ b → S.R j e ≡ 0ℤ
            go false q = G.shape.unit j q e ∙ δ-other ne
            go true q = by (≺-or-≼ (S.R j e) 0ℤ) (≺-or-≼ 0ℤ (S.R j e))
              where
                by : (S.R j e ≺ 0ℤ) ⊎ (0ℤ ≼ S.R j e) → (0ℤ ≺ S.R j e) ⊎ (S.R j e ≼ 0ℤ) → S.R j e ≡ 0ℤ
                by (inl x) y = absurd (no-negative j q s x)
                by (inr x) (inl y) = absurd (no-positive j q s y)
                by (inr x) (inr y) = ≼-antisym y x

        no-restricted : (j : ℕ) → kind j ≢ external → j ≢ e → S.R j e ≡ 0ℤ
        no-restricted j nx ne = go (kind j) refl
          where
            go : (t : KindZ) → kind j ≡ t → S.R j e ≡ 0ℤ
            go const k = G.shape.unit j (ap S.B (G.consts j k) ∙ G.shape.const) e ∙ δ-other ne
            go external k = absurd (nx k)
            go slack k = no-slack j k ne
            go dummy k = no-dummy j k ne

        at-external : (l : Symbol) → Basic-of kind xs S.B S.R e e≢0 external l → Ranked l
        at-external l D = record {
          live = D.live;
          basic = D.basic;
          rank = λ one. record {
            basic = D.basic;
            free = free;
            in-n = in-n;
            not-0 = e≢0;
            one = one;
            side = inr (cost no-restricted, no-restricted);
            first = λ j d ne. inl (no-dummy j d ne);
            keeps = λ j b s ne. keep-external (S.R j 0) (S.R j e) (S.R l.id e) (S.R l.id 0) (G.feasible j b s) (no-slack j s (not-e j b));
          };
        }

        by_last : (t : Option Symbol) → Last kind xs S.B S.R e e≢0 none bs t → Found t
        by_last none h = λ j ne. go j ne (kind j) refl
          where
            go : (j : ℕ) → j ≢ e → (t : KindZ) → kind j ≡ t → S.R j e ≡ 0ℤ
            go j ne const k = no-restricted j (λ x. const≢external (sym k ∙ x)) ne
            go j ne external k = empty external h.1 j k ne
            go j ne slack k = no-slack j k ne
            go j ne dummy k = no-dummy j k ne
        by_last (some l) h = at-external l h

      by-positive : (t : Option Symbol) → LeavingUp kind w.tableau.cutoff xs bs w.tableau.objective w.artificial S.B S.R S.o a H e e≢0 t
          → Found (elim t [ some b ↦ some b | none ↦ last_external_row e xs none bs ])
      by-positive none h = by_last h (last_external_row e xs none bs) (last-external kind xs S.B S.R e e≢0 none tt bs (known kind w.tableau.cutoff xs bs w.tableau.objective w.artificial S.B S.R S.o a H))
      by-positive (some l) h = at-positive l h

  -- "the leaving row is, in rank: .."
  pub marker-row : Found (get_marker_leaving_row e w)
  unfolding get_marker_leaving_row
  marker-row = ranks (first_dummy_row e xs bs) (smallest_ratio (negative_ratios e xs bs)) (first-dummy kind xs S.B S.R e e≢0 bs (known kind w.tableau.cutoff xs bs w.tableau.objective w.artificial S.B S.R S.o a H)) (leaving-is kind w.tableau.cutoff xs bs w.tableau.objective w.artificial S.B S.R S.o a H e e≢0)
    where
      ranks : (t u : Option Symbol) → FirstDummy kind xs S.B S.R e e≢0 bs t → Leaving kind w.tableau.cutoff xs bs w.tableau.objective w.artificial S.B S.R S.o a H e e≢0 u
          → Found (elim t [ some b ↦ some b | none ↦ elim u [ some b ↦ some b | none ↦ elim (smallest_ratio (positive_ratios e xs bs)) [ some b ↦ some b | none ↦ last_external_row e xs none bs ] ] ])
      ranks (some l) (some m) h k = at-dummy l h
      ranks (some l) none h k = at-dummy l h
      ranks none (some m) h k = at-negative (empty dummy h) m k
      ranks none none h k = by-positive (empty dummy h) k (smallest_ratio (positive_ratios e xs bs)) (positive-is kind w.tableau.cutoff xs bs w.tableau.objective w.artificial S.B S.R S.o a H e e≢0)
