-- A removal's last step: the use counts of its terms fall, and a variable that no demand names any more goes. Assumes nothing.
use Rattle.std.specs.Prelude.{◌≡◌, ◌≢◌, ℕ, ◌+◌, ◌≤◌, ◌<◌, Bool, true, false, cond, T, eqb, ℤ, ◌+ℤ◌, ◌*ℤ◌}
use Rattle.std.proofs.Math.Path.{refl, sym as back, ap, subst}
use Rattle.std.proofs.Common.{ap₂, ◌∙◌, arith, eqb→eq}
use mathlib.Core.List.{List, [], ◌∷◌, map}
use Rattle.std.proofs.Math.Option.{Option, none, some}
use Rattle.std.proofs.Math.Dec.{eqb_refl}
use Rattle.laws.specs.exact.Whole.{val}
use Rattle.laws.specs.Z.{◌≼◌}
use Rattle.laws.specs.Ring.{ring, v, k as κ, ◌⊞◌, ◌⊠◌}
use Rattle.simplex.specs.Ord.{0ℤ}
use Rattle.simplex.specs.Lin.{δ-other}
use Rattle.simplex.specs.At.{at, at_there}
use Rattle.simplex.specs.Choose.{All, all-zip, all_map}
use Rattle.simplex.specs.Opt.{Kind as KindZ, external, slack}
use Rattle.simplex.specs.Problem.{Sounds}
use Rattle.simplex.specs.Pass.{State as StateZ}
use Rattle.simplex.specs.Run.{Foreign}
use Rattle.simplex.specs.Gone.{tag-kind, not-variable}
use Rattle.steps.specs.State.{Term, Variable, Changes}
use Rattle.steps.specs.Work.{Work, with_changes, purge}
use Rattle.steps.specs.Changes.{find_variable, tell_gone}
use Rattle.steps.specs.CreateRow.{with_variables}
use Rattle.steps.specs.Remove.{Fallen, use_less, lose, drop_use, drop_uses}
use Rattle.steps.specs.Readable.{uses_in}
use Rattle.simplex.specs.bridge.Rows.{In}
use Rattle.simplex.specs.bridge.Finds.{none≢some}
use Rattle.simplex.specs.bridge.Table.{in-nonzero}
use Rattle.run.specs.Inv.{non_zero_terms, columns, Held, expr_of, con_of, VarAt}
use Rattle.run.specs.RemovePurge.{Cut, cut, Read, purged, was-slack}
use Rattle.run.specs.Uses.{by_number, Single, less_use, Looks, Fell, absent, last, fewer, use-less}

-- the terms of what is still live do not name x
abbrev pub Unnamed : ℕ → List Held → Type 0
Unnamed x held = All (λ (h : Held). All (λ (t : Term). t.variable ≢ x) (non_zero_terms h.demand.terms)) held

abbrev pub Counts : Option Variable → ℕ → Type 0
Counts none m = Unit
Counts (some u) m = u.uses ≡ m

-- ---- what is known while the counts fall: ts are the terms still to come, K counts the uses that are left after them
pub record Using (sym name : ℕ → ℕ) (held : List Held) (K : ℕ → ℕ) (S : StateZ) (kind : ℕ → KindZ) (ts : List Term) (w : Work) : Type 0 where
  pub read : Read columns kind S (map (con_of sym) held) w
  pub rest : (j : ℕ) → kind j ≡ slack → 0ℤ ≼ S.o j
  pub room : w.tableau.next_id ≤ columns
  pub ids : (j : ℕ) → In j w.tableau.symbols → j < w.tableau.next_id
  pub vars : (x : ℕ) → VarAt kind w.tableau.symbols (find_variable x w.changes.variables) (sym x)
  pub names : (x : ℕ) → find_variable x w.changes.variables ≢ none → name (sym x) ≡ x
  pub single : Single w.changes.variables
  pub known : All (λ (h : Held). All (λ (t : Term). find_variable t.variable w.changes.variables ≢ none) (non_zero_terms h.demand.terms)) held
  pub counts : (x : ℕ) → Counts (find_variable x w.changes.variables) (uses_in x ts + K x)

-- ---- a variable that no demand names
expr-0 : (sym : ℕ → ℕ) (c : ℕ) → c ≢ 0 → (ts : List Term) (k : ℤ) → All (λ (t : Term). sym t.variable ≢ c) ts → expr_of sym ts k c ≡ 0ℤ
unfolding expr_of
expr-0 sym c n [] k a = ap (λ (z : ℤ). 0ℤ +ℤ k *ℤ z) (δ-other (λ q. n (back q))) ∙ ring (k ∷ []) (κ 0ℤ ⊞ v 0 ⊠ κ 0ℤ) (κ 0ℤ) tt
expr-0 sym c n (t ∷ ts) k a =
    ap₂ (λ (x y : ℤ). x +ℤ val t.coefficient *ℤ y) (expr-0 sym c n ts k a.1) (δ-other a.0) ∙ ring (val t.coefficient ∷ []) (κ 0ℤ ⊞ v 0 ⊠ κ 0ℤ) (κ 0ℤ) tt

uses-own : (t : Term) (ts : List Term) (x : ℕ) → x ≡ t.variable → uses_in x (t ∷ ts) ≡ 1 + uses_in x ts
unfolding uses_in
uses-own t ts x p = go (eqb x t.variable) (subst (λ (y : ℕ). T (eqb x y)) p (eqb_refl x))
  where
    go : (b : Bool) → T b → cond b 1 0 + uses_in x ts ≡ 1 + uses_in x ts
    go true e = refl
    go false e = absurd e

uses-other : (t : Term) (ts : List Term) (x : ℕ) → x ≢ t.variable → uses_in x (t ∷ ts) ≡ uses_in x ts
unfolding uses_in
uses-other t ts x ne = go (eqb x t.variable) refl
  where
    go : (b : Bool) → eqb x t.variable ≡ b → cond b 1 0 + uses_in x ts ≡ uses_in x ts
    go true e = absurd (ne (eqb→eq x t.variable (subst T (back e) tt)))
    go false e = omega arith

module _ (sym name : ℕ → ℕ) (held : List Held) (K : ℕ → ℕ) (S : StateZ) (unused : (x : ℕ) → K x ≡ 0 → Unnamed x held) where
  -- ---- the variables with one count less
  module _ (kind : ℕ → KindZ) (t : Term) (ts : List Term) (w : Work) (U : Using sym name held K S kind (t ∷ ts) w) where
    abbrev n : ℕ
    n = t.variable

    abbrev vs : List Variable
    vs = w.changes.variables

    renamed : (us : List Variable) (o : Option Variable) → Looks n o vs us → VarAt kind w.tableau.symbols o (sym n) → Counts o (uses_in n ts + K n) → (o ≢ none → name (sym n) ≡ n)
        → All (λ (h : Held). All (λ (t : Term). find_variable t.variable us ≢ none) (non_zero_terms h.demand.terms)) held → Using sym name held K S kind ts (with_variables us w)
    unfolding with_variables with_changes
    renamed us o L va co na kn = record {
      read = record { good = U.read.good; models = U.read.models; reads = U.read.reads; bare = U.read.bare };
      rest = U.rest;
      room = U.room;
      ids = U.ids;
      vars = λ x. by_number x n
          (λ p. subst (λ (o : Option Variable). VarAt kind w.tableau.symbols o (sym x)) (back (ap (λ (y : ℕ). find_variable y us) p ∙ L.own)) (subst (λ (y : ℕ). VarAt kind w.tableau.symbols o (sym y)) (back p) va))
          (λ p. subst (λ (o : Option Variable). VarAt kind w.tableau.symbols o (sym x)) (back (L.others x p)) (U.vars x));
      names = λ x ne. by_number x n
          (λ p. ap (λ (y : ℕ). name (sym y)) p ∙ na (λ q. ne (ap (λ (y : ℕ). find_variable y us) p ∙ L.own ∙ q)) ∙ back p)
          (λ p. U.names x (λ q. ne (L.others x p ∙ q)));
      single = L.single;
      known = kn;
      counts = λ x. by_number x n
          (λ p. subst (λ (o : Option Variable). Counts o (uses_in x ts + K x)) (back (ap (λ (y : ℕ). find_variable y us) p ∙ L.own)) (subst (λ (y : ℕ). Counts o (uses_in y ts + K y)) (back p) co))
          (λ p. subst (λ (o : Option Variable). Counts o (uses_in x ts + K x)) (back (L.others x p))
          (subst (λ (c : ℕ). Counts (find_variable x vs) (c + K x)) (uses-other t ts x p) (U.counts x)));
    }

  -- ---- a symbol that is no variable's goes
  module _ (kind : ℕ → KindZ) (ts : List Term) (w : Work) (U : Using sym name held K S kind ts w) (c : ℕ) (in-n : c < columns) (c≢0 : c ≢ 0) (F : All (Foreign c) (map (con_of sym) held)) (var : kind c ≡ external)
      (apart : (x : ℕ) → find_variable x w.changes.variables ≢ none → sym x ≢ c) where
    purge-using : Using sym name held K S (at c external kind) ts (purge c w)
    purge-using = record {
      read = purged columns kind S (map (con_of sym) held) w U.read c in-n c≢0 F;
      rest = λ j e. U.rest j (was-slack kind c j e);
      room = subst (λ (m : ℕ). m ≤ columns) (back X.next_id) U.room;
      ids = λ j m. subst (λ (y : ℕ). j < y) (back X.next_id) (U.ids j (X.old j m));
      vars = λ x. subst (λ (y : Changes). VarAt (at c external kind) (purge c w).tableau.symbols (find_variable x y.variables) (sym x)) (back X.changes) (here-too x (find_variable x w.changes.variables) refl (U.vars x));
      names = λ x. subst (λ (y : Changes). find_variable x y.variables ≢ none → name (sym x) ≡ x) (back X.changes) (U.names x);
      single = subst (λ (y : Changes). Single y.variables) (back X.changes) U.single;
      known = subst (λ (y : Changes). All (λ (h : Held). All (λ (t : Term). find_variable t.variable y.variables ≢ none) (non_zero_terms h.demand.terms)) held) (back X.changes) U.known;
      counts = λ x. subst (λ (y : Changes). Counts (find_variable x y.variables) (uses_in x ts + K x)) (back X.changes) (U.counts x);
    }
      where
        X : Cut (λ j. j ≡ c) w (purge c w)
        X = cut c w

        here-too : (x : ℕ) (o : Option Variable) → find_variable x w.changes.variables ≡ o → VarAt kind w.tableau.symbols o (sym x) → VarAt (at c external kind) (purge c w).tableau.symbols o (sym x)
        here-too x none q h = tt
        here-too x (some u) q h =
            let ne : sym x ≢ c = apart x (λ e. none≢some (back e ∙ q)) in
            (h.0, h.1, X.stays (sym x) ne h.2, at_there c external kind (sym x) ne ∙ h.3)

  -- ---- one term
  pub record Went (ts : List Term) (w x : Work) : Type 0 where
    pub kind' : ℕ → KindZ
    pub used : Using sym name held K S kind' ts x
    pub next_id : x.tableau.next_id ≡ w.tableau.next_id
    pub mark : x.mark ≡ w.mark
    pub pivots : x.pivots ≡ w.pivots

  module _ (kind : ℕ → KindZ) (t : Term) (ts : List Term) (w : Work) (U : Using sym name held K S kind (t ∷ ts) w) where
    abbrev x : ℕ
    x = t.variable

    abbrev us : List Variable
    us = w.changes.variables

    -- what is found is the symbol's column
    column : (u : Variable) → find_variable x us ≡ some u → VarAt kind w.tableau.symbols (some u) (sym x)
    column u e = subst (λ (o : Option Variable). VarAt kind w.tableau.symbols o (sym x)) e (U.vars x)

    count : (u : Variable) → find_variable x us ≡ some u → u.uses ≡ 1 + uses_in x ts + K x
    count u e = subst (λ (o : Option Variable). Counts o (uses_in x (t ∷ ts) + K x)) e (U.counts x) ∙ ap (λ (c : ℕ). c + K x) (uses-own t ts x refl)

    found : (u : Variable) → find_variable x us ≡ some u → find_variable x us ≢ none
    found u e q = none≢some (back q ∙ e)

    other_name : (y : ℕ) → y ≢ x → find_variable y us ≢ none → find_variable x us ≢ none → sym y ≢ sym x
    other_name y ne a b q = ne (back (U.names y a) ∙ ap name q ∙ U.names x b)

    terms-foreign : find_variable x us ≢ none → (l : List Term) → All (λ (t : Term). find_variable t.variable us ≢ none) l → All (λ (t : Term). t.variable ≢ x) l → All (λ (t : Term). sym t.variable ≢ sym x) l
    terms-foreign b [] k a = tt
    terms-foreign b (y ∷ l) k a = (other_name y.variable a.0 k.0 b, terms-foreign b l k.1 a.1)

    all-foreign : kind (sym x) ≡ external → sym x ≢ 0 → find_variable x us ≢ none → (hs : List Held) → Sounds columns kind (map (con_of sym) hs)
        → All (λ (h : Held). All (λ (t : Term). find_variable t.variable us ≢ none) (non_zero_terms h.demand.terms)) hs → Unnamed x hs → All (Foreign (sym x)) (map (con_of sym) hs)
    unfolding con_of
    all-foreign e n b [] s k a = tt
    all-foreign e n b (h ∷ hs) s k a = (
      (λ g. not-variable kind (sym x) (tag-kind columns kind (con_of sym h) s.0 (sym x) g) e, expr-0 sym (sym x) n (non_zero_terms h.demand.terms) (val h.demand.constant) (terms-foreign b (non_zero_terms h.demand.terms) k.0 a.0)),
      all-foreign e n b hs s.2 k.1 a.1,
    )

    known-all : (ws : List Variable) → ((y : ℕ) → find_variable y us ≢ none → find_variable y ws ≢ none)
        → All (λ (h : Held). All (λ (t : Term). find_variable t.variable ws ≢ none) (non_zero_terms h.demand.terms)) held
    known-all ws f = all_map (λ (h : Held) a. all_map (λ (t : Term) k. f t.variable k) (non_zero_terms h.demand.terms) a) held U.known

    -- the variable keeps other uses, or is not there
    stays_on : (ws : List Variable) (o : Option Variable) → Looks x o us ws → VarAt kind w.tableau.symbols o (sym x) → Counts o (uses_in x ts + K x) → (o ≢ none → name (sym x) ≡ x) → (find_variable x us ≢ none → o ≢ none)
        → Went ts w (with_variables ws w)
    unfolding with_variables with_changes
    stays_on ws o L va co na f = record {
      kind' = kind;
      used = renamed kind t ts w U ws o L va co na (known-all ws (λ y a. by_number y x
          (λ p e. f (λ q. a (ap (λ (z : ℕ). find_variable z us) p ∙ q)) (back L.own ∙ ap (λ (z : ℕ). find_variable z ws) (back p) ∙ e))
          (λ p e. a (back (L.others y p) ∙ e))));
      next_id = refl;
      mark = refl;
      pivots = refl;
    }

    -- it goes: no demand names it
    goes : (u : Variable) → find_variable x us ≡ some u → u.uses ≡ 1 → (ws : List Variable) → Looks x none us ws → Went ts w (lose u (with_variables ws w))
    unfolding lose tell_gone with_variables with_changes
    goes u e one ws L = subst (λ (c : ℕ). Went ts w (purge c told)) (back (column u e).0) (record {
      kind' = at (sym x) external kind;
      used = purge-using kind ts told W (sym x) in-n c≢0 F (column u e).3 apart;
      next_id = (cut (sym x) told).next_id;
      mark = (cut (sym x) told).mark;
      pivots = (cut (sym x) told).pivots;
    })
      where
        unnamed : Unnamed x held
        unnamed = unused x (omega (arith, count u e))

        c≢0 : sym x ≢ 0
        c≢0 = in-nonzero (sym x) w.tableau.symbols U.read.reads.up (column u e).2

        in-n : sym x < columns
        in-n = omega (arith, U.ids (sym x) (column u e).2, U.room)

        F : All (Foreign (sym x)) (map (con_of sym) held)
        F = all-foreign (column u e).3 c≢0 (found u e) held U.read.models.sounds U.known unnamed

        kn : All (λ (h : Held). All (λ (t : Term). find_variable t.variable ws ≢ none) (non_zero_terms h.demand.terms)) held
        kn =
            all-zip {P = λ (h : Held). All (λ (t : Term). find_variable t.variable us ≢ none) (non_zero_terms h.demand.terms)}
            (λ (h : Held) a b. all-zip {P = λ (t : Term). find_variable t.variable us ≢ none} (λ (t : Term) k m q. k (back (L.others t.variable m) ∙ q)) (non_zero_terms h.demand.terms) a b) held U.known unnamed

        told : Work
        told = with_changes (tell_gone u (with_variables ws w).changes) (with_variables ws w)

        W : Using sym name held K S kind ts told
        W = let R = renamed kind t ts w U ws none L tt tt (λ ne. absurd (ne refl)) kn in
            record { read = record { good = R.read.good; models = R.read.models; reads = R.read.reads; bare = R.read.bare }; rest = R.rest; room = R.room; ids = R.ids; vars = R.vars; names = R.names; single = R.single; known = R.known; counts = R.counts }

        apart : (y : ℕ) → find_variable y told.changes.variables ≢ none → sym y ≢ sym x
        apart y ne = by_number y x (λ p. absurd (ne (ap (λ (z : ℕ). find_variable z ws) p ∙ L.own))) (λ p. other_name y p (λ q. ne (L.others y p ∙ q)) (found u e))

    step : Went ts w (drop_use t w)
    unfolding drop_use
    step = go (use_less x us) (use-less x us U.single)
      where
        go : (f : Fallen) → Fell x us f → Went ts w (elim f.gone [ none ↦ with_variables f.variables w | some gone ↦ lose gone (with_variables f.variables w) ])
        go f (absent a g L) =
            subst (λ (o : Option Variable). Went ts w (elim o [ none ↦ with_variables f.variables w | some gone ↦ lose gone (with_variables f.variables w) ])) (back g)
            (stays_on f.variables none L tt tt (λ ne. absurd (ne refl)) (λ b q. b a))
        go f (last u a o g L) =
            subst (λ (o : Option Variable). Went ts w (elim o [ none ↦ with_variables f.variables w | some gone ↦ lose gone (with_variables f.variables w) ])) (back g) (goes u a o f.variables L)
        go f (fewer u a o g L) =
            subst (λ (o : Option Variable). Went ts w (elim o [ none ↦ with_variables f.variables w | some gone ↦ lose gone (with_variables f.variables w) ])) (back g)
            (stays_on f.variables (some (less_use u)) L (unfold less_use in column u a) (unfold less_use in omega (arith, count u a)) (λ _. U.names x (found u a)) (λ _ q. none≢some (back q)))

  -- ---- all the terms of the demand that goes
  pub uses-fall : (ts : List Term) (kind : ℕ → KindZ) (w : Work) → Using sym name held K S kind ts w → Went [] w (drop_uses ts w)
  unfolding drop_uses
  uses-fall [] kind w U = record { kind' = kind; used = U; next_id = refl; mark = refl; pivots = refl }
  uses-fall (t ∷ ts) kind w U =
      let s = step kind t ts w U in
      let r = uses-fall ts s.kind' (drop_use t w) s.used in
      record { kind' = r.kind'; used = r.used; next_id = r.next_id ∙ s.next_id; mark = r.mark ∙ s.mark; pivots = r.pivots ∙ s.pivots }
