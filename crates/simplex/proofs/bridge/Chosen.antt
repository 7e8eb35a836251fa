-- The steps' two walks on a tableau that reads as the theory's: entering is the first, leaving has the least ratio by cross multiplication and the lowest id on a tie. Assumes nothing.
use Rattle.std.specs.Prelude.{◌≡◌, ◌⊎◌, ◌≢◌, ℕ, ◌^◌, ◌≤◌, ◌<◌, Bool, not, ◌&&◌, T, ℤ, pos, negsuc, neg_ℤ, nat_abs, ◌*ℤ◌, Float}
use Rattle.std.proofs.Math.Path.{refl}
use Rattle.std.proofs.Common.{sym, ap, ap₂, ◌∙◌, subst, inl, inr, arith, true≢false}
use mathlib.Core.List.{List, [], ◌∷◌}
use Rattle.std.proofs.Math.Option.{Option, some}
use Rattle.std.proofs.Math.Bool.{true, false}
use Rattle.std.specs.Int.Signed.{lt_z, lt_z_yes, lt_z_no}
use Rattle.std.specs.Float.Ieee.{lt}
use Rattle.laws.specs.Z.{abs_neg}
use Rattle.laws.specs.exact.Whole.{neg-z}
use Rattle.laws.specs.Z.{◌≼◌, ◌≺◌}
use Rattle.laws.specs.Ring.{ring, v, k as κ, ◌⊠◌, ⊟◌}
use Rattle.simplex.specs.Ord.{0ℤ, 1ℤ, ≼-of-eq, ≼_trans, ≺→≼, ≺-irrefl}
use Rattle.simplex.specs.Lin.{Vec}
use Rattle.simplex.specs.Choose.{All, all-map-of as all_map, all-zip-of as all-zip}
use Rattle.simplex.specs.Basis.{Mask}
use Rattle.simplex.specs.Opt.{Kind as KindZ, external, slack, dummy, slack≢external, dummy≢slack}
use Rattle.simplex.specs.Look.{both}
use Rattle.steps.specs.Number.{below_zero}
use Rattle.steps.specs.Symbol.{Kind, External, Slack, Error, Dummy, Symbol, is_dummy, is_external, is_restricted, coefficient_for, first_symbol}
use Rattle.steps.specs.Row.{Row}
use Rattle.steps.specs.State.{Basic}
use Rattle.steps.specs.Work.{find_row}
use Rattle.steps.specs.Optimise.{Candidate, smallest_ratio, negative_ratios}
use Rattle.simplex.specs.bridge.Quot.{D, Stands, lower, equal, higher, Quotient}
use Rattle.simplex.proofs.bridge.Quot.{lt-over, div_below, yes, ≡-no}
use Rattle.simplex.specs.bridge.Walk.{Ranked, Beats, Rising, MemC, Smallest}
use Rattle.simplex.proofs.bridge.Walk.{smallest-is}
use Rattle.simplex.specs.bridge.Nums.{below_zero-z}
use Rattle.simplex.specs.bridge.Rows.{Reads, Up, Sym?, is, isnt, sym?, ReadsRow}
use Rattle.simplex.proofs.bridge.Rows.{row-cell}
use Rattle.simplex.specs.bridge.Finds.{UpRows, find-hit, find-miss}
use Rattle.simplex.specs.bridge.Table.{kind_of, RowAt, Live, ReadsTable}
use Rattle.simplex.proofs.bridge.Table.{of-basic}
use Rattle.simplex.specs.bridge.Chosen.{First, Known, nobody, winner}
use Rattle.simplex.specs.bridge.Chosen as specs

-- ---- kinds
pub not-dummy : (x : Symbol) → not (is_dummy x) ≡ true → (kind_of x.kind ≡ slack) ⊎ (kind_of x.kind ≡ external)
unfolding is_dummy
not-dummy x e = go x.kind e
  where
    go : (t : Kind) → not (elim t [ External ↦ false | Slack ↦ false | Error ↦ false | Dummy ↦ true ]) ≡ true → (kind_of t ≡ slack) ⊎ (kind_of t ≡ external)
    go External e = inr refl
    go Slack e = inl refl
    go Error e = inl refl
    go Dummy e = absurd (true≢false (sym e))

pub restricted-is : (x : Symbol) → is_restricted x ≡ true → (kind_of x.kind ≡ slack) ⊎ (kind_of x.kind ≡ dummy)
unfolding is_restricted is_external
restricted-is x e = go x.kind e
  where
    go : (t : Kind) → not (elim t [ External ↦ true | Slack ↦ false | Error ↦ false | Dummy ↦ false ]) ≡ true → (kind_of t ≡ slack) ⊎ (kind_of t ≡ dummy)
    go External e = absurd (true≢false (sym e))
    go Slack e = inl refl
    go Error e = inl refl
    go Dummy e = inr refl

pub slack-not-dummy : (x : Symbol) → kind_of x.kind ≡ slack → not (is_dummy x) ≡ true
unfolding is_dummy
slack-not-dummy x e = go x.kind e
  where
    go : (t : Kind) → kind_of t ≡ slack → not (elim t [ External ↦ false | Slack ↦ false | Error ↦ false | Dummy ↦ true ]) ≡ true
    go External e = refl
    go Slack e = refl
    go Error e = refl
    go Dummy e = absurd (dummy≢slack e)

pub slack-restricted : (x : Symbol) → kind_of x.kind ≡ slack → is_restricted x ≡ true
unfolding is_restricted is_external
slack-restricted x e = go x.kind e
  where
    go : (t : Kind) → kind_of t ≡ slack → not (elim t [ External ↦ true | Slack ↦ false | Error ↦ false | Dummy ↦ false ]) ≡ true
    go External e = absurd (slack≢external (sym e))
    go Slack e = refl
    go Error e = refl
    go Dummy e = refl

pub below : (z : ℤ) → lt_z z 0ℤ ≡ true → z ≺ 0ℤ
below z e = lt_z_yes (subst T (sym e) tt)

pub not-below : (z : ℤ) → lt_z z 0ℤ ≡ false → 0ℤ ≼ z
not-below z e = lt_z_no (subst (λ (b : Bool). T (not b)) (sym e) tt)

pub first-z : (b i : ℕ) (q : Vec) (xs : List Symbol) (cs : List Float) → Up i xs → Reads b xs cs q → First q xs (first_symbol (λ (s : Symbol). not (is_dummy s)) below_zero xs cs)
unfolding first_symbol
first-z b i q [] [] u h = nobody tt
first-z b i q [] (c ∷ cs) u h = absurd h
first-z b i q (x ∷ xs) [] u h = absurd h
first-z b i q (x ∷ xs) (c ∷ cs) u h = go (not (is_dummy x)) refl (below_zero c) refl (first_symbol (λ (s : Symbol). not (is_dummy s)) below_zero xs cs) (first-z b x.id q xs cs u.1 h.1)
  where
    later : (i : ℕ) (ys : List Symbol) → x.id ≤ i → Up i ys → All (λ (y : Symbol). y.id < x.id → not (is_dummy y) ≡ true → 0ℤ ≼ q y.id) ys
    later i [] l u = tt
    later i (y ∷ ys) l u = ((λ m. absurd (omega (arith, u.0))), later y.id ys (omega (arith, u.0)) u.1)

    more : ((not (is_dummy x) ≡ true) → 0ℤ ≼ q x.id) → (t : Option Symbol) → First q xs t → First q (x ∷ xs) t
    more f t (nobody A) = nobody (f, A)
    more f t (winner e m d l A) = winner e (inr m) d l ((λ _. f), A)

    go : (t : Bool) → not (is_dummy x) ≡ t → (r : Bool) → below_zero c ≡ r → (o : Option Symbol) → First q xs o
        → First q (x ∷ xs) (elim (not (is_dummy x)) [ false ↦ o | true ↦ elim (below_zero c) [ false ↦ o | true ↦ some x ] ])
    go false e r f o ih = rw e (more (λ w. absurd (true≢false (sym w ∙ e))) o ih)
    go true e false f o ih = rw (e, f) (more (λ _. not-below (q x.id) (sym (below_zero-z h.0.isz) ∙ f)) o ih)
    go true e true f o ih = rw (e, f) (winner x (inl refl) e (below (q x.id) (sym (below_zero-z h.0.isz) ∙ f)) ((λ l. absurd (omega arith)), later x.id xs (omega arith) u.1))

-- ---- leaving: the rows with a cell below 0
-- the rows of the list, each with what it reads as
listed : (xs : List Symbol) (B : Mask) (R : ℕ → Vec) (i : ℕ) (bs : List Basic) → UpRows i bs → ((j : ℕ) → i < j → RowAt xs (find_row j bs) (B j) (R j))
    → All (λ (b : Basic). (B b.symbol.id ≡ true) × ReadsRow xs b.row (R b.symbol.id)) bs
listed xs B R i [] u h = tt
listed xs B R i (b ∷ bs) u h = (head (sym? b.symbol.id b.symbol), listed xs B R b.symbol.id bs u.1 (λ j l. tail j l (sym? j b.symbol)))
  where
    head : Sym? b.symbol.id b.symbol → (B b.symbol.id ≡ true) × ReadsRow xs b.row (R b.symbol.id)
    head (is e p d) = subst (λ (t : Option Row). RowAt xs t (B b.symbol.id) (R b.symbol.id)) (find-hit b.symbol.id b bs e) (h b.symbol.id u.0)
    head (isnt e p d) = absurd (p refl)

    tail : (j : ℕ) → b.symbol.id < j → Sym? j b.symbol → RowAt xs (find_row j bs) (B j) (R j)
    tail j l (is e p d) = absurd (omega arith)
    tail j l (isnt e p d) = subst (λ (t : Option Row). RowAt xs t (B j) (R j)) (find-miss j b bs e) (h j (omega (arith, u.0)))

pub known : (kind : ℕ → KindZ) (cut : Float) (xs : List Symbol) (bs : List Basic) (cs : List Float) (art : Option Row) (B : Mask) (R : ℕ → Vec) (o a : Vec) → ReadsTable kind cut xs bs cs art B R o a → All (Known kind xs B R) bs
known kind cut xs bs cs art B R o a H =
    all-zip (λ (b : Basic). Live kind xs b.symbol) (λ (b : Basic). (B b.symbol.id ≡ true) × ReadsRow xs b.row (R b.symbol.id)) (Known kind xs B R) (λ b x y. (x, y)) bs H.rows-live
    (listed xs B R 0 bs H.rows-up (λ j _. H.rows j))

-- a fact of each restricted row, by column
pub by-column : (kind : ℕ → KindZ) (cut : Float) (xs : List Symbol) (bs : List Basic) (cs : List Float) (art : Option Row) (B : Mask) (R : ℕ → Vec) (o a : Vec) → ReadsTable kind cut xs bs cs art B R o a
    → (Q : ℕ → Type 0) → All (λ (b : Basic). is_restricted b.symbol ≡ true → Q b.symbol.id) bs → (j : ℕ) → B j ≡ true → kind j ≡ slack → Q j
by-column kind cut xs bs cs art B R o a H Q A =
    of-basic kind cut xs bs cs art B R o a H (λ j. kind j ≡ slack → Q j)
    (all-zip (λ (b : Basic). Live kind xs b.symbol) (λ (b : Basic). is_restricted b.symbol ≡ true → Q b.symbol.id) (λ (b : Basic). kind b.symbol.id ≡ slack → Q b.symbol.id)
    (λ b x f k. f (slack-restricted b.symbol (sym x.1 ∙ k))) bs H.rows-live A)

module _ (kind : ℕ → KindZ) (xs : List Symbol) (B : Mask) (R : ℕ → Vec) (e : ℕ) (e≢0 : e ≢ 0) where
  abbrev From : (c : Candidate) → Type 0
  From = specs.From kind xs B R e e≢0

  abbrev cand : Basic → Candidate
  cand = specs.cand kind xs B R e e≢0

  from : (b : Basic) → Known kind xs B R b → is_restricted b.symbol ≡ true → R b.symbol.id e ≺ 0ℤ → From (cand b)
  from b k r l = record {
    live = k.0;
    restricted = r;
    basic = k.1.0;
    cell = l;
    small = k.1.1.constant.small;
    quotient = subst (λ (z : ℤ). Quotient (cand b).ratio z (neg_ℤ (R b.symbol.id e))) (ring (R b.symbol.id 0 ∷ []) (⊟ (⊟ v 0)) (v 0) tt)
        (div_below (neg-z k.1.1.constant.isz) (row-cell e xs b.row (R b.symbol.id) e≢0 k.1.1).isz l (row-cell e xs b.row (R b.symbol.id) e≢0 k.1.1).small
        (omega (arith, abs_neg (R b.symbol.id 0), k.1.1.constant.small)));
  }

  cell-test : (b : Basic) → Known kind xs B R b → below_zero (coefficient_for e xs b.row.cells) ≡ lt_z (R b.symbol.id e) 0ℤ
  cell-test b k = below_zero-z (row-cell e xs b.row (R b.symbol.id) e≢0 k.1.1).isz

  -- every candidate comes from a row ..
  pub from_all : (bs : List Basic) → All (Known kind xs B R) bs → All From (negative_ratios e xs bs)
  unfolding negative_ratios
  from_all [] k = tt
  from_all (b ∷ bs) k = go (is_restricted b.symbol && below_zero (coefficient_for e xs b.row.cells)) refl (from_all bs k.1)
    where
      go : (t : Bool) → is_restricted b.symbol && below_zero (coefficient_for e xs b.row.cells) ≡ t → All From (negative_ratios e xs bs)
          → All From (elim t [ true ↦ cand b ∷ negative_ratios e xs bs | false ↦ negative_ratios e xs bs ])
      go true q ih = let t = both (is_restricted b.symbol) (below_zero (coefficient_for e xs b.row.cells)) q in (from b k.0 t.0 (below (R b.symbol.id e) (sym (cell-test b k.0) ∙ t.1)), ih)
      go false q ih = ih

  -- .. in order ..
  pub from-rising : (i : ℕ) (bs : List Basic) → UpRows i bs → All (λ (c : Candidate). i < c.symbol.id) (negative_ratios e xs bs) × Rising (negative_ratios e xs bs)
  unfolding negative_ratios
  from-rising i [] u = (tt, tt)
  from-rising i (b ∷ bs) u = go (is_restricted b.symbol && below_zero (coefficient_for e xs b.row.cells)) (from-rising b.symbol.id bs u.1)
    where
      weaken : (cs : List Candidate) → All (λ (c : Candidate). b.symbol.id < c.symbol.id) cs → All (λ (c : Candidate). i < c.symbol.id) cs
      weaken [] a = tt
      weaken (c ∷ cs) a = (omega (arith, u.0, a.0), weaken cs a.1)

      go : (t : Bool) → All (λ (c : Candidate). b.symbol.id < c.symbol.id) (negative_ratios e xs bs) × Rising (negative_ratios e xs bs)
          → All (λ (c : Candidate). i < c.symbol.id) (elim t [ true ↦ cand b ∷ negative_ratios e xs bs | false ↦ negative_ratios e xs bs ])
          × Rising (elim t [ true ↦ cand b ∷ negative_ratios e xs bs | false ↦ negative_ratios e xs bs ])
      go true ih = ((u.0, weaken (negative_ratios e xs bs) ih.0), ih)
      go false ih = (weaken (negative_ratios e xs bs) ih.0, ih.1)

  -- .. and every restricted row with a cell below 0 is among them
  pub to-rows : (Q : Candidate → Type 0) (bs : List Basic) → All (Known kind xs B R) bs → All Q (negative_ratios e xs bs)
      → All (λ (b : Basic). is_restricted b.symbol ≡ true → R b.symbol.id e ≺ 0ℤ → Q (cand b)) bs
  unfolding negative_ratios
  to-rows Q [] k a = tt
  to-rows Q (b ∷ bs) k a = go (is_restricted b.symbol && below_zero (coefficient_for e xs b.row.cells)) refl a (to-rows Q bs k.1)
    where
      go : (t : Bool) → is_restricted b.symbol && below_zero (coefficient_for e xs b.row.cells) ≡ t → All Q (elim t [ true ↦ cand b ∷ negative_ratios e xs bs | false ↦ negative_ratios e xs bs ])
          → (All Q (negative_ratios e xs bs) → All (λ (b : Basic). is_restricted b.symbol ≡ true → R b.symbol.id e ≺ 0ℤ → Q (cand b)) bs)
          → All (λ (b : Basic). is_restricted b.symbol ≡ true → R b.symbol.id e ≺ 0ℤ → Q (cand b)) (b ∷ bs)
      go true q a ih = ((λ _ _. a.0), ih a.1)
      go false q a ih = ((λ r l. absurd (true≢false (sym (ap₂ (λ (x y : Bool). x && y) r (cell-test b k.0 ∙ yes l)) ∙ q))), ih a)

-- ---- the winner's ratio is whole: exact against all others
level-rank : {q : Float} {i k : ℤ} (Q : Quotient q i k) (c : ℤ) → nat_abs c ≤ 2 ^ 40 → i ≡ c *ℤ k → Q.rank ≡ c *ℤ pos D
level-rank {q} {i} {k} Q c l e = go (Q.stands c l)
  where
    go : Stands i k Q.rank c → Q.rank ≡ c *ℤ pos D
    go (lower u t) = absurd (≺-irrefl (subst (λ (z : ℤ). z ≺ c *ℤ k) e u))
    go (equal u t) = t
    go (higher u t) = absurd (≺-irrefl (subst (λ (z : ℤ). c *ℤ k ≺ z) e u))

pub cross : {p q : Float} {x y k : ℤ} → Quotient p x 1ℤ → nat_abs x ≤ 2 ^ 40 → Quotient q y k → (lt q p ≡ false → x *ℤ k ≼ y) × (x *ℤ k ≡ y → lt p q ≡ false)
cross {p} {q} {x} {y} {k} A l J = (least, ties)
  where
    own : A.rank ≡ x *ℤ pos D
    own = level-rank A x l (ring (x ∷ []) (v 0) (v 0 ⊠ κ 1ℤ) tt)

    least : lt q p ≡ false → x *ℤ k ≼ y
    least e = go (J.stands x l)
      where
        go : Stands y k J.rank x → x *ℤ k ≼ y
        go (lower u t) = absurd (true≢false (sym (lt-over J.over A.over ∙ ap (lt_z J.rank) own ∙ yes t) ∙ e))
        go (equal u t) = ≼-of-eq (sym u)
        go (higher u t) = ≺→≼ u

    ties : x *ℤ k ≡ y → lt p q ≡ false
    ties e = go (J.stands x l)
      where
        go : Stands y k J.rank x → lt p q ≡ false
        go (lower u t) = absurd (≺-irrefl (subst (λ (z : ℤ). y ≺ z) e u))
        go (equal u t) = lt-over A.over J.over ∙ ap (λ (z : ℤ). lt_z z J.rank) own ∙ ≡-no (sym t)
        go (higher u t) = absurd (≺-irrefl (subst (λ (z : ℤ). z ≺ y) e u))

pub all-mem : (Q : Candidate → Type 0) (cs : List Candidate) (w : Candidate) → All Q cs → MemC w cs → Q w
all-mem Q [] w a m = absurd m
all-mem Q (c ∷ cs) w a (inl e) = subst Q (sym e) a.0
all-mem Q (c ∷ cs) w a (inr m) = all-mem Q cs w a.1 m

-- ---- what the walk over the rows found
module _ (kind : ℕ → KindZ) (cut : Float) (xs : List Symbol) (bs : List Basic) (cs : List Float) (art : Option Row) (B : Mask) (R : ℕ → Vec) (o a : Vec) (H : ReadsTable kind cut xs bs cs art B R o a) (e : ℕ) (e≢0 : e ≢ 0) where
  abbrev Before : (l j : ℕ) → Type 0
  Before = specs.Before kind cut xs bs cs art B R o a H e e≢0

  abbrev Leaves : (l : Symbol) → Type 0
  Leaves = specs.Leaves kind cut xs bs cs art B R o a H e e≢0

  abbrev Leaving : Option Symbol → Type 0
  Leaving = specs.Leaving kind cut xs bs cs art B R o a H e e≢0

  pub leaving-is : Leaving (smallest_ratio (negative_ratios e xs bs))
  leaving-is = go (smallest_ratio (negative_ratios e xs bs)) (smallest-is (negative_ratios e xs bs) ranked (from-rising kind xs B R e e≢0 0 bs H.rows-up).1)
    where
      froms : All (From kind xs B R e e≢0) (negative_ratios e xs bs)
      froms = from_all kind xs B R e e≢0 bs (known kind cut xs bs cs art B R o a H)

      ranked : All Ranked (negative_ratios e xs bs)
      ranked = all_map (From kind xs B R e e≢0) Ranked (λ c f. record { rank = f.quotient.rank; over = f.quotient.over }) (negative_ratios e xs bs) froms

      none_left : negative_ratios e xs bs ≡ [] → All (λ (c : Candidate). ⊥) (negative_ratios e xs bs)
      none_left q = subst (All (λ (c : Candidate). ⊥)) (sym q) tt

      won : (w : Candidate) → From kind xs B R e e≢0 w → All (Beats w) (negative_ratios e xs bs) → Leaves w.symbol
      won w F A = record { live = F.live; restricted = F.restricted; basic = F.basic; cell = F.cell; before = λ u. by-column kind cut xs bs cs art B R o a H (λ j. R j e ≺ 0ℤ → Before w.symbol.id j) (beaten u) }
        where
          l : ℕ
          l = w.symbol.id

          own : R w.symbol.id e ≡ negsuc 0 → Quotient w.ratio (R w.symbol.id 0) 1ℤ
          own u = subst (λ (z : ℤ). Quotient w.ratio (R w.symbol.id 0) (neg_ℤ z)) u F.quotient

          beats : R w.symbol.id e ≡ negsuc 0 → (b : Basic) → From kind xs B R e e≢0 (cand kind xs B R e e≢0 b) → Beats w (cand kind xs B R e e≢0 b) → Before w.symbol.id b.symbol.id
          beats u b G W =
              let c = cross (own u) (omega (arith, F.small)) G.quotient in
              let one : R b.symbol.id 0 *ℤ neg_ℤ (R w.symbol.id e) ≡ R b.symbol.id 0 = ap (λ (z : ℤ). R b.symbol.id 0 *ℤ neg_ℤ z) u ∙ ring (R b.symbol.id 0 ∷ []) (v 0 ⊠ κ 1ℤ) (v 0) tt in
              record { least = ≼_trans (c.0 W.least) (≼-of-eq (sym one)); ties = λ t. W.ties (c.1 (t ∙ one)) }

          beaten : R w.symbol.id e ≡ negsuc 0 → All (λ (b : Basic). is_restricted b.symbol ≡ true → R b.symbol.id e ≺ 0ℤ → Before w.symbol.id b.symbol.id) bs
          beaten u =
              all-zip (λ (b : Basic). is_restricted b.symbol ≡ true → R b.symbol.id e ≺ 0ℤ → From kind xs B R e e≢0 (cand kind xs B R e e≢0 b))
              (λ (b : Basic). is_restricted b.symbol ≡ true → R b.symbol.id e ≺ 0ℤ → Beats w (cand kind xs B R e e≢0 b))
              (λ (b : Basic). is_restricted b.symbol ≡ true → R b.symbol.id e ≺ 0ℤ → Before w.symbol.id b.symbol.id)
              (λ b f g r c. beats u b (f r c) (g r c)) bs (to-rows kind xs B R e e≢0 (From kind xs B R e e≢0) bs (known kind cut xs bs cs art B R o a H) froms) (to-rows kind xs B R e e≢0 (Beats w) bs (known kind cut xs bs cs art B R o a H) A)

      go : (t : Option Symbol) → Smallest (negative_ratios e xs bs) t → Leaving t
      go t (Smallest.nobody q) = by-column kind cut xs bs cs art B R o a H (λ j. R j e ≺ 0ℤ → ⊥) (to-rows kind xs B R e e≢0 (λ c. ⊥) bs (known kind cut xs bs cs art B R o a H) (none_left q))
      go t (Smallest.winner w m r A) = won w (all-mem (From kind xs B R e e≢0) (negative_ratios e xs bs) w froms m) A
