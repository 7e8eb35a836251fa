-- For removal and add: the ratio test over the restricted rows with a positive cell; a row that is dropped; an add with a subject. Assumes nothing.
use Rattle.std.specs.Prelude.{◌≡◌, ◌≢◌, ℕ, ◌^◌, ◌≤◌, ◌<◌, Bool, ◌&&◌, ℤ, nat_abs, ◌*ℤ◌, Float}
use Rattle.std.proofs.Math.Path.{refl}
use Rattle.std.proofs.Common.{sym, ap, ap₂, ◌∙◌, subst, arith, true≢false}
use mathlib.Core.List.{List, [], ◌∷◌}
use Rattle.std.proofs.Math.Option.{Option}
use Rattle.std.proofs.Math.Bool.{true, false}
use Rattle.std.proofs.Math.Dec.{T}
use Rattle.std.specs.Int.Signed.{lt_z, lt_z_yes}
use Rattle.std.specs.Float.Ieee.{lt}
use Rattle.laws.specs.exact.Compare.{lt-z}
use Rattle.laws.specs.Z.{◌≼◌, ◌≺◌}
use Rattle.laws.specs.Ring.{ring, v, k as κ, ◌⊠◌}
use Rattle.simplex.specs.Ord.{0ℤ, 1ℤ, ≼-of-eq, ≼_trans}
use Rattle.simplex.specs.Lin.{Vec, δ}
use Rattle.simplex.specs.At.{at, At, here, there, at?, at_there}
use Rattle.simplex.specs.Choose.{All, all-map-of as all_map, all-zip-of as all-zip}
use Rattle.simplex.specs.Change.{dropped}
use Rattle.simplex.specs.Basis.{Mask}
use Rattle.simplex.specs.Opt.{Kind as KindZ}
use Rattle.simplex.specs.Look.{both}
use Rattle.steps.specs.Number.{zero64, ◌/₆₄◌, Mark, all_whole, not_whole, not_finite}
use Rattle.steps.specs.Symbol.{Symbol, is_restricted}
use Rattle.steps.specs.Row.{Row, solve_for_symbol}
use Rattle.steps.specs.State.{Basic}
use Rattle.steps.specs.Work.{Work, refused, going, refuse, check_finite, marking, with_rows, with_tableau, find_row, drop_row}
use Rattle.steps.specs.Substitute.{enter_basis}
use Rattle.steps.specs.Optimise.{Candidate, smallest_ratio}
use Rattle.steps.specs.CreateRow.{Created}
use Rattle.steps.specs.Add.{add_with_subject}
use Rattle.steps.specs.Remove.{cell_in, positive_ratios}
use Rattle.simplex.specs.bridge.Quot.{Quotient}
use Rattle.simplex.proofs.bridge.Quot.{div-above, yes}
use Rattle.simplex.specs.bridge.Walk.{Ranked, Beats, Rising, Smallest}
use Rattle.simplex.proofs.bridge.Walk.{smallest-is}
use Rattle.simplex.specs.bridge.Nums.{zero64-z, finite≢}
use Rattle.simplex.specs.bridge.Rows.{ReadsRow}
use Rattle.simplex.proofs.bridge.Rows.{row-cell}
use Rattle.simplex.specs.bridge.Finds.{UpRows, find-drop-same, find-drop-other, drop-up, drop_all}
use Rattle.simplex.specs.bridge.Table.{RowAt, Live, ReadsTable, ReadsWork}
use Rattle.simplex.specs.bridge.Chosen.{Known}
use Rattle.simplex.proofs.bridge.Chosen.{known, by-column, cross, all-mem}
use Rattle.simplex.specs.bridge.Runs.{mark_of}
use Rattle.simplex.proofs.bridge.Enter.{enter-z}
use Rattle.simplex.specs.bridge.Ranks.{Entered, Goes}
use Rattle.simplex.specs.bridge.Ranks as specs

-- ---- a row is dropped: the theory's `dropped`
pub drop-z : (kind : ℕ → KindZ) (w : Work) (B : Mask) (R : ℕ → Vec) (o a : Vec) → ReadsWork kind w B R o a → (p : ℕ)
    → ReadsWork kind (with_rows (drop_row p w.tableau.rows) w) (at p false B) (dropped p R) o a
unfolding with_rows with_tableau dropped
drop-z kind w B R o a H p = record {
  up = H.up;
  kinds = H.kinds;
  unknown = H.unknown;
  rows-up = drop-up p 0 w.tableau.rows H.rows-up;
  rows-live = drop_all (Live kind w.tableau.symbols) p w.tableau.rows H.rows-live;
  rows = λ j. go j (at? p false B j);
  objective = H.objective;
  beyond = H.beyond;
  cutoff = H.cutoff;
  artificial = H.artificial;
}
  where
    go : (j : ℕ) → At p false B j → RowAt w.tableau.symbols (find_row j (drop_row p w.tableau.rows)) (at p false B j) (at p (δ p) R j)
    go j (here e q) = subst (λ (t : Option Row). RowAt w.tableau.symbols t (at p false B j) (at p (δ p) R j)) (sym (ap (λ (i : ℕ). find_row i (drop_row p w.tableau.rows)) e ∙ find-drop-same p 0 w.tableau.rows H.rows-up)) q
    go j (there e q) =
        subst (λ (t : Option Row). RowAt w.tableau.symbols t (at p false B j) (at p (δ p) R j)) (sym (find-drop-other j p w.tableau.rows e))
        (subst (λ (t : Bool). RowAt w.tableau.symbols (find_row j w.tableau.rows) t (at p (δ p) R j)) (sym q)
        (subst (RowAt w.tableau.symbols (find_row j w.tableau.rows) (B j)) (sym (at_there p (δ p) R j e)) (H.rows j)))

pub subject-z : (kind : ℕ → KindZ) (c : Created) (B : Mask) (R : ℕ → Vec) (o a : Vec) → ReadsWork kind c.work B R o a → (s : Symbol) → B s.id ≡ false → Live kind c.work.tableau.symbols s
    → ((i : ℕ) → R s.id i ≡ δ s.id i) → (r : Vec) → ReadsRow c.work.tableau.symbols c.row r
    → mark_of (add_with_subject s c) ≡ all_whole → Goes (Entered kind s B R o a r) (add_with_subject s c)
unfolding add_with_subject check_finite refuse mark_of
subject-z kind c B R o a H s free live unit r reads = go x.mark refl
  where
    x : Work
    x = enter_basis s (solve_for_symbol s.id c.work.tableau.symbols c.row).row (marking (solve_for_symbol s.id c.work.tableau.symbols c.row).mark c.work)

    whole : x.mark ≡ all_whole → Entered kind s B R o a r x
    whole m = let t = enter-z kind c.work B R o a H s free live unit c.row r reads m in record { unit = t.0; reads = t.1 }

    go : (m : Mark) → x.mark ≡ m → mark_of (elim m [ all_whole ↦ going x | not_whole ↦ going x | not_finite ↦ refused 13 x.pivots x.mark ]) ≡ all_whole
        → Goes (Entered kind s B R o a r) (elim m [ all_whole ↦ going x | not_whole ↦ going x | not_finite ↦ refused 13 x.pivots x.mark ])
    go all_whole e = λ m. whole m
    go not_whole e = λ m. whole m
    go not_finite e = λ m. absurd (finite≢ (sym e ∙ m))

-- ---- "restricted with positive cell, smallest constant/cell"
module _ (kind : ℕ → KindZ) (cut : Float) (xs : List Symbol) (bs : List Basic) (cs : List Float) (art : Option Row) (B : Mask) (R : ℕ → Vec) (o a : Vec) (H : ReadsTable kind cut xs bs cs art B R o a) (e : ℕ) (e≢0 : e ≢ 0) where
  abbrev Leaves : (l : Symbol) → Type 0
  Leaves = specs.Leaves kind cut xs bs cs art B R o a H e e≢0

  abbrev Leaving : Option Symbol → Type 0
  Leaving = specs.Leaving kind cut xs bs cs art B R o a H e e≢0

  record From (c : Candidate) : Type 0 where
    live : Live kind xs c.symbol
    restricted : is_restricted c.symbol ≡ true
    basic : B c.symbol.id ≡ true
    cell : 0ℤ ≺ R c.symbol.id e
    small : nat_abs (R c.symbol.id 0) ≤ 2 ^ 30
    quotient : Quotient c.ratio (R c.symbol.id 0) (R c.symbol.id e)

  test-is : (b : Basic) → Known kind xs B R b → lt zero64 (cell_in e xs b) ≡ lt_z 0ℤ (R b.symbol.id e)
  unfolding cell_in
  test-is b k = lt-z zero64-z (row-cell e xs b.row (R b.symbol.id) e≢0 k.1.1).isz

  from : (b : Basic) → Known kind xs B R b → is_restricted b.symbol ≡ true → 0ℤ ≺ R b.symbol.id e → From (record { symbol = b.symbol; ratio = b.row.constant /₆₄ cell_in e xs b })
  unfolding cell_in
  from b k r l = record {
    live = k.0;
    restricted = r;
    basic = k.1.0;
    cell = l;
    small = k.1.1.constant.small;
    quotient = div-above k.1.1.constant.isz (row-cell e xs b.row (R b.symbol.id) e≢0 k.1.1).isz l (row-cell e xs b.row (R b.symbol.id) e≢0 k.1.1).small (omega (arith, k.1.1.constant.small));
  }

  from_all : (bs : List Basic) → All (Known kind xs B R) bs → All From (positive_ratios e xs bs)
  unfolding positive_ratios
  from_all [] k = tt
  from_all (b ∷ bs) k = go (is_restricted b.symbol && lt zero64 (cell_in e xs b)) refl (from_all bs k.1)
    where
      go : (t : Bool) → is_restricted b.symbol && lt zero64 (cell_in e xs b) ≡ t → All From (positive_ratios e xs bs)
          → All From (elim t [ true ↦ record { symbol = b.symbol; ratio = b.row.constant /₆₄ cell_in e xs b } ∷ positive_ratios e xs bs | false ↦ positive_ratios e xs bs ])
      go true q ih = let t = both (is_restricted b.symbol) (lt zero64 (cell_in e xs b)) q in (from b k.0 t.0 (lt_z_yes (subst T (sym (sym (test-is b k.0) ∙ t.1)) tt)), ih)
      go false q ih = ih

  from-rising : (i : ℕ) (bs : List Basic) → UpRows i bs → All (λ (c : Candidate). i < c.symbol.id) (positive_ratios e xs bs) × Rising (positive_ratios e xs bs)
  unfolding positive_ratios
  from-rising i [] u = (tt, tt)
  from-rising i (b ∷ bs) u = go (is_restricted b.symbol && lt zero64 (cell_in e xs b)) (from-rising b.symbol.id bs u.1)
    where
      weaken : (l : List Candidate) → All (λ (c : Candidate). b.symbol.id < c.symbol.id) l → All (λ (c : Candidate). i < c.symbol.id) l
      weaken [] a = tt
      weaken (c ∷ l) a = (omega (arith, u.0, a.0), weaken l a.1)

      go : (t : Bool) → All (λ (c : Candidate). b.symbol.id < c.symbol.id) (positive_ratios e xs bs) × Rising (positive_ratios e xs bs)
          → All (λ (c : Candidate). i < c.symbol.id) (elim t [ true ↦ record { symbol = b.symbol; ratio = b.row.constant /₆₄ cell_in e xs b } ∷ positive_ratios e xs bs | false ↦ positive_ratios e xs bs ])
          × Rising (elim t [ true ↦ record { symbol = b.symbol; ratio = b.row.constant /₆₄ cell_in e xs b } ∷ positive_ratios e xs bs | false ↦ positive_ratios e xs bs ])
      go true ih = ((u.0, weaken (positive_ratios e xs bs) ih.0), ih)
      go false ih = (weaken (positive_ratios e xs bs) ih.0, ih.1)

  to-rows : (Q : ℕ → Type 0) (bs : List Basic) → All (Known kind xs B R) bs → All (λ (c : Candidate). Q c.symbol.id) (positive_ratios e xs bs)
      → All (λ (b : Basic). is_restricted b.symbol ≡ true → 0ℤ ≺ R b.symbol.id e → Q b.symbol.id) bs
  unfolding positive_ratios
  to-rows Q [] k a = tt
  to-rows Q (b ∷ bs) k a = go (is_restricted b.symbol && lt zero64 (cell_in e xs b)) refl a (to-rows Q bs k.1)
    where
      go : (t : Bool) → is_restricted b.symbol && lt zero64 (cell_in e xs b) ≡ t
          → All (λ (c : Candidate). Q c.symbol.id) (elim t [ true ↦ record { symbol = b.symbol; ratio = b.row.constant /₆₄ cell_in e xs b } ∷ positive_ratios e xs bs | false ↦ positive_ratios e xs bs ])
          → (All (λ (c : Candidate). Q c.symbol.id) (positive_ratios e xs bs) → All (λ (b : Basic). is_restricted b.symbol ≡ true → 0ℤ ≺ R b.symbol.id e → Q b.symbol.id) bs)
          → All (λ (b : Basic). is_restricted b.symbol ≡ true → 0ℤ ≺ R b.symbol.id e → Q b.symbol.id) (b ∷ bs)
      go true q a ih = ((λ _ _. a.0), ih a.1)
      go false q a ih = ((λ r l. absurd (true≢false (sym (ap₂ (λ (x y : Bool). x && y) r (test-is b k.0 ∙ yes l)) ∙ q))), ih a)

  pub positive-is : Leaving (smallest_ratio (positive_ratios e xs bs))
  positive-is = go (smallest_ratio (positive_ratios e xs bs)) (smallest-is (positive_ratios e xs bs) ranked (from-rising 0 bs H.rows-up).1)
    where
      froms : All From (positive_ratios e xs bs)
      froms = from_all bs (known kind cut xs bs cs art B R o a H)

      ranked : All Ranked (positive_ratios e xs bs)
      ranked = all_map From Ranked (λ c f. record { rank = f.quotient.rank; over = f.quotient.over }) (positive_ratios e xs bs) froms

      won : (w : Candidate) → From w → All (Beats w) (positive_ratios e xs bs) → Leaves w.symbol
      won w F A = record {
        live = F.live;
        restricted = F.restricted;
        basic = F.basic;
        cell = F.cell;
        least = λ u. by-column kind cut xs bs cs art B R o a H (λ j. 0ℤ ≺ R j e → R w.symbol.id 0 *ℤ R j e ≼ R j 0 *ℤ R w.symbol.id e)
            (to-rows (λ j. R w.symbol.id 0 *ℤ R j e ≼ R j 0 *ℤ R w.symbol.id e) bs (known kind cut xs bs cs art B R o a H)
            (all-zip From (Beats w) (λ (c : Candidate). R w.symbol.id 0 *ℤ R c.symbol.id e ≼ R c.symbol.id 0 *ℤ R w.symbol.id e) (beats u) (positive_ratios e xs bs) froms A));
      }
        where
          beats : R w.symbol.id e ≡ 1ℤ → (c : Candidate) → From c → Beats w c → R w.symbol.id 0 *ℤ R c.symbol.id e ≼ R c.symbol.id 0 *ℤ R w.symbol.id e
          beats u c G W =
              ≼_trans ((cross (subst (λ (z : ℤ). Quotient w.ratio (R w.symbol.id 0) z) u F.quotient) (omega (arith, F.small)) G.quotient).0 W.least)
              (≼-of-eq (sym (ap (λ (z : ℤ). R c.symbol.id 0 *ℤ z) u ∙ ring (R c.symbol.id 0 ∷ []) (v 0 ⊠ κ 1ℤ) (v 0) tt)))

      go : (t : Option Symbol) → Smallest (positive_ratios e xs bs) t → Leaving t
      go t (Smallest.nobody q) = by-column kind cut xs bs cs art B R o a H (λ j. 0ℤ ≺ R j e → ⊥) (to-rows (λ j. ⊥) bs (known kind cut xs bs cs art B R o a H) (subst (All (λ (c : Candidate). ⊥)) (sym q) tt))
      go t (Smallest.winner w m r A) = won w (all-mem From (positive_ratios e xs bs) w froms m) A
