-- The dual pass: the steps' leaving row is the first slack's below 0; their entering symbol has the least ratio of objective cell to cell, by cross multiplication, the lowest id on a tie; a pivot that keeps the mark is the theory's. Assumes nothing.
use Rattle.std.specs.Prelude.{◌≡◌, ◌⊎◌, ℕ, zero, suc, ◌*◌, ◌^◌, ◌≤◌, ◌<◌, Bool, ◌&&◌, ℤ, pos, negsuc, nat_abs, ◌*ℤ◌, Float}
use Rattle.std.proofs.Math.Path.{refl}
use Rattle.std.proofs.Common.{sym, ap, ap₂, ◌∙◌, subst, inl, suc-mul, arith, true≢false}
use Rattle.std.proofs.Math.Logic.{inr}
use mathlib.Core.List.{List, [], ◌∷◌}
use Rattle.std.proofs.Math.Option.{Option, none, some}
use Rattle.std.proofs.Math.Bool.{true, false, not}
use Rattle.std.proofs.Math.Dec.{T}
use Rattle.std.specs.Int.Signed.{lt_z, lt_z_yes}
use Rattle.std.specs.Float.Ieee.{lt}
use Rattle.laws.specs.exact.Whole.{IsZ}
use Rattle.laws.specs.exact.Compare.{lt-z}
use Rattle.laws.specs.Z.{◌≼◌, ◌≺◌}
use Rattle.laws.specs.Ring.{ring, v, k as κ, ◌⊠◌}
use Rattle.simplex.specs.Ord.{0ℤ, 1ℤ, ≼-of-eq, ≼_trans, clash, ≺-irrefl}
use Rattle.simplex.specs.Lin.{Vec}
use Rattle.simplex.specs.Choose.{All, all-map-of as all_map, all-zip-of as all-zip}
use Rattle.simplex.specs.Basis.{Mask}
use Rattle.simplex.specs.Opt.{Kind as KindZ, external, slack, dummy, slack≢external}
use Rattle.simplex.specs.Pass.{State}
use Rattle.simplex.specs.Dual.{Good, Move, step-good}
use Rattle.simplex.specs.Look.{both}
use Rattle.steps.specs.Number.{zero64, ◌/₆₄◌, below_zero, all_whole}
use Rattle.steps.specs.Symbol.{Symbol, is_dummy, is_restricted}
use Rattle.steps.specs.State.{Basic}
use Rattle.steps.specs.Work.{Work}
use Rattle.steps.specs.Substitute.{pivot}
use Rattle.steps.specs.Optimise.{Candidate, smallest_ratio, Choice, ended, stuck, pivot_on, get_dual_leaving_row, dual_ratios, get_dual_entering_symbol, choose_dual_pivot}
use Rattle.simplex.specs.bridge.Quot.{Quotient}
use Rattle.simplex.proofs.bridge.Quot.{div-above, yes}
use Rattle.simplex.specs.bridge.Walk.{Ranked, Beats, Rising, Smallest}
use Rattle.simplex.proofs.bridge.Walk.{smallest-is}
use Rattle.simplex.specs.bridge.Nums.{zero64-z, below_zero-z}
use Rattle.simplex.specs.bridge.Rows.{Reads, Up}
use Rattle.simplex.specs.bridge.Finds.{UpRows}
use Rattle.simplex.specs.bridge.Table.{kind_of, Live, ReadsWork}
use Rattle.simplex.proofs.bridge.Table.{of-basic, pivot-z}
use Rattle.simplex.specs.bridge.Chosen.{MemS, Known}
use Rattle.simplex.proofs.bridge.Chosen.{not-dummy, restricted-is, slack-not-dummy, slack-restricted, below, not-below, known, cross, all-mem}
use Rattle.simplex.proofs.bridge.Looks.{is_live, slack-in, all_in_lem}
use Rattle.simplex.specs.bridge.Duals.{at_rest, moves, no_way}
use Rattle.simplex.specs.bridge.Duals as specs

-- ---- the walk: f is the leaving row, o the objective
module _ (f o : Vec) where
  abbrev From : (c : Candidate) → Type 0
  From = specs.From f o

  abbrev Before : (e i : ℕ) → Type 0
  Before = specs.Before f o

  abbrev Enters : (xs : List Symbol) (e : Symbol) → Type 0
  Enters = specs.Enters f o

  abbrev Entering : List Symbol → Option Symbol → Type 0
  Entering = specs.Entering f o

  test-is : {c : Float} {z : ℤ} → IsZ c z → lt zero64 c ≡ lt_z 0ℤ z
  test-is h = lt-z zero64-z h

  pub from_all : (xs : List Symbol) (cs os : List Float) → Reads 1024 xs cs f → Reads (2 ^ 40) xs os o → All From (dual_ratios xs cs os)
  unfolding dual_ratios
  from_all [] [] [] h g = tt
  from_all [] (c ∷ cs) os h g = absurd h
  from_all [] [] (d ∷ os) h g = absurd g
  from_all (x ∷ xs) [] os h g = absurd h
  from_all (x ∷ xs) (c ∷ cs) [] h g = absurd g
  from_all (x ∷ xs) (c ∷ cs) (d ∷ os) h g = go (not (is_dummy x) && lt zero64 c) refl (from_all xs cs os h.1 g.1)
    where
      go : (t : Bool) → not (is_dummy x) && lt zero64 c ≡ t → All From (dual_ratios xs cs os) → All From (elim t [ true ↦ record { symbol = x; ratio = d /₆₄ c } ∷ dual_ratios xs cs os | false ↦ dual_ratios xs cs os ])
      go true q ih =
          let t = both (not (is_dummy x)) (lt zero64 c) q in
          let l : 0ℤ ≺ f x.id = lt_z_yes (subst T (sym (sym (test-is h.0.isz) ∙ t.1)) tt) in
          (record { lively = t.0; cell = l; small = g.0.small; quotient = div-above g.0.isz h.0.isz l h.0.small g.0.small }, ih)
      go false q ih = ih

  pub from-rising : (i : ℕ) (xs : List Symbol) (cs os : List Float) → Up i xs → All (λ (c : Candidate). i < c.symbol.id) (dual_ratios xs cs os) × Rising (dual_ratios xs cs os)
  unfolding dual_ratios
  from-rising i [] cs os u = (tt, tt)
  from-rising i (x ∷ xs) [] os u = (tt, tt)
  from-rising i (x ∷ xs) (c ∷ cs) [] u = (tt, tt)
  from-rising i (x ∷ xs) (c ∷ cs) (d ∷ os) u = go (not (is_dummy x) && lt zero64 c) (from-rising x.id xs cs os u.1)
    where
      weaken : (l : List Candidate) → All (λ (c : Candidate). x.id < c.symbol.id) l → All (λ (c : Candidate). i < c.symbol.id) l
      weaken [] a = tt
      weaken (c ∷ l) a = (omega (arith, u.0, a.0), weaken l a.1)

      go : (t : Bool) → All (λ (c : Candidate). x.id < c.symbol.id) (dual_ratios xs cs os) × Rising (dual_ratios xs cs os)
          → All (λ (c : Candidate). i < c.symbol.id) (elim t [ true ↦ record { symbol = x; ratio = d /₆₄ c } ∷ dual_ratios xs cs os | false ↦ dual_ratios xs cs os ])
          × Rising (elim t [ true ↦ record { symbol = x; ratio = d /₆₄ c } ∷ dual_ratios xs cs os | false ↦ dual_ratios xs cs os ])
      go true ih = ((u.0, weaken (dual_ratios xs cs os) ih.0), ih)
      go false ih = (weaken (dual_ratios xs cs os) ih.0, ih.1)

  pub to-symbols : (Q : ℕ → Type 0) (xs : List Symbol) (cs os : List Float) → Reads 1024 xs cs f → Reads (2 ^ 40) xs os o → All (λ (c : Candidate). Q c.symbol.id) (dual_ratios xs cs os)
      → All (λ (x : Symbol). not (is_dummy x) ≡ true → 0ℤ ≺ f x.id → Q x.id) xs
  unfolding dual_ratios
  to-symbols Q [] cs os h g a = tt
  to-symbols Q (x ∷ xs) [] os h g a = absurd h
  to-symbols Q (x ∷ xs) (c ∷ cs) [] h g a = absurd g
  to-symbols Q (x ∷ xs) (c ∷ cs) (d ∷ os) h g a = go (not (is_dummy x) && lt zero64 c) refl a (to-symbols Q xs cs os h.1 g.1)
    where
      go : (t : Bool) → not (is_dummy x) && lt zero64 c ≡ t
          → All (λ (c : Candidate). Q c.symbol.id) (elim t [ true ↦ record { symbol = x; ratio = d /₆₄ c } ∷ dual_ratios xs cs os | false ↦ dual_ratios xs cs os ])
          → (All (λ (c : Candidate). Q c.symbol.id) (dual_ratios xs cs os) → All (λ (x : Symbol). not (is_dummy x) ≡ true → 0ℤ ≺ f x.id → Q x.id) xs)
          → All (λ (x : Symbol). not (is_dummy x) ≡ true → 0ℤ ≺ f x.id → Q x.id) (x ∷ xs)
      go true q a ih = ((λ _ _. a.0), ih a.1)
      go false q a ih = ((λ n l. absurd (true≢false (sym (ap₂ (λ (x y : Bool). x && y) n (test-is h.0.isz ∙ yes l)) ∙ q))), ih a)

  -- w's symbol is among the symbols
  pub from-mem : (xs : List Symbol) (cs os : List Float) → All (λ (c : Candidate). MemS c.symbol xs) (dual_ratios xs cs os)
  unfolding dual_ratios
  from-mem [] cs os = tt
  from-mem (x ∷ xs) [] os = tt
  from-mem (x ∷ xs) (c ∷ cs) [] = tt
  from-mem (x ∷ xs) (c ∷ cs) (d ∷ os) = go (not (is_dummy x) && lt zero64 c) (all_map (λ (c : Candidate). MemS c.symbol xs) (λ (c : Candidate). MemS c.symbol (x ∷ xs)) (λ c m. inr m) (dual_ratios xs cs os) (from-mem xs cs os))
    where
      go : (t : Bool) → All (λ (c : Candidate). MemS c.symbol (x ∷ xs)) (dual_ratios xs cs os)
          → All (λ (c : Candidate). MemS c.symbol (x ∷ xs)) (elim t [ true ↦ record { symbol = x; ratio = d /₆₄ c } ∷ dual_ratios xs cs os | false ↦ dual_ratios xs cs os ])
      go true ih = (inl refl, ih)
      go false ih = ih

  pub entering-is : (xs : List Symbol) (cs os : List Float) → Up 0 xs → Reads 1024 xs cs f → Reads (2 ^ 40) xs os o → Entering xs (smallest_ratio (dual_ratios xs cs os))
  entering-is xs cs os u h g = go (smallest_ratio (dual_ratios xs cs os)) (smallest-is (dual_ratios xs cs os) ranked (from-rising 0 xs cs os u).1)
    where
      froms : All From (dual_ratios xs cs os)
      froms = from_all xs cs os h g

      ranked : All Ranked (dual_ratios xs cs os)
      ranked = all_map From Ranked (λ c t. record { rank = t.quotient.rank; over = t.quotient.over }) (dual_ratios xs cs os) froms

      won : (w : Candidate) → From w → MemS w.symbol xs → All (Beats w) (dual_ratios xs cs os) → Enters xs w.symbol
      won w F m A = record {
        among = m;
        lively = F.lively;
        cell = F.cell;
        before = λ q. to-symbols (Before w.symbol.id) xs cs os h g (all-zip From (Beats w) (λ (c : Candidate). Before w.symbol.id c.symbol.id) (beats q) (dual_ratios xs cs os) froms A);
      }
        where
          beats : f w.symbol.id ≡ 1ℤ → (c : Candidate) → From c → Beats w c → Before w.symbol.id c.symbol.id
          beats q c G W =
              let t = cross (subst (λ (z : ℤ). Quotient w.ratio (o w.symbol.id) z) q F.quotient) F.small G.quotient in
              let one : o c.symbol.id *ℤ f w.symbol.id ≡ o c.symbol.id = ap (λ (z : ℤ). o c.symbol.id *ℤ z) q ∙ ring (o c.symbol.id ∷ []) (v 0 ⊠ κ 1ℤ) (v 0) tt in
              record { least = ≼_trans (t.0 W.least) (≼-of-eq (sym one)); ties = λ e. W.ties (t.1 (e ∙ one)) }

      go : (t : Option Symbol) → Smallest (dual_ratios xs cs os) t → Entering xs t
      go t (Smallest.nobody q) = to-symbols (λ i. ⊥) xs cs os h g (subst (All (λ (c : Candidate). ⊥)) (sym q) tt)
      go t (Smallest.winner w m r A) = won w (all-mem From (dual_ratios xs cs os) w froms m) (all-mem (λ (c : Candidate). MemS c.symbol xs) (dual_ratios xs cs os) w (from-mem xs cs os) m) A

-- ---- leaving: the first restricted row below 0
data Lowest (kind : ℕ → KindZ) (xs : List Symbol) (B : Mask) (R : ℕ → Vec) (bs : List Basic) : Option Basic → Type 0 where
  nobody : All (λ (b : Basic). kind b.symbol.id ≡ slack → 0ℤ ≼ R b.symbol.id 0) bs → Lowest kind xs B R bs none
  winner : (b : Basic) → Known kind xs B R b → is_restricted b.symbol ≡ true → R b.symbol.id 0 ≺ 0ℤ
      → All (λ (c : Basic). c.symbol.id < b.symbol.id → kind c.symbol.id ≡ slack → 0ℤ ≼ R c.symbol.id 0) bs → Lowest kind xs B R bs (some b)

lowest-is : (kind : ℕ → KindZ) (xs : List Symbol) (B : Mask) (R : ℕ → Vec) (i : ℕ) (bs : List Basic) → UpRows i bs → All (Known kind xs B R) bs → Lowest kind xs B R bs (get_dual_leaving_row bs)
unfolding get_dual_leaving_row
lowest-is kind xs B R i [] u k = nobody tt
lowest-is kind xs B R i (b ∷ bs) u k = go (is_restricted b.symbol && below_zero b.row.constant) refl (get_dual_leaving_row bs) (lowest-is kind xs B R b.symbol.id bs u.1 k.1)
  where
    test : below_zero b.row.constant ≡ lt_z (R b.symbol.id 0) 0ℤ
    test = below_zero-z k.0.1.1.constant.isz

    -- a slack's row that the test passes over
    above : is_restricted b.symbol && below_zero b.row.constant ≡ false → kind b.symbol.id ≡ slack → 0ℤ ≼ R b.symbol.id 0
    above q s = not-below (R b.symbol.id 0) (sym test ∙ sym (ap (λ (t : Bool). t && below_zero b.row.constant) (slack-restricted b.symbol (sym k.0.0.1 ∙ s))) ∙ q)

    later : (i : ℕ) (cs : List Basic) → b.symbol.id ≤ i → UpRows i cs → All (λ (c : Basic). c.symbol.id < b.symbol.id → kind c.symbol.id ≡ slack → 0ℤ ≼ R c.symbol.id 0) cs
    later i [] l u = tt
    later i (c ∷ cs) l u = ((λ m. absurd (omega (arith, u.0))), later c.symbol.id cs (omega (arith, u.0)) u.1)

    go : (t : Bool) → is_restricted b.symbol && below_zero b.row.constant ≡ t → (o : Option Basic) → Lowest kind xs B R bs o → Lowest kind xs B R (b ∷ bs) (elim t [ true ↦ some b | false ↦ o ])
    go true q o ih =
        let t = both (is_restricted b.symbol) (below_zero b.row.constant) q in
        winner b k.0 t.0 (below (R b.symbol.id 0) (sym test ∙ t.1)) ((λ l. absurd (omega arith)), later b.symbol.id bs (omega arith) u.1)
    go false q o (nobody A) = nobody (above q, A)
    go false q o (winner c K r l A) = winner c K r l ((λ _. above q), A)

-- ---- one turn of the dual pass
pub one_of : (z : ℤ) → z *ℤ z ≡ 1ℤ → 0ℤ ≺ z → z ≡ 1ℤ
one_of (pos zero) e l = absurd (≺-irrefl l)
one_of (pos (suc zero)) e l = refl
one_of (pos (suc (suc m))) e l = absurd (big m (ap nat_abs e))
  where
    big : (m : ℕ) → suc (suc m) * suc (suc m) ≡ 1 → ⊥
    big m e = omega (arith, suc-mul (suc m) (suc (suc m)), suc-mul m (suc (suc m)))
one_of (negsuc m) e l = absurd l.lt

module _ (n : ℕ) (kind : ℕ → KindZ) (w : Work) (S : State) (G : Good n kind S) (z : Vec) (H : ReadsWork kind w S.B S.R S.o z) where
  abbrev Leaves : (b : Basic) → Type 0
  Leaves = specs.Leaves n kind w S G z H

  abbrev Dual : Choice → Type 0
  Dual = specs.Dual n kind w S G z H

  pub dual-is : Dual (choose_dual_pivot w)
  unfolding choose_dual_pivot get_dual_entering_symbol
  dual-is = go (get_dual_leaving_row bs) (lowest-is kind xs S.B S.R 0 bs H.rows-up (known kind w.tableau.cutoff xs bs w.tableau.objective w.artificial S.B S.R S.o z H))
    where
      xs : List Symbol
      xs = w.tableau.symbols

      bs : List Basic
      bs = w.tableau.rows

      columns : (Q : ℕ → Type 0) → All (λ (b : Basic). Q b.symbol.id) bs → (j : ℕ) → S.B j ≡ true → Q j
      columns = of-basic kind w.tableau.cutoff xs bs w.tableau.objective w.artificial S.B S.R S.o z H

      by-symbol : (b : Basic) → Leaves b → (t : Option Symbol) → Entering (S.R b.symbol.id) S.o xs t → Dual (elim t [ none ↦ stuck | some e ↦ pivot_on b.symbol e ])
      by-symbol b L none f = no_way b L f
      by-symbol b L (some e) E = moves b e L E

      go : (t : Option Basic) → Lowest kind xs S.B S.R bs t
          → Dual (elim t [ none ↦ ended | some b ↦ elim (smallest_ratio (dual_ratios xs b.row.cells w.tableau.objective)) [ none ↦ stuck | some e ↦ pivot_on b.symbol e ] ])
      go t (nobody A) = at_rest (λ j b s. columns (λ j. kind j ≡ slack → 0ℤ ≼ S.R j 0) A j b s)
      go t (winner b K r l A) =
          by-symbol b (record { basic = K.1.0; is-slack = slack-of (restricted-is b.symbol r); low = l; reads = K.1.1; lowest = λ j m h s. columns (λ j. j < b.symbol.id → kind j ≡ slack → 0ℤ ≼ S.R j 0) A j h m s })
          (smallest_ratio (dual_ratios xs b.row.cells w.tableau.objective)) (entering-is (S.R b.symbol.id) S.o xs b.row.cells w.tableau.objective H.up K.1.1.cells H.objective)
        where
          slack-of : (kind_of b.symbol.kind ≡ slack) ⊎ (kind_of b.symbol.kind ≡ dummy) → kind b.symbol.id ≡ slack
          slack-of (inl k) = K.0.1 ∙ k
          slack-of (inr k) = absurd (clash l (≼-of-eq (sym (G.still-dummies b.symbol.id (K.0.1 ∙ k)))))

  module _ (inside : (j : ℕ) → kind j ≡ slack → j < n) (b : Basic) (L : Leaves b) (e : Symbol) (E : Enters (S.R b.symbol.id) S.o w.tableau.symbols e) where
    abbrev Moved : Type 0
    Moved = specs.Moved n kind w S G z H inside b L e E

    abbrev l : ℕ
    l = b.symbol.id

    live : Live kind w.tableau.symbols e
    live = is_live kind e w.tableau.symbols H.kinds E.among

    e-slack : kind e.id ≡ slack
    e-slack = go (not-dummy e E.lively)
      where
        go : (kind_of e.kind ≡ slack) ⊎ (kind_of e.kind ≡ external) → kind e.id ≡ slack
        go (inl q) = live.1 ∙ q
        go (inr q) = absurd (clash E.cell (≼-of-eq (G.no-vars l e.id (λ x. slack≢external (sym L.is-slack ∙ x)) (live.1 ∙ q))))

    e-free : S.B e.id ≡ false
    e-free = go (S.B e.id) refl
      where
        go : (b : Bool) → S.B e.id ≡ b → S.B e.id ≡ false
        go false q = q
        go true q = absurd (clash E.cell (≼-of-eq (G.shape.gone e.id q l)))

    before : S.R l e.id ≡ 1ℤ → (i : ℕ) → kind i ≡ slack → 0ℤ ≺ S.R l i → Before (S.R l) S.o e.id i
    before q i s c =
        all_in_lem (λ i. kind i ≡ slack → 0ℤ ≺ S.R l i → Before (S.R l) S.o e.id i) i w.tableau.symbols
        (all-zip (λ (x : Symbol). kind x.id ≡ kind_of x.kind) (λ (x : Symbol). not (is_dummy x) ≡ true → 0ℤ ≺ S.R l x.id → Before (S.R l) S.o e.id x.id)
        (λ (x : Symbol). kind x.id ≡ slack → 0ℤ ≺ S.R l x.id → Before (S.R l) S.o e.id x.id) (λ x k g s. g (slack-not-dummy x (sym k ∙ s))) w.tableau.symbols H.kinds (E.before q))
        (slack-in kind w.tableau.symbols G.zero H.unknown i s) s c

    pub dual-pivot : (pivot l e w).mark ≡ all_whole → Moved
    dual-pivot m =
        let t = pivot-z kind w S.B S.R S.o z H l e L.basic e-free live (G.shape.unit e.id e-free) m in
        let q = one_of (S.R l e.id) t.1 E.cell in
        let mv : Move n kind S l e.id = record { l-basic = L.basic; l-slack = L.is-slack; l-const = L.low; in-n = inside e.id e-slack; e-free = e-free; e-slack = e-slack; e-cell = q; least = λ i s c. (before q i s c).least } in
        record { choice = record { move = mv; lowest = L.lowest; ties = λ i s c. (before q i s c).ties }; good = step-good n kind S G l e.id mv; reads = t.2 }
