-- The dual pass of a suggestion: with its mark whole it ends in a good state of the theory with no slack's row below 0, and the values are the best. Assumes nothing.
use Rattle.std.specs.Prelude.{◌≡◌, refl, ◌⊎◌, List, [], ◌∷◌, true, not, ℤ, ◌+ℤ◌, ◌*ℤ◌}
use Rattle.std.proofs.Common.{sym, ◌∙◌, inl, inr}
use Rattle.std.proofs.Math.Path.{ap, ap₂}
use Rattle.std.proofs.Math.Option.{none}
use Prim.Native.Nat.{ℕ, zero, suc, ◌<◌}
use Rattle.std.proofs.Math.IntN.{negsuc, neg_ℤ}
use Rattle.laws.specs.Z.{◌≼◌, ◌≺◌}
use Rattle.laws.specs.Ring.{ring, v, k as κ, ◌⊞◌, ◌⊠◌, ⊟◌}
use Rattle.simplex.specs.Ord.{0ℤ, ≺-or-≼}
use Rattle.simplex.specs.Lin.{Vec, δ, δ-other}
use Rattle.simplex.specs.Choose.{All, all-zip-of as all-zip}
use Rattle.simplex.specs.Tab.{pivoted}
use Rattle.simplex.specs.Opt.{Kind as KindZ, slack, slack≢external}
use Rattle.simplex.specs.Pass.{State, step}
use Rattle.simplex.specs.Problem.{Con, Meets}
use Rattle.simplex.specs.Never.{never-16}
use Rattle.simplex.proofs.Final.{dual-models, dragged}
use Rattle.steps.specs.Number.{all_whole}
use Rattle.steps.specs.Symbol.{Symbol, is_dummy}
use Rattle.steps.specs.State.{Basic}
use Rattle.steps.specs.Work.{Work, Outcome, going, ◌>>=◌, refuse, count_pivot}
use Rattle.steps.specs.Substitute.{pivot}
use Rattle.steps.specs.Optimise.{Choice, ended, stuck, pivot_on, counted_pivot, choose_dual_pivot, dual_optimise}
use Rattle.simplex.specs.bridge.Nums.{finite≢}
use Rattle.simplex.specs.bridge.Table.{kind_of}
use Rattle.simplex.proofs.bridge.Chosen.{slack-not-dummy}
use Rattle.simplex.proofs.bridge.Looks.{slack-in, all_in_lem}
use Rattle.simplex.specs.bridge.Runs.{mark_of}
use Rattle.simplex.proofs.bridge.Runs.{counted-mark, turned, dual-mark}
use Rattle.simplex.specs.bridge.Duals.{Enters, Entering, Leaves, Dual, at_rest, no_way, moves, Moved}
use Rattle.simplex.proofs.bridge.Duals.{dual-is, dual-pivot}
use Rattle.simplex.specs.bridge.Drags as specs

module _ (n : ℕ) (kind : ℕ → KindZ) (inside : (j : ℕ) → kind j ≡ slack → j < n) (cs : List Con) where
  abbrev Drag : (w : Work) (S : State) (z : Vec) → Type 0
  Drag = specs.Drag n kind inside cs

  abbrev Ends : Outcome Work → Type 0
  Ends = specs.Ends n kind inside cs

  module _ (w : Work) (S : State) (z : Vec) (W : Drag w S z) (b : Basic) (L : Leaves n kind w S W.good z W.reads b) where
    abbrev s : ℕ
    s = b.symbol.id

    -- where some assignment meets the required constraints, a symbol enters: 16 is never given
    some-way : 0 < n → (x : Vec) → 0ℤ ≺ x 0 → All (Meets n x) cs → Entering (S.R s) S.o w.tableau.symbols none → ⊥
    some-way in-n x d M none_in =
        never-16 n kind S.B S.R S.o cs s x in-n W.good.zero W.good.consts W.models L.basic L.is-slack L.low (λ i e. W.good.no-vars s i (λ y. slack≢external (sym L.is-slack ∙ y)) e) none d M
      where
        by_sign : (i : ℕ) → (0ℤ ≺ S.R s i → ⊥) → (0ℤ ≺ S.R s i) ⊎ (S.R s i ≼ 0ℤ) → S.R s i ≼ 0ℤ
        by_sign i f (inl h) = absurd (f h)
        by_sign i f (inr h) = h

        at-slacks : All (λ (y : Symbol). kind y.id ≡ slack → 0ℤ ≺ S.R s y.id → ⊥) w.tableau.symbols
        at-slacks =
            all-zip (λ (y : Symbol). kind y.id ≡ kind_of y.kind) (λ (y : Symbol). not (is_dummy y) ≡ true → 0ℤ ≺ S.R s y.id → ⊥) (λ (y : Symbol). kind y.id ≡ slack → 0ℤ ≺ S.R s y.id → ⊥)
            (λ y k f e. f (slack-not-dummy y (sym k ∙ e))) w.tableau.symbols W.reads.kinds none_in

        none : (i : ℕ) → kind i ≡ slack → S.R s i ≼ 0ℤ
        none i e = by_sign i (all_in_lem (λ i. kind i ≡ slack → 0ℤ ≺ S.R s i → ⊥) i w.tableau.symbols at-slacks (slack-in kind w.tableau.symbols W.good.zero W.reads.unknown i e) e) (≺-or-≼ 0ℤ (S.R s i))

    next : (e : Symbol) → Enters (S.R s) S.o w.tableau.symbols e → (pivot s e w).mark ≡ all_whole → Drag (count_pivot (pivot s e w)) (step s e.id S) (pivoted s e.id S.R z)
    unfolding count_pivot
    next e E m = record {
      good = moved.good;
      reads = moved.reads;
      models = dual-models n kind cs S s e.id W.good moved.choice.move W.models;
      no-var = λ j x. ap₂ (λ (y t : ℤ). y +ℤ neg_ℤ (S.o e.id *ℤ S.R s e.id) *ℤ (t +ℤ negsuc 0 *ℤ δ s j)) (W.no-var j x) (W.good.no-vars s j (λ y. slack≢external (sym L.is-slack ∙ y)) x)
          ∙ ap (λ (y : ℤ). 0ℤ +ℤ neg_ℤ (S.o e.id *ℤ S.R s e.id) *ℤ (0ℤ +ℤ negsuc 0 *ℤ y)) (δ-other (λ p. slack≢external (sym L.is-slack ∙ ap kind p ∙ x)))
          ∙ ring (S.o e.id ∷ S.R s e.id ∷ []) (κ 0ℤ ⊞ (⊟ (v 0 ⊠ v 1)) ⊠ (κ 0ℤ ⊞ κ (negsuc 0) ⊠ κ 0ℤ)) (κ 0ℤ) tt;
    }
      where
        moved : Moved n kind w S W.good z W.reads inside b L e E
        moved = dual-pivot n kind w S W.good z W.reads inside b L e E m

  Whole-drag : Outcome Work → Type 0
  Whole-drag x = mark_of x ≡ all_whole → Ends x

  -- x is some assignment that meets the required constraints, such as the values before a drag
  module _ (in-n : 0 < n) (x : Vec) (x-up : 0ℤ ≺ x 0) (M : All (Meets n x) cs) where
    -- one turn: at rest, or a pivot, of which `on` is made
    turn : (w : Work) (S : State) (z : Vec) (W : Drag w S z) (f : Symbol → Symbol → Outcome Work)
        → ((b : Basic) (e : Symbol) → Leaves n kind w S W.good z W.reads b → Enters (S.R b.symbol.id) S.o w.tableau.symbols e → Whole-drag (f b.symbol e))
        → (c : Choice) → Dual n kind w S W.good z W.reads c → Whole-drag (elim c [ ended ↦ going w | stuck ↦ refuse 16 w | pivot_on l e ↦ f l e ])
    unfolding Whole-drag
    turn w S z W f on c (at_rest up) = λ m. record {
      state = S;
      other = z;
      good = W.good;
      reads = W.reads;
      models = W.models;
      no-var = W.no-var;
      up = up;
      best = dragged n kind cs S in-n W.good W.models W.no-var up;
    }
    turn w S z W f on c (no_way b L h) = absurd (some-way w S z W b L in-n x x-up M h)
    turn w S z W f on c (moves b e L E) = on b e L E

    -- THE DUAL PASS
    pub drag : (left : ℕ) (w : Work) (S : State) (z : Vec) → Drag w S z → mark_of (dual_optimise left w) ≡ all_whole → Ends (dual_optimise left w)
    unfolding dual_optimise refuse mark_of Whole-drag
    drag zero w S z W = turn w S z W (λ l e. refuse 14 w) (λ b e L E m. refl) (choose_dual_pivot w) (dual-is n kind w S W.good z W.reads)
    drag (suc left) w S z W =
        turn w S z W (λ l e. counted_pivot l e w >>= λ v. dual_optimise left v)
        (λ b e L E. turned (λ v. dual_optimise left v) b.symbol e w Whole-drag (λ q m. absurd (finite≢ m))
        (λ m. drag left (count_pivot (pivot b.symbol.id e w)) _ _ (next w S z W b L e E (counted-mark (pivot b.symbol.id e w) (dual-mark left (count_pivot (pivot b.symbol.id e w)) m))) m))
        (choose_dual_pivot w) (dual-is n kind w S W.good z W.reads)
