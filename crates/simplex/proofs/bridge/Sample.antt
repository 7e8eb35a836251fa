-- The hypotheses can be met: a tableau of two slacks, s2 = 3 - s1, objective -s1. The steps' pass computes, keeps the mark, and `run` applies to it. Assumes nothing.
use Rattle.std.specs.Prelude.{◌≡◌, refl, ◌≢◌, List, [], ◌∷◌, ℕ, zero, suc, ◌≤◌, ◌<◌, Bool, false, pos, negsuc, Float}
use Rattle.std.proofs.Common.{sym, ap, ◌∙◌, subst, inl, inr, arith, true≢false, lit<, lit≤}
use Rattle.std.proofs.Math.Option.{Option, none}
use Rattle.std.proofs.Math.Bool.{true}
use Rattle.std.specs.Float.{binary64}
use Rattle.std.specs.Float.Ieee.{of_bits}
use Rattle.laws.specs.exact.Whole.{IsZ, int, val, lit-z}
use Rattle.laws.specs.Z.{◌≼◌}
use Rattle.simplex.specs.Ord.{0ℤ}
use Rattle.simplex.specs.Lin.{Vec, δ, δ-other}
use Rattle.simplex.specs.At.{at, At, here, there, at?, at_here, at_there}
use Rattle.simplex.specs.Basis.{Mask}
use Rattle.simplex.specs.Opt.{Kind as KindZ, const, external, slack, dummy, slack≢external, slack≢const}
use Rattle.simplex.specs.Pass.{Good}
use Rattle.simplex.specs.Bound.{Mem}
use Rattle.simplex.specs.Search.{Asc}
use Rattle.steps.specs.Number.{usual_cutoff, zero64, minus_one64, all_whole}
use Rattle.steps.specs.Symbol.{Symbol, Slack}
use Rattle.steps.specs.Cutoffs.{usual-fits}
use Rattle.steps.specs.Row.{Row}
use Rattle.steps.specs.Work.{Work, find_row}
use Rattle.steps.specs.Optimise.{the_objective, optimise, open_optimise}
use Rattle.simplex.specs.bridge.Nums.{zero64-z, minus_one64-z}
use Rattle.simplex.specs.bridge.Rows.{NotIn, ReadsRow, Sym?, is, isnt, sym?}
use Rattle.simplex.specs.bridge.Finds.{find-hit, find-miss, find_none}
use Rattle.simplex.specs.bridge.Table.{RowAt, ReadsWork}
use Rattle.simplex.specs.bridge.Runs.{mark_of, Ran}
use Rattle.simplex.proofs.bridge.Runs.{run}

unfoldable three : Float
three = of_bits binary64 0x4008_0000_0000_0000

three-z : IsZ three (pos 3)
unfolding three of_bits int val
three-z = lit-z tt tt

abbrev s1 : Symbol
s1 = record { id = 1; kind = Slack }

abbrev s2 : Symbol
s2 = record { id = 2; kind = Slack }

abbrev row2 : Row
row2 = record { constant = three; cells = minus_one64 ∷ zero64 ∷ [] }

abbrev work : Work
work = record {
  tableau = record { cutoff = usual_cutoff; symbols = s1 ∷ s2 ∷ []; next_id = 3; rows = record { symbol = s2; row = row2 } ∷ []; objective = minus_one64 ∷ zero64 ∷ [] };
  changes = record { variables = []; gone = []; should_clear = false };
  artificial = none;
  mark = all_whole;
  pivots = 0;
}

-- the steps' pass keeps the mark
keeps : mark_of (optimise 5 the_objective work) ≡ all_whole
unfolding mark_of open_optimise three
keeps = refl

abbrev kind : ℕ → KindZ
kind zero = const
kind (suc zero) = slack
kind (suc (suc zero)) = slack
kind (suc (suc (suc j))) = external

-- place 0 is 3, place 1 is -1
ρ : Vec
ρ zero = pos 3
ρ (suc zero) = negsuc 0
ρ (suc (suc j)) = 0ℤ

goal : Vec
goal zero = 0ℤ
goal (suc zero) = negsuc 0
goal (suc (suc j)) = 0ℤ

B : Mask
B = at 2 true (λ _. false)

R : ℕ → Vec
R = at 2 ρ δ

only : (j : ℕ) → B j ≡ true → j ≡ 2
unfolding B
only j h = go (at? 2 true (λ _. false) j)
  where
    go : At 2 true (λ _. false) j → j ≡ 2
    go (here p q) = p
    go (there p q) = absurd (true≢false (sym h ∙ q))

others : (j : ℕ) → B j ≡ false → j ≢ 2
unfolding B
others j h p = true≢false (sym (ap (at 2 true (λ _. false)) p ∙ at_here 2 true (λ _. false)) ∙ h)

row-2 : R 2 ≡ ρ
unfolding R
row-2 = at_here 2 ρ δ

row_other : (j : ℕ) → j ≢ 2 → R j ≡ δ j
unfolding R
row_other j n = at_there 2 ρ δ j n

data Col (j : ℕ) : Type 0 where
  two : j ≡ 2 → R j ≡ ρ → Col j
  else : j ≢ 2 → R j ≡ δ j → Col j

col : (j : ℕ) → Col j
unfolding R
col j = go (at? 2 ρ δ j)
  where
    go : At 2 ρ δ j → Col j
    go (here p q) = two p q
    go (there p q) = else p q

ρ-far : (i : ℕ) → 2 ≤ i → ρ i ≡ 0ℤ
unfolding ρ
ρ-far zero h = absurd (omega arith)
ρ-far (suc zero) h = absurd (omega arith)
ρ-far (suc (suc i)) h = refl

goal-far : (i : ℕ) → 2 ≤ i → goal i ≡ 0ℤ
unfolding goal
goal-far zero h = absurd (omega arith)
goal-far (suc zero) h = absurd (omega arith)
goal-far (suc (suc i)) h = refl

far : (i : ℕ) → kind i ≡ external → 3 ≤ i
far zero h = absurd (c h)
  where
    c : const ≡ external → ⊥
    c e = slack≢external (ap turn (sym e))
      where
        turn : KindZ → KindZ
        turn const = external
        turn external = slack
        turn slack = slack
        turn dummy = slack
far (suc zero) h = absurd (slack≢external h)
far (suc (suc zero)) h = absurd (slack≢external h)
far (suc (suc (suc i))) h = omega arith

first : (j : ℕ) → kind j ≡ const → j ≡ 0
first zero h = refl
first (suc zero) h = absurd (slack≢const h)
first (suc (suc zero)) h = absurd (slack≢const h)
first (suc (suc (suc j))) h = absurd (slack≢const (ap turn h))
  where
    turn : KindZ → KindZ
    turn const = const
    turn external = slack
    turn slack = slack
    turn dummy = slack

no-dummy : (j : ℕ) → kind j ≡ dummy → ⊥
no-dummy zero h = slack≢external (ap turn h)
  where
    turn : KindZ → KindZ
    turn const = slack
    turn external = slack
    turn slack = slack
    turn dummy = external
no-dummy (suc zero) h = slack≢external (ap turn h)
  where
    turn : KindZ → KindZ
    turn const = slack
    turn external = slack
    turn slack = slack
    turn dummy = external
no-dummy (suc (suc zero)) h = slack≢external (ap turn h)
  where
    turn : KindZ → KindZ
    turn const = slack
    turn external = slack
    turn slack = slack
    turn dummy = external
no-dummy (suc (suc (suc j))) h = slack≢external (ap turn h)
  where
    turn : KindZ → KindZ
    turn const = slack
    turn external = slack
    turn slack = slack
    turn dummy = external

good : Good 3 kind (record { B = B; R = R; o = goal })
good = record {
  zero = refl;
  consts = first;
  shape = record {
    below = λ b h. subst (λ (x : ℕ). x < 3) (sym (only b h)) (lit< tt);
    const = none-0;
    unit = λ j h i. ap (λ (f : Vec). f i) (row_other j (others j h));
    gone = gone;
  };
  clear = λ b h. goal-far b (omega (arith, only b h));
  feasible = λ j h s. subst (λ (x : ℕ). 0ℤ ≼ R x 0) (sym (only j h)) (subst (λ (f : Vec). 0ℤ ≼ f 0) (sym row-2) three_up);
  no-var = λ i h. goal-far i (omega (arith, far i h));
  no-vars = no-vars;
  dummies = λ j i d s. absurd (no-dummy j d);
  still-dummies = λ j d. absurd (no-dummy j d);
}
  where
    none-0 : B 0 ≡ false
    none-0 = go (B 0) refl
      where
        go : (b : Bool) → B 0 ≡ b → B 0 ≡ false
        go false q = q
        go true q = absurd (let z = only 0 q in omega arith)

    three_up : 0ℤ ≼ ρ 0
    three_up = unfold ρ in record { le = tt }

    gone : (b : ℕ) → B b ≡ true → (j : ℕ) → R j b ≡ 0ℤ
    gone b h j = go (col j)
      where
        go : Col j → R j b ≡ 0ℤ
        go (two p q) = ap (λ (f : Vec). f b) q ∙ ρ-far b (omega (arith, only b h))
        go (else p q) = ap (λ (f : Vec). f b) q ∙ δ-other (λ e. p (e ∙ only b h))

    no-vars : (j i : ℕ) → kind j ≢ external → kind i ≡ external → R j i ≡ 0ℤ
    no-vars j i n h = go (col j)
      where
        go : Col j → R j i ≡ 0ℤ
        go (two p q) = ap (λ (f : Vec). f i) q ∙ ρ-far i (omega (arith, far i h))
        go (else p q) = ap (λ (f : Vec). f i) q ∙ δ-other (λ e. n (ap kind e ∙ h))

beyond : (i : ℕ) → i ≢ 0 → NotIn i (s1 ∷ s2 ∷ []) → 3 ≤ i
beyond zero n m = absurd (n refl)
beyond (suc zero) n m = absurd (m.0 refl)
beyond (suc (suc zero)) n m = absurd (m.1.0 refl)
beyond (suc (suc (suc i))) n m = omega arith

kind-far : (i : ℕ) → 3 ≤ i → kind i ≡ external
kind-far zero h = absurd (omega arith)
kind-far (suc zero) h = absurd (omega arith)
kind-far (suc (suc zero)) h = absurd (omega arith)
kind-far (suc (suc (suc i))) h = refl

reads : ReadsWork kind work B R goal (λ _. 0ℤ)
unfolding ρ goal
reads = record {
  up = (lit< tt, (lit< tt, tt));
  kinds = (refl, (refl, tt));
  unknown = λ i n m. kind-far i (beyond i n m);
  rows-up = (lit< tt, tt);
  rows-live = ((inr (inl refl), refl), tt);
  rows = rows;
  objective = (record { isz = minus_one64-z; small = lit≤ tt }, (record { isz = zero64-z; small = lit≤ tt }, tt));
  beyond = λ i n m. goal-far i (omega (arith, beyond i n m));
  artificial = tt;
  cutoff = usual-fits;
}
  where
    row_reads : ReadsRow (s1 ∷ s2 ∷ []) row2 ρ
    row_reads = record {
      constant = record { isz = three-z; small = lit≤ tt };
      cells = (record { isz = minus_one64-z; small = lit≤ tt }, (record { isz = zero64-z; small = lit≤ tt }, tt));
      outside = λ i n m. ρ-far i (omega (arith, beyond i n m));
    }

    basic-2 : B 2 ≡ true
    basic-2 = unfold B in at_here 2 true (λ _. false)

    rows : (j : ℕ) → RowAt (s1 ∷ s2 ∷ []) (find_row j (record { symbol = s2; row = row2 } ∷ [])) (B j) (R j)
    rows j = go (sym? j s2)
      where
        go : Sym? j s2 → RowAt (s1 ∷ s2 ∷ []) (find_row j (record { symbol = s2; row = row2 } ∷ [])) (B j) (R j)
        go (is e p d) =
            subst (λ (t : Option Row). RowAt (s1 ∷ s2 ∷ []) t (B j) (R j)) (sym (find-hit j (record { symbol = s2; row = row2 }) [] e))
            (ap B p ∙ basic-2, subst (ReadsRow (s1 ∷ s2 ∷ []) row2) (sym (ap R p ∙ row-2)) row_reads)
        go (isnt e p d) =
            subst (λ (t : Option Row). RowAt (s1 ∷ s2 ∷ []) t (B j) (R j)) (sym (find-miss j (record { symbol = s2; row = row2 }) [] e ∙ find_none j)) (unfold B in at_there 2 true (λ _. false) j p)

abbrev ids : List ℕ
ids = 1 ∷ 2 ∷ []

asc : Asc ids
asc = unfold Asc in ((lit< tt, tt), (tt, tt))

cover : (j : ℕ) → kind j ≡ slack → Mem j ids
cover zero h = absurd (slack≢const (sym h))
cover (suc zero) h = inl refl
cover (suc (suc zero)) h = inr (inl refl)
cover (suc (suc (suc j))) h = absurd (slack≢external (sym h))

inside : (j : ℕ) → Mem j ids → j < 3
inside j (inl e) = omega arith
inside j (inr (inl e)) = omega arith
inside j (inr (inr x'')) = elim x'' [ ]

-- so the theorem speaks of this pass
sample : Ran 3 kind ids asc cover inside the_objective 5 work (record { B = B; R = R; o = goal }) (λ _. 0ℤ) (optimise 5 the_objective work)
sample = run 3 kind ids asc cover inside 5 the_objective work (record { B = B; R = R; o = goal }) (λ _. 0ℤ) good reads keeps
