-- An optimise pass on the objective, for any call: with its mark whole it leaves a good state at rest that models the same constraints, or is refused 14 after fewer pivots than there are bases. Assumes nothing.
use Rattle.std.specs.Prelude.{◌≡◌, refl, ◌⊎◌, ◌≢◌, List, [], ◌∷◌, map, ℕ, ◌+◌, ◌≤◌, ◌<◌, Bool, true, false, not, length}
use Rattle.std.proofs.Common.{sym, ap, ◌∙◌, subst, inl, inr, le_refl, arith, true≢false}
use Rattle.std.proofs.Math.Option.{Option, none}
use Rattle.laws.specs.Z.{◌≼◌}
use Rattle.simplex.specs.Ord.{0ℤ}
use Rattle.simplex.specs.Lin.{Vec}
use Rattle.simplex.specs.Choose.{All, Distinct, choose, trues, all_map}
use Rattle.simplex.specs.Basis.{Mask}
use Rattle.simplex.specs.Opt.{Kind as KindZ, const, external, slack, slack≢external}
use Rattle.simplex.specs.Pass.{State as StateZ, Good}
use Rattle.simplex.specs.Bland.{Pass, good}
use Rattle.simplex.specs.Bound.{Mem}
use Rattle.simplex.specs.Search.{Asc}
use Rattle.simplex.proofs.Count.{asc-distinct}
use Rattle.simplex.specs.Look.{done, look, after, lv, ev, Looked, at_rest}
use Rattle.simplex.proofs.Look.{looked, pass, enough}
use Rattle.simplex.specs.Problem.{Con, Models}
use Rattle.simplex.proofs.Final.{models-pass}
use Rattle.steps.specs.Number.{all_whole}
use Rattle.steps.specs.Symbol.{Kind, External, Slack, Error, Dummy, Symbol, is_external, is_restricted}
use Rattle.steps.specs.Row.{Row}
use Rattle.steps.specs.State.{Basic}
use Rattle.steps.specs.Work.{Work, Outcome, refused, going}
use Rattle.steps.specs.Optimise.{the_objective, optimise}
use Rattle.simplex.specs.bridge.Rows.{In, Up}
use Rattle.simplex.specs.bridge.Table.{kind_of, ArtAt, ReadsWork}
use Rattle.simplex.proofs.bridge.Table.{of-basic}
use Rattle.simplex.proofs.bridge.Looks.{slack-in}
use Rattle.simplex.specs.bridge.Runs.{mark_of, carried, Ran, rests}
use Rattle.simplex.proofs.bridge.Runs.{run}
use Rattle.simplex.specs.bridge.Ends.{Verdict}
use Rattle.simplex.proofs.bridge.Ends.{optimise-whole}
use Rattle.run.specs.Steady.{Kinded, Kept, IfGoing, optimise-kept}

-- ---- the ids of the live symbols, and of the restricted ones: demand 3's n is how many these are
unfoldable pub ids_of : List Symbol → List ℕ
ids_of [] = []
ids_of (x ∷ xs) = x.id ∷ ids_of xs

unfoldable pub restricted_ids : List Symbol → List ℕ
restricted_ids [] = []
restricted_ids (x ∷ xs) = elim (is_restricted x) [ true ↦ x.id ∷ restricted_ids xs | false ↦ restricted_ids xs ]

-- the ways to choose the basic ones of the restricted symbols: demand 3's "n choose r"
unfoldable pub ways_of : List Symbol → Mask → ℕ
ways_of xs B = choose (length (restricted_ids xs)) (trues (map B (restricted_ids xs)))

lower : (i k : ℕ) (l : List ℕ) → i < k → All (λ z. k < z) l → All (λ z. i < z) l
lower i k [] h a = tt
lower i k (z ∷ l) h a = (omega (arith, a.0), lower i k l h a.1)

ids_up : (i : ℕ) (xs : List Symbol) → Up i xs → All (λ z. i < z) (ids_of xs) × Asc (ids_of xs)
unfolding ids_of Asc
ids_up i [] u = (tt, tt)
ids_up i (x ∷ xs) u = let t = ids_up x.id xs u.1 in ((u.0, lower i x.id (ids_of xs) u.0 t.0), t)

rest_up : (i : ℕ) (xs : List Symbol) → Up i xs → All (λ z. i < z) (restricted_ids xs) × Asc (restricted_ids xs)
unfolding restricted_ids Asc
rest_up i [] u = (tt, tt)
rest_up i (x ∷ xs) u = go (is_restricted x) (rest_up x.id xs u.1)
  where
    go : (b : Bool) → All (λ z. x.id < z) (restricted_ids xs) × Asc (restricted_ids xs)
        → All (λ z. i < z) (elim b [ true ↦ x.id ∷ restricted_ids xs | false ↦ restricted_ids xs ]) × Asc (elim b [ true ↦ x.id ∷ restricted_ids xs | false ↦ restricted_ids xs ])
    go true t = ((u.0, lower i x.id (restricted_ids xs) u.0 t.0), t)
    go false t = (lower i x.id (restricted_ids xs) u.0 t.0, t.1)

in_mem : (j : ℕ) (xs : List Symbol) → In j xs → Mem j (ids_of xs)
unfolding ids_of
in_mem j [] m = absurd m
in_mem j (x ∷ xs) (inl e) = inl e
in_mem j (x ∷ xs) (inr m) = inr (in_mem j xs m)

mem-in : (j : ℕ) (xs : List Symbol) → Mem j (ids_of xs) → In j xs
unfolding ids_of
mem-in j [] m = absurd m
mem-in j (x ∷ xs) (inl e) = inl e
mem-in j (x ∷ xs) (inr m) = inr (mem-in j xs m)

external-or : (x : Symbol) → (is_restricted x ≡ true) ⊎ (kind_of x.kind ≡ external)
unfolding is_restricted is_external
external-or x = go x.kind
  where
    go : (t : Kind) → (not (elim t [ External ↦ true | Slack ↦ false | Error ↦ false | Dummy ↦ false ]) ≡ true) ⊎ (kind_of t ≡ external)
    go External = inr refl
    go Slack = inl refl
    go Error = inl refl
    go Dummy = inl refl

pub in-restricted : (kind : ℕ → KindZ) (j : ℕ) (xs : List Symbol) → All (Kinded kind) xs → In j xs → kind j ≢ external → Mem j (restricted_ids xs)
unfolding restricted_ids
in-restricted kind j [] a m n = absurd m
in-restricted kind j (x ∷ xs) a m n = go (is_restricted x) refl (external-or x) m (λ q. in-restricted kind j xs a.1 q n)
  where
    go : (b : Bool) → is_restricted x ≡ b → (is_restricted x ≡ true) ⊎ (kind_of x.kind ≡ external) → (j ≡ x.id) ⊎ In j xs → (In j xs → Mem j (restricted_ids xs)) → Mem j (elim b [ true ↦ x.id ∷ restricted_ids xs | false ↦ restricted_ids xs ])
    go true e v (inl p) ih = inl p
    go true e v (inr m) ih = inr (ih m)
    go false e (inl t) m ih = absurd (true≢false (sym t ∙ e))
    go false e (inr t) (inl p) ih = absurd (n (ap kind p ∙ a.0 ∙ t))
    go false e (inr t) (inr m) ih = ih m

-- ---- the pass
pub record Rested (n : ℕ) (kind : ℕ → KindZ) (cs : List Con) (left ways : ℕ) (w x : Work) : Type 0 where
  pub table : StateZ
  pub good : Good n kind table
  pub rest : (j : ℕ) → kind j ≡ slack → 0ℤ ≼ table.o j
  pub models : Models n kind table.B table.R table.o cs
  pub reads : ReadsWork kind x table.B table.R table.o (λ _. 0ℤ)
  pub kept : Kept w x
  -- how many pivots it took
  pub made : ℕ
  pub count : x.pivots ≡ w.pivots + made
  pub within : made ≤ left
  pub fewer : made < ways

-- what a pass on the objective that keeps the mark answers
abbrev pub Optimised : (n : ℕ) → (ℕ → KindZ) → List Con → ℕ → ℕ → Work → Outcome Work → Type 0
Optimised n kind cs left ways w (going x) = Rested n kind cs left ways w x
Optimised n kind cs left ways w (refused k p t) = (k ≡ 14) × (left < ways)

pub resting : (kind : ℕ → KindZ) (ids : List ℕ) (S : StateZ) → Looked kind ids S done → (j : ℕ) → kind j ≡ slack → 0ℤ ≼ S.o j
resting kind ids S (at_rest h) = h

-- where no artificial objective stands, any row will do for it
pub other-artificial : (kind : ℕ → KindZ) (w : Work) (B : Mask) (R : ℕ → Vec) (o a b : Vec) → w.artificial ≡ none → ReadsWork kind w B R o a → ReadsWork kind w B R o b
other-artificial kind w B R o a b e H = record {
  up = H.up;
  kinds = H.kinds;
  unknown = H.unknown;
  rows-up = H.rows-up;
  rows-live = H.rows-live;
  rows = H.rows;
  objective = H.objective;
  beyond = H.beyond;
  cutoff = H.cutoff;
  artificial = subst (λ (t : Option Row). ArtAt w.tableau.symbols t b) (sym e) tt;
}

-- ---- the columns of a tableau that a pass moves among
module _ (n : ℕ) (kind : ℕ → KindZ) (w : Work) (B : Mask) (R : ℕ → Vec) (o a : Vec) (zero : kind 0 ≡ const) (H : ReadsWork kind w B R o a) (inside : (j : ℕ) → In j w.tableau.symbols → j < n) where
  pub basic-in : (j : ℕ) → B j ≡ true → In j w.tableau.symbols
  basic-in = of-basic kind w.tableau.cutoff w.tableau.symbols w.tableau.rows w.tableau.objective w.artificial B R o a H (λ j. In j w.tableau.symbols) (all_map (λ (b : Basic) h. h.0) w.tableau.rows H.rows-live)

  pub live-asc : Asc (ids_of w.tableau.symbols)
  live-asc = (ids_up 0 w.tableau.symbols H.up).1

  pub live-cover : (j : ℕ) → kind j ≡ slack → Mem j (ids_of w.tableau.symbols)
  live-cover j s = in_mem j w.tableau.symbols (slack-in kind w.tableau.symbols zero H.unknown j s)

  pub live_inside : (j : ℕ) → Mem j (ids_of w.tableau.symbols) → j < n
  live_inside j m = inside j (mem-in j w.tableau.symbols m)

  pub live-once : Distinct (restricted_ids w.tableau.symbols)
  live-once = asc-distinct (restricted_ids w.tableau.symbols) (rest_up 0 w.tableau.symbols H.up).1

  pub live-basics : (j : ℕ) → B j ≡ true → kind j ≢ external → Mem j (restricted_ids w.tableau.symbols)
  live-basics j b ne = in-restricted kind j w.tableau.symbols H.kinds (basic-in j b) ne

  pub live-slacks : (j : ℕ) → kind j ≡ slack → Mem j (restricted_ids w.tableau.symbols)
  live-slacks j s = in-restricted kind j w.tableau.symbols H.kinds (slack-in kind w.tableau.symbols zero H.unknown j s) (λ e. slack≢external (sym s ∙ e))

module _ (n : ℕ) (kind : ℕ → KindZ) (w : Work) (S : StateZ) (z : Vec) (cs : List Con) (in-n : 0 < n) (inside : (j : ℕ) → In j w.tableau.symbols → j < n) (G : Good n kind S)
    (D : Models n kind S.B S.R S.o cs) (H : ReadsWork kind w S.B S.R S.o z) (no-art : w.artificial ≡ none) where
  abbrev ids : List ℕ
  ids = ids_of w.tableau.symbols

  abbrev rs : List ℕ
  rs = restricted_ids w.tableau.symbols

  asc : Asc ids
  asc = live-asc n kind w S.B S.R S.o z G.zero H inside

  cover : (j : ℕ) → kind j ≡ slack → Mem j ids
  cover = live-cover n kind w S.B S.R S.o z G.zero H inside

  in_ids : (j : ℕ) → Mem j ids → j < n
  in_ids = live_inside n kind w S.B S.R S.o z G.zero H inside

  once : Distinct rs
  once = live-once n kind w S.B S.R S.o z G.zero H inside

  basics : (j : ℕ) → S.B j ≡ true → kind j ≢ external → Mem j rs
  basics = live-basics n kind w S.B S.R S.o z G.zero H inside

  slacks : (j : ℕ) → kind j ≡ slack → Mem j rs
  slacks = live-slacks n kind w S.B S.R S.o z G.zero H inside

  module _ (left : ℕ) (m : mark_of (optimise left the_objective w) ≡ all_whole) where
    rested : (x : Work) → Ran n kind ids asc cover in_ids the_objective left w S z (going x) → Kept w x → Rested n kind cs left (ways_of w.tableau.symbols S.B) w x
    unfolding ways_of after
    rested x (rests k l f d y r q) st = record {
      table = after kind ids S k;
      good = GT;
      rest = resting kind ids (after kind ids S k) (subst (Looked kind ids (after kind ids S k)) d (looked kind ids asc cover n (after kind ids S k) GT));
      models = models-pass n kind cs k (after kind ids S) (λ i. lv (look kind ids (after kind ids S i))) (λ i. ev (look kind ids (after kind ids S i))) Q D k (le_refl k);
      reads = other-artificial kind x (after kind ids S k).B (after kind ids S k).R (after kind ids S k).o (carried kind ids S z k) (λ _. 0ℤ) (st.artificial no-art) r;
      kept = st;
      made = k;
      count = q;
      within = l;
      fewer = enough n kind ids asc cover in_ids S k G f rs once basics slacks;
    }
      where
        Q : Pass n kind k (after kind ids S) (λ i. lv (look kind ids (after kind ids S i))) (λ i. ev (look kind ids (after kind ids S i)))
        Q = pass n kind ids asc cover in_ids S k G f

        GT : Good n kind (after kind ids S k)
        GT = good n kind k (after kind ids S) (λ i. lv (look kind ids (after kind ids S i))) (λ i. ev (look kind ids (after kind ids S i))) Q k (le_refl k)

    -- THE PASS
    pub optimised : Optimised n kind cs left (ways_of w.tableau.symbols S.B) w (optimise left the_objective w)
    unfolding ways_of
    optimised =
        go (optimise left the_objective w) (run n kind ids asc cover in_ids left the_objective w S z G H m) (optimise-kept left the_objective w)
        (optimise-whole n kind ids asc cover in_ids left w S z cs rs in-n once basics slacks G D H m)
      where
        go : (t : Outcome Work) → Ran n kind ids asc cover in_ids the_objective left w S z t → IfGoing (Kept w) t → Verdict n kind ids asc cover in_ids left S cs rs t
            → Optimised n kind cs left (ways_of w.tableau.symbols S.B) w t
        go (going x) r st v = rested x r st
        go (refused k p t) r st v = v
