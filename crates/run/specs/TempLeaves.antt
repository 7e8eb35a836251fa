-- Add's step 6, the temporary leaves: not basic it goes; basic at 0 its row holds a slack or an error, a pivot on it moves no constant, and then it goes. Assumes nothing.
use Rattle.std.specs.Prelude.{◌≡◌, ◌⊎◌, ◌≢◌, ◌↔◌, Bool, ℕ, suc, ◌+◌, ◌<◌, ◌≤◌, ◌*ℤ◌}
use Rattle.std.proofs.Math.Path.{refl, ap}
use Rattle.std.proofs.Common.{sym, ◌∙◌, subst, inl, inr, true≢false, arith}
use Rattle.std.proofs.Math.Bool.{true, false}
use mathlib.Core.List.{List, [], ◌∷◌, ◌++◌, map}
use Rattle.std.proofs.Math.Option.{Option, none, some}
use Rattle.simplex.specs.Ord.{0ℤ, 1ℤ}
use Rattle.simplex.specs.Lin.{Vec, dot}
use Rattle.simplex.specs.At.{at, at_here, at_there}
use Rattle.simplex.specs.Choose.{All}
use Rattle.simplex.specs.Tab.{Solves, pivoted, pivot-solves, pivot-objective, pivot as pivotZ}
use Rattle.simplex.specs.Basis.{swap, Swapped, enters, leaves, stays, swapped, column-solves}
use Rattle.simplex.specs.Opt.{Kind as KindZ, const, external, slack, dummy, slack≢external, slack≢const}
use Rattle.simplex.specs.Pass.{State as StateZ, Good, step}
use Rattle.simplex.specs.Temp.{flat_good}
use Rattle.simplex.specs.Change.{killed}
use Rattle.simplex.specs.Steps.{temp-row, temp-solves}
use Rattle.steps.specs.Number.{Mark, all_whole, not_whole, not_finite}
use Rattle.steps.specs.Symbol.{Kind, External, Slack, Error, Dummy, Symbol, is_pivotable, is_symbol, holds, first_symbol, delete_symbol}
use Rattle.steps.specs.Row.{Row}
use Rattle.steps.specs.Work.{Work, Outcome, refused, going, ◌>>=◌, refuse, check_finite, with_tableau, with_rows, with_artificial, find_row, new_symbol, append_symbol, purge}
use Rattle.steps.specs.Changes.{clear_changed}
use Rattle.steps.specs.CreateRow.{Created, append_to}
use Rattle.steps.specs.Substitute.{pivot}
use Rattle.steps.specs.Artificial.{any_pivotable_symbol, is_empty_row, stand_temporary, remove_temporary}
use Rattle.simplex.specs.bridge.Nums.{finite≢}
use Rattle.simplex.specs.bridge.Rows.{In, NotIn, Sym?, is, isnt, sym?, ReadsRow}
use Rattle.simplex.specs.bridge.Table.{kind_of, RowAt, Live, ReadsWork}
use Rattle.simplex.proofs.bridge.Table.{pivot-z}
use Rattle.simplex.proofs.bridge.Looks.{in-or-not, is_live}
use Rattle.simplex.specs.bridge.Runs.{mark_of}
use Rattle.simplex.proofs.bridge.Runs.{pivot-pivots}
use Rattle.run.specs.Demand.{Demand}
use Rattle.run.specs.Inv.{Held, con_of}
use Rattle.run.specs.Build.{new_held, Built}
use Rattle.run.specs.Steady.{Kept, kept_trans, pivot-kept}
use Rattle.run.specs.Subject.{Holding, nobody, somebody, holding, pivotable-kind}
use Rattle.run.specs.AddEnds.{Placed}
use Rattle.run.specs.TempStart.{tid≢0, dead, no-t, good₁}
use Rattle.run.specs.TempPass.{Passed, append-below}
use Rattle.run.specs.TempEnd.{worth-0}
use Rattle.run.specs.TempGone.{last-good, last-models, last-reads}

-- the last symbol goes again
deleted-last : (xs : List Symbol) (s : Symbol) → ((j : ℕ) → In j xs → j < s.id) → delete_symbol s.id (xs ++ (s ∷ [])) ≡ xs
unfolding delete_symbol
deleted-last [] s f = go (sym? s.id s)
  where
    go : Sym? s.id s → ◌≡◌ {A = List Symbol} (elim (is_symbol s.id s) [ true ↦ [] | false ↦ s ∷ [] ]) []
    go (is e p d) = rw e refl
    go (isnt e p d) = absurd (p refl)
deleted-last (x ∷ xs) s f = go (sym? s.id x) (deleted-last xs s (λ j m. f j (inr m)))
  where
    go : Sym? s.id x → delete_symbol s.id (xs ++ (s ∷ [])) ≡ xs → ◌≡◌ {A = List Symbol} (elim (is_symbol s.id x) [ true ↦ xs ++ (s ∷ []) | false ↦ x ∷ delete_symbol s.id (xs ++ (s ∷ [])) ]) (x ∷ xs)
    go (is e p d) ih = absurd (omega (arith, f x.id (inl refl), p))
    go (isnt e p d) ih = rw e (ap (λ (l : List Symbol). x ∷ l) ih)

purged-mark : (t : ℕ) (w : Work) → (purge t w).mark ≡ w.mark
unfolding purge with_tableau
purged-mark t w = refl

module _ (n : ℕ) (old : ℕ → KindZ) (S : StateZ) (held : List Held) (d : Demand) (w : Work) (c : Created) (Q : Built n old S held d w c) (in-n : 0 < n) (room : c.work.tableau.next_id < n)
    (plain : (i : ℕ) → Q.kind i ≡ external → Q.r i ≡ 0ℤ) (j₀ : ℕ) (s₀ : Q.kind j₀ ≡ slack) (in₀ : j₀ < c.work.tableau.next_id) (r₀ : Q.r j₀ ≢ 0ℤ)
    (left : ℕ) (x : Work) (P : Passed n old S held d w c Q in-n room plain left x) (flat₀ : P.T.o 0 ≡ 0ℤ) where
  abbrev t : ℕ
  t = c.work.tableau.next_id

  abbrev kind : ℕ → KindZ
  kind = at c.work.tableau.next_id slack Q.kind

  abbrev T : StateZ
  T = record { B = P.T.B; R = P.T.R; o = P.o }

  slack-t : kind t ≡ slack
  slack-t = at_here t slack Q.kind

  flat : P.T.R t 0 ≡ 0ℤ
  flat = sym (worth-0 n old S held d w c Q in-n room plain left x P) ∙ flat₀

  -- the tableau with the main objective in the artificial one's place
  good : Good n kind T
  good = record {
    zero = P.good.zero;
    consts = P.good.consts;
    shape = P.good.shape;
    clear = P.clear;
    feasible = P.good.feasible;
    no-var = P.no-var;
    no-vars = P.good.no-vars;
    dummies = P.good.dummies;
    still-dummies = P.good.still-dummies;
  }

  abbrev y : Work
  y = with_artificial none x

  reads : ReadsWork kind y T.B T.R T.o P.T.o
  unfolding with_artificial
  reads = record {
    up = P.reads.up;
    kinds = P.reads.kinds;
    unknown = P.reads.unknown;
    rows-up = P.reads.rows-up;
    rows-live = P.reads.rows-live;
    rows = P.reads.rows;
    objective = P.reads.objective;
    beyond = P.reads.beyond;
    cutoff = P.reads.cutoff;
    artificial = tt;
  }

  y_kept : Kept x y
  unfolding with_artificial
  y_kept = record { symbols = refl; next_id = refl; variables = refl; artificial = λ e. refl }

  -- ---- while the temporary is basic at 0 its row holds a slack or an error
  j₀≢t : j₀ ≢ t
  j₀≢t e = omega (arith, in₀, e)

  G₁ : Good n kind (record { B = at t true S.B; R = at t Q.r S.R; o = Q.r })
  G₁ = good₁ n old S held d w c Q room plain

  slack-j : kind j₀ ≡ slack
  slack-j = at_there t slack Q.kind j₀ j₀≢t ∙ s₀

  free-j : at t true S.B j₀ ≡ false
  free-j = go (S.B j₀) refl
    where
      go : (b : Bool) → S.B j₀ ≡ b → at t true S.B j₀ ≡ false
      go false e = at_there t true S.B j₀ j₀≢t ∙ e
      go true e = absurd (r₀ (Q.clear j₀ e))

  holds-slack : ((j : ℕ) → j < n → (kind j ≡ dummy) ⊎ (P.T.R t j ≡ 0ℤ)) → ⊥
  holds-slack only =
      temp-row n kind (at t Q.r S.R) P.T.R t (λ j. at t Q.r S.R j j₀) room pass
      (column-solves n (at t true S.B) (at t Q.r S.R) G₁.shape j₀ free-j (omega (arith, in₀, room))) (λ j e. G₁.dummies j j₀ e slack-j) (λ e. r₀ (sym (ap (λ (r : Vec). r j₀) (at_here t Q.r S.R)) ∙ e)) only
    where
      pass : (σ : Vec) → Solves n (at t Q.r S.R) σ → Solves n P.T.R σ
      pass σ s = (P.solves σ).1 ((temp-solves n S.B S.R Q.good.shape t Q.r (dead n old S held d w c Q room plain).free room (tid≢0 n old S held d w c Q room plain) (dead n old S held d w c Q room plain).rows Q.clear (no-t n old S held d w c Q room plain) σ).0 s)

  -- a row that reads so, of which a kind is absent
  module _ (r : Row) (line : ReadsRow y.tableau.symbols r (P.T.R t)) where
    absent : (p : Symbol → Bool) → All (λ (s : Symbol). p s ≡ true → P.T.R t s.id ≡ 0ℤ) y.tableau.symbols → (i : ℕ) → i ≢ 0
        → ((s : Symbol) → kind s.id ≡ kind_of s.kind → s.id ≡ i → p s ≡ true) → P.T.R t i ≡ 0ℤ
    absent p A i ni f = go (in-or-not i y.tableau.symbols)
      where
        found : (ys : List Symbol) → All (λ (s : Symbol). p s ≡ true → P.T.R t s.id ≡ 0ℤ) ys → All (λ (s : Symbol). kind s.id ≡ kind_of s.kind) ys → In i ys → P.T.R t i ≡ 0ℤ
        found [] a k m = absurd m
        found (s ∷ ys) a k (inl e) = ap (P.T.R t) e ∙ a.0 (f s k.0 (sym e))
        found (s ∷ ys) a k (inr m) = found ys a.1 k.1 m

        go : In i y.tableau.symbols ⊎ NotIn i y.tableau.symbols → P.T.R t i ≡ 0ℤ
        go (inl m) = found y.tableau.symbols A reads.kinds m
        go (inr m) = line.outside i ni m

    slack-pivotable : (s : Symbol) → kind_of s.kind ≡ slack → is_pivotable s ≡ true
    unfolding is_pivotable
    slack-pivotable s = go s.kind
      where
        go : (k : Kind) → kind_of k ≡ slack → elim k [ External ↦ false | Slack ↦ true | Error ↦ true | Dummy ↦ false ] ≡ true
        go External e = absurd (slack≢external (sym e))
        go Slack e = refl
        go Error e = refl
        go Dummy e = absurd (Rattle.simplex.specs.Opt.slack≢dummy (sym e))

    -- of no slack and no error: only dummies are left
    only-dummies : All (λ (s : Symbol). is_pivotable s ≡ true → P.T.R t s.id ≡ 0ℤ) y.tableau.symbols → ⊥
    only-dummies A = holds-slack (λ j _. by j (kind j) refl)
      where
        by : (j : ℕ) (k : KindZ) → kind j ≡ k → (kind j ≡ dummy) ⊎ (P.T.R t j ≡ 0ℤ)
        by j const e = inr (ap (P.T.R t) (P.good.consts j e) ∙ flat)
        by j external e = inr (P.good.no-vars t j (λ q. slack≢external (sym slack-t ∙ q)) e)
        by j slack e = inr (absent is_pivotable A j (λ z. slack≢const (sym e ∙ ap kind z ∙ P.good.zero)) (λ s q p. slack-pivotable s (sym q ∙ ap kind p ∙ e)))
        by j dummy e = inl e

    not-empty : is_empty_row r y ≡ false
    unfolding is_empty_row
    not-empty = go (first_symbol (λ s. true) holds y.tableau.symbols r.cells) (holding (λ s. true) 1024 (P.T.R t) y.tableau.symbols r.cells line.cells)
      where
        weaken : (ys : List Symbol) → All (λ (s : Symbol). true ≡ true → P.T.R t s.id ≡ 0ℤ) ys → All (λ (s : Symbol). is_pivotable s ≡ true → P.T.R t s.id ≡ 0ℤ) ys
        weaken [] a = tt
        weaken (s ∷ ys) a = ((λ _. a.0 refl), weaken ys a.1)

        go : (o : Option Symbol) → Holding (λ s. true) (P.T.R t) y.tableau.symbols o → ◌≡◌ {A = Bool} (elim o [ none ↦ true | some s ↦ false ]) false
        go o (nobody A) = absurd (only-dummies (weaken y.tableau.symbols A))
        go o (somebody s m k z) = refl

  -- ---- the end, from a work z in which the temporary is not basic
  unfoldable pub begun : Work
  begun = stand_temporary (new_symbol Slack c.work) (record { work = c.work; row = c.row })

  wide : begun.tableau.symbols ≡ c.work.tableau.symbols ++ (new_symbol Slack c.work ∷ [])
  unfolding begun stand_temporary append_to with_artificial with_rows with_tableau append_symbol
  wide = refl

  begun-next : begun.tableau.next_id ≡ suc c.work.tableau.next_id
  unfolding begun stand_temporary append_to with_artificial with_rows with_tableau append_symbol
  begun-next = refl

  begun-variables : clear_changed begun.changes.variables ≡ clear_changed c.work.changes.variables
  unfolding begun stand_temporary append_to with_artificial with_rows with_tableau append_symbol
  begun-variables = refl

  begun-pivots : begun.pivots ≡ c.work.pivots
  unfolding begun stand_temporary append_to with_artificial with_rows with_tableau append_symbol
  begun-pivots = refl

  x-kept : Kept begun x
  unfolding begun
  x-kept = P.kept

  placed : (z : Work) → Kept begun z → z.artificial ≡ none → z.pivots ≡ x.pivots → (T' : StateZ) → Good n kind T' → T'.B t ≡ false
      → ((σ : Vec) → Solves n T'.R σ ↔ (Solves n S.R σ × (σ t ≡ dot n Q.r σ))) → ((σ : Vec) → Solves n T'.R σ → dot n T'.o σ ≡ dot n Q.o σ)
      → (a : Vec) → ReadsWork kind z T'.B T'.R T'.o a
      → Placed n Q.kind (map (con_of Q.column) (new_held d c ∷ held)) (Rattle.run.specs.Passes.ways_of begun.tableau.symbols (at t true S.B)) c.work (purge t z)
  unfolding purge with_tableau begun new_symbol
  placed z K no-art same T' G free solves main a H = record {
    table = record { B = T'.B; R = killed t T'.R; o = at t 0ℤ T'.o };
    good = last-good n old S held d w c Q in-n room plain T' G free solves main;
    models = last-models n old S held d w c Q in-n room plain T' G free solves main;
    reads = last-reads n old S held d w c Q in-n room plain T' G free solves main z a no-art H;
    artificial = no-art;
    symbols = ap (delete_symbol t) (K.symbols ∙ wide) ∙ deleted-last c.work.tableau.symbols (new_symbol Slack c.work) Q.ids;
    above = omega (arith, K.next_id, begun-next);
    next = omega (arith, K.next_id, begun-next);
    variables = K.variables ∙ begun-variables;
    made = P.made;
    count = same ∙ P.count ∙ ap (λ (k : ℕ). k + P.made) begun-pivots;
    fewer = P.fewer;
  }

  -- ---- the two ways
  unfoldable pub Ending : Outcome Work → Type 0
  Ending (refused k p m) = ⊥
  Ending (going z) = Placed n Q.kind (map (con_of Q.column) (new_held d c ∷ held)) (Rattle.run.specs.Passes.ways_of begun.tableau.symbols (at t true S.B)) c.work z

  same-y : y.pivots ≡ x.pivots
  unfolding with_artificial
  same-y = refl

  none-y : y.artificial ≡ none
  unfolding with_artificial
  none-y = refl

  kept-y : Kept begun y
  kept-y = kept_trans begun x y x-kept y_kept

  goes : P.T.B t ≡ false → Ending (going (purge t y))
  unfolding Ending
  goes free = placed y kept-y none-y same-y T good free P.solves P.main P.T.o reads

  module _ (r : Row) (line : ReadsRow y.tableau.symbols r (P.T.R t)) (basic : P.T.B t ≡ true) (e : Symbol) (live : Live kind y.tableau.symbols e) (se : kind e.id ≡ slack) (ne : P.T.R t e.id ≢ 0ℤ)
      (m : (pivot t e y).mark ≡ all_whole) where
    free-e : P.T.B e.id ≡ false
    free-e = go (P.T.B e.id) refl
      where
        go : (b : Bool) → P.T.B e.id ≡ b → P.T.B e.id ≡ false
        go false q = q
        go true q = absurd (ne (P.good.shape.gone e.id q t))

    turn : (y.mark ≡ all_whole) × (P.T.R t e.id *ℤ P.T.R t e.id ≡ 1ℤ)
        × ReadsWork kind (pivot t e y) (swap t e.id P.T.B) (pivotZ t e.id P.T.R) (pivoted t e.id P.T.R P.o) (pivoted t e.id P.T.R P.T.o)
    turn = pivot-z kind y T.B T.R T.o P.T.o reads t e basic free-e live (P.good.shape.unit e.id free-e) m

    inside-e : e.id < n
    unfolding new_symbol
    inside-e = omega (arith, in-below e.id live.0, room)
      where
        in-below : (j : ℕ) → In j y.tableau.symbols → j ≤ t
        in-below j i = append-below c.work.tableau.symbols (new_symbol Slack c.work) j Q.ids (subst (In j) (kept-y.symbols ∙ wide) i)

    after-good : Good n kind (step t e.id T)
    after-good = flat_good n kind T good t e.id basic free-e inside-e slack-t se turn.1 flat

    now-free : swap t e.id P.T.B t ≡ false
    now-free = go (swapped t e.id P.T.B t)
      where
        go : Swapped t e.id P.T.B t → swap t e.id P.T.B t ≡ false
        go (enters p q) = absurd (true≢false (sym basic ∙ ap P.T.B p ∙ free-e))
        go (leaves p q) = q
        go (stays p q s) = absurd (q refl)

    back : (σ : Vec) → Solves n (pivotZ t e.id P.T.R) σ ↔ Solves n P.T.R σ
    back σ = pivot-solves n P.T.R t e.id σ room inside-e (P.good.shape.unit e.id free-e) turn.1

    pub pivots-out : Ending (going (purge t (pivot t e y)))
    unfolding Ending
    pivots-out =
        placed (pivot t e y) (kept_trans begun y (pivot t e y) kept-y (pivot-kept t e y)) ((pivot-kept t e y).artificial none-y) (pivot-pivots t e y ∙ same-y)
        (step t e.id T) after-good now-free (λ σ. ((λ s. (P.solves σ).0 ((back σ).0 s)), (λ s. (back σ).1 ((P.solves σ).1 s))))
        (λ σ s. pivot-objective n P.T.R t e.id P.o σ room ((back σ).0 s) ∙ P.main σ ((back σ).0 s)) (pivoted t e.id P.T.R P.T.o) turn.2

  -- THE TEMPORARY LEAVES
  pub leaves_all : mark_of (remove_temporary (new_symbol Slack c.work) y) ≡ all_whole → Ending (remove_temporary (new_symbol Slack c.work) y)
  unfolding remove_temporary new_symbol check_finite refuse ◌>>=◌ any_pivotable_symbol mark_of
  leaves_all = go (find_row t y.tableau.rows) (reads.rows t)
    where
      Leaves : Outcome Work → Type 0
      Leaves o = mark_of o ≡ all_whole → Ending o

      by-pivot : (r : Row) → ReadsRow y.tableau.symbols r (P.T.R t) → P.T.B t ≡ true → (o : Option Symbol) → Holding is_pivotable (P.T.R t) y.tableau.symbols o
          → Leaves (elim o [ none ↦ refuse 12 y | some e ↦ check_finite (pivot t e y) >>= λ v. going (purge t v) ])
      by-pivot r line b o (nobody A) = absurd (only-dummies r line A)
      by-pivot r line b o (somebody e i k z) = finite (pivot t e y).mark refl
        where
          live : Live kind y.tableau.symbols e
          live = is_live kind e y.tableau.symbols reads.kinds i

          finite : (q : Mark) → (pivot t e y).mark ≡ q → Leaves ((elim q [ all_whole ↦ going (pivot t e y) | not_whole ↦ going (pivot t e y) | not_finite ↦ refused 13 (pivot t e y).pivots (pivot t e y).mark ]) >>= λ v. going (purge t v))
          finite all_whole q m = pivots-out r line b e live (live.1 ∙ pivotable-kind e k) z q
          finite not_whole q m = pivots-out r line b e live (live.1 ∙ pivotable-kind e k) z (sym (purged-mark t (pivot t e y)) ∙ m)
          finite not_finite q m = absurd (finite≢ (sym q ∙ m))

      by-empty : (r : Row) → ReadsRow y.tableau.symbols r (P.T.R t) → P.T.B t ≡ true → (b : Bool) → is_empty_row r y ≡ b
          → Leaves (elim b [ true ↦ going (purge t y) | false ↦ elim (any_pivotable_symbol r y) [ none ↦ refuse 12 y | some e ↦ check_finite (pivot t e y) >>= λ v. going (purge t v) ] ])
      by-empty r line b true q = absurd (true≢false (sym q ∙ not-empty r line))
      by-empty r line b false q = by-pivot r line b (any_pivotable_symbol r y) (holding is_pivotable 1024 (P.T.R t) y.tableau.symbols r.cells line.cells)

      go : (o : Option Row) → RowAt y.tableau.symbols o (P.T.B t) (P.T.R t)
          → Leaves (elim o [ none ↦ going (purge t y) | some r ↦ elim (is_empty_row r y) [ true ↦ going (purge t y) | false ↦ elim (any_pivotable_symbol r y) [ none ↦ refuse 12 y | some e ↦ check_finite (pivot t e y) >>= λ v. going (purge t v) ] ] ])
      go none h = λ m. goes h
      go (some r) h = by-empty r h.1 h.0 (is_empty_row r y) refl
