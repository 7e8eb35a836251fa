-- Add's step 6 begins: with the temporary slack basic the work reads as a good tableau of the theory, its row the artificial objective. Assumes nothing.
use Rattle.std.specs.Prelude.{◌≡◌, refl, ◌⊎◌, ◌≢◌, Bool, true, false, List, ℕ, ◌<◌, Float}
use Rattle.std.proofs.Common.{sym, ap, ◌∙◌, subst, inl, inr, true≢false, arith}
use Rattle.std.proofs.Math.Option.{Option, none, some}
use Rattle.simplex.specs.Ord.{0ℤ}
use Rattle.simplex.specs.Lin.{Vec, δ-other}
use Rattle.simplex.specs.At.{at, At, here, there, at?, at_here, at_there}
use Rattle.simplex.specs.Basis.{Mask}
use Rattle.simplex.specs.Opt.{Kind as KindZ, external, slack, slack≢external, slack≢const}
use Rattle.simplex.specs.Pass.{State as StateZ, Good}
use Rattle.simplex.specs.Temp.{Dead, temp-good, rekind}
use Rattle.steps.specs.Symbol.{Symbol, Slack}
use Rattle.steps.specs.Row.{Row, append_cell}
use Rattle.steps.specs.State.{Basic}
use Rattle.steps.specs.Work.{Work, with_tableau, with_rows, with_artificial, find_row, keep_row, new_symbol, append_symbol}
use Rattle.steps.specs.CreateRow.{Created, append_to}
use Rattle.steps.specs.Artificial.{stand_temporary}
use Rattle.simplex.specs.bridge.Rows.{In, NotIn, ReadsRow}
use Rattle.simplex.specs.bridge.Finds.{find-keep-same, find-keep-other, keep-up, keep_all}
use Rattle.simplex.specs.bridge.Table.{RowAt, Live, ReadsTable, ReadsWork}
use Rattle.simplex.proofs.bridge.Looks.{in-or-not}
use Rattle.simplex.proofs.bridge.Enter.{append-z, append-row, append-new}
use Rattle.run.specs.Demand.{Demand}
use Rattle.run.specs.Inv.{Held}
use Rattle.run.specs.Build.{Built}
use Rattle.run.specs.Passes.{basic-in}

-- ---- a row more, of a symbol that no row holds: nothing is substituted
keep-table : (kind : ℕ → KindZ) (cut : Float) (xs : List Symbol) (bs : List Basic) (cs : List Float) (B : Mask) (R : ℕ → Vec) (o a r : Vec) (t : Symbol) (row : Row) → ReadsTable kind cut xs bs cs none B R o a
    → B t.id ≡ false → 0 < t.id → Live kind xs t → ReadsRow xs row r
    → ReadsTable kind cut xs (keep_row (record { symbol = t; row = row }) bs) cs (some row) (at t.id true B) (at t.id r R) o r
keep-table kind cut xs bs cs B R o a r t row H free above live reads = record {
  up = H.up;
  kinds = H.kinds;
  unknown = H.unknown;
  rows-up = keep-up 0 (record { symbol = t; row = row }) bs above absent H.rows-up;
  rows-live = keep_all (λ (s : Symbol). Live kind xs s) (record { symbol = t; row = row }) bs live H.rows-live;
  rows = λ j. go j (at? t.id true B j);
  objective = H.objective;
  beyond = H.beyond;
  cutoff = H.cutoff;
  artificial = reads;
}
  where
    absent : find_row t.id bs ≡ none
    absent = by (find_row t.id bs) refl (H.rows t.id)
      where
        by : (o : Option Row) → find_row t.id bs ≡ o → RowAt xs o (B t.id) (R t.id) → find_row t.id bs ≡ none
        by none e h = e
        by (some x) e h = absurd (true≢false (sym h.0 ∙ free))

    go : (j : ℕ) → At t.id true B j → RowAt xs (find_row j (keep_row (record { symbol = t; row = row }) bs)) (at t.id true B j) (at t.id r R j)
    go j (here p e) =
        subst (λ (q : Option Row). RowAt xs q (at t.id true B j) (at t.id r R j)) (sym (find-keep-same j (record { symbol = t; row = row }) bs p (ap (λ (i : ℕ). find_row i bs) p ∙ absent)))
        (e, subst (ReadsRow xs row) (sym (ap (at t.id r R) p ∙ at_here t.id r R)) reads)
    go j (there p e) =
        subst (λ (q : Option Row). RowAt xs q (at t.id true B j) (at t.id r R j)) (sym (find-keep-other j (record { symbol = t; row = row }) bs p))
        (subst (λ (b : Bool). RowAt xs (find_row j bs) b (at t.id r R j)) (sym e) (subst (RowAt xs (find_row j bs) (B j)) (sym (at_there t.id r R j p)) (H.rows j)))

-- ---- the start
module _ (n : ℕ) (old : ℕ → KindZ) (S : StateZ) (held : List Held) (d : Demand) (w : Work) (c : Created) (Q : Built n old S held d w c) (room : c.work.tableau.next_id < n)
    (plain : (i : ℕ) → Q.kind i ≡ external → Q.r i ≡ 0ℤ) where
  abbrev pub t : Symbol
  t = new_symbol Slack c.work

  abbrev pub kind₁ : ℕ → KindZ
  kind₁ = at c.work.tableau.next_id slack Q.kind

  pub tid≢0 : c.work.tableau.next_id ≢ 0
  tid≢0 e = omega (arith, Q.first)

  pub fresh : NotIn c.work.tableau.next_id c.work.tableau.symbols
  fresh = go (in-or-not c.work.tableau.next_id c.work.tableau.symbols)
    where
      go : In c.work.tableau.next_id c.work.tableau.symbols ⊎ NotIn c.work.tableau.next_id c.work.tableau.symbols → NotIn c.work.tableau.next_id c.work.tableau.symbols
      go (inl m) = absurd (omega (arith, Q.ids c.work.tableau.next_id m))
      go (inr m) = m

  free : S.B c.work.tableau.next_id ≡ false
  free = go (S.B c.work.tableau.next_id) refl
    where
      go : (b : Bool) → S.B c.work.tableau.next_id ≡ b → S.B c.work.tableau.next_id ≡ false
      go false e = e
      go true e = absurd (omega (arith, Q.ids c.work.tableau.next_id (basic-in n Q.kind c.work S.B S.R Q.o (λ _. 0ℤ) Q.good.zero Q.reads (λ j m. omega (arith, Q.ids j m, room)) c.work.tableau.next_id e)))

  no_cell : (j : ℕ) → j ≢ c.work.tableau.next_id → S.R j c.work.tableau.next_id ≡ 0ℤ
  no_cell j ne = go (find_row j c.work.tableau.rows) (Q.reads.rows j)
    where
      go : (o : Option Row) → RowAt c.work.tableau.symbols o (S.B j) (S.R j) → S.R j c.work.tableau.next_id ≡ 0ℤ
      go none h = Q.good.shape.unit j h c.work.tableau.next_id ∙ δ-other ne
      go (some x) h = h.1.outside c.work.tableau.next_id tid≢0 fresh

  pub dead : Dead (record { B = S.B; R = S.R; o = Q.o }) c.work.tableau.next_id
  dead = record { free = free; not-0 = tid≢0; rows = no_cell }

  pub no-t : Q.r c.work.tableau.next_id ≡ 0ℤ
  no-t = Q.line.outside c.work.tableau.next_id tid≢0 fresh

  pub plain₁ : (i : ℕ) → at c.work.tableau.next_id slack Q.kind i ≡ external → Q.r i ≡ 0ℤ
  plain₁ i e = go (at? c.work.tableau.next_id slack Q.kind i)
    where
      go : At c.work.tableau.next_id slack Q.kind i → Q.r i ≡ 0ℤ
      go (here p q) = absurd (slack≢external (sym q ∙ e))
      go (there p q) = plain i (sym q ∙ e)

  -- the tableau before, with the temporary's kind
  pub good₀ : Good n (at c.work.tableau.next_id slack Q.kind) (record { B = S.B; R = S.R; o = Q.o })
  good₀ = rekind n Q.kind (record { B = S.B; R = S.R; o = Q.o }) Q.good c.work.tableau.next_id slack dead (Q.reads.beyond c.work.tableau.next_id tid≢0 fresh) slack≢const

  abbrev pub standing : Work
  standing = stand_temporary (new_symbol Slack c.work) (record { work = c.work; row = c.row })

  abbrev pub S₁ : StateZ
  S₁ = record { B = at c.work.tableau.next_id true S.B; R = at c.work.tableau.next_id Q.r S.R; o = Q.r }

  pub good₁ : Good n (at c.work.tableau.next_id slack Q.kind) (record { B = at c.work.tableau.next_id true S.B; R = at c.work.tableau.next_id Q.r S.R; o = Q.r })
  good₁ = temp-good n (at c.work.tableau.next_id slack Q.kind) (record { B = S.B; R = S.R; o = Q.o }) good₀ c.work.tableau.next_id Q.r dead room (at_here c.work.tableau.next_id slack Q.kind) Q.clear no-t Q.up plain₁

  pub reads₁ : ReadsWork (at c.work.tableau.next_id slack Q.kind) (stand_temporary (new_symbol Slack c.work) (record { work = c.work; row = c.row })) (at c.work.tableau.next_id true S.B) (at c.work.tableau.next_id Q.r S.R) Q.o Q.r
  unfolding stand_temporary append_to with_artificial with_rows with_tableau append_symbol new_symbol
  reads₁ =
      let grown : Work = append_symbol (record { id = c.work.tableau.next_id; kind = Slack }) c.work in
      keep-table (at c.work.tableau.next_id slack Q.kind) grown.tableau.cutoff grown.tableau.symbols grown.tableau.rows grown.tableau.objective S.B S.R Q.o (λ _. 0ℤ) Q.r (record { id = c.work.tableau.next_id; kind = Slack }) (append_cell c.row)
      (subst (λ (q : Option Row). ReadsTable (at c.work.tableau.next_id slack Q.kind) grown.tableau.cutoff grown.tableau.symbols grown.tableau.rows grown.tableau.objective q S.B S.R Q.o (λ _. 0ℤ)) Q.artificial
      (append-z Q.kind c.work S.B S.R Q.o (λ _. 0ℤ) Q.reads (record { id = c.work.tableau.next_id; kind = Slack }) tid≢0 Q.ids Q.artificial))
      free Q.first (append-new c.work.tableau.symbols (record { id = c.work.tableau.next_id; kind = Slack }), at_here c.work.tableau.next_id slack Q.kind)
      (append-row c.work.tableau.symbols c.row Q.r (record { id = c.work.tableau.next_id; kind = Slack }) tid≢0 Q.ids Q.line)
