-- Add's step 6, its pass: on the artificial objective it ends at the temporary's lowest value, or uses its budget up; it always finds a leaving row. Assumes nothing.
use Rattle.std.specs.Prelude.{◌≡◌, ◌↔◌, Bool, true, false, List, [], ◌∷◌, ◌++◌, ℕ, ◌+◌, ◌<◌, ◌≤◌}
use Rattle.std.proofs.Math.Path.{refl, sym}
use Rattle.std.proofs.Common.{ap, ◌∙◌, subst, inl, inr, le_refl, arith}
use Rattle.laws.specs.Z.{◌≼◌, ◌≺◌}
use Rattle.simplex.specs.Ord.{0ℤ, clash, ≼-of-eq, ≼_trans}
use Rattle.simplex.specs.Lin.{Vec, dot}
use Rattle.simplex.specs.At.{at, At, here, there, at?, at_here}
use Rattle.simplex.specs.Basis.{Clear}
use Rattle.simplex.specs.Tab.{Solves}
use Rattle.simplex.specs.Opt.{Kind as KindZ, external, slack}
use Rattle.simplex.specs.Pass.{State as StateZ, Good}
use Rattle.simplex.specs.Bland.{Pass, good, solutions}
use Rattle.simplex.proofs.Bland.{values}
use Rattle.simplex.specs.Bound.{Mem}
use Rattle.simplex.specs.Look.{Look, done, no_row, go_on, look, after, lv, ev, Pivots, Looked, at_rest, rowless, chosen}
use Rattle.simplex.proofs.Look.{looked, pass, enough}
use Rattle.simplex.specs.Never.{always-leaving}
use Rattle.simplex.specs.Steps.{temp-solves}
use Rattle.simplex.specs.Second.{Carried}
use Rattle.simplex.specs.Search.{Asc}
use Rattle.simplex.specs.Temp.{Dead}
use Rattle.steps.specs.Number.{all_whole}
use Rattle.steps.specs.Symbol.{Symbol, Slack}
use Rattle.steps.specs.Work.{Work, Outcome, refused, going, with_tableau, with_rows, with_artificial, new_symbol, append_symbol}
use Rattle.steps.specs.CreateRow.{Created, append_to}
use Rattle.steps.specs.Optimise.{optimise, the_artificial}
use Rattle.steps.specs.Artificial.{stand_temporary}
use Rattle.simplex.specs.bridge.Rows.{In}
use Rattle.simplex.specs.bridge.Table.{ReadsWork}
use Rattle.simplex.specs.bridge.Runs.{mark_of, Standing, carried, Ran, rests, used-up, no-leaving}
use Rattle.simplex.proofs.bridge.Runs.{run}
use Rattle.run.specs.Demand.{Demand}
use Rattle.run.specs.Inv.{Held}
use Rattle.run.specs.Build.{Built}
use Rattle.run.specs.Steady.{Kept, IfGoing, optimise-kept}
use Rattle.run.specs.Passes.{ids_of, restricted_ids, ways_of, live-asc, live-cover, live_inside, live-once, live-basics, live-slacks, resting}
use Rattle.run.specs.TempStart.{standing, S₁, kind₁, tid≢0, fresh, dead, no-t, good₀, good₁, reads₁}

-- ids are below the last one, or its own
pub append-below : (xs : List Symbol) (s : Symbol) (j : ℕ) → ((i : ℕ) → In i xs → i < s.id) → In j (xs ++ (s ∷ [])) → j ≤ s.id
append-below [] s j f (inl e) = omega arith
append-below [] s j f (inr m) = absurd m
append-below (x ∷ xs) s j f (inl e) = omega (arith, f x.id (inl refl))
append-below (x ∷ xs) s j f (inr m) = append-below xs s j (λ i q. f i (inr q)) m

module _ (n : ℕ) (old : ℕ → KindZ) (S : StateZ) (held : List Held) (d : Demand) (w : Work) (c : Created) (Q : Built n old S held d w c) (in-n : 0 < n) (room : c.work.tableau.next_id < n)
    (plain : (i : ℕ) → Q.kind i ≡ external → Q.r i ≡ 0ℤ) where
  abbrev kind : ℕ → KindZ
  kind = kind₁ n old S held d w c Q room plain

  abbrev begun : Work
  begun = standing n old S held d w c Q room plain

  abbrev T₀ : StateZ
  T₀ = S₁ n old S held d w c Q room plain

  G₀ : Good n kind T₀
  G₀ = good₁ n old S held d w c Q room plain

  H₀ : ReadsWork kind begun T₀.B T₀.R Q.o Q.r
  H₀ = reads₁ n old S held d w c Q room plain

  pub inside₁ : (j : ℕ) → In j begun.tableau.symbols → j < n
  unfolding stand_temporary append_to with_artificial with_rows with_tableau append_symbol new_symbol
  inside₁ j m = omega (arith, append-below c.work.tableau.symbols (record { id = c.work.tableau.next_id; kind = Slack }) j Q.ids m, room)

  abbrev ids : List ℕ
  ids = ids_of begun.tableau.symbols

  asc : Asc ids
  asc = live-asc n kind begun T₀.B T₀.R Q.o Q.r G₀.zero H₀ inside₁

  cover : (j : ℕ) → kind j ≡ slack → Mem j ids
  cover = live-cover n kind begun T₀.B T₀.R Q.o Q.r G₀.zero H₀ inside₁

  in_ids : (j : ℕ) → Mem j ids → j < n
  in_ids = live_inside n kind begun T₀.B T₀.R Q.o Q.r G₀.zero H₀ inside₁

  -- the tableau's solutions are those of the old one whose temporary is worth the created row
  temp : (σ : Vec) → Solves n T₀.R σ ↔ (Solves n S.R σ × (σ c.work.tableau.next_id ≡ dot n Q.r σ))
  temp = temp-solves n S.B S.R Q.good.shape c.work.tableau.next_id Q.r D.free room D.not-0 D.rows Q.clear (no-t n old S held d w c Q room plain)
    where
      D : Dead (record { B = S.B; R = S.R; o = Q.o }) c.work.tableau.next_id
      D = dead n old S held d w c Q room plain

  -- what an accepted pass leaves
  pub record Passed (left : ℕ) (x : Work) : Type 0 where
    pub T : StateZ
    pub o : Vec
    pub good : Good n kind T
    pub low : (j : ℕ) → kind j ≡ slack → 0ℤ ≼ T.o j
    pub reads : ReadsWork kind x T.B T.R o T.o
    pub stands : Standing x.artificial
    pub solves : (σ : Vec) → Solves n T.R σ ↔ (Solves n S.R σ × (σ c.work.tableau.next_id ≡ dot n Q.r σ))
    pub art : (σ : Vec) → Solves n T.R σ → dot n T.o σ ≡ σ c.work.tableau.next_id
    pub main : (σ : Vec) → Solves n T.R σ → dot n o σ ≡ dot n Q.o σ
    pub clear : Clear T.B o
    pub no-var : (i : ℕ) → kind i ≡ external → o i ≡ 0ℤ
    pub kept : Kept begun x
    pub made : ℕ
    pub count : x.pivots ≡ begun.pivots + made
    pub within : made ≤ left
    pub fewer : made < ways_of begun.tableau.symbols T₀.B

  -- ---- along the pass
  module _ (k : ℕ) (f : (i : ℕ) → i < k → Pivots (after kind ids T₀ i) (look kind ids (after kind ids T₀ i))) where
    P : Pass n kind k (after kind ids T₀) (λ i. lv (look kind ids (after kind ids T₀ i))) (λ i. ev (look kind ids (after kind ids T₀ i)))
    P = pass n kind ids asc cover in_ids T₀ k G₀ f

    end : StateZ
    end = after kind ids T₀ k

    end-good : Good n kind end
    unfolding end
    end-good = good n kind k (after kind ids T₀) (λ i. lv (look kind ids (after kind ids T₀ i))) (λ i. ev (look kind ids (after kind ids T₀ i))) P k (le_refl k)

    end-solves : (σ : Vec) → Solves n end.R σ ↔ (Solves n S.R σ × (σ c.work.tableau.next_id ≡ dot n Q.r σ))
    unfolding end after
    end-solves σ =
        let s = solutions n kind k (after kind ids T₀) (λ i. lv (look kind ids (after kind ids T₀ i))) (λ i. ev (look kind ids (after kind ids T₀ i))) P k (le_refl k) σ in
        ((λ h. (temp σ).0 (s.0 h)), (λ h. s.1 ((temp σ).1 h)))

    -- the artificial objective is worth the temporary
    end-art : (σ : Vec) → Solves n end.R σ → dot n end.o σ ≡ σ c.work.tableau.next_id
    unfolding end after
    end-art σ h =
        let s = (solutions n kind k (after kind ids T₀) (λ i. lv (look kind ids (after kind ids T₀ i))) (λ i. ev (look kind ids (after kind ids T₀ i))) P k (le_refl k) σ).0 h in
        values n kind k (after kind ids T₀) (λ i. lv (look kind ids (after kind ids T₀ i))) (λ i. ev (look kind ids (after kind ids T₀ i))) P k (le_refl k) σ s ∙ sym ((temp σ).0 s).1

    end-main : Carried n kind T₀ end Q.o (carried kind ids T₀ Q.o k)
    unfolding end after carried
    end-main =
        Rattle.simplex.specs.Second.carried n kind k (after kind ids T₀) (λ i. lv (look kind ids (after kind ids T₀ i))) (λ i. ev (look kind ids (after kind ids T₀ i))) P (carried kind ids T₀ Q.o) (λ i _. refl)
        clear₀ Z.no-var k (le_refl k)
      where
        Z : Good n kind (record { B = S.B; R = S.R; o = Q.o })
        Z = good₀ n old S held d w c Q room plain

        clear₀ : Clear (at c.work.tableau.next_id true S.B) Q.o
        clear₀ b u = go (at? c.work.tableau.next_id true S.B b)
          where
            go : At c.work.tableau.next_id true S.B b → Q.o b ≡ 0ℤ
            go (here p e) = ap Q.o p ∙ Q.reads.beyond c.work.tableau.next_id (tid≢0 n old S held d w c Q room plain) (fresh n old S held d w c Q room plain)
            go (there p e) = Z.clear b (sym e ∙ u)

    -- a temporary is never below 0, so a leaving row is always found
    never_stuck : (e : ℕ) → look kind ids end ≡ no_row e → ⊥
    unfolding end
    never_stuck e q = go (no_row e) (subst (Looked kind ids (after kind ids T₀ k)) q (looked kind ids asc cover n (after kind ids T₀ k) end-good)) e refl
      where
        is_rowless : Look → Type 0
        is_rowless done = ⊥
        is_rowless (no_row e) = Unit
        is_rowless (go_on l e) = ⊥

        free : (e : ℕ) → (after kind ids T₀ k).o e ≺ 0ℤ → (b : Bool) → (after kind ids T₀ k).B e ≡ b → (after kind ids T₀ k).B e ≡ false
        free e h false p = p
        free e h true p = absurd (clash h (≼-of-eq (sym (end-good.clear e p))))

        go : (t : Look) → Looked kind ids (after kind ids T₀ k) t → (e : ℕ) → t ≡ no_row e → ⊥
        go t (at_rest h) e p = subst is_rowless (sym p) tt
        go t (chosen l e' E M) e p = subst is_rowless (sym p) tt
        go t (rowless e' E h) e p =
            always-leaving n kind (after kind ids T₀ k).B (after kind ids T₀ k).R (after kind ids T₀ k).o e' end-good.shape end-good.clear (free e' E.cell ((after kind ids T₀ k).B e') refl) (in_ids e' (cover e' E.is-slack))
            (λ σ s F. ≼_trans (F.slacks c.work.tableau.next_id room (at_here c.work.tableau.next_id slack Q.kind)) (≼-of-eq (sym (end-art σ s))))
            (λ j y. end-good.dummies j e' y E.is-slack) E.cell h

  -- ---- what the pass answers
  abbrev pub PassEnds : ℕ → Outcome Work → Type 0
  PassEnds left (going x) = Passed left x
  PassEnds left (refused k p t) = (k ≡ 14) × (left < ways_of begun.tableau.symbols T₀.B)

  stands₀ : Standing begun.artificial
  unfolding stand_temporary with_artificial
  stands₀ = tt

  ways : (k : ℕ) → ((i : ℕ) → i < k → Pivots (after kind ids T₀ i) (look kind ids (after kind ids T₀ i))) → k < ways_of begun.tableau.symbols T₀.B
  unfolding ways_of
  ways k f =
      enough n kind ids asc cover in_ids T₀ k G₀ f (restricted_ids begun.tableau.symbols) (live-once n kind begun T₀.B T₀.R Q.o Q.r G₀.zero H₀ inside₁) (live-basics n kind begun T₀.B T₀.R Q.o Q.r G₀.zero H₀ inside₁)
      (live-slacks n kind begun T₀.B T₀.R Q.o Q.r G₀.zero H₀ inside₁)

  -- THE PASS ON THE ARTIFICIAL OBJECTIVE
  pub passes : (left : ℕ) → mark_of (optimise left the_artificial begun) ≡ all_whole → PassEnds left (optimise left the_artificial begun)
  unfolding end
  passes left m = go (optimise left the_artificial begun) (run n kind ids asc cover in_ids left the_artificial begun T₀ Q.o G₀ (H₀, stands₀) m) (optimise-kept left the_artificial begun)
    where
      rested : (x : Work) → Ran n kind ids asc cover in_ids the_artificial left begun T₀ Q.o (going x) → Kept begun x → Passed left x
      rested x (rests k l f q y r e) st = record {
        T = after kind ids T₀ k;
        o = carried kind ids T₀ Q.o k;
        good = end-good k f;
        low = resting kind ids (after kind ids T₀ k) (subst (Looked kind ids (after kind ids T₀ k)) q (looked kind ids asc cover n (after kind ids T₀ k) (end-good k f)));
        reads = r.0;
        stands = r.1;
        solves = end-solves k f;
        art = end-art k f;
        main = λ σ s. (end-main k f).value σ ((temp σ).1 ((end-solves k f σ).0 s));
        clear = (end-main k f).clear;
        no-var = (end-main k f).no-var;
        kept = st;
        made = k;
        count = e;
        within = l;
        fewer = ways k f;
      }

      go : (t : Outcome Work) → Ran n kind ids asc cover in_ids the_artificial left begun T₀ Q.o t → IfGoing (Kept begun) t → PassEnds left t
      go (going x) r st = rested x r st
      go (refused k p t) (used-up f q e u) st = (refl, ways left f)
      go (refused k p t) (no-leaving i l f e q s u v) st = absurd (never_stuck i f e q)
