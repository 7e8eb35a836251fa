-- Add's step 6 in a whole run: the new row is in the tableau; or 12, and nothing meets the demands; or 14. Assumes nothing.
use Rattle.std.proofs.Math.Path.{◌≡◌, refl, subst}
use Rattle.std.proofs.Common.{sym, ◌∙◌, arith}
use Rattle.std.proofs.Math.Logic.{inl, inr}
use Rattle.std.specs.Prelude.{◌≢◌, Bool, List, ◌∷◌, map, ℕ, ◌-◌, ◌<◌, pos}
use Rattle.std.proofs.Math.Bool.{true, false}
use Rattle.std.proofs.Math.Option.{Option, none, some}
use Rattle.std.proofs.Math.Dec.{T}
use Rattle.laws.specs.Z.{eq_zb, eq_zb→, ≡→eq_zb}
use Rattle.simplex.specs.Ord.{0ℤ}
use Rattle.simplex.specs.At.{at}
use Rattle.simplex.specs.Opt.{Kind as KindZ, external, slack}
use Rattle.simplex.specs.Pass.{State as StateZ}
use Rattle.steps.specs.Number.{near_zero, Mark, all_whole, not_whole, not_finite}
use Rattle.steps.specs.Symbol.{Symbol, Slack}
use Rattle.steps.specs.Row.{Row}
use Rattle.steps.specs.Work.{Work, Outcome, refused, going, ◌>>=◌, refuse, check_finite, with_tableau, with_rows, with_artificial, find_row, new_symbol, append_symbol, purge}
use Rattle.steps.specs.CreateRow.{Created, append_to, choose_subject, all_dummies}
use Rattle.steps.specs.Substitute.{pivot}
use Rattle.steps.specs.Optimise.{optimise, the_artificial}
use Rattle.steps.specs.Artificial.{any_pivotable_symbol, is_empty_row, stand_temporary, remove_temporary, artificial_constant_near_zero, add_with_artificial_variable}
use Rattle.simplex.specs.bridge.Nums.{near_zero-z}
use Rattle.simplex.specs.bridge.Table.{ArtAt}
use Rattle.simplex.specs.bridge.Runs.{mark_of, Standing}
use Rattle.simplex.proofs.bridge.Runs.{pivot-mark}
use Rattle.run.specs.Demand.{Demand}
use Rattle.run.specs.Inv.{Held, con_of}
use Rattle.run.specs.Passes.{ways_of}
use Rattle.run.specs.Build.{new_held, Built}
use Rattle.run.specs.Subject.{no-externals, some-slack}
use Rattle.run.specs.AddEnds.{Placed, Ends, artificial_ways, ArtificialEnds}
use Rattle.run.specs.TempPass.{Passed, PassEnds, passes}
use Rattle.run.specs.TempEnd.{unmet}
use Rattle.run.specs.TempLeaves.{Ending, leaves_all}

-- a mark that is whole at the end was whole after the pass
left-mark : (x : Work) (t : Symbol) (b : Bool) → mark_of (elim b [ false ↦ refuse 12 x | true ↦ remove_temporary t (with_artificial none x) ]) ≡ all_whole → x.mark ≡ all_whole
unfolding refuse mark_of remove_temporary check_finite ◌>>=◌ purge with_tableau with_artificial
left-mark x t false m = m
left-mark x t true m = go (find_row t.id x.tableau.rows) m
  where
    piv : (e : Symbol) (q : Mark) → (pivot t.id e (with_artificial none x)).mark ≡ q
        → mark_of ((elim q [ all_whole ↦ going (pivot t.id e (with_artificial none x)) | not_whole ↦ going (pivot t.id e (with_artificial none x)) | not_finite ↦ refused 13 (pivot t.id e (with_artificial none x)).pivots (pivot t.id e (with_artificial none x)).mark ]) >>= λ v. going (purge t.id v)) ≡ all_whole
        → x.mark ≡ all_whole
    piv e all_whole q m = pivot-mark t.id e (with_artificial none x) m
    piv e not_whole q m = pivot-mark t.id e (with_artificial none x) m
    piv e not_finite q m = pivot-mark t.id e (with_artificial none x) m

    any : (o : Option Symbol) → mark_of (elim o [ none ↦ refuse 12 (with_artificial none x) | some e ↦ check_finite (pivot t.id e (with_artificial none x)) >>= λ v. going (purge t.id v) ]) ≡ all_whole → x.mark ≡ all_whole
    any none m = m
    any (some e) m = piv e (pivot t.id e (with_artificial none x)).mark refl m

    empty : (r : Row) (b : Bool)
        → mark_of (elim b [ true ↦ going (purge t.id (with_artificial none x)) | false ↦ elim (any_pivotable_symbol r (with_artificial none x)) [ none ↦ refuse 12 (with_artificial none x) | some e ↦ check_finite (pivot t.id e (with_artificial none x)) >>= λ v. going (purge t.id v) ] ]) ≡ all_whole
        → x.mark ≡ all_whole
    empty r true m = m
    empty r false m = any (any_pivotable_symbol r (with_artificial none x)) m

    go : (o : Option Row)
        → mark_of (elim o [ none ↦ going (purge t.id (with_artificial none x)) | some r ↦ elim (is_empty_row r (with_artificial none x)) [ true ↦ going (purge t.id (with_artificial none x)) | false ↦ elim (any_pivotable_symbol r (with_artificial none x)) [ none ↦ refuse 12 (with_artificial none x) | some e ↦ check_finite (pivot t.id e (with_artificial none x)) >>= λ v. going (purge t.id v) ] ] ]) ≡ all_whole
        → x.mark ≡ all_whole
    go none m = m
    go (some r) m = empty r (is_empty_row r (with_artificial none x)) m

module _ (n : ℕ) (old : ℕ → KindZ) (S : StateZ) (held : List Held) (d : Demand) (w : Work) (c : Created) (Q : Built n old S held d w c) (room : c.work.tableau.next_id < n)
    (no-subject : choose_subject c ≡ none) (some-cell : all_dummies c ≡ false) where
  in-n : 0 < n
  in-n = omega (arith, room)

  plain : (i : ℕ) → Q.kind i ≡ external → Q.r i ≡ 0ℤ
  plain = no-externals n old S held d w c Q no-subject

  begun : Work
  begun = stand_temporary (new_symbol Slack c.work) (record { work = c.work; row = c.row })

  abbrev Result : ℕ → Outcome Work → Type 0
  Result budget = Ends n Q.kind (map (con_of Q.column) (new_held d c ∷ held)) (artificial_ways c S) budget c.work

  -- is the artificial objective's constant near zero? It is a whole number: is it 0?
  near-is : (left : ℕ) (x : Work) (P : Passed n old S held d w c Q in-n room plain left x) → artificial_constant_near_zero x ≡ eq_zb (P.T.o 0) (pos 0)
  unfolding artificial_constant_near_zero
  near-is left x P = go x.artificial P.reads.artificial P.stands
    where
      go : (t : Option Row) → ArtAt x.tableau.symbols t P.T.o → Standing t → ◌≡◌ {A = Bool} (elim t [ none ↦ false | some r ↦ near_zero x.tableau.cutoff r.constant ]) (eq_zb (P.T.o 0) (pos 0))
      go none a s = absurd s
      go (some r) a s = near_zero-z x.tableau.cutoff P.reads.cutoff a.constant.isz

  ways-same : ways_of begun.tableau.symbols (at c.work.tableau.next_id true S.B) ≡ artificial_ways c S
  unfolding begun stand_temporary append_to with_artificial with_rows with_tableau append_symbol artificial_ways
  ways-same = refl

  pivots-same : begun.pivots ≡ c.work.pivots
  unfolding begun stand_temporary append_to with_artificial with_rows with_tableau append_symbol
  pivots-same = refl

  -- after an accepted pass
  after-pass : (budget left : ℕ) (x : Work) → Passed n old S held d w c Q in-n room plain left x → (b : Bool) → artificial_constant_near_zero x ≡ b
      → mark_of (elim b [ false ↦ refuse 12 x | true ↦ remove_temporary (new_symbol Slack c.work) (with_artificial none x) ]) ≡ all_whole
      → Result budget (elim b [ false ↦ refuse 12 x | true ↦ remove_temporary (new_symbol Slack c.work) (with_artificial none x) ])
  unfolding refuse begun Ending Rattle.run.specs.TempLeaves.begun
  after-pass budget left x P false e m = inl (refl, unmet n old S held d w c Q in-n room plain left x P (λ z. subst T (sym (near-is left x P) ∙ e) (≡→eq_zb z)))
  after-pass budget left x P true e m =
      let s = some-slack n old S held d w c Q no-subject some-cell in
      let f = leaves_all n old S held d w c Q in-n room plain s.0.id s.2 (Q.ids s.0.id s.1.0) s.3 left x P (eq_zb→ (P.T.o 0) (pos 0) (subst T (sym (sym (near-is left x P) ∙ e)) tt)) m in
      ended (remove_temporary (new_symbol Slack c.work) (with_artificial none x)) s.0.id s.2 (Q.ids s.0.id s.1.0) s.3 (eq_zb→ (P.T.o 0) (pos 0) (subst T (sym (sym (near-is left x P) ∙ e)) tt)) f
    where
      ended : (t : Outcome Work) (j : ℕ) (s : Q.kind j ≡ slack) (i : j < c.work.tableau.next_id) (r : Q.r j ≢ 0ℤ) (f : P.T.o 0 ≡ 0ℤ) → Ending n old S held d w c Q in-n room plain j s i r left x P f t → Result budget t
      ended (refused k p m) j s i r f h = absurd h
      ended (going z) j s i r f h = subst (λ (k : ℕ). Placed n Q.kind (map (con_of Q.column) (new_held d c ∷ held)) k c.work z) ways-same h

  pub ends : (budget : ℕ) → mark_of (add_with_artificial_variable budget c) ≡ all_whole → Result budget (add_with_artificial_variable budget c)
  unfolding add_with_artificial_variable ◌>>=◌ begun mark_of
  ends budget = go (optimise (budget - begun.pivots) the_artificial begun) (passes n old S held d w c Q in-n room plain (budget - begun.pivots))
    where
      go : (t : Outcome Work) → (mark_of t ≡ all_whole → PassEnds n old S held d w c Q in-n room plain (budget - begun.pivots) t)
          → mark_of (t >>= λ w. elim (artificial_constant_near_zero w) [ false ↦ refuse 12 w | true ↦ remove_temporary (new_symbol Slack c.work) (with_artificial none w) ]) ≡ all_whole
          → Result budget (t >>= λ w. elim (artificial_constant_near_zero w) [ false ↦ refuse 12 w | true ↦ remove_temporary (new_symbol Slack c.work) (with_artificial none w) ])
      go (refused k p q) f m = let h = f m in inr (h.0, subst (λ (b : ℕ). budget - b < artificial_ways c S) pivots-same (subst (λ (k : ℕ). budget - begun.pivots < k) ways-same h.1))
      go (going x) f m = after-pass budget (budget - begun.pivots) x (f (whole x m)) (artificial_constant_near_zero x) refl m
        where
          whole : (x : Work) → mark_of (elim (artificial_constant_near_zero x) [ false ↦ refuse 12 x | true ↦ remove_temporary (new_symbol Slack c.work) (with_artificial none x) ]) ≡ all_whole → x.mark ≡ all_whole
          whole x m = left-mark x (new_symbol Slack c.work) (artificial_constant_near_zero x) m

-- STEP 6
pub artificial-ends : ArtificialEnds
artificial-ends n old S held d w c Q room s a budget = ends n old S held d w c Q room s a budget
