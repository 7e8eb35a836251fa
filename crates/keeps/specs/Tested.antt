-- The reading test and its facts: each says the other, clause by clause. Assumes nothing.
use Rattle.std.specs.Prelude.{◌≡◌, List, map, Bool, true, ◌&&◌, ◌||◌, eqb, ltb, length}
use Rattle.std.proofs.Math.Path.{refl, sym}
use Rattle.std.proofs.Common.{◌∙◌, arith, le→leb, lt→ltb}
use Rattle.std.proofs.Math.Option.{none}
use Rattle.std.proofs.Math.Bool.{not}
use Prim.Native.Nat.{ℕ, zero, suc, ◌≤◌}
use Rattle.std.proofs.Math.Dec.{leb, leb→le, ltb→lt}
use Rattle.std.specs.Float.Ieee.{is_nan}
use Rattle.steps.specs.Number.{is_finite, all_whole}
use Rattle.steps.specs.Symbol.{Symbol, is_external}
use Rattle.steps.specs.State.{Term, Basic, Variable, Constraint, State}
use Rattle.steps.specs.Changes.{member, never_reported}
use Rattle.steps.specs.Readable.{all, ascend_from, ascend, distinct, all_in, code, live, live_ids, basics, basic_ids, tags, owned, stored_terms, uses_in, numbers, counts_in_range, numbers_ascend, symbols_distinct, ids_below_next, rows_in_range, holds_no_basic, no_basic_cell, symbols_owned, uses_counted, tableau_finite, constraint_finite, edit_finite, numbers_finite, tag_kinds, marker_fits, edit_kinds, kinds_fit, cutoff_in_range, groups_fit, gone_fits, readable}
use Rattle.keeps.specs.Lists.{All, all_in_lem, all-out, all-to, all-zip, times, member-in, member-out, all_in-in, all_in-out, distinct-in, distinct-out, ascend_from-in, ascend_from-out, ascend-in, ascend-out, Up, none_of, so, truly, both, left, right}
use Rattle.keeps.specs.Along.{ids, Mem}
use Rattle.keeps.specs.Fits.{Fits, all_map}
use Rattle.keeps.specs.Codes.{codes, codes-mem, mem-codes, codes-once}
use Rattle.keeps.specs.Uses.{var_number, uses_of, uses-in, uses-out, uses-none, uses-live, uses-times}
use Rattle.keeps.specs.Waits.{Waits}
use Rattle.keeps.specs.Places.{cells_in, cells_out, along-finite, eqb-in, eqb-out}
use Rattle.keeps.specs.Clauses.{and3, and4, Clauses, clauses-in, clauses-out}
use Rattle.keeps.specs.Reads.{Reads, unmap, con_number, edit_number, tags-length, owned-total, used-total}

abbrev Shape : State → Type 0
Shape s = Fits s.tableau.symbols s.tableau.next_id s.tableau.rows s.tableau.objective none all_whole

module _ (s : State) where
  abbrev xs : List Symbol
  xs = s.tableau.symbols

  abbrev bs : List Basic
  bs = s.tableau.rows

  abbrev vs : List Variable
  vs = s.changes.variables

  -- ---- from the test

  ups-in : numbers_ascend s ≡ true → Up 0 (map var_number vs) × Up 0 (map con_number s.constraints) × Up 0 (map edit_number s.edits)
  unfolding numbers_ascend numbers
  ups-in e =
      let x = and3 (ascend (numbers s)) (ascend (map con_number s.constraints)) (ascend (map edit_number s.edits)) e in
      (ascend-in (numbers s) x.0, ascend-in (map con_number s.constraints) x.1, ascend-in (map edit_number s.edits) x.2)

  distinct-parts : symbols_distinct s ≡ true → Up 1 (ids xs) × (ascend (basic_ids s) ≡ true) × (distinct (owned s) ≡ true)
  unfolding symbols_distinct live_ids
  distinct-parts e =
      let x = and3 (ascend_from 0 (live_ids s)) (ascend (basic_ids s)) (distinct (owned s)) e in
      (ascend_from-in 0 (live_ids s) x.0, x.1, x.2)

  owner-parts : symbols_owned s ≡ true
      → (all_in (live s) (owned s) ≡ true) × (all_in (owned s) (live s) ≡ true) × (all_in (basics s) (live s) ≡ true)
  unfolding symbols_owned
  owner-parts e = and3 (all_in (live s) (owned s)) (all_in (owned s) (live s)) (all_in (basics s) (live s)) e

  live-in : all_in (basics s) (live s) ≡ true → All (λ (b : Basic). Mem b.symbol xs) bs
  unfolding basics live all_in
  live-in e =
      all-to _ _ (λ b h. codes-mem b.symbol xs (member-in (code b.symbol) (live s) h)) bs
      (unmap (λ (b : Basic). code b.symbol) _ bs (all_in_lem _ (basics s) e))

  below_in : ids_below_next s ≡ true → (1 ≤ s.tableau.next_id) × All (λ (x : Symbol). suc x.id ≤ s.tableau.next_id) xs
  unfolding ids_below_next live_ids
  below_in e = (
    ltb→lt 0 s.tableau.next_id (so (left (ltb 0 s.tableau.next_id) _ e)),
    all-to _ _ (λ x h. ltb→lt x.id s.tableau.next_id (so h)) xs
        (unmap (λ (x : Symbol). x.id) _ xs (all_in_lem _ (live_ids s) (right (ltb 0 s.tableau.next_id) _ e))),
  )

  fits_in : Clauses s → tableau_finite s ≡ true → Shape s
  unfolding no_basic_cell tableau_finite basic_ids
  fits_in c f =
      record {
        up = up;
        pos = (below_in c.below).0;
        under = (below_in c.below).1;
        rows-up = ascend-in (basic_ids s) (distinct-parts c.distincts).1;
        live = live-in (owner-parts c.owners).2;
        rows =
            all-zip (λ (b : Basic). holds_no_basic s b.row.cells ≡ true) (λ (b : Basic). (is_finite b.row.constant && all is_finite b.row.cells) ≡ true) _
            (λ b h k. ((λ g. left (is_finite b.row.constant) _ k), cells_in s Unit b.row.cells up h (right (is_finite b.row.constant) _ k))) bs
            (all_in_lem _ bs (right (holds_no_basic s s.tableau.objective) _ c.cells)) (all_in_lem _ bs (right (all is_finite s.tableau.objective) _ f));
        objective =
            cells_in s Unit s.tableau.objective up (left (holds_no_basic s s.tableau.objective) _ c.cells) (left (all is_finite s.tableau.objective) _ f);
        artificial = tt;
      }
    where
      up : Up 1 (ids xs)
      up = (distinct-parts c.distincts).0

  -- the live symbols and the owned ones are distinct, and the same
  owns-in : Clauses s → (n : ℕ) → times n (owned s) ≡ times n (codes xs)
  unfolding live
  owns-in c n =
      even (times n (owned s)) (times n (codes xs)) (distinct-in (owned s) d.2 n) (codes-once 1 n xs d.0)
      (all_in-in (owned s) (live s) o.1 n) (all_in-in (live s) (owned s) o.0 n)
    where
      d : Up 1 (ids xs) × (ascend (basic_ids s) ≡ true) × (distinct (owned s) ≡ true)
      d = distinct-parts c.distincts

      o : (all_in (live s) (owned s) ≡ true) × (all_in (owned s) (live s) ≡ true) × (all_in (basics s) (live s) ≡ true)
      o = owner-parts c.owners

      even : (x y : ℕ) → x ≤ 1 → y ≤ 1 → (1 ≤ x → 1 ≤ y) → (1 ≤ y → 1 ≤ x) → x ≡ y
      even zero y l k f g = sym (none_of y (λ h. omega (arith, g h)))
      even (suc x) y l k f g = omega (arith, f (omega arith))

  uses-all : Up 0 (map var_number vs) → uses_counted s ≡ true → (n : ℕ) → uses_of n vs ≡ uses_in n (stored_terms s)
  unfolding uses_counted numbers
  uses-all u e n = go (times n (map var_number vs)) refl
    where
      U : ℕ → ℕ
      U m = uses_in m (stored_terms s)

      counts : Bool
      counts = all (λ (v : Variable). eqb v.uses (uses_in v.number (stored_terms s))) vs

      counted : All (λ (v : Variable). v.uses ≡ U v.number) vs
      counted = all-to _ _ (λ v h. eqb-in v.uses (U v.number) h) vs (all_in_lem _ vs (left counts _ e))

      live-term : 1 ≤ times n (map (λ (t : Term). t.variable) (stored_terms s)) → 1 ≤ times n (map var_number vs)
      live-term = all_in-in (map (λ (t : Term). t.variable) (stored_terms s)) (numbers s) (right counts _ e) n

      go : (k : ℕ) → times n (map var_number vs) ≡ k → uses_of n vs ≡ U n
      go zero q = uses-none n vs q ∙ sym (none_of _ (λ l. omega (arith, q, live-term (omega (arith, uses-times n (stored_terms s))))))
      go (suc k) q = uses-in U 0 vs u counted n (omega arith)

  gone-in : gone_fits s ≡ true → Waits s.changes.gone vs
  unfolding gone_fits
  gone-in e =
      let x = and3 (leb (length s.changes.gone) 32) (ascend s.changes.gone) (all (λ (v : Variable). not (member v.number s.changes.gone) || never_reported v) vs) e in
      record { few = leb→le (length s.changes.gone) 32 (so x.0); up = ascend-in s.changes.gone x.1; returned = all_in_lem _ vs x.2 }

  pub reads_in : readable s ≡ true → Reads s
  unfolding counts_in_range rows_in_range numbers_finite kinds_fit cutoff_in_range groups_fit live_ids
  reads_in e =
      let c : Clauses s = clauses-in s e in
      let counts = and3 (leb (length vs) 32) (leb (length (tags s)) 48) (all (λ (c : Constraint). leb (length c.terms) 16) s.constraints) c.counts in
      let finite = and4 (tableau_finite s) (all (λ (v : Variable). is_finite v.old || is_nan v.old) vs) (all constraint_finite s.constraints) (all edit_finite s.edits) c.finite in
      let kinds = and4 (all (λ (v : Variable). is_external v.symbol) vs) (all (λ (c : Constraint). tag_kinds c.strength c.tag) s.constraints) (all (λ (c : Constraint). marker_fits c.comparison c.tag.marker) s.constraints) (all edit_kinds s.edits) c.kinds in
      let ups = ups-in c.ascending in
      record {
        few-variables = leb→le (length vs) 32 (so counts.0);
        few-tags = omega (arith, tags-length s, leb→le (length (tags s)) 48 (so counts.1));
        few-terms = all-to _ _ (λ c h. leb→le (length c.terms) 16 (so h)) s.constraints (all_in_lem _ s.constraints counts.2);
        variables-up = ups.0;
        constraints-up = ups.1;
        edits-up = ups.2;
        fits = fits_in c finite.0;
        few-rows = omega (arith, tags-length s, leb→le (length bs) (length (tags s)) (so c.rows));
        owns = λ n. sym (owned-total n s) ∙ owns-in c n;
        uses = λ n. uses-all ups.0 c.uses n ∙ used-total n s;
        olds = all_in_lem _ vs finite.1;
        externals = all_in_lem _ vs kinds.0;
        constraints-finite = all_in_lem _ s.constraints finite.2;
        constraint-kinds = all_in_lem _ s.constraints kinds.1;
        constraint-markers = all_in_lem _ s.constraints kinds.2;
        edits-finite = all_in_lem _ s.edits finite.3;
        edit-kinds = all_in_lem _ s.edits kinds.3;
        cutoff = c.cutoff;
        groups = all_in_lem _ s.constraints c.groups;
        waits = gone-in c.gone;
      }

  -- ---- back to the test
  module _ (r : Reads s) where
    counts-out : counts_in_range s ≡ true
    unfolding counts_in_range
    counts-out =
        both
        (both (truly (leb (length vs) 32) (le→leb (length vs) 32 r.few-variables))
        (truly (leb (length (tags s)) 48) (le→leb (length (tags s)) 48 (omega (arith, tags-length s, r.few-tags)))))
        (all-out _ s.constraints (all-to _ _ (λ c h. truly (leb (length c.terms) 16) (le→leb _ 16 h)) s.constraints r.few-terms))

    ups-out : numbers_ascend s ≡ true
    unfolding numbers_ascend numbers
    ups-out =
        both (both (ascend-out (numbers s) r.variables-up) (ascend-out (map con_number s.constraints) r.constraints-up))
        (ascend-out (map edit_number s.edits) r.edits-up)

    same-symbols : (n : ℕ) → times n (owned s) ≡ times n (codes xs)
    same-symbols n = owned-total n s ∙ r.owns n

    symbols-out : symbols_distinct s ≡ true
    unfolding symbols_distinct live_ids basic_ids
    symbols-out =
        both (both (ascend_from-out 0 (live_ids s) r.fits.up) (ascend-out (basic_ids s) r.fits.rows-up))
        (distinct-out (owned s) (λ n. omega (arith, same-symbols n, codes-once 1 n xs r.fits.up)))

    below_out : ids_below_next s ≡ true
    unfolding ids_below_next live_ids
    below_out =
        both (truly (ltb 0 s.tableau.next_id) (lt→ltb 0 _ r.fits.pos))
        (all-out _ (live_ids s)
        (all_map (λ (x : Symbol). x.id) _ xs (all-to _ _ (λ x h. truly (ltb x.id s.tableau.next_id) (lt→ltb x.id _ h)) xs r.fits.under)))

    rows_out : rows_in_range s ≡ true
    unfolding rows_in_range
    rows_out = truly (leb (length bs) (length (tags s))) (le→leb (length bs) (length (tags s)) (omega (arith, tags-length s, r.few-rows)))

    no-basic-out : no_basic_cell s ≡ true
    unfolding no_basic_cell basic_ids
    no-basic-out =
        both (cells_out s Unit s.tableau.objective r.fits.objective)
        (all-out _ bs (all-to _ _ (λ b h. cells_out s Unit b.row.cells h.1) bs r.fits.rows))

    live_out : all_in (basics s) (live s) ≡ true
    unfolding basics live all_in
    live_out =
        all-out _ (basics s) (all_map (λ (b : Basic). code b.symbol) _ bs
        (all-to _ _ (λ b m. member-out (code b.symbol) (live s) (mem-codes b.symbol xs m)) bs r.fits.live))

    owners-out : symbols_owned s ≡ true
    unfolding symbols_owned live live_ids
    owners-out =
        both (both (all_in-out (live s) (owned s) (λ n l. omega (arith, same-symbols n))) (all_in-out (owned s) (live s) (λ n l. omega (arith, same-symbols n)))) live_out

    counted-out : uses_counted s ≡ true
    unfolding uses_counted numbers
    counted-out =
        both
        (all-out _ vs (all-to _ _ (λ v h. eqb-out v.uses (uses_in v.number (stored_terms s)) h) vs
        (uses-out (λ n. uses_in n (stored_terms s)) 0 vs r.variables-up (λ n l. used n))))
        (all_in-out (map (λ (t : Term). t.variable) (stored_terms s)) (numbers s) (λ n l. uses-live n vs (omega (arith, used n, uses-times n (stored_terms s)))))
      where
        used : (n : ℕ) → uses_of n vs ≡ uses_in n (stored_terms s)
        used n = r.uses n ∙ sym (used-total n s)

    tableau-out : tableau_finite s ≡ true
    unfolding tableau_finite
    tableau-out =
        both (all-out is_finite s.tableau.objective (along-finite _ Unit tt xs s.tableau.objective r.fits.objective))
        (all-out _ bs (all-to _ _ (λ b h. both (h.0 tt) (all-out is_finite b.row.cells (along-finite _ Unit tt xs b.row.cells h.1))) bs r.fits.rows))

    finite-out : numbers_finite s ≡ true
    unfolding numbers_finite
    finite-out = both (both (both tableau-out (all-out _ vs r.olds)) (all-out _ s.constraints r.constraints-finite)) (all-out _ s.edits r.edits-finite)

    kinds-out : kinds_fit s ≡ true
    unfolding kinds_fit
    kinds-out = both (both (both (all-out _ vs r.externals) (all-out _ s.constraints r.constraint-kinds)) (all-out _ s.constraints r.constraint-markers)) (all-out _ s.edits r.edit-kinds)

    gone-out : gone_fits s ≡ true
    unfolding gone_fits
    gone-out =
        both (both (truly (leb (length s.changes.gone) 32) (le→leb (length s.changes.gone) 32 r.waits.few)) (ascend-out s.changes.gone r.waits.up))
        (all-out _ vs r.waits.returned)

    pub reads-out : readable s ≡ true
    unfolding cutoff_in_range groups_fit
    reads-out =
        clauses-out s (record {
          counts = counts-out;
          ascending = ups-out;
          distincts = symbols-out;
          below = below_out;
          rows = rows_out;
          cells = no-basic-out;
          owners = owners-out;
          uses = counted-out;
          finite = finite-out;
          kinds = kinds-out;
          cutoff = r.cutoff;
          groups = all-out _ s.constraints r.groups;
          gone = gone-out;
        })
