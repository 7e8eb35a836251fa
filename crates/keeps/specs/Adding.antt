-- Add's steps 5 to 7, with a subject or with the temporary slack: the tableau reads on, with at most one row more. Assumes nothing.
use Rattle.std.specs.Prelude.{◌≡◌, ◌≢◌, List, [], ◌∷◌, ◌++◌, Bool, Float}
use Rattle.std.proofs.Math.Path.{refl, ap}
use Rattle.std.proofs.Common.{sym, ◌∙◌, arith}
use Rattle.std.proofs.Math.Option.{Option, none, some}
use Rattle.std.proofs.Math.Bool.{true, false}
use Prim.Native.Nat.{ℕ, suc, ◌+◌, ◌-◌, ◌≤◌, ◌<◌}
use Rattle.std.proofs.Math.ListN.{length}
use Rattle.std.proofs.lemmas.List.{length-map}
use Rattle.steps.specs.Number.{zero64, near_zero, is_finite, Mark, worse, whole_if}
use Rattle.steps.specs.Symbol.{Slack, Symbol, is_pivotable, holds}
use Rattle.steps.specs.Row.{Row, Written, solve_for_symbol, append_cell}
use Rattle.steps.specs.State.{Term, Relation, Basic}
use Rattle.steps.specs.Work.{Work, Outcome, refused, going, ◌>>=◌, refuse, check_finite, with_tableau, with_rows, with_artificial, marking, find_row, keep_row, new_symbol, append_symbol, purge}
use Rattle.steps.specs.CreateRow.{Created, append_to, create_row, choose_subject, all_dummies}
use Rattle.steps.specs.Substitute.{enter_basis, pivot}
use Rattle.steps.specs.Optimise.{optimise, the_objective, the_artificial}
use Rattle.steps.specs.Artificial.{any_pivotable_symbol, is_empty_row, stand_temporary, remove_temporary, artificial_constant_near_zero, add_with_artificial_variable}
use Rattle.steps.specs.Add.{whole_inputs, add_with_subject, add_created, Added, add_steps}
use Rattle.steps.specs.Tests.{kept_terms, new_variables}
use Rattle.steps.specs.Readable.{code, uses_in}
use Rattle.keeps.specs.Lists.{All, all-to, Same?, is, isnt, same, same?, times}
use Rattle.keeps.specs.Keys.{row_id, find-all, keep-length, keep_row-is, Row?, no_row, a-row, row?}
use Rattle.keeps.specs.Along.{Along, along-append, first-chosen}
use Rattle.keeps.specs.Cells.{Ok, Fine, fine-l, fine-r, ok-zero, holds-held}
use Rattle.keeps.specs.RowOps.{RowOk, solve_for_symbol-ok}
use Rattle.keeps.specs.Fits.{bids, IsBasic, Fits, FitsW, fits-worse, fits-plain, fits-append, fits-keep, bids-rerow, rerow, all_map, mem-last, fresh-row}
use Rattle.keeps.specs.Frame.{Frame, frame-trans, mark-frame, enter-frame, enter-count}
use Rattle.keeps.specs.Pivots.{enter-fits}
use Rattle.keeps.specs.Codes.{codes-append}
use Rattle.keeps.specs.Passes.{Ends, ends-bind, ends-to, check-ends, After, Free, held-free, pivot-ends, optimise-ends}
use Rattle.keeps.specs.Reads.{tag_code}
use Rattle.keeps.specs.Good.{Good, good-frame, clear-length}
use Rattle.keeps.specs.Fallen.{purge-shrunk, purge-good}
use Rattle.keeps.specs.Creating.{Tagged, create_row-tagged, subject-free}

-- at most R rows, L variables, no artificial objective
pub record Stands (K U : ℕ → ℕ) (R L : ℕ) (v : Work) : Type 0 where
  pub good : Good K U v
  pub fine : Fine v.mark
  pub plain : v.artificial ≡ none
  pub rows : length v.tableau.rows ≤ R
  pub size : length v.changes.variables ≡ L

stands_after : (K U : ℕ → ℕ) (R L : ℕ) (w v : Work) → Stands K U R L w → After w v → Stands K U R L v
stands_after K U R L w v s a =
    record {
      good = good-frame K U w v s.good a.fits a.frame;
      fine = a.fine;
      plain = a.frame.plain s.plain;
      rows = omega (arith, a.count, s.rows);
      size = clear-length w.changes.variables v.changes.variables a.frame.variables ∙ s.size;
    }

-- ---- step 5

-- a row solved for a free symbol enters
pub subject-fits : (s : Symbol) (r : Row) (w : Work) → FitsW w → RowOk (IsBasic w.tableau.rows) (Fine w.mark) w.tableau.symbols r → Free w s
    → FitsW (enter_basis s (solve_for_symbol s.id w.tableau.symbols r).row (marking (solve_for_symbol s.id w.tableau.symbols r).mark w))
unfolding marking
subject-fits s r w fits h f =
    enter-fits s solved.row (marking solved.mark w) (fits-worse fits solved.mark) f.free f.live C old (λ i p. p)
    (solve_for_symbol-ok (IsBasic bs) C (Fine w.mark) (Fine (worse w.mark solved.mark)) (fine-l w.mark solved.mark) 1
    w.tableau.symbols fits.up s.id old r h (fine-r w.mark solved.mark))
  where
    solved : Written
    solved = solve_for_symbol s.id w.tableau.symbols r

    bs : List Basic
    bs = w.tableau.rows

    C : ℕ → Type 0
    C i = 1 ≤ same i s.id + times i (bids bs)

    old : (i : ℕ) → C i → s.id ≢ i → IsBasic bs i
    old i p n = by (same? i s.id)
      where
        by : Same? i s.id → IsBasic bs i
        by (is a b d) = absurd (n (sym b))
        by (isnt a b d) = omega (arith, p)

module _ (K U : ℕ → ℕ) (N L : ℕ) (c : Created) (h : Tagged K U N L c) where
  subject-ends : (s : Symbol) → Free c.work s → Ends (Stands (λ n. tag_code n c.tag + K n) U (suc N) L) (add_with_subject s c)
  unfolding add_with_subject
  subject-ends s f =
      check-ends _ (enter_basis s solved.row w) (λ m. record {
        good = good-frame _ U c.work (enter_basis s solved.row w) h.good (subject-fits s c.row c.work h.good.fits h.row f) frame;
        fine = m;
        plain = frame.plain h.plain;
        rows = omega (arith, enter-count s solved.row w, marked, h.count);
        size = clear-length c.work.changes.variables _ frame.variables ∙ h.size;
      })
    where
      solved : Written
      solved = solve_for_symbol s.id c.work.tableau.symbols c.row

      w : Work
      w = marking solved.mark c.work

      marked : length w.tableau.rows ≡ length c.work.tableau.rows
      marked = unfold marking in refl

      frame : Frame c.work (enter_basis s solved.row w)
      frame = frame-trans (mark-frame solved.mark c.work) (enter-frame s solved.row w)

-- ---- step 6: the temporary comes

-- all places are of symbols below t
below-ok : (B C : ℕ → Type 0) (G : Type 0) (t : ℕ) → ((i : ℕ) → i < t → C i → B i) → (xs : List Symbol) (cs : List Float) → All (λ (x : Symbol). x.id < t) xs
    → Along (Ok B G) xs cs → Along (Ok C G) xs cs
below-ok B C G t f [] [] u h = tt
below-ok B C G t f [] (c ∷ cs) u h = absurd h
below-ok B C G t f (x ∷ xs) [] u h = absurd h
below-ok B C G t f (x ∷ xs) (c ∷ cs) u h = (((λ p. h.0.0 (f x.id u.0 p)), h.0.1), below-ok B C G t f xs cs u.1 h.1)

stand-fits : (t : Symbol) (r : Row) (xs : List Symbol) (next : ℕ) (bs : List Basic) (os : List Float) (m : Mark) → t.id ≡ next → Fits xs next bs os none m
    → RowOk (IsBasic bs) (Fine m) xs r
    → Fits (xs ++ (t ∷ [])) (suc next) (keep_row (record { symbol = t; row = append_cell r }) (rerow append_cell bs)) (os ++ (zero64 ∷ [])) (some (append_cell r)) m
unfolding append_cell
stand-fits t r xs next bs os m e f h =
    fits-keep t (append_cell r) (xs ++ (t ∷ [])) (suc next) (rerow append_cell bs) (os ++ (zero64 ∷ [])) (some (append_cell r)) m (mem-last t xs)
    (rw bids-rerow (rw e (fresh-row xs next f.under bs f.live))) g.up g.pos g.under g.rows-up g.live C (λ i p. rw (bids-rerow append_cell) at p)
    (row r h) (all_map _ _ bs (all-to _ _ (λ b k. row b.row k) bs f.rows)) (place os f.objective) (row r h)
  where
    g : Fits (xs ++ (t ∷ [])) (suc next) (rerow append_cell bs) (os ++ (zero64 ∷ [])) none m
    g = fits-append t xs next bs os m e f

    C : ℕ → Type 0
    C i = 1 ≤ same i t.id + times i (bids bs)

    old : (i : ℕ) → i < next → C i → IsBasic bs i
    old i l p = by (same? i t.id)
      where
        by : Same? i t.id → IsBasic bs i
        by (is a b d) = absurd (omega (arith, l, b, e))
        by (isnt a b d) = omega (arith, p)

    place : (cs : List Float) → Along (Ok (IsBasic bs) (Fine m)) xs cs → Along (Ok C (Fine m)) (xs ++ (t ∷ [])) (cs ++ (zero64 ∷ []))
    place cs k = along-append (Ok C (Fine m)) xs cs t zero64 (below-ok (IsBasic bs) C (Fine m) next old xs cs f.under k) (ok-zero C (Fine m) t.id)

    row : (r : Row) → RowOk (IsBasic bs) (Fine m) xs r → RowOk C (Fine m) (xs ++ (t ∷ [])) (append_cell r)
    row r k = (k.0, place r.cells k.1)

pub temporary-fits : (w : Work) (r : Row) → FitsW w → RowOk (IsBasic w.tableau.rows) (Fine w.mark) w.tableau.symbols r
    → FitsW (stand_temporary (new_symbol Slack w) (record { work = w; row = r }))
unfolding stand_temporary append_to new_symbol append_symbol with_artificial with_rows with_tableau
temporary-fits w r f h =
    stand-fits (new_symbol Slack w) r w.tableau.symbols w.tableau.next_id w.tableau.rows w.tableau.objective w.mark refl (fits-plain f) h

-- ---- and goes

remove_temporary-ends : (K U : ℕ → ℕ) (R L : ℕ) (t : Symbol) (w : Work) → Stands (λ n. same n (code t) + K n) U R L w → Ends (Stands K U R L) (remove_temporary t w)
unfolding remove_temporary refuse
remove_temporary-ends K U R L t w s = go (find_row t.id bs) (row? t.id bs)
  where
    bs : List Basic
    bs = w.tableau.rows

    gone : (v : Work) → Stands (λ n. same n (code t) + K n) U R L v → Stands K U R L (purge t.id v)
    gone v s =
        record {
          good = purge-good t (λ n. same n (code t) + K n) K U v s.good s.plain (λ n. refl);
          fine = rw (purge-shrunk t.id v).mark s.fine;
          plain = (purge-shrunk t.id v).plain ∙ s.plain;
          rows = omega (arith, (purge-shrunk t.id v).rows, s.rows);
          size = unfold purge with_tableau in s.size;
        }

    pivoted : Symbol → Outcome Work
    pivoted e = check_finite (pivot t.id e w) >>= λ v. going (purge t.id v)

    by : (r : Row) → RowOk (IsBasic bs) (Fine w.mark) w.tableau.symbols r → (b : Bool) (o : Option Symbol) → any_pivotable_symbol r w ≡ o
        → Ends (Stands K U R L) (elim b [ true ↦ going (purge t.id w) | false ↦ elim o [ none ↦ refused 12 w.pivots w.mark | some e ↦ pivoted e ] ])
    by r k true o q = gone w s
    by r k false none q = tt
    by r k false (some e) q =
        ends-bind (After w) (Stands K U R L) (check_finite (pivot t.id e w)) (λ v. going (purge t.id v)) (pivot-ends t.id e w s.good.fits free)
        (λ v a. gone v (stands_after (λ n. same n (code t) + K n) U R L w v s a))
      where
        free : Free w e
        free =
            held-free w (Fine w.mark) holds holds-held e
            (first-chosen _ is_pivotable holds w.tableau.symbols r.cells e k.1 (unfold any_pivotable_symbol in q))

    next : Option Row → Outcome Work
    next o =
        elim o [
          | none ↦ going (purge t.id w)
          | some r ↦ elim (is_empty_row r w) [
            | true ↦ going (purge t.id w)
            | false ↦ elim (any_pivotable_symbol r w) [ none ↦ refused 12 w.pivots w.mark | some e ↦ pivoted e ]
          ]
        ]

    go : (o : Option Row) → Row? t.id bs o → Ends (Stands K U R L) (next o)
    go o (no_row q) = gone w s
    go o (a-row b q) =
        by b.row (find-all row_id (λ (b : Basic). RowOk (IsBasic bs) (Fine w.mark) w.tableau.symbols b.row) t.id bs b q s.good.fits.rows)
        (is_empty_row b.row w) (any_pivotable_symbol b.row w) refl

-- ---- steps 5 and 6

module _ (K U : ℕ → ℕ) (N L : ℕ) (c : Created) (h : Tagged K U N L c) (fine : Fine c.work.mark) where
  abbrev Tags : ℕ → ℕ
  Tags n = tag_code n c.tag + K n

  -- the temporary slack, and the work with it
  temporary : Symbol
  temporary = new_symbol Slack c.work

  standing : Work
  standing = stand_temporary temporary (record { work = c.work; row = c.row })

  standing-fits : FitsW standing
  unfolding standing temporary
  standing-fits = temporary-fits c.work c.row h.good.fits h.row

  standing-good : Good (λ n. same n (code temporary) + Tags n) U standing
  unfolding standing stand_temporary append_to append_symbol with_artificial with_rows with_tableau
  standing-good =
      record {
        fits = standing-fits;
        C = h.good.C;
        vars = h.good.vars;
        owns = λ n. omega (arith, codes-append n c.work.tableau.symbols temporary, h.good.owns n);
        cutoff = h.good.cutoff;
        waits = h.good.waits;
      }

  standing-count : length standing.tableau.rows ≡ suc N
  unfolding standing stand_temporary append_to append_symbol with_artificial with_rows with_tableau
  standing-count =
      ap length (keep_row-is _ (rerow append_cell c.work.tableau.rows)) ∙ keep-length row_id _ (rerow append_cell c.work.tableau.rows) ∙ ap suc
      (length-map {B = Basic} c.work.tableau.rows (λ (b : Basic). record { symbol = b.symbol; row = append_cell b.row }) ∙ h.count)

  artificial-ends : (budget : ℕ) → Ends (Stands Tags U (suc N) L) (add_with_artificial_variable budget c)
  unfolding add_with_artificial_variable refuse temporary standing
  artificial-ends budget =
      ends-bind (After standing) (Stands Tags U (suc N) L) (optimise (budget - standing.pivots) the_artificial standing)
      (λ w. elim (artificial_constant_near_zero w) [ false ↦ refused 12 w.pivots w.mark | true ↦ remove_temporary temporary (with_artificial none w) ])
      (optimise-ends (budget - standing.pivots) the_artificial standing standing-fits still) (λ w a. by w a (artificial_constant_near_zero w))
    where
      still : Fine standing.mark
      still = unfold stand_temporary append_to append_symbol with_artificial with_rows with_tableau in fine

      sized : length standing.changes.variables ≡ L
      sized = unfold stand_temporary append_to append_symbol with_artificial with_rows with_tableau in h.size

      plain : (w : Work) → After standing w → Stands (λ n. same n (code temporary) + Tags n) U (suc N) L (with_artificial none w)
      plain w a =
          let g : Good (λ n. same n (code temporary) + Tags n) U w = good-frame _ U standing w standing-good a.fits a.frame in
          unfold with_artificial in
          record {
            good = record {
              fits = fits-plain g.fits;
              C = g.C;
              vars = g.vars;
              owns = g.owns;
              cutoff = g.cutoff;
              waits = g.waits;
            };
            fine = a.fine;
            plain = refl;
            rows = omega (arith, a.count, standing-count);
            size = clear-length standing.changes.variables w.changes.variables a.frame.variables ∙ sized;
          }

      by : (w : Work) → After standing w → (b : Bool)
          → Ends (Stands Tags U (suc N) L) (elim b [ false ↦ refused 12 w.pivots w.mark | true ↦ remove_temporary temporary (with_artificial none w) ])
      by w a false = tt
      by w a true = remove_temporary-ends Tags U (suc N) L temporary (with_artificial none w) (plain w a)

  created-ends : (budget : ℕ) → Ends (Stands Tags U (suc N) L) (add_created budget c)
  unfolding add_created refuse
  created-ends budget = go (choose_subject c) refl
    where
      rest : Outcome Work
      rest =
          elim (all_dummies c) [
            | false ↦ add_with_artificial_variable budget c
            | true ↦ elim (near_zero c.work.tableau.cutoff c.row.constant) [ false ↦ refused 12 c.work.pivots c.work.mark | true ↦ add_with_subject c.tag.marker c ]
          ]

      by : (d z : Bool)
          → Ends (Stands Tags U (suc N) L) (elim d [ false ↦ add_with_artificial_variable budget c | true ↦ elim z [ false ↦ refused 12 c.work.pivots c.work.mark | true ↦ add_with_subject c.tag.marker c ] ])
      by false z = artificial-ends budget
      by true false = tt
      by true true = subject-ends K U N L c h c.tag.marker h.marker

      go : (o : Option Symbol) → choose_subject c ≡ o → Ends (Stands Tags U (suc N) L) (elim o [ some s ↦ add_with_subject s c | none ↦ rest ])
      go (some s) e = subject-ends K U N L c h s (subject-free K U N L c h s e)
      go none e = by (all_dummies c) (near_zero c.work.tableau.cutoff c.row.constant)

-- ---- Add's steps

-- the tag is the created row's
pub record AddedOk (K U : ℕ → ℕ) (R L : ℕ) (c : Created) (a : Added) : Type 0 where
  pub stands : Stands (λ n. tag_code n c.tag + K n) U R L a.work
  pub tag : a.tag ≡ c.tag

pub add-ends : (budget : ℕ) (terms : List Term) (constant : Float) (r : Relation) (K U : ℕ → ℕ) (w : Work) → Good K U w → w.artificial ≡ none → is_finite constant ≡ true
    → Ends (AddedOk K (λ m. uses_in m (kept_terms w.tableau.cutoff terms) + U m) (suc (length w.tableau.rows))
    (length w.changes.variables + length (new_variables w.changes.variables [] (kept_terms w.tableau.cutoff terms)))
    (create_row terms constant r (marking (whole_if (whole_inputs terms constant r)) w)))
    (add_steps budget terms constant r w)
unfolding add_steps
add-ends budget terms constant r K U w g plain fin =
    ends-bind S (AddedOk K W R L c) (check_finite c.work >>= (λ _. add_created budget c) >>= (λ v. optimise (budget - v.pivots) the_objective v))
    (λ v. going (record { work = v; tag = c.tag }))
    (ends-bind S S (check_finite c.work >>= (λ _. add_created budget c)) (λ v. optimise (budget - v.pivots) the_objective v)
    (ends-bind (λ _. Fine c.work.mark) S (check_finite c.work) (λ _. add_created budget c) (check-ends _ c.work (λ m. m))
    (λ v m. created-ends K W (length w.tableau.rows) L c made m budget))
    (λ v s. ends-to (After v) S (optimise (budget - v.pivots) the_objective v) (optimise-ends (budget - v.pivots) the_objective v s.good.fits s.fine)
    (λ u a. stands_after _ W R L v u s a)))
    (λ v s. record { stands = s; tag = refl })
  where
    mark : Mark
    mark = whole_if (whole_inputs terms constant r)

    c : Created
    c = create_row terms constant r (marking mark w)

    W : ℕ → ℕ
    W m = uses_in m (kept_terms w.tableau.cutoff terms) + U m

    R : ℕ
    R = suc (length w.tableau.rows)

    L : ℕ
    L = length w.changes.variables + length (new_variables w.changes.variables [] (kept_terms w.tableau.cutoff terms))

    S : Work → Type 0
    S = Stands (λ n. tag_code n c.tag + K n) W R L

    made : Tagged K W (length w.tableau.rows) L c
    made =
        unfold marking in create_row-tagged K U terms constant r (marking mark w)
        (good-frame K U w (marking mark w) g (fits-worse g.fits mark) (mark-frame mark w)) plain fin
