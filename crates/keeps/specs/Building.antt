-- Add's first step: the terms go into a row that is being built, beside a tableau that reads. Assumes nothing.
use Rattle.std.specs.Prelude.{◌≡◌, refl, ◌≢◌, List, [], ◌∷◌, map, Bool, not, ◌||◌, ℕ, ◌+◌, ◌≤◌, eqb, length, Float}
use Rattle.std.proofs.Common.{sym, ap, ◌∙◌, subst}
use Rattle.std.proofs.Math.Option.{Option, none, some}
use Rattle.std.proofs.Math.Bool.{true, false, cond}
use native.Mathlib.Omega.{arith}
use Rattle.std.proofs.lemmas.List.{length-map}
use Rattle.std.specs.Float.{nan}
use Rattle.std.specs.Float.Ieee.{is_nan, eq, ne}
use Rattle.steps.specs.Number.{is_finite, Mark, worse}
use Rattle.steps.specs.Symbol.{External, Symbol, is_external}
use Rattle.steps.specs.Row.{Row, insert_symbol_in_row, insert_row, append_cell}
use Rattle.steps.specs.State.{Basic, Variable}
use Rattle.steps.specs.Work.{Work, with_tableau, with_changes, marking, find_row, new_symbol, append_symbol}
use Rattle.steps.specs.Changes.{member, never_reported}
use Rattle.steps.specs.CreateRow.{Building, written, append_to, insert_into, keep_variable, with_variables, add_variable, use_once, insert_variable}
use Rattle.steps.specs.Readable.{code}
use Rattle.keeps.specs.Lists.{Same?, is, isnt, same, same?, total, times, up-once}
use Rattle.keeps.specs.Keys.{row_id, keep_by, find-all, find_none, keep-total, keep_all, keep-up, keep_variable-is, Row?, no_row, a-row, row?}
use Rattle.keeps.specs.Cells.{Fine, fine-l, fine-r}
use Rattle.keeps.specs.RowOps.{RowOk, row-to, insert_symbol_in_row-ok, insert_row-ok, append-ok}
use Rattle.keeps.specs.Fits.{bids, IsBasic, FitsW, fits-worse, fits-plain, fits-append, bids-rerow, fresh-row, mem-append, mem-last, all_map}
use Rattle.keeps.specs.Frame.{mark-frame}
use Rattle.keeps.specs.Codes.{codes-append}
use Rattle.keeps.specs.Uses.{var_number, uses_of, uses-hit, uses-miss}
use Rattle.keeps.specs.Waits.{Returned, Waits, waits-to}
use Rattle.keeps.specs.Reads.{var_code}
use Rattle.keeps.specs.Good.{OldOk, Vars, numbers-map, symbols-map, Good, good-frame}
use Rattle.keeps.specs.Passes.{Free}

-- a row that is being built, and the tableau; N is the number of rows
pub record Built (K U : ℕ → ℕ) (N : ℕ) (b : Building) : Type 0 where
  pub good : Good K U b.work
  pub row : RowOk (IsBasic b.work.tableau.rows) (Fine b.work.mark) b.work.tableau.symbols b.row
  pub plain : b.work.artificial ≡ none
  pub count : length b.work.tableau.rows ≡ N

-- ---- what is inserted into the row

module _ (K U : ℕ → ℕ) (N : ℕ) (b : Building) (h : Built K U N b) where
  marked : (m : Mark) → Good K U (marking m b.work)
  marked m = good-frame K U b.work (marking m b.work) h.good (unfold marking in fits-worse h.good.fits m) (mark-frame m b.work)

  pub insert_into-built : (s : ℕ) (k : Float) → times s (bids b.work.tableau.rows) ≡ 0 → Built K U N (insert_into s k b)
  unfolding insert_into written
  insert_into-built s k z =
      record {
        good = marked m;
        row =
            unfold marking in insert_symbol_in_row-ok b.work.tableau.cutoff (IsBasic b.work.tableau.rows) (Fine b.work.mark) (Fine (worse b.work.mark m))
            (fine-l b.work.mark m) b.work.tableau.symbols s k b.row (λ q. omega arith) h.row (fine-r b.work.mark m);
        plain = unfold marking in h.plain;
        count = unfold marking in h.count;
      }
    where
      m : Mark
      m = (insert_symbol_in_row b.work.tableau.cutoff s k b.work.tableau.symbols b.row).mark

  insert_row-built : (r : Row) (k : Float) → RowOk (IsBasic b.work.tableau.rows) (Fine b.work.mark) b.work.tableau.symbols r
      → Built K U N (written (insert_row b.work.tableau.cutoff r k b.row) b.work)
  unfolding written
  insert_row-built r k o =
      record {
        good = marked m;
        row =
            unfold marking in insert_row-ok b.work.tableau.cutoff (IsBasic b.work.tableau.rows) (Fine b.work.mark) (Fine (worse b.work.mark m)) (fine-l b.work.mark m)
            b.work.tableau.symbols k r b.row o h.row (fine-r b.work.mark m);
        plain = unfold marking in h.plain;
        count = unfold marking in h.count;
      }
    where
      m : Mark
      m = (insert_row b.work.tableau.cutoff r k b.row).mark

  pub insert_variable-built : (s : Symbol) (k : Float) → Built K U N (insert_variable s k b)
  unfolding insert_variable
  insert_variable-built s k = go (find_row s.id b.work.tableau.rows) (row? s.id b.work.tableau.rows)
    where
      next : Option Row → Building
      next o = elim o [ none ↦ insert_into s.id k b | some r ↦ written (insert_row b.work.tableau.cutoff r k b.row) b.work ]

      go : (o : Option Row) → Row? s.id b.work.tableau.rows o → Built K U N (next o)
      go o (no_row q) = insert_into-built s.id k (find_none row_id s.id b.work.tableau.rows q)
      go o (a-row c q) =
          insert_row-built c.row k
          (find-all row_id (λ (c : Basic). RowOk (IsBasic b.work.tableau.rows) (Fine b.work.mark) b.work.tableau.symbols c.row) s.id
          b.work.tableau.rows c q h.good.fits.rows)

-- ---- a symbol more

pub append-fits : (s : Symbol) (w : Work) → FitsW w → w.artificial ≡ none → s.id ≡ w.tableau.next_id → FitsW (append_symbol s w)
unfolding append_symbol with_tableau
append-fits s w f plain e = rw plain (fits-append s w.tableau.symbols w.tableau.next_id w.tableau.rows w.tableau.objective w.mark e (fits-plain f))

pub append-bids : (s : Symbol) (w : Work) → bids (append_symbol s w).tableau.rows ≡ bids w.tableau.rows
unfolding append_symbol with_tableau
append-bids s w = bids-rerow append_cell w.tableau.rows

pub append-count : (s : Symbol) (w : Work) → length (append_symbol s w).tableau.rows ≡ length w.tableau.rows
unfolding append_symbol with_tableau
append-count s w = length-map {B = Basic} w.tableau.rows (λ (b : Basic). record { symbol = b.symbol; row = append_cell b.row })

pub append-row : (s : Symbol) (w : Work) (r : Row) → RowOk (IsBasic w.tableau.rows) (Fine w.mark) w.tableau.symbols r
    → RowOk (IsBasic (append_symbol s w).tableau.rows) (Fine (append_symbol s w).mark) (append_symbol s w).tableau.symbols (append_cell r)
unfolding append_symbol with_tableau
append-row s w r h =
    append-ok _ (Fine w.mark) w.tableau.symbols s r
    (row-to (IsBasic w.tableau.rows) _ (Fine w.mark) (Fine w.mark) (λ i p. rw (bids-rerow append_cell) at p) (λ p. p) w.tableau.symbols r h)

-- the new symbol is live and not basic, and the others stay so
pub append-new : (s : Symbol) (w : Work) → FitsW w → s.id ≡ w.tableau.next_id → Free (append_symbol s w) s
append-new s w f e =
    record {
      live = unfold append_symbol with_tableau in mem-last s w.tableau.symbols;
      free = rw append-bids (rw e (fresh-row w.tableau.symbols w.tableau.next_id f.under w.tableau.rows f.live));
    }

pub append-free : (s x : Symbol) (w : Work) → Free w x → Free (append_symbol s w) x
append-free s x w f = record { live = unfold append_symbol with_tableau in mem-append x w.tableau.symbols (s ∷ []) f.live; free = rw append-bids f.free }

-- a symbol that K counts
pub append-built : (K U : ℕ → ℕ) (N : ℕ) (b : Building) (s : Symbol) → s.id ≡ b.work.tableau.next_id → Built K U N b
    → Built (λ n. same n (code s) + K n) U N (append_to s b)
unfolding append_to
append-built K U N b s e h =
    record {
      good =
          record {
            fits = append-fits s b.work h.good.fits h.plain e;
            C = h.good.C;
            vars = unfold append_symbol with_tableau in h.good.vars;
            owns = λ n. unfold append_symbol with_tableau in omega (arith, codes-append n b.work.tableau.symbols s, h.good.owns n);
            cutoff = unfold append_symbol with_tableau in h.good.cutoff;
            waits = unfold append_symbol with_tableau in h.good.waits;
          };
      row = append-row s b.work b.row h.row;
      plain = unfold append_symbol with_tableau in h.plain;
      count = append-count s b.work ∙ h.count;
    }

-- ---- a variable more

uses-total : (m : ℕ) (vs : List Variable) → uses_of m vs ≡ total (λ (v : Variable). cond (eqb m v.number) v.uses 0) vs
unfolding uses_of total
uses-total m [] = refl
uses-total m (v ∷ vs) = ap (λ (k : ℕ). cond (eqb m v.number) v.uses 0 + k) (uses-total m vs)

new_variable : ℕ → Symbol → Variable
new_variable n s = record { number = n; symbol = s; old = nan; uses = 0; changed = false }

new-vars : (n : ℕ) (s : Symbol) (C U : ℕ → ℕ) (vs : List Variable) → is_external s ≡ true → times n (map var_number vs) ≡ 0 → Vars C U vs
    → Vars (λ m. same m (code s) + C m) U (keep_variable (new_variable n s) vs)
unfolding new_variable
new-vars n s C U vs x z h =
    rw keep_variable-is (record {
      up = keep-up var_number 0 (new_variable n s) vs (omega arith) z h.up;
      symbols = λ m. keep-total var_number (var_code m) (new_variable n s) vs ∙ ap (λ (k : ℕ). same m (code s) + k) (h.symbols m);
      uses =
          λ m. uses-total m (keep_by var_number (new_variable n s) vs) ∙ keep-total var_number (λ (v : Variable). cond (eqb m v.number) v.uses 0)
          (new_variable n s) vs ∙ none-used m (eqb m n) ∙ sym (uses-total m vs) ∙ h.uses m;
      olds = keep_all var_number OldOk (new_variable n s) vs (unfold is_finite is_nan in refl) h.olds;
      externals = keep_all var_number (λ (v : Variable). is_external v.symbol ≡ true) (new_variable n s) vs x h.externals;
    })
  where
    none-used : (m : ℕ) (t : Bool)
        → cond t 0 0 + total (λ (v : Variable). cond (eqb m v.number) v.uses 0) vs ≡ total (λ (v : Variable). cond (eqb m v.number) v.uses 0) vs
    none-used m true = omega arith
    none-used m false = omega arith

-- one that comes has not been reported
new-waits : (n : ℕ) (s : Symbol) (gone : List ℕ) (vs : List Variable) → Waits gone vs → Waits gone (keep_variable (new_variable n s) vs)
unfolding new_variable never_reported ne eq
new-waits n s gone vs w =
    rw keep_variable-is (waits-to gone vs (keep_by var_number (new_variable n s) vs) (λ h. keep_all var_number (Returned gone) (new_variable n s) vs (by (not (member n gone))) h) w)
  where
    by : (b : Bool) → (b || true) ≡ true
    by true = refl
    by false = refl

pub add_variable-built : (K U : ℕ → ℕ) (N n : ℕ) (b : Building) → times n (map var_number b.work.changes.variables) ≡ 0 → Built K U N b → Built K U N (add_variable n b)
unfolding add_variable append_to new_symbol with_variables with_changes new_variable
add_variable-built K U N n b z h =
    record {
      good =
          record {
            fits = append-fits s b.work h.good.fits h.plain refl;
            C = λ m. same m (code s) + h.good.C m;
            vars = unfold append_symbol with_tableau in new-vars n s h.good.C U b.work.changes.variables (unfold is_external in refl) z h.good.vars;
            owns = λ m. unfold append_symbol with_tableau in omega (arith, codes-append m b.work.tableau.symbols s, h.good.owns m);
            cutoff = unfold append_symbol with_tableau in h.good.cutoff;
            waits = unfold append_symbol with_tableau in new-waits n s b.work.changes.gone b.work.changes.variables h.good.waits;
          };
      row = append-row s b.work b.row h.row;
      plain = unfold append_symbol with_tableau in h.plain;
      count = append-count s b.work ∙ h.count;
    }
  where
    s : Symbol
    s = record { id = b.work.tableau.next_id; kind = External }

-- ---- a use more

once-hit : (n : ℕ) (vs : List Variable) → uses_of n (map (use_once n) vs) ≡ times n (map var_number vs) + uses_of n vs
unfolding use_once uses_of times
once-hit n [] = refl
once-hit n (v ∷ vs) = go (same? n v.number) (once-hit n vs)
  where
    go : Same? n v.number → uses_of n (map (use_once n) vs) ≡ times n (map var_number vs) + uses_of n vs
        → uses_of n (use_once n v ∷ map (use_once n) vs) ≡ same n v.number + times n (map var_number vs) + uses_of n (v ∷ vs)
    go (is a b c) ih = uses-hit n (use_once n v) (map (use_once n) vs) a ∙ rw a (omega (arith, uses-hit n v vs a))
    go (isnt a b c) ih = uses-miss n (use_once n v) (map (use_once n) vs) a ∙ omega (arith, uses-miss n v vs a)

once-miss : (m n : ℕ) → m ≢ n → (vs : List Variable) → uses_of m (map (use_once n) vs) ≡ uses_of m vs
unfolding use_once uses_of
once-miss m n d [] = refl
once-miss m n d (v ∷ vs) = go (same? m v.number) (same? n v.number) (once-miss m n d vs)
  where
    go : Same? m v.number → Same? n v.number → uses_of m (map (use_once n) vs) ≡ uses_of m vs → uses_of m (use_once n v ∷ map (use_once n) vs) ≡ uses_of m (v ∷ vs)
    go (is a b c) (is p q r) ih = absurd (d (b ∙ sym q))
    go (is a b c) (isnt p q r) ih = uses-hit m (use_once n v) (map (use_once n) vs) a ∙ rw p (omega (arith, uses-hit m v vs a))
    go (isnt a b c) w ih = uses-miss m (use_once n v) (map (use_once n) vs) a ∙ ih ∙ sym (uses-miss m v vs a)

pub once-vars : (n : ℕ) (C U : ℕ → ℕ) (vs : List Variable) → 1 ≤ times n (map var_number vs) → Vars C U vs → Vars C (λ m. same m n + U m) (map (use_once n) vs)
unfolding use_once
once-vars n C U vs l h =
    record {
      up = rw (numbers-map (use_once n) (λ v. refl)) h.up;
      symbols = λ m. symbols-map (use_once n) (λ v. refl) m vs ∙ h.symbols m;
      uses = λ m. by m (same? m n);
      olds = all_map (use_once n) OldOk vs h.olds;
      externals = all_map (use_once n) (λ (v : Variable). is_external v.symbol ≡ true) vs h.externals;
    }
  where
    by : (m : ℕ) → Same? m n → uses_of m (map (use_once n) vs) ≡ same m n + U m
    by m (is a b c) =
        omega (
          arith,
          c,
          h.uses m,
          subst (λ (k : ℕ). uses_of k (map (use_once n) vs) ≡ times k (map var_number vs) + uses_of k vs) (sym b) (once-hit n vs),
          subst
              (λ (k : ℕ). 1 ≤ times k (map var_number vs)) (sym b) l,
          up-once 0 m (map var_number vs) h.up,
        )
    by m (isnt a b c) = omega (arith, c, h.uses m, once-miss m n b vs)

pub once-waits : (n : ℕ) (gone : List ℕ) (vs : List Variable) → Waits gone vs → Waits gone (map (use_once n) vs)
unfolding use_once never_reported
once-waits n gone vs w = waits-to gone vs (map (use_once n) vs) (λ h. all_map (use_once n) (Returned gone) vs h) w
