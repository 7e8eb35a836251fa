-- "Use counts fall; a variable at zero goes with its row and cells": what is left reads with one use less. Assumes nothing.
use Rattle.std.specs.Prelude.{◌≡◌, refl, List, [], ◌∷◌, ◌++◌, map, Bool, true, false, cond, ℕ, suc, ◌+◌, ◌-◌, ◌≤◌, eqb, length}
use Rattle.std.proofs.Common.{sym, ap, ap₂, ◌∙◌, subst, arith}
use Rattle.std.proofs.Math.Option.{Option, none, some}
use Rattle.std.proofs.lemmas.List.{length-map}
use Rattle.steps.specs.Symbol.{Symbol, is_symbol, delete_symbol, delete_cell}
use Rattle.steps.specs.Row.{Row}
use Rattle.steps.specs.State.{Term, Basic, Variable}
use Rattle.steps.specs.Work.{Work, with_tableau, with_changes, drop_row, purge}
use Rattle.steps.specs.Changes.{with_flag, clear_changed, keep_number, never_reported, tell_gone}
use Rattle.steps.specs.CreateRow.{with_variables}
use Rattle.steps.specs.Remove.{Fallen, use_less, lose, drop_use, drop_uses}
use Rattle.steps.specs.Tests.{goes_with, makes_entry, entries_made}
use Rattle.steps.specs.Readable.{code, uses_in}
use Rattle.keeps.specs.Lists.{All, Same?, is, isnt, same, same?, total, times, Up, up_from, up_none, none≢some}
use Rattle.keeps.specs.Along.{ids}
use Rattle.keeps.specs.Fits.{FitsW, fits-plain, fits-purge}
use Rattle.keeps.specs.Frame.{Frame}
use Rattle.keeps.specs.Codes.{codes, codes-mem, codes-delete}
use Rattle.keeps.specs.Uses.{var_number, uses_of, uses-hit, uses-miss, uses-none}
use Rattle.keeps.specs.Waits.{Returned, Waits, waits-to, waits-told, gone_after, gone-number, entries-fall, entries_by, keep-number-up}
use Rattle.keeps.specs.Reads.{var_code}
use Rattle.keeps.specs.Places.{eqb-in}
use Rattle.keeps.specs.Good.{OldOk, Vars, Good, good-to}

-- ---- one use of the variable n less

abbrev gone_code : ℕ → Option Variable → ℕ
gone_code m none = 0
gone_code m (some v) = var_code m v

fewer : Variable → Variable
fewer v = record { number = v.number; symbol = v.symbol; old = v.old; uses = v.uses - 1; changed = v.changed }

-- the variable at the head is n
hit : Bool → Variable → List Variable → Fallen
hit t v vs = elim t [ true ↦ record { variables = vs; gone = some v } | false ↦ record { variables = fewer v ∷ vs; gone = none } ]

less-up : (n i : ℕ) (vs : List Variable) → Up i (map var_number vs) → Up i (map var_number (use_less n vs).variables)
unfolding use_less hit fewer
less-up n i [] u = tt
less-up n i (v ∷ vs) u = go (eqb n v.number) (eqb v.uses 1) (less-up n (suc v.number) vs u.1)
  where
    go : (t r : Bool) → Up (suc v.number) (map var_number (use_less n vs).variables)
        → Up i (map var_number
        (elim t as (λ _. Fallen) [ false ↦ record { variables = v ∷ (use_less n vs).variables; gone = (use_less n vs).gone } | true ↦ hit r v vs ]).variables)
    go false r ih = (u.0, ih)
    go true true ih = up_from i (suc v.number) (map var_number vs) (omega (arith, u.0)) u.1
    go true false ih = u

less-length : (n : ℕ) (vs : List Variable) → length (use_less n vs).variables ≤ length vs
unfolding use_less hit fewer
less-length n [] = omega arith
less-length n (v ∷ vs) = go (eqb n v.number) (eqb v.uses 1) (less-length n vs)
  where
    go : (t r : Bool) → length (use_less n vs).variables ≤ length vs
        → length (elim t as (λ _. Fallen) [ false ↦ record { variables = v ∷ (use_less n vs).variables; gone = (use_less n vs).gone } | true ↦ hit r v vs ]).variables ≤ suc (length vs)
    go false r ih = omega arith
    go true true ih = omega arith
    go true false ih = omega arith

less-codes : (n m : ℕ) (vs : List Variable) → total (var_code m) vs ≡ gone_code m (use_less n vs).gone + total (var_code m) (use_less n vs).variables
unfolding use_less hit fewer total
less-codes n m [] = refl
less-codes n m (v ∷ vs) = go (eqb n v.number) (eqb v.uses 1) (less-codes n m vs)
  where
    after : Bool → Bool → Fallen
    after t r = elim t [ false ↦ record { variables = v ∷ (use_less n vs).variables; gone = (use_less n vs).gone } | true ↦ hit r v vs ]

    go : (t r : Bool) → total (var_code m) vs ≡ gone_code m (use_less n vs).gone + total (var_code m) (use_less n vs).variables
        → var_code m v + total (var_code m) vs ≡ gone_code m (after t r).gone + total (var_code m) (after t r).variables
    go false r ih = omega arith
    go true true ih = refl
    go true false ih = omega arith

less-all : (P : Variable → Type 0) → ((v : Variable) → P v → P (fewer v)) → (n : ℕ) (vs : List Variable) → All P vs → All P (use_less n vs).variables
unfolding use_less hit fewer
less-all P f n [] h = tt
less-all P f n (v ∷ vs) h = go (eqb n v.number) (eqb v.uses 1) (less-all P f n vs h.1)
  where
    after : Bool → Bool → Fallen
    after t r = elim t [ false ↦ record { variables = v ∷ (use_less n vs).variables; gone = (use_less n vs).gone } | true ↦ hit r v vs ]

    go : (t r : Bool) → All P (use_less n vs).variables → All P (after t r).variables
    go false r ih = (h.0, ih)
    go true true ih = h.1
    go true false ih = (f v h.0, h.1)

less-uses : (n m i : ℕ) (vs : List Variable) → Up i (map var_number vs) → 1 ≤ uses_of n vs → uses_of m vs ≡ same m n + uses_of m (use_less n vs).variables
unfolding use_less hit fewer uses_of
less-uses n m i [] u l = absurd (omega arith)
less-uses n m i (v ∷ vs) u l = go (same? n v.number) (same? m v.number) (same? m n) (eqb v.uses 1) refl (less-uses n m (suc v.number) vs u.1)
  where
    after : Bool → Bool → Fallen
    after t r = elim t [ false ↦ record { variables = v ∷ (use_less n vs).variables; gone = (use_less n vs).gone } | true ↦ hit r v vs ]

    go : Same? n v.number → Same? m v.number → Same? m n → (r : Bool) → eqb v.uses 1 ≡ r
        → (1 ≤ uses_of n vs → uses_of m vs ≡ same m n + uses_of m (use_less n vs).variables)
        → uses_of m (v ∷ vs) ≡ same m n + uses_of m (after (eqb n v.number) r).variables
    go (isnt a b c) (is d e f) (is p q s) r w ih = absurd (b (sym q ∙ e))
    go (isnt a b c) (is d e f) (isnt p q s) r w ih =
        rw a (omega (arith, uses-hit m v vs d, uses-hit m v (use_less n vs).variables d, ih (omega (arith, uses-miss n v vs a))))
    go (isnt a b c) (isnt d e f) k r w ih = rw a (omega (arith, uses-miss m v vs d, uses-miss m v (use_less n vs).variables d, ih (omega (arith, uses-miss n v vs a))))
    go (is a b c) (is d e f) (isnt p q s) r w ih = absurd (q (e ∙ sym b))
    go (is a b c) (isnt d e f) (is p q s) r w ih = absurd (e (q ∙ b))
    go (is a b c) (is d e f) (is p q s) true w ih = rw a (omega (arith, uses-hit m v vs d, eqb-in v.uses 1 w))
    go (is a b c) (is d e f) (is p q s) false w ih =
        rw a (omega (
          arith,
          uses-hit m v vs d,
          uses-hit m (fewer v) vs d,
          uses-hit n v vs a,
          uses-none n vs
              (up_none (suc v.number) n (map var_number vs) (omega arith) u.1),
        ))
    go (is a b c) (isnt d e f) (isnt p q s) true w ih = rw a (omega (arith, uses-miss m v vs d))
    go (is a b c) (isnt d e f) (isnt p q s) false w ih = rw a (omega (arith, uses-miss m v vs d, uses-miss m (fewer v) vs d))

-- none of the number is left of a variable that goes
less-gone : (n i : ℕ) (vs : List Variable) (v : Variable) → Up i (map var_number vs) → (use_less n vs).gone ≡ some v → times n (map var_number (use_less n vs).variables) ≡ 0
unfolding use_less hit fewer times
less-gone n i [] v u e = absurd (none≢some e)
less-gone n i (x ∷ vs) v u e = go (same? n x.number) (eqb x.uses 1) e (less-gone n (suc x.number) vs v u.1)
  where
    after : Bool → Bool → Fallen
    after t r = elim t [ false ↦ record { variables = x ∷ (use_less n vs).variables; gone = (use_less n vs).gone } | true ↦ hit r x vs ]

    go : Same? n x.number → (r : Bool) → (after (eqb n x.number) r).gone ≡ some v → ((use_less n vs).gone ≡ some v → times n (map var_number (use_less n vs).variables) ≡ 0)
        → times n (map var_number (after (eqb n x.number) r).variables) ≡ 0
    go (isnt a b c) r e ih = rw a (omega (arith, c, ih (rw a at e)))
    go (is a b c) true e ih = rw a (up_none (suc x.number) n (map var_number vs) (omega (arith, b)) u.1)
    go (is a b c) false e ih = absurd (none≢some (rw a at e))

-- ---- a symbol goes, and its row, place and cells

pub purge-owns : (s : Symbol) (E : ℕ → ℕ) (xs : List Symbol) → Up 1 (ids xs) → ((n : ℕ) → same n (code s) + E n ≡ times n (codes xs)) → (n : ℕ)
    → E n ≡ times n (codes (delete_symbol s.id xs))
purge-owns s E xs u h n = omega (arith, h n, codes-delete n 1 s xs u (codes-mem s xs (here (same? (code s) (code s)))))
  where
    here : Same? (code s) (code s) → 1 ≤ times (code s) (codes xs)
    here (is a b c) = omega (arith, h (code s))
    here (isnt a b c) = absurd (b refl)

-- what a purge and its like leave: no more rows, no more variables, the mark
pub record Shrunk (w v : Work) : Type 0 where
  pub rows : length v.tableau.rows ≤ length w.tableau.rows
  pub variables : length v.changes.variables ≤ length w.changes.variables
  pub mark : v.mark ≡ w.mark
  pub plain : v.artificial ≡ w.artificial

pub shrunk-refl : (w : Work) → Shrunk w w
shrunk-refl w = record { rows = omega arith; variables = omega arith; mark = refl; plain = refl }

pub shrunk-trans : {w v u : Work} → Shrunk w v → Shrunk v u → Shrunk w u
shrunk-trans a b = record { rows = omega arith; variables = omega arith; mark = b.mark ∙ a.mark; plain = b.plain ∙ a.plain }

pub drop_row-length : (n : ℕ) (bs : List Basic) → length (drop_row n bs) ≤ length bs
unfolding drop_row
drop_row-length n [] = omega arith
drop_row-length n (b ∷ bs) = go (is_symbol n b.symbol) (drop_row-length n bs)
  where
    go : (t : Bool) → length (drop_row n bs) ≤ length bs → length {A = Basic} (elim t [ true ↦ bs | false ↦ b ∷ drop_row n bs ]) ≤ suc (length bs)
    go true ih = omega arith
    go false ih = omega arith

pub purge-shrunk : (s : ℕ) (w : Work) → Shrunk w (purge s w)
unfolding purge with_tableau
purge-shrunk s w =
    record {
      rows = omega (
        arith,
        length-map {B = Basic} (drop_row s w.tableau.rows) (λ (b : Basic). record { symbol = b.symbol; row = cut b.row }),
        drop_row-length s
            w.tableau.rows,
      );
      variables = omega arith;
      mark = refl;
      plain = refl;
    }
  where
    cut : Row → Row
    cut r = record { constant = r.constant; cells = delete_cell s w.tableau.symbols r.cells }

pub purge-fits : (s : ℕ) (w : Work) → FitsW w → w.artificial ≡ none → FitsW (purge s w)
unfolding purge with_tableau
purge-fits s w f plain = rw plain (fits-purge s w.tableau.symbols w.tableau.next_id w.tableau.rows w.tableau.objective w.mark (fits-plain f))

pub purge-good : (s : Symbol) (K L U : ℕ → ℕ) (w : Work) → Good K U w → w.artificial ≡ none → ((n : ℕ) → K n ≡ same n (code s) + L n) → Good L U (purge s.id w)
purge-good s K L U w g plain h =
    record {
      fits = purge-fits s.id w g.fits plain;
      C = g.C;
      vars = unfold purge with_tableau in g.vars;
      owns = unfold purge with_tableau in purge-owns s (λ n. g.C n + L n) w.tableau.symbols g.fits.up (λ n. omega (arith, g.owns n, h n));
      cutoff = unfold purge with_tableau in g.cutoff;
      waits = unfold purge with_tableau in g.waits;
    }

-- ---- no more rows, whatever falls

lose-shrunk : (v : Variable) (w : Work) → Shrunk w (lose v w)
unfolding lose tell_gone with_changes
lose-shrunk v w = shrunk-trans (record { rows = omega arith; variables = omega arith; mark = refl; plain = refl }) (purge-shrunk v.symbol.id (with_changes (tell_gone v w.changes) w))

drop_use-shrunk : (t : Term) (w : Work) → Shrunk w (drop_use t w)
unfolding drop_use with_variables with_changes
drop_use-shrunk t w = go (use_less t.variable w.changes.variables).gone
  where
    left : Work
    left = with_variables (use_less t.variable w.changes.variables).variables w

    shrunk : Shrunk w left
    shrunk = record { rows = omega arith; variables = less-length t.variable w.changes.variables; mark = refl; plain = refl }

    go : (o : Option Variable) → Shrunk w (elim o [ none ↦ left | some v ↦ lose v left ])
    go none = shrunk
    go (some v) = shrunk-trans shrunk (lose-shrunk v left)

pub drop_uses-shrunk : (ts : List Term) (w : Work) → Shrunk w (drop_uses ts w)
unfolding drop_uses
drop_uses-shrunk [] w = shrunk-refl w
drop_uses-shrunk (t ∷ ts) w = shrunk-trans (drop_use-shrunk t w) (drop_uses-shrunk ts (drop_use t w))

-- ---- the gone numbers as uses fall

module _ (t : Term) (w : Work) where
  -- what a term's use less makes of them
  drop_use-gone : (drop_use t w).changes.gone ≡ gone_after (use_less t.variable w.changes.variables).gone w.changes.gone
  unfolding drop_use lose tell_gone with_variables with_changes purge with_tableau
  drop_use-gone = go (use_less t.variable w.changes.variables).gone
    where
      left : Work
      left = with_variables (use_less t.variable w.changes.variables).variables w

      go : (o : Option Variable) → (elim o as (λ _. Work) [ none ↦ left | some v ↦ lose v left ]).changes.gone ≡ gone_after o w.changes.gone
      go none = refl
      go (some v) = refl

  drop_use-variables : (drop_use t w).changes.variables ≡ (use_less t.variable w.changes.variables).variables
  unfolding drop_use lose tell_gone with_variables with_changes purge with_tableau
  drop_use-variables = go (use_less t.variable w.changes.variables).gone
    where
      left : Work
      left = with_variables (use_less t.variable w.changes.variables).variables w

      go : (o : Option Variable) → (elim o as (λ _. Work) [ none ↦ left | some v ↦ lose v left ]).changes.variables ≡ (use_less t.variable w.changes.variables).variables
      go none = refl
      go (some v) = refl

  after-up : (o : Option Variable) (gone : List ℕ) → Up 0 gone → Up 0 (gone_after o gone)
  after-up none gone u = u
  after-up (some v) gone u = go (never_reported v)
    where
      go : (b : Bool) → Up 0 (cond b gone (keep_number v.number gone))
      go true = u
      go false = keep-number-up 0 v.number gone (omega arith) u

  drop_use-ups : Up 0 w.changes.gone → Up 0 (map var_number w.changes.variables) → Up 0 (drop_use t w).changes.gone × Up 0 (map var_number (drop_use t w).changes.variables)
  drop_use-ups g u = (rw drop_use-gone (after-up (use_less t.variable w.changes.variables).gone w.changes.gone g), rw drop_use-variables (less-up t.variable 0 w.changes.variables u))

-- 25's count is exact: the fall of these terms' uses makes just so many entries, and those of other terms are counted afterwards as before
pub drop_uses-entries : (ts us : List Term) (w : Work) → Up 0 w.changes.gone → Up 0 (map var_number w.changes.variables) → entries_by us (drop_uses ts w).changes ≡ entries_by (ts ++ us) w.changes
unfolding drop_uses
drop_uses-entries [] us w g u = refl
drop_uses-entries (t ∷ ts) us w g u =
    let v = drop_use-ups t w g u in
    drop_uses-entries ts us (drop_use t w) v.0 v.1
    ∙ ap₂ (λ (n : List ℕ) (vs : List Variable). length n + entries_made n (ts ++ us) vs) (drop_use-gone t w) (drop_use-variables t w)
    ∙ entries-fall 0 w.changes.gone t (ts ++ us) w.changes.variables g u

-- ---- a term's use falls

pub drop_use-good : (t : Term) (ts : List Term) (K U W : ℕ → ℕ) (w : Work) → Good K U w → w.artificial ≡ none → ((n : ℕ) → U n ≡ same n t.variable + W n)
    → entries_by (t ∷ ts) w.changes ≤ 32 → Good K W (drop_use t w)
unfolding drop_use lose tell_gone with_variables with_changes
drop_use-good t ts K U W w g plain h room = go fallen.gone refl
  where
    vs : List Variable
    vs = w.changes.variables

    gone : List ℕ
    gone = w.changes.gone

    fallen : Fallen
    fallen = use_less t.variable vs

    left : Work
    left = with_variables fallen.variables w

    used : 1 ≤ uses_of t.variable vs
    used = by (same? t.variable t.variable)
      where
        by : Same? t.variable t.variable → 1 ≤ uses_of t.variable vs
        by (is a b c) = omega (arith, h t.variable, g.vars.uses t.variable)
        by (isnt a b c) = absurd (b refl)

    vars : Vars (λ n. total (var_code n) fallen.variables) W fallen.variables
    vars =
        record {
          up = less-up t.variable 0 vs g.vars.up;
          symbols = λ n. refl;
          uses = λ n. omega (arith, less-uses t.variable n 0 vs g.vars.up used, g.vars.uses n, h n);
          olds = unfold fewer in less-all OldOk (λ v o. o) t.variable vs g.vars.olds;
          externals = unfold fewer in less-all _ (λ v o. o) t.variable vs g.vars.externals;
        }

    owns : (n : ℕ) → gone_code n fallen.gone + (total (var_code n) fallen.variables + K n) ≡ times n (codes w.tableau.symbols)
    owns n = omega (arith, less-codes t.variable n vs, g.vars.symbols n, g.owns n)

    stay : Waits gone fallen.variables
    stay = waits-to gone vs fallen.variables (λ r. unfold fewer never_reported in less-all (Returned gone) (λ v o. o) t.variable vs r) g.waits

    waits : (v : Variable) → fallen.gone ≡ some v → Waits (gone_after (some v) gone) fallen.variables
    waits v e = by (never_reported v) (subst (λ (o : Option Variable). length (gone_after o gone) + entries_made (gone_after o gone) ts fallen.variables ≡ entries_by (t ∷ ts) w.changes) e (entries-fall 0 gone t ts vs g.waits.up g.vars.up))
      where
        by : (b : Bool) → length (cond b gone (keep_number v.number gone)) + entries_made (cond b gone (keep_number v.number gone)) ts fallen.variables ≡ entries_by (t ∷ ts) w.changes
            → Waits (cond b gone (keep_number v.number gone)) fallen.variables
        by true q = stay
        by false q =
            waits-told v.number gone fallen.variables (subst (λ (k : ℕ). times k (map var_number fallen.variables) ≡ 0) (gone-number t.variable vs v e) (less-gone t.variable 0 vs v g.vars.up e))
            (omega (arith, q, room)) stay

    go : (o : Option Variable) → fallen.gone ≡ o → Good K W (elim o [ none ↦ left | some v ↦ lose v left ])
    go none e =
        record { fits = g.fits; C = λ n. total (var_code n) fallen.variables; vars = vars; owns = λ n. omega (arith, rw e at (owns n)); cutoff = g.cutoff; waits = stay }
    go (some v) e =
        record {
          fits = purge-fits v.symbol.id (with_changes (tell_gone v left.changes) left) g.fits plain;
          C = λ n. total (var_code n) fallen.variables;
          vars = unfold purge with_tableau in vars;
          owns = unfold purge with_tableau in purge-owns v.symbol (λ n. total (var_code n) fallen.variables + K n) w.tableau.symbols g.fits.up (λ n. rw e at (owns n));
          cutoff = unfold purge with_tableau in g.cutoff;
          waits = unfold purge with_tableau in waits v e;
        }

pub drop_uses-good : (ts : List Term) (K U W : ℕ → ℕ) (w : Work) → Good K U w → w.artificial ≡ none → ((n : ℕ) → U n ≡ uses_in n ts + W n)
    → entries_by ts w.changes ≤ 32 → Good K W (drop_uses ts w)
unfolding drop_uses uses_in
drop_uses-good [] K U W w g plain h room = good-to K K U W w (λ n. refl) (λ n. omega (arith, h n)) g
drop_uses-good (t ∷ ts) K U W w g plain h room = drop_uses-good ts K (λ n. uses_in n ts + W n) W (drop_use t w) first ((drop_use-shrunk t w).plain ∙ plain) (λ n. refl) on
  where
    first : Good K (λ n. uses_in n ts + W n) (drop_use t w)
    first = unfold same in drop_use-good t ts K U (λ n. uses_in n ts + W n) w g plain (λ n. omega (arith, h n)) room

    on : entries_by ts (drop_use t w).changes ≤ 32
    on = omega (arith, ap₂ (λ (n : List ℕ) (vs : List Variable). length n + entries_made n ts vs) (drop_use-gone t w) (drop_use-variables t w), entries-fall 0 w.changes.gone t ts w.changes.variables g.waits.up g.vars.up, room)

-- ---- the entries, where the variables change their flags alone

entries-clear : (gone : List ℕ) (ts : List Term) (vs : List Variable) → entries_made gone ts (clear_changed vs) ≡ entries_made gone ts vs
unfolding entries_made makes_entry goes_with never_reported clear_changed with_flag
entries-clear gone ts [] = refl
entries-clear gone ts (v ∷ vs) = ap (λ (k : ℕ). cond (makes_entry gone ts v) 1 0 + k) (entries-clear gone ts vs)

pub entries-frame : {w v : Work} → Frame w v → (us : List Term) → entries_by us v.changes ≡ entries_by us w.changes
entries-frame {w} {v} f us =
    ap₂ (λ (a b : ℕ). a + b) (ap length f.gone)
    (ap (λ (g : List ℕ). entries_made g us v.changes.variables) f.gone
    ∙ sym (entries-clear w.changes.gone us v.changes.variables) ∙ ap (entries_made w.changes.gone us) f.variables ∙ entries-clear w.changes.gone us w.changes.variables)
