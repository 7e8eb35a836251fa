-- Add's steps 1 to 3 change no value: the variables that come are at 0, and nothing has been told of them. Assumes nothing.
use Rattle.std.specs.Prelude.{◌≡◌, refl, List, [], ◌∷◌, map, Bool, true, false, ℕ, suc, ◌<◌, Float}
use Rattle.std.proofs.Common.{sym, ◌∙◌, subst, inr, arith}
use Rattle.std.proofs.Math.Option.{Option, none, some}
use Rattle.std.specs.Float.{nan}
use Rattle.std.specs.Float.Ieee.{lt, eq, ne, neg}
use Rattle.steps.specs.Number.{zero64, one64, minus_one64, near_zero, below_zero, Mark}
use Rattle.steps.specs.Strength.{required}
use Rattle.steps.specs.Symbol.{External, Slack, Error, Symbol}
use Rattle.steps.specs.Row.{Row, reverse_sign, insert_row, append_cell}
use Rattle.steps.specs.State.{Term, Relation, at_most, equal, at_least, Basic, Variable}
use Rattle.steps.specs.Work.{Work, with_tableau, with_changes, with_objective, marking, find_row, new_symbol, append_symbol}
use Rattle.steps.specs.Changes.{find_variable, never_reported, value_of}
use Rattle.steps.specs.CreateRow.{Building, Created, written, append_to, insert_into, with_variables, add_variable, use_once, count_use, insert_variable, insert_term, insert_terms, tagged, add_symbol, insert_in_objective, add_error, inequality, soft_equality, required_equality, add_tag, create_row}
use Rattle.keeps.specs.Lists.{All, all-to, all_append, times}
use Rattle.keeps.specs.Along.{Mem}
use Rattle.keeps.specs.Keys.{keep_all, keep_variable-is}
use Rattle.keeps.specs.Cells.{zero-finite}
use Rattle.keeps.specs.Uses.{var_number}
use Rattle.keeps.specs.Fits.{bids, fresh-row, mem-append, all_map}
use Rattle.keeps.specs.suffices.Numbers.{Is, is-refl}
use Rattle.keeps.specs.suffices.Fresh.{held, Fresh, Aware}
use Rattle.keeps.specs.suffices.Values.{value_at, RoundedAt, Rounded, value_none, value-rerow}
use Rattle.keeps.specs.suffices.Pivoting.{value-at, fresh-same}

-- the symbols are below the next id, the rows are of them, and all has been told
pub record Begun (w : Work) : Type 0 where
  pub under : All (λ (x : Symbol). x.id < w.tableau.next_id) w.tableau.symbols
  pub live : All (λ (b : Basic). Mem b.symbol w.tableau.symbols) w.tableau.rows
  pub aware : Aware w.tableau.rows w.changes
  pub rounded : Rounded w.tableau.rows

pub mark-begun : (m : Mark) (w : Work) → Begun w → Begun (marking m w)
unfolding marking
mark-begun m w h = record { under = h.under; live = h.live; aware = h.aware; rounded = h.rounded }

-- ---- a symbol more

-- every row gets a place, and keeps its constant
abbrev pub place_more : List Basic → List Basic
place_more bs = map (λ (b : Basic). record { symbol = b.symbol; row = append_cell b.row }) bs

pub place-value : (i : ℕ) (bs : List Basic) → value_at i (place_more bs) ≡ value_at i bs
unfolding append_cell
place-value i bs = value-rerow append_cell (λ r. refl) i bs

pub append-begun : (s : Symbol) (w : Work) → s.id ≡ w.tableau.next_id → Begun w → Begun (append_symbol s w)
unfolding append_symbol with_tableau
append-begun s w e h =
    record {
      under = all_append (λ (x : Symbol). x.id < suc w.tableau.next_id) w.tableau.symbols (s ∷ []) (all-to _ _ (λ x l. omega (arith, l)) w.tableau.symbols h.under) (omega (arith, e), tt);
      live = all_map _ _ w.tableau.rows (all-to _ _ (λ b m. mem-append b.symbol w.tableau.symbols (s ∷ []) m) w.tableau.rows h.live);
      aware = all-to (Fresh w.changes.should_clear w.tableau.rows) _ (λ v f. fresh-same w.changes.should_clear w.tableau.rows (place_more w.tableau.rows) v (place-value v.symbol.id w.tableau.rows) f) w.changes.variables h.aware;
      rounded = unfold append_cell in all_map (λ (b : Basic). record { symbol = b.symbol; row = append_cell b.row }) RoundedAt w.tableau.rows h.rounded;
    }

abbrev Builds : Building → Type 0
Builds b = Begun b.work

into-begun : (s : ℕ) (k : Float) (b : Building) → Builds b → Builds (insert_into s k b)
unfolding insert_into written
into-begun s k b h = mark-begun _ b.work h

-- ---- the terms

new : ℕ → Symbol → Variable
new n s = record { number = n; symbol = s; old = nan; uses = 0; changed = false }

-- "The old value of a new variable is NaN.": nothing was told of it
new-held : (n : ℕ) (s : Symbol) → held (new n s) ≡ zero64
unfolding new never_reported ne eq
new-held n s = refl

add_variable-begun : (n : ℕ) (b : Building) → Builds b → Builds (add_variable n b)
unfolding add_variable append_to with_variables with_changes new_symbol append_symbol with_tableau new
add_variable-begun n b h =
    let g : Begun (append_symbol s b.work) = append-begun s b.work refl h in
    record {
      under = g.under;
      live = g.live;
      aware = subst (All (Fresh b.work.changes.should_clear (place_more b.work.tableau.rows))) (sym (keep_variable-is (new n s) b.work.changes.variables)) (keep_all var_number (Fresh b.work.changes.should_clear (place_more b.work.tableau.rows)) (new n s) b.work.changes.variables (inr fresh) g.aware);
      rounded = g.rounded;
    }
  where
    s : Symbol
    s = record { id = b.work.tableau.next_id; kind = External }

    none_yet : times b.work.tableau.next_id (bids b.work.tableau.rows) ≡ 0
    none_yet = fresh-row b.work.tableau.symbols b.work.tableau.next_id h.under b.work.tableau.rows h.live

    at_zero : value_of (new n s) (place_more b.work.tableau.rows) ≡ zero64
    at_zero = value-at (new n s) (place_more b.work.tableau.rows) ∙ place-value b.work.tableau.next_id b.work.tableau.rows ∙ value_none b.work.tableau.next_id b.work.tableau.rows none_yet

    fresh : Is (value_of (new n s) (place_more b.work.tableau.rows)) (held (new n s))
    fresh = subst (λ (x : Float). Is (value_of (new n s) (place_more b.work.tableau.rows)) x) (sym (new-held n s)) (subst (λ (x : Float). Is x zero64) (sym at_zero) (is-refl zero64 zero-finite))

count_use-begun : (n : ℕ) (b : Building) → Builds b → Builds (count_use n b)
unfolding count_use with_variables with_changes use_once
count_use-begun n b h =
    record {
      under = h.under;
      live = h.live;
      aware = unfold never_reported value_of in all_map (use_once n) (Fresh b.work.changes.should_clear b.work.tableau.rows) b.work.changes.variables h.aware;
      rounded = h.rounded;
    }

insert_variable-begun : (s : Symbol) (k : Float) (b : Building) → Builds b → Builds (insert_variable s k b)
unfolding insert_variable written
insert_variable-begun s k b h = go (find_row s.id b.work.tableau.rows)
  where
    go : (o : Option Row) → Builds (elim o [ none ↦ insert_into s.id k b | some r ↦ written (insert_row b.work.tableau.cutoff r k b.row) b.work ])
    go none = into-begun s.id k b h
    go (some r) = mark-begun _ b.work h

insert_term-begun : (t : Term) (b : Building) → Builds b → Builds (insert_term t b)
unfolding insert_term
insert_term-begun t b h = used _ (count_use-begun t.variable _ (known (find_variable t.variable b.work.changes.variables))) (find_variable t.variable _)
  where
    known : (o : Option Variable) → Builds (elim o [ none ↦ add_variable t.variable b | some v ↦ b ])
    known none = add_variable-begun t.variable b h
    known (some v) = h

    used : (c : Building) → Builds c → (o : Option Variable) → Builds (elim o [ none ↦ c | some v ↦ insert_variable v.symbol t.coefficient c ])
    used c g none = g
    used c g (some v) = insert_variable-begun v.symbol t.coefficient c g

insert_terms-begun : (cutoff : Float) (ts : List Term) (b : Building) → Builds b → Builds (insert_terms cutoff ts b)
unfolding insert_terms
insert_terms-begun cutoff [] b h = h
insert_terms-begun cutoff (t ∷ ts) b h = insert_terms-begun cutoff ts _ (go (near_zero cutoff t.coefficient))
  where
    go : (z : Bool) → Builds (elim z [ true ↦ b | false ↦ insert_term t b ])
    go true = h
    go false = insert_term-begun t b h

-- ---- the tag

add_symbol-begun : (s : Symbol) (k : Float) (b : Building) → s.id ≡ b.work.tableau.next_id → Builds b → Builds (add_symbol s k b)
unfolding add_symbol append_to
add_symbol-begun s k b e h = into-begun s.id k _ (append-begun s b.work e h)

objective-begun : (s : ℕ) (k : Float) (w : Work) → Begun w → Begun (insert_in_objective s k w)
unfolding insert_in_objective marking with_objective with_tableau
objective-begun s k w h = record { under = h.under; live = h.live; aware = h.aware; rounded = h.rounded }

add_error-begun : (s : Symbol) (k strength : Float) (b : Building) → s.id ≡ b.work.tableau.next_id → Builds b → Builds (add_error s k strength b)
unfolding add_error
add_error-begun s k strength b e h = objective-begun s.id strength _ (add_symbol-begun s k b e h)

inequality-begun : (sign strength : Float) (b : Building) → Builds b → Begun (inequality sign strength b).work
unfolding inequality tagged new_symbol
inequality-begun sign strength b h = go (lt strength required)
  where
    slack : Symbol
    slack = new_symbol Slack b.work

    b₁ : Building
    b₁ = add_symbol slack sign b

    error : Symbol
    error = new_symbol Error b₁.work

    go : (t : Bool) → Begun (elim t as (λ _. Created) [ true ↦ tagged slack (some error) (add_error error (neg sign) strength b₁) | false ↦ tagged slack none b₁ ]).work
    go true = add_error-begun error (neg sign) strength b₁ refl (add_symbol-begun slack sign b refl h)
    go false = add_symbol-begun slack sign b refl h

equality-begun : (strength : Float) (b : Building) (t : Bool) → Builds b → Begun (elim t as (λ _. Created) [ true ↦ soft_equality strength b | false ↦ required_equality b ]).work
unfolding soft_equality required_equality tagged new_symbol
equality-begun strength b true h = add_error-begun _ one64 strength _ refl (add_error-begun _ minus_one64 strength b refl h)
equality-begun strength b false h = add_symbol-begun _ one64 b refl h

add_tag-begun : (r : Relation) (b : Building) → Builds b → Begun (add_tag r b).work
unfolding add_tag
add_tag-begun (at_most s) b h = inequality-begun one64 s b h
add_tag-begun (at_least s) b h = inequality-begun minus_one64 s b h
add_tag-begun (equal s) b h = equality-begun s b (lt s required) h

pub create_row-begun : (ts : List Term) (k : Float) (r : Relation) (w : Work) → Begun w → Begun (create_row ts k r w).work
unfolding create_row
create_row-begun ts k r w h = go _ (below_zero _) (add_tag-begun r _ (insert_terms-begun w.tableau.cutoff ts _ h))
  where
    go : (c : Created) (t : Bool) → Begun c.work → Begun (elim t as (λ _. Created) [ false ↦ c | true ↦ record { work = c.work; row = reverse_sign c.row; tag = c.tag } ]).work
    go c false g = g
    go c true g = g
