-- The reading test by its clauses. Assumes nothing.
use Rattle.std.specs.Prelude.{◌≡◌, Bool, true, ◌&&◌}
use Rattle.steps.specs.State.{State}
use Rattle.steps.specs.Readable.{counts_in_range, numbers_ascend, symbols_distinct, ids_below_next, rows_in_range, no_basic_cell, symbols_owned, uses_counted, numbers_finite, kinds_fit, cutoff_in_range, groups_fit, gone_fits, readable}
use Rattle.keeps.specs.Lists.{both, left, right}

pub and3 : (a b c : Bool) → (a && b && c) ≡ true → (a ≡ true) × (b ≡ true) × (c ≡ true)
and3 a b c e = (left a b (left (a && b) c e), right a b (left (a && b) c e), right (a && b) c e)

pub and4 : (a b c d : Bool) → (a && b && c && d) ≡ true → (a ≡ true) × (b ≡ true) × (c ≡ true) × (d ≡ true)
and4 a b c d e = let h = and3 a b c (left (a && b && c) d e) in (h.0, h.1, h.2, right (a && b && c) d e)

pub record Clauses (s : State) : Type 0 where
  pub counts : counts_in_range s ≡ true
  pub ascending : numbers_ascend s ≡ true
  pub distincts : symbols_distinct s ≡ true
  pub below : ids_below_next s ≡ true
  pub rows : rows_in_range s ≡ true
  pub cells : no_basic_cell s ≡ true
  pub owners : symbols_owned s ≡ true
  pub uses : uses_counted s ≡ true
  pub finite : numbers_finite s ≡ true
  pub kinds : kinds_fit s ≡ true
  pub cutoff : cutoff_in_range s ≡ true
  pub groups : groups_fit s ≡ true
  pub gone : gone_fits s ≡ true

pub clauses-in : (s : State) → readable s ≡ true → Clauses s
unfolding readable
clauses-in s e =
    let x = and4 _ (cutoff_in_range s) (groups_fit s) (gone_fits s) e in
    let z = and4 _ (uses_counted s) (numbers_finite s) (kinds_fit s) x.0 in
    let y = and4 _ (rows_in_range s) (no_basic_cell s) (symbols_owned s) z.0 in
    let v = and4 (counts_in_range s) (numbers_ascend s) (symbols_distinct s) (ids_below_next s) y.0 in
    record {
      counts = v.0;
      ascending = v.1;
      distincts = v.2;
      below = v.3;
      rows = y.1;
      cells = y.2;
      owners = y.3;
      uses = z.1;
      finite = z.2;
      kinds = z.3;
      cutoff = x.1;
      groups = x.2;
      gone = x.3;
    }

pub clauses-out : (s : State) → Clauses s → readable s ≡ true
unfolding readable
clauses-out s c =
    both
    (both (both (both (both (both (both (both (both (both (both (both c.counts c.ascending) c.distincts) c.below) c.rows) c.cells) c.owners) c.uses) c.finite) c.kinds) c.cutoff)
    c.groups) c.gone
