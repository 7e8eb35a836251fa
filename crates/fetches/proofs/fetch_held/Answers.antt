use Rattle.std.specs.Prelude.{◌-◌, get_or, set}
use mathlib.Core.Path.{◌≡◌, refl}
use Rattle.std.proofs.Common.{rules}
use Rattle.fetches.specs.Fetch.{fetch, fetch_in}
use Rattle.sparse_test.specs.Whole.{tables}
use Rattle.sparse.specs.Places.{should_clear_at, gone_count_at}
use Rattle.fetches.specs.Listing.{given-back}
use Rattle.fetches.specs.Done.{form, gone-ascends, begun, fetch-done}
use Rattle.fetches.proofs.fetch_held.Goals as goal

pub clear_reported-requires : goal.clear_reported-requires
clear_reported-requires c = (form _ c.requires).counts.variables

pub list_changes-requires : goal.list_changes-requires
list_changes-requires c =
    let f = (form _ c.requires).counts in
    record { row_count_at_bound = f.rows; variable_count_at_bound = f.variables; gone_count_at_bound = f.gone; ascends = gone-ascends _ c.requires }

pub overflow_sub-words : goal.overflow_sub-words
overflow_sub-words c = (form _ c.requires).clear

pub returns : goal.returns
returns c =
    let t = tables c.args.words.now c.args.keys.now c.args.bytes.now c.args.reals.now c.args.values.now in
    let w = set (set t.words should_clear_at (1 - get_or t.words should_clear_at 0)) gone_count_at 0 in
    let e = c.clear_lists.ensures in
    given-back (λ l. fetch 0 l.count l.numbers l.values l.gone (tables w t.keys c.clear_reported.new.bytes c.list_changes.new.reals t.values) ≡ fetch_in t) c.list_changes.new.out (search rules) (search rules) (search rules)
    (fetch-done t c.requires (begun t c.requires _ e.numbers_after e.moved_after e.gone_after c.list_changes.ensures.after) c.clear_reported.ensures refl)
