use Rattle.sparse.specs.Tables.{lent}
use mathlib.Core.Path.{sym, ◌∙◌}
use Rattle.sparse_test.specs.Meaning.{reads-form}
use Rattle.sparse_test.specs.Asked.{value-is}
use Rattle.sparse_test.proofs.asking.get_value_held.Goals as goal

pub value_in-requires : goal.value_in-requires
value_in-requires c =
    let f = reads-form _ c.requires in
    record { v_le_most_variables = f.counts.variables; r_le_most_rows = f.counts.rows; ascends = f.numbers }

pub returns : goal.returns
returns c =
    let t = lent c.args.tables.now in
    c.value_in.ensures ∙ sym (value-is t c.args.n (reads-form t c.requires))
