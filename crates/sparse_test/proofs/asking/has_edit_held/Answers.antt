use Rattle.sparse.specs.Tables.{lent}
use mathlib.Core.Path.{sym, ◌∙◌}
use Rattle.sparse_test.specs.Meaning.{reads-form}
use Rattle.sparse_test.specs.Meant.{reads-apart}
use Rattle.sparse_test.specs.Asked.{has-edit}
use Rattle.sparse_test.proofs.asking.has_edit_held.Goals as goal

pub edit_in-requires : goal.edit_in-requires
edit_in-requires c =
    let f = reads-form _ c.requires in
    record { v_le_most_variables = f.counts.variables; e_le_most_constraints = f.counts.edits; ascends = f.numbers }

pub returns : goal.returns
returns c =
    let t = lent c.args.tables.now in
    c.edit_in.ensures ∙ sym (has-edit t (reads-form t c.requires) (reads-apart t c.requires) c.args.n)
