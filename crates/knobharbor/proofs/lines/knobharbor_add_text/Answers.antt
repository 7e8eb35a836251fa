use Rattle.std.proofs.Common.{◌≡◌, refl, rules}
use Rattle.sparse.specs.Tables.{held}
use Rattle.lending.specs.sparse_copy.Over.{tables}
use Rattle.lending.specs.Lending.{called}
use Rattle.entry.specs.typed.Adding.{text, text_answer, text_of}
use Rattle.knobharbor.specs.Places.{placed, placed_text, placed_line, text-placed}
use Rattle.knobharbor.specs.Together.{back, of_both, cleared-back}
use Rattle.knobharbor.proofs.lines.knobharbor_add_text.Goals as goal

pub returns-clause-values_after : goal.returns-clause-values_after
returns-clause-values_after c =
    let a = c.args in
    let r = c.add_text-r in
    let work = tables a.wwords.now a.wkeys.now a.wbytes.now a.wreals.now a.wvalues.now in
    let t = tables a.words.now a.keys.now a.bytes.now a.reals.now a.values.now in
    back r.new.tables (search rules) (λ u. placed_text r.result.offset (placed c.put.new.answer u) ≡ placed_line (text_of a.number a.line.now a.budget work t))
    (text-placed refl c.put.ensures (of_both (λ w u. text r.result.offset (called (text_answer r.result) (held r.new.tables)) ≡ text_of a.number a.line.now a.budget w u) c.to_write-2.ensures.value c.to_write.ensures.value r.ensures.values_value))

pub returns-clause-wvalues_value : goal.returns-clause-wvalues_value
returns-clause-wvalues_value c = cleared-back c.add_text-r.new.room (search rules) c.to_write-2.ensures.value c.add_text-r.ensures.wvalues_value
