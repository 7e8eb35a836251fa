use Rattle.sparse.specs.Tables.{lent}
use Rattle.sparse_test.specs.Whole.{counts-in, rows_few, few-terms, gone-up, no-counts, no_words, no_bytes, whole-test}
use Rattle.sparse_test.proofs.reads_as_state.Goals as goal

pub returns-then-not-counts_fit : goal.returns-then-not-counts_fit
returns-then-not-counts_fit c = no-counts (lent c.args.tables.now) c.counts_fit.ensures c.if-not-counts_fit.true

pub words_fit-requires : goal.words_fit-requires
words_fit-requires c = let q = counts-in (lent c.args.tables.now) c.counts_fit.ensures c.if-not-counts_fit.false in
    record { k_le_last_place = q.symbols; v_le_most_variables = q.variables; c_le_most_constraints = q.constraints; g_le_most_gone = q.gone }

pub returns-then-not-words_fit : goal.returns-then-not-words_fit
returns-then-not-words_fit c = no_words (lent c.args.tables.now) c.counts_fit.ensures c.if-not-counts_fit.false c.words_fit.ensures c.if-not-words_fit.true

pub bytes_fit-requires : goal.bytes_fit-requires
bytes_fit-requires c = let q = counts-in (lent c.args.tables.now) c.counts_fit.ensures c.if-not-counts_fit.false in
    record { k_le_last_place = q.symbols; r_le_most_rows = rows_few (lent c.args.tables.now) q; c_le_most_constraints = q.constraints }

pub returns-then-not-bytes_fit : goal.returns-then-not-bytes_fit
returns-then-not-bytes_fit c = no_bytes (lent c.args.tables.now) c.counts_fit.ensures c.if-not-counts_fit.false c.words_fit.ensures c.if-not-words_fit.false c.bytes_fit.ensures c.if-not-bytes_fit.true

pub content_fits-requires : goal.content_fits-requires
content_fits-requires c = let q = counts-in (lent c.args.tables.now) c.counts_fit.ensures c.if-not-counts_fit.false in
    record { symbol_count_at_bound = q.symbols; row_count_at_bound = rows_few (lent c.args.tables.now) q; cell_count_at_bound = q.cells; variable_count_at_bound = q.variables; constraint_count_at_bound = q.constraints; edit_count_at_bound = q.edits; term_room_value = few-terms (lent c.args.tables.now) c.bytes_fit.ensures c.if-not-bytes_fit.false; gone_count_at_bound = q.gone; ascends = gone-up (lent c.args.tables.now) c.words_fit.ensures c.if-not-words_fit.false }

pub returns : goal.returns
returns c = whole-test (lent c.args.tables.now) c.counts_fit.ensures c.if-not-counts_fit.false c.words_fit.ensures c.if-not-words_fit.false c.bytes_fit.ensures c.if-not-bytes_fit.false c.content_fits.ensures
