use Rattle.sparse.specs.Tables.{lent}
use mathlib.Core.Path.{sym, ◌∙◌}
use native.Mathlib.Omega.{arith}
use Rattle.sparse_test.specs.Meant.{reads-constraints}
use Rattle.fetches.specs.shown.Stored.{few-variables, few-constraints, narrow-numbers, few-counts, stored-said}
use Rattle.fetches.specs.shown.Found.{unread-line, unknown-line, known-line}
use Rattle.fetches.proofs.shown.show.Goals as goal

pub returns-then-not-reads_as_state : goal.returns-then-not-reads_as_state
returns-then-not-reads_as_state c =
    let t = lent c.args.tables.now in
    c.refuse.ensures ∙ unread-line t c.args.number c.reads_as_state.ensures c.if-not-reads_as_state.true

pub look_up-i-requires : goal.look_up-i-requires
look_up-i-requires c =
    let t = lent c.args.tables.now in
    let h = c.if-not-reads_as_state.false in
    let q = few-constraints t (sym c.reads_as_state.ensures ∙ h) in
    record { n_bound = omega (arith, q); ascends = reads-constraints t (sym c.reads_as_state.ensures ∙ h) }

pub hand_over-requires : goal.hand_over-requires
hand_over-requires c =
    let t = lent c.args.tables.now in
    let ok = sym c.reads_as_state.ensures ∙ c.if-not-reads_as_state.false in
    let q = few-constraints t ok in
    record { i_lt_most_constraints = omega (arith, q, c.if-i-c.true); term_room_value = few-counts t ok _ c.if-i-c.true; variable_count_at_bound = few-variables t ok; greatest_u32_value = narrow-numbers t ok }

pub returns-then-i-c : goal.returns-then-i-c
returns-then-i-c c =
    let t = lent c.args.tables.now in
    let h = c.if-not-reads_as_state.false in
    c.hand_over.ensures ∙ (stored-said t (sym c.reads_as_state.ensures ∙ h) _ c.if-i-c.true ∙ known-line t c.args.number c.reads_as_state.ensures c.look_up-i.ensures.value h c.if-i-c.true)

pub returns : goal.returns
returns c =
    let t = lent c.args.tables.now in
    let h = c.if-not-reads_as_state.false in
    c.refuse-2.ensures ∙ unknown-line t c.args.number c.reads_as_state.ensures c.look_up-i.ensures.value h c.if-i-c.false
