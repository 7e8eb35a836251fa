use Rattle.std.specs.Prelude.{◌≡◌, Bool, true, false, not}
use Rattle.std.proofs.Math.Path.{refl}
use Rattle.steps.specs.Changing.{made}
use Rattle.changes.specs.Change.{changing_of}
use Rattle.sparse.specs.lengths.Lengths.{lists}
use Rattle.entry.specs.Entry.{fit-by, unfit-by, unfit-call, kept-unfit, kept-fit, fit-call, fit-room}
use Rattle.entry.proofs.change.Goals as goal

is-not : (b : Bool) → b ≡ false → not b ≡ true
is-not b e = rw e refl

isnt-not : (b : Bool) → b ≡ true → not b ≡ false
isnt-not b e = rw e refl

pub returns-then-not-ok : goal.returns-then-not-ok
returns-then-not-ok c =
    let t = lists c.args.words.now c.args.keys.now c.args.bytes.now c.args.reals.now c.args.values.now in
    let w = lists c.args.wwords.now c.args.wkeys.now c.args.wbytes.now c.args.wreals.now c.args.wvalues.now in
    let u = unfit-by t w c.once.ensures c.once-2.ensures (is-not _ c.if-not-ok.true) in
    record { values_after = unfit-call t w (made (changing_of c.args.c c.args.p c.args.budget)) c.refuse18.ensures u; then = kept-unfit t w u; wvalues_after = c.clear.ensures }

pub returns : goal.returns
returns c =
    let t = lists c.args.words.now c.args.keys.now c.args.bytes.now c.args.reals.now c.args.values.now in
    let w = lists c.args.wwords.now c.args.wkeys.now c.args.wbytes.now c.args.wreals.now c.args.wvalues.now in
    let f = fit-by t w c.once.ensures c.once-2.ensures (isnt-not _ c.if-not-ok.false) in
    record { values_after = fit-call t w f (made (changing_of c.args.c c.args.p c.args.budget)) c.change_once.ensures.values_value; then = kept-fit t w f _; wvalues_after = fit-room t w f c.change_once.ensures.wvalues_value }
