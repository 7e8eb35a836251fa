use Rattle.std.specs.Prelude.{◌≡◌, Bool, true, false, not}
use Rattle.std.proofs.Math.Path.{refl}
use Rattle.sparse.specs.lengths.Lengths.{lists}
use Rattle.entry.specs.Entry.{reset-fit-by, reset-unfit-by, unfit-reset, unfit-kept, fit-kept, fit-reset}
use Rattle.entry.proofs.reset.Goals as goal

is-not : (b : Bool) → b ≡ false → not b ≡ true
is-not b e = rw e refl

isnt-not : (b : Bool) → b ≡ true → not b ≡ false
isnt-not b e = rw e refl

pub returns-then-not-ok : goal.returns-then-not-ok
returns-then-not-ok c =
    let t = lists c.args.words.now c.args.keys.now c.args.bytes.now c.args.reals.now c.args.values.now in
    let u = reset-unfit-by t c.once-ok.ensures (is-not _ c.if-not-ok.true) in
    record { values_after = unfit-reset c.args.cutoff t c.refuse18.ensures u; then = unfit-kept c.args.cutoff t u }

pub returns : goal.returns
returns c =
    let t = lists c.args.words.now c.args.keys.now c.args.bytes.now c.args.reals.now c.args.values.now in
    let f = reset-fit-by t c.once-ok.ensures (isnt-not _ c.if-not-ok.false) in
    record { values_after = fit-reset c.args.cutoff t f c.reset.ensures.does; then = fit-kept c.args.cutoff t f _ }
