use Prim.Native.Nat.{◌+◌, ◌-◌}
use Rattle.std.proofs.Common.{rules, ◌≡◌, get_or}
use native.Mathlib.Omega.{arith}
use Rattle.sparse_test.specs.Stretch.{ascend_in, none-up, ends-up}
use Rattle.sparse_test.proofs.stretch.up.Goals as goal

pub returns-then-n-eq0 : goal.returns-then-n-eq0
returns-then-n-eq0 g c = λ l a f. none-up l a c.args.n c.args.low c.args.high c.if-n-eq0.true

pub returns : goal.returns
unfolding ascend_in
returns g c = λ l a f.
    let o : a + 0 ≡ a = omega arith in
    let first : c.at.result ≡ get_or l a 0 = rw o at (f 0 c.at.result (omega arith) c.at.ensures) in
    let last : c.at-2.result ≡ get_or l (a + (c.args.n - 1)) 0 = f (c.args.n - 1) c.at-2.result (omega arith) c.at-2.ensures in
    rw (first, last) (ends-up l a c.args.n c.args.low c.args.high c.if-n-eq0.false (c.every.ensures _ (λ i b h k q. let u = f (i - 1) in let v = f i in search (rules, f))))
