use Rattle.std.proofs.Common.{sym, refl, arith, le-ltb, lt-ltb}
use Rattle.text.specs.Put.{put_then, put_as}
use Rattle.text.proofs.replies.put_signed.Goals as goal

pub returns-then-x-lt-ZERO : goal.returns-then-x-lt-ZERO
returns-then-x-lt-ZERO c = record { put = put_as (sym (rw (lt-ltb _ 9007199254740992 c.if-x-lt-ZERO.true) refl)) (put_then c.put_byte-i.ensures.put c.put_number.ensures.put); upper_bound = omega arith }

pub returns : goal.returns
returns c = record { put = put_as (sym (rw (le-ltb _ 9007199254740992 c.if-x-lt-ZERO.false) refl)) c.put_number-2.ensures.put; upper_bound = omega arith }
