use Rattle.std.proofs.Common.{sym, refl, arith, eq-eqb, ne_eqb}
use Rattle.text.specs.Put.{put-none, put_then, put_as}
use Rattle.text.proofs.replies.put_refusal.Goals as goal

pub returns-then-number-eq20 : goal.returns-then-number-eq20
returns-then-number-eq20 c = record {
  put = put_then c.put_text-i.ensures.put
      (put_then c.put_number-j.ensures.put
      (put_as (sym (rw (eq-eqb _ 20 c.if-number-eq20.true) refl)) (put_then c.put_byte-m.ensures.put c.put_number.ensures.put)));
  upper_bound = omega arith;
}

pub returns : goal.returns
returns c = record { put = put_then c.put_text-i.ensures.put (put_then c.put_number-j.ensures.put (put_as (sym (rw (ne_eqb _ 20 c.if-number-eq20.false) refl)) (put-none _ _))); upper_bound = omega arith }
