use Rattle.std.proofs.Common.{ℕ, ◌++◌, ap, arith}
use Rattle.text.specs.Put.{put_then, put_as}
use Rattle.text.specs.replies.Replies.{head_text, terms_text}
use Rattle.text.proofs.replies.put_reading.Goals as goal

pub returns : goal.returns
returns c = record {
  put = put_as (ap (λ (n : ℕ). head_text c.args.x.constraint.relation c.args.x.strength c.args.x.group c.args.x.constraint.constant n ++ terms_text n c.args.x.constraint.variables c.args.x.constraint.coefficients) c.few-n.ensures.0)
      (put_then c.put_head-i.ensures.put c.put_terms.ensures.put);
  upper_bound = omega arith;
}
