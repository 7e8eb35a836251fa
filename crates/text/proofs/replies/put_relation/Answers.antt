use Rattle.std.proofs.Common.{sym, ap, arith}
use Rattle.text.specs.Put.{put_as}
use Rattle.text.specs.replies.Replies.{relation_text}
use Rattle.text.proofs.replies.put_relation.Goals as goal

pub returns-in-AtMost : goal.returns-in-AtMost
returns-in-AtMost c = record { put = put_as (ap relation_text (sym c.in-AtMost.is)) c.put_text.ensures.put; upper_bound = omega arith }

pub returns-in-Equal : goal.returns-in-Equal
returns-in-Equal c = record { put = put_as (ap relation_text (sym c.in-Equal.is)) c.put_text-in-Equal.ensures.put; upper_bound = omega arith }

pub returns-in-AtLeast : goal.returns-in-AtLeast
returns-in-AtLeast c = record { put = put_as (ap relation_text (sym c.in-AtLeast.is)) c.put_text-in-AtLeast.ensures.put; upper_bound = omega arith }
