-- The number of terms that was read is at most the limit that it was read with.
use Rattle.std.proofs.Common.{◌≤◌, sym, ◌∙◌, arith}
use Rattle.text.specs.DigitLaws.{up-to-most}
use Rattle.writer.proofs.given.with_terms.Goals as goal

pub overflow_mul-m : goal.overflow_mul-m
overflow_mul-m c = let l : c.in_ok-m.m ≤ 4294967295 = up-to-most 4294967295 _ c.in_ok-m.m (sym c.decimal.ensures ∙ c.in_ok-m.was) in omega arith

pub read_terms-requires-clause-from_bound : goal.read_terms-requires-clause-from_bound
read_terms-requires-clause-from_bound c = (omega arith, up-to-most 4294967295 _ c.in_ok-m.m (sym c.decimal.ensures ∙ c.in_ok-m.was))
