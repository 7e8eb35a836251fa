use Rattle.std.proofs.Common.{rules}
use Rattle.changes.specs.terms.Terms.{pushed_kept, kept_of}
use Rattle.changes.proofs.terms.kept.Goals as goal

pub returns : goal.returns
unfolding kept_of
returns c = c.gathered.ensures (pushed_kept c.args.cutoff) (λ q t r h. search (rules, h))
