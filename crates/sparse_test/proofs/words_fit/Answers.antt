use Rattle.std.proofs.Common.{rules, ◌≡◌}
use Rattle.sparse.specs.Places.{constraint_groups_at}
use Rattle.sparse_test.specs.Stretch.{above_zero_in}
use Rattle.sparse_test.specs.Tested.{words_fit}
use Rattle.sparse_test.proofs.words_fit.Goals as goal

pub returns : goal.returns
unfolding words_fit above_zero_in
returns c =
    let groups : c.every.result ≡ above_zero_in c.args.words.now constraint_groups_at c.args.c = c.every.ensures _ (λ i b h k q. search rules) in
    cc
