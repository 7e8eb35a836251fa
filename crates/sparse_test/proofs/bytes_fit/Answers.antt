use Rattle.std.proofs.Common.{rules, ◌≡◌}
use Rattle.layout.specs.Layout.{term_room}
use Rattle.sparse.specs.Places.{term_counts_at}
use Rattle.sparse_test.specs.Stretch.{most_in}
use Rattle.sparse_test.specs.Tested.{bytes_fit}
use Rattle.sparse_test.proofs.bytes_fit.Goals as goal

pub returns : goal.returns
unfolding bytes_fit most_in
returns c =
    let few : c.each.result ≡ most_in c.args.bytes.now term_counts_at c.args.c term_room = c.each.ensures _ (λ i b h k q. search rules) in
    cc
