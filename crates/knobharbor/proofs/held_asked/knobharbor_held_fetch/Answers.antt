use Rattle.knobharbor.specs.Places.{fetch-placed}
use Rattle.knobharbor.proofs.held_asked.knobharbor_held_fetch.Goals as goal

pub fetch_held-count-requires : goal.fetch_held-count-requires
fetch_held-count-requires c = c.requires

pub returns : goal.returns
returns c = fetch-placed c.put_fetched.ensures c.fetch_held-count.ensures
