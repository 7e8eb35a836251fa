use Rattle.knobharbor.specs.Places.{fetch-placed}
use Rattle.knobharbor.proofs.asked.knobharbor_fetch.Goals as goal

pub returns : goal.returns
returns c = fetch-placed c.put_fetched.ensures c.fetch_changes-f.ensures
