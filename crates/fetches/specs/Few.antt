-- The lists have room for all that a fetch can list. Assumes nothing.
use Rattle.std.specs.Prelude.{◌≤◌, length}
use Rattle.steps.specs.State.{State}
use Rattle.steps.specs.Changes.{fetch_changes}
use Rattle.keeps.specs.Reads.{Reads}
use Rattle.keeps.specs.Tested.{reads-out}
use Rattle.keeps.specs.Listed.{list-fits}
use Rattle.fetches.specs.Fetch.{places}

-- no entry of the list is left out
pub fetch-room : (s : State) → Reads s → length (fetch_changes s).list ≤ places
fetch-room s r = list-fits s (reads-out s r)
