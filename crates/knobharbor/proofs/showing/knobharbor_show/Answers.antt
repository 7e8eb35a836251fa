use Rattle.std.proofs.Common.{ap, ◌∙◌}
use Rattle.fetches.specs.shown.Shown.{show_of}
use Rattle.knobharbor.proofs.showing.knobharbor_show.Goals as goal

pub returns : goal.returns
returns c = c.show.ensures ∙ ap (show_of c.args.number) c.to_read.ensures
