use Rattle.waist.proofs.looks.passes.Goals as goal

pub returns : goal.returns
returns c = rw (c.wanted.ensures, c.is_seen.ensures)
