-- What a new reader makes of an old one's answer.
use Rattle.grammar.specs.Sums.{Answer}
use Rattle.grammar.specs.edition.Endings.{required, Reply, behind}

-- ---- "reads every other line as the new one does", refusals and offsets too

-- what a new reader makes of an old one's answer: required, and in group 1
abbrev pub renewed : Answer → Reply
renewed a = behind a required 1
