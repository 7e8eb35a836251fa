use Rattle.std.specs.Prelude.{Ok}
use Rattle.reader.specs.Answers.{shown}
use Rattle.std.proofs.Common.{◌≡◌, ◌≤◌}
use Rattle.laws.specs.Loops.{run}
use Rattle.layout.specs.Layout.{term_room}
use Rattle.changes.specs.terms.Terms.{pack_of}
use Rattle.entry.specs.typed.Typed.{terms_read, packs}
use Rattle.entry.proofs.typed.pack.pack_of.Given as goal

abbrev pub invariant-loop-i : goal.invariant-loop-i
invariant-loop-i l = (run (packs (shown (Ok l.r))) l.i l.n l.p ≡ pack_of (terms_read (shown (Ok l.r)))) × (l.n ≤ term_room)
