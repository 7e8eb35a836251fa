use mathlib.Core.Bool.{false}
use Rattle.waist.specs.Holding.{note-makes}
use Rattle.removal.specs.Marker.{note-leaves}
use mathlib.Core.Path.{refl}
use Rattle.waist.specs.KindsRead.{external-read}
use Rattle.removal.proofs.marker.note_leaving.Goals as goal

pub returns : goal.returns
returns c = λ a s. let l = c.requires.sound.rows _ c.requires.le_i c.requires.i_bound in note-leaves a _ _ _ c.requires.sound c.requires.le_i c.requires.i_bound _ _ refl (rw (← external-read _ _ (rw c.kind_at.ensures at c.from-kind.ensures)) c.leaves_noted-on.ensures) (note-makes false a _ _ _ s l.0 l.1 _ _ c.note_on.ensures)

pub note_on-requires : goal.note_on-requires
note_on-requires c = c.requires.sound.named.few-variables
