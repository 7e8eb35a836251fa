use native.Mathlib.Omega.{arith}
use borrow.Author.Tests.{eq-eqb, ne_eqb}
use Rattle.removal.specs.Tag.{near-lives, marker-unowned, other-unowned, purged-one, purged-both}
use Rattle.removal.proofs.purge_tag.Goals as goal

pub returns-then-other-eq0-clause-does : goal.returns-then-other-eq0-clause-does
returns-then-other-eq0-clause-does c = λ a s. purged-one a _ _ _ _ (eq-eqb _ _ c.if-other-eq0.true) (c.purge.ensures.makes a s)

pub returns-clause-does : goal.returns-clause-does
returns-clause-does c = λ a s. let m = c.purge-2.ensures.makes a s in let l = near-lives _ _ _ _ c.requires.tag_lives _ c.near_place-p.ensures (omega (arith, c.if-other-eq0.false)) c.purge-2.ensures.purged m.stands.owners in purged-both a _ _ _ _ _ _ (ne_eqb _ _ c.if-other-eq0.false) l.3 m (c.purge-3.ensures.makes a m.stands)

pub purge-requires : goal.purge-requires
purge-requires c = record { sound = c.requires.stands.1.sound; le_p = c.requires.tag_lives.low; p_bound = c.requires.tag_lives.high; unowned = marker-unowned _ _ _ c.requires.tag_lives c.requires.stands.1.owners }

pub purge-requires-2 : goal.purge-requires-2
purge-requires-2 c = record { sound = c.requires.stands.1.sound; le_p = omega (arith, c.if-other-eq0.false); p_bound = c.requires.tag_lives.other-high; unowned = other-unowned _ _ _ c.requires.tag_lives c.requires.stands.1.owners (omega (arith, c.if-other-eq0.false)) }

pub purge-requires-3 : goal.purge-requires-3
purge-requires-3 c = let m = c.purge-2.ensures.makes c.requires.stands.0 c.requires.stands.1 in let l = near-lives _ _ _ _ c.requires.tag_lives _ c.near_place-p.ensures (omega (arith, c.if-other-eq0.false)) c.purge-2.ensures.purged m.stands.owners in
    record { sound = m.stands.sound; le_p = l.0; p_bound = l.1; unowned = l.2 }
