use Rattle.sparse.specs.Tables.{held}
use Rattle.variables.specs.Falls.{less-calls}
use Rattle.removal.specs.Uses.{use-stays, told-room, told-stands, told-lives, use-goes}
use Rattle.removal.proofs.uses.drop_use.Goals as goal

pub use_less-g-requires : goal.use_less-g-requires
use_less-g-requires c = record { variable_count_at_bound = c.requires.stands.1.sound.named.few-variables; ascends = c.requires.stands.1.owners.up }

pub returns-in_default-clause-does : goal.returns-in_default-clause-does
returns-in_default-clause-does c = λ a s. use-stays _ a _ _ (less-calls c.args.n (held c.args.room.now) s.sound s.owners _ c.use_less-g.ensures) s c.in_default.is

pub tell_gone-requires : goal.tell_gone-requires
tell_gone-requires c = let f = less-calls c.args.n (held c.args.room.now) c.requires.stands.1.sound c.requires.stands.1.owners _ c.use_less-g.ensures in told-room _ _ _ _ f c.requires.stands.1 _ _ c.in-Some.is c.requires.room

pub purge-requires : goal.purge-requires
purge-requires c =
    let f = less-calls c.args.n (held c.args.room.now) c.requires.stands.1.sound c.requires.stands.1.owners _ c.use_less-g.ensures in
    let p = told-lives _ _ _ _ f c.requires.stands.1 _ _ c.in-Some.is c.requires.room c.tell_gone.ensures in
    record { sound = (told-stands _ _ _ _ f c.requires.stands.1 _ _ c.in-Some.is c.requires.room c.tell_gone.ensures).sound; le_p = p.0; p_bound = p.1; unowned = p.2 }

pub returns-clause-does : goal.returns-clause-does
returns-clause-does c = λ a s.
    let f = less-calls c.args.n (held c.args.room.now) s.sound s.owners _ c.use_less-g.ensures in
    use-goes _ a _ _ f s _ _ c.in-Some.is c.requires.room c.tell_gone.ensures _ (c.purge.ensures.makes a (told-stands _ a _ _ f s _ _ c.in-Some.is c.requires.room c.tell_gone.ensures))
