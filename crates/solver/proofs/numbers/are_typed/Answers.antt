use Rattle.std.specs.Prelude.{◌≡◌, ℕ, Float}
use Rattle.std.proofs.Common.{sym, subst}
use Rattle.std.proofs.Math.Path.{refl}
use Rattle.changes.specs.declared.terms.Pack.{Pack}
use Rattle.changes.specs.declared.tags.Relation.{Relation}
use Rattle.changes.specs.declared.Change.{Change}
use Rattle.changes.specs.declared.Change.TheVariants.{Add, Remove, Drop, AddEdit, RemoveEdit, Suggest}
use Rattle.changes.specs.Change.{changing_of}
use Rattle.sparse_test.specs.narrow.Narrow.{Typed}
use Rattle.solver.specs.Numbers.{pack-named}
use Rattle.solver.proofs.numbers.are_typed.Goals as goal

-- a call that neither adds nor adds an edit hands in no number that is kept
others : (c : Change) (p : Pack) (budget : ℕ) → ((g n : ℕ) (k : Float) (r : Relation) → c ≡ Add g n k r → ⊥) → ((n : ℕ) (k : Float) → c ≡ AddEdit n k → ⊥) → Typed (changing_of c p budget)
others (Add g n k r) p budget a e = absurd (a g n k r refl)
others (Remove n) p budget a e = tt
others (Drop g) p budget a e = tt
others (AddEdit n k) p budget a e = absurd (e n k refl)
others (RemoveEdit n) p budget a e = tt
others (Suggest n x) p budget a e = tt

pub returns-in-Add : goal.returns-in-Add
returns-in-Add c = subst (λ (x : Change). Typed (changing_of x c.args.p c.args.budget)) (sym c.in-Add.is) (c.is_typed.ensures, pack-named c.args.p c.variables_are_typed.ensures)

pub returns-in-AddEdit : goal.returns-in-AddEdit
returns-in-AddEdit c = subst (λ (x : Change). Typed (changing_of x c.args.p c.args.budget)) (sym c.in-AddEdit.is) c.is_typed-in-AddEdit.ensures

pub returns-in_default : goal.returns-in_default
returns-in_default c = others _ c.args.p c.args.budget c.in_default.not-Add c.in_default.not-AddEdit
