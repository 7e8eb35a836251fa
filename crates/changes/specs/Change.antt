-- A change as the steps' changing call. Assumes nothing.
use Rattle.std.specs.Prelude.{ℕ}
use Rattle.steps.specs.Changing.{Changing, adds, removes, drops, adds_edit, removes_edit, suggests}
use Rattle.changes.specs.tags.Tags.{relation_of}
use Rattle.changes.specs.declared.terms.Pack.{Pack}
use Rattle.changes.specs.terms.Terms.{terms_in, listed}
use Rattle.changes.specs.declared.Change.{Change}
use Rattle.changes.specs.declared.Change.TheVariants.{Add, Remove, Drop, AddEdit, RemoveEdit, Suggest}

-- an add's terms are the list that its pack stands for; no other change looks at the pack
abbrev pub changing_of : Change → Pack → ℕ → Changing
changing_of (Add g n constant relation) p budget = adds g n (terms_in (listed p)) constant (relation_of relation) budget
changing_of (Remove n) p budget = removes n budget
changing_of (Drop g) p budget = drops g budget
changing_of (AddEdit n strength) p budget = adds_edit n strength budget
changing_of (RemoveEdit n) p budget = removes_edit n budget
changing_of (Suggest n new) p budget = suggests n new budget
