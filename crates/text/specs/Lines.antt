-- A line as the code holds it: the call by value, and the terms of an add beside it.
use Rattle.std.specs.Prelude.{ℕ, ◌+◌, List, map, drop, Float, Option, Some, None, option_map}
use Rattle.changes.specs.declared.terms.Term.{Term as Given}
use Rattle.changes.specs.declared.terms.Pack.{Pack}
use Rattle.changes.specs.terms.Terms.{no_pack, pack_from, pack_of}
use Rattle.text.specs.Words.{word}
use Rattle.text.specs.Floats.{id_of, budget_of, float_of}
use Rattle.text.specs.Format.{relation_of, add_words}
use Rattle.steps.specs.State.{Term, at_most, equal, at_least}
use Rattle.steps.specs.State as steps
use Rattle.steps.specs.Session as session
use Rattle.steps.specs.Session.{resets, adds, removes, drops, adds_edit, removes_edit, suggests, value_of, fetches, has_constraints, has_edits, creates, clips, reads, dumps, sets_next}
use Rattle.changes.specs.declared.Change.TheVariants.{Add, Remove, Drop, AddEdit, RemoveEdit, Suggest}
use Rattle.changes.specs.declared.tags.Relation.{Relation}
use Rattle.changes.specs.declared.tags.Relation.TheVariants.{AtMost, Equal, AtLeast}
use Rattle.text.specs.declared.calls.Call.{Call}
use Rattle.text.specs.declared.calls.Call.TheVariants.{Reset, Change, Ask, Fetch}
use Rattle.text.specs.declared.calls.Query.TheVariants.{Value, HasCon, HasEdit, Create, Clip}
use Rattle.text.specs.declared.calls.Head.{Head}
use Rattle.text.specs.declared.calls.Line.{Line}

abbrev pub as_relation : steps.Relation → Relation
as_relation (at_most s) = AtMost s
as_relation (equal s) = Equal s
as_relation (at_least s) = AtLeast s

abbrev pub as_related : Option steps.Relation → Option Relation
as_related = option_map as_relation

abbrev pub as_call : Option session.Call → Option Call
as_call None = None
as_call (Some (resets x)) = Some (Reset x)
as_call (Some (adds g n ts k r b)) = Some (Change (Add g n k (as_relation r)) b)
as_call (Some (removes n b)) = Some (Change (Remove n) b)
as_call (Some (drops g b)) = Some (Change (Drop g) b)
as_call (Some (adds_edit v x b)) = Some (Change (AddEdit v x) b)
as_call (Some (removes_edit v b)) = Some (Change (RemoveEdit v) b)
as_call (Some (suggests v x b)) = Some (Change (Suggest v x) b)
as_call (Some (value_of v)) = Some (Ask (Value v))
as_call (Some fetches) = Some Fetch
as_call (Some (has_constraints n)) = Some (Ask (HasCon n))
as_call (Some (has_edits v)) = Some (Ask (HasEdit v))
as_call (Some (creates a b c w)) = Some (Ask (Create a b c w))
as_call (Some (clips x)) = Some (Ask (Clip x))
as_call (Some reads) = None
as_call (Some dumps) = None
as_call (Some (sets_next n)) = None

-- an add without its terms
abbrev pub head_of : Option ℕ → Option ℕ → Option ℕ → Option Relation → Option Float → Option Head
head_of (Some g) (Some n) (Some b) (Some r) (Some k) = Some record { change = Add g n k r; budget = b }
head_of (Some g) (Some n) (Some b) (Some r) None = None
head_of (Some g) (Some n) (Some b) None k = None
head_of (Some g) (Some n) None r k = None
head_of (Some g) None b r k = None
head_of None c b r k = None

-- ---- terms

-- a term as the code has it
abbrev pub as_term : Term → Given
as_term t = record { variable = t.variable; coefficient = t.coefficient }

-- the terms that follow those in t, if they could be read
unfoldable pub packed_from : Pack → Option (List Term) → Option Pack
packed_from t o = option_map (λ ts. pack_from t (map as_term ts)) o

abbrev pub as_terms : Option session.Call → Pack
as_terms None = no_pack
as_terms (Some (resets x)) = no_pack
as_terms (Some (adds g n ts k r b)) = pack_of (map as_term ts)
as_terms (Some (removes n b)) = no_pack
as_terms (Some (drops g b)) = no_pack
as_terms (Some (adds_edit v x b)) = no_pack
as_terms (Some (removes_edit v b)) = no_pack
as_terms (Some (suggests v x b)) = no_pack
as_terms (Some (value_of v)) = no_pack
as_terms (Some fetches) = no_pack
as_terms (Some (has_constraints n)) = no_pack
as_terms (Some (has_edits v)) = no_pack
as_terms (Some (creates a b c w)) = no_pack
as_terms (Some (clips x)) = no_pack
as_terms (Some reads) = no_pack
as_terms (Some dumps) = no_pack
as_terms (Some (sets_next n)) = no_pack

-- no line where there is no call
abbrev pub line_of : Option session.Call → Option Line
line_of o = option_map (λ c. record { call = c; terms = as_terms o }) (as_call o)

-- ---- an add, of its words before the terms and its terms: they stand from place i on

unfoldable pub head_at : Option ℕ → ℕ → List (List ℕ) → Option Head
head_at g i ws = head_of g (id_of (word ws i)) (budget_of (word ws (i + 1))) (as_related (relation_of (word ws (i + 2)) (float_of (word ws (i + 3))))) (float_of (word ws (i + 4)))

abbrev pub add_at : Option ℕ → ℕ → List (List ℕ) → Option session.Call
add_at g i ws = add_words g (word ws i) (word ws (i + 1)) (word ws (i + 2)) (word ws (i + 3)) (word ws (i + 4)) (word ws (i + 5)) (drop (i + 6) ws)

-- no line unless both could be read
abbrev pub line_with : Option Head → Option Pack → Option Line
line_with (Some h) (Some t) = Some record { call = Change h.change h.budget; terms = t }
line_with (Some h) None = None
line_with None p = None
