-- The text format of calls: which call of the steps a line's words name.
use Rattle.std.specs.Prelude.{ℕ, ◌*◌, Bool, false, cond, List, [], ◌∷◌, length, ◌==◌, Float, Option, Some, None, option_map}
use Rattle.steps.specs.Number.{usual_cutoff}
use Rattle.steps.specs.State.{Term, Relation, at_most, equal, at_least}
use Rattle.steps.specs.Session.{Call, resets, adds, removes, drops, adds_edit, removes_edit, suggests, value_of, fetches, has_constraints, has_edits, creates, clips}
use Rattle.text.specs.Digits.{digits_of, up_to, same_bytes}
use Rattle.text.specs.Floats.{id_of, budget_of, float_of}
use Rattle.text.specs.Names.{reset_name, fetch_name, value_name, hascon_name, hasedit_name, clip_name, remove_name, removeedit_name, addedit_name, suggest_name, create_name, add_name, addg_name, drop_name, le_name, eq_name, ge_name}

-- ---- a call whose words have been read: none if one of them is not what must stand there

-- a group is a u16, as a budget is
abbrev pub of_id_budget : (ℕ → ℕ → Call) → Option ℕ → Option ℕ → Option Call
of_id_budget f (Some n) (Some b) = Some (f n b)
of_id_budget f (Some n) None = None
of_id_budget f None b = None

abbrev pub of_edit : (ℕ → Float → ℕ → Call) → Option ℕ → Option Float → Option ℕ → Option Call
of_edit f (Some v) (Some x) (Some b) = Some (f v x b)
of_edit f (Some v) (Some x) None = None
of_edit f (Some v) None b = None
of_edit f None x b = None

abbrev pub of_reals : Option Float → Option Float → Option Float → Option Float → Option Call
of_reals (Some a) (Some b) (Some c) (Some w) = Some (creates a b c w)
of_reals (Some a) (Some b) (Some c) None = None
of_reals (Some a) (Some b) None w = None
of_reals (Some a) None c w = None
of_reals None b c w = None

-- ---- lines of one word to five

-- "`reset` alone takes 1E-8", "fetch"
unfoldable pub one_word : List ℕ → Option Call
one_word name = cond (same_bytes name reset_name) (Some (resets usual_cutoff)) (cond (same_bytes name fetch_name) (Some fetches) None)

-- "value V        hascon C        hasedit V", "clip S", "reset CUTOFF"
unfoldable pub two_words : List ℕ → List ℕ → Option Call
two_words name a =
    cond (same_bytes name value_name) (option_map value_of (id_of a))
    (cond (same_bytes name hascon_name) (option_map has_constraints (id_of a))
    (cond (same_bytes name hasedit_name) (option_map has_edits (id_of a))
    (cond (same_bytes name clip_name) (option_map clips (float_of a)) (cond (same_bytes name reset_name) (option_map resets (float_of a)) None))))

-- "remove C BUDGET", "removeedit V BUDGET", "drop GROUP BUDGET"
unfoldable pub three_words : List ℕ → List ℕ → List ℕ → Option Call
three_words name a b =
    cond (same_bytes name remove_name) (of_id_budget removes (id_of a) (budget_of b))
    (cond (same_bytes name removeedit_name) (of_id_budget removes_edit (id_of a) (budget_of b))
    (cond (same_bytes name drop_name) (of_id_budget drops (budget_of a) (budget_of b)) None))

-- "addedit V STRENGTH BUDGET", "suggest V VALUE BUDGET"
unfoldable pub four_words : List ℕ → List ℕ → List ℕ → List ℕ → Option Call
four_words name a b c =
    cond (same_bytes name addedit_name) (of_edit adds_edit (id_of a) (float_of b) (budget_of c))
    (cond (same_bytes name suggest_name) (of_edit suggests (id_of a) (float_of b) (budget_of c)) None)

-- "create A B C W"
unfoldable pub five_words : List ℕ → List ℕ → List ℕ → List ℕ → List ℕ → Option Call
five_words name a b c d = cond (same_bytes name create_name) (of_reals (float_of a) (float_of b) (float_of c) (float_of d)) None

-- ---- "add C BUDGET REL STRENGTH CONSTANT N V1 K1 V2 K2 ...      REL is le, eq or ge", "`add` is group 1"
-- ---- "addg GROUP C BUDGET REL STRENGTH CONSTANT N V1 K1 ..."

unfoldable pub relation_of : List ℕ → Option Float → Option Relation
relation_of w None = None
relation_of w (Some s) =
    cond (same_bytes w le_name) (Some (at_most s)) (cond (same_bytes w eq_name) (Some (equal s)) (cond (same_bytes w ge_name) (Some (at_least s)) None))

abbrev pub term_then : Option ℕ → Option Float → Option (List Term) → Option (List Term)
term_then (Some v) (Some x) (Some ts) = Some (record { variable = v; coefficient = x } ∷ ts)
term_then (Some v) (Some x) None = None
term_then (Some v) None ts = None
term_then None x ts = None

unfoldable pub terms_of : List (List ℕ) → Option (List Term)
terms_of [] = Some []
terms_of (v ∷ []) = None
terms_of (v ∷ k ∷ ws) = term_then (id_of v) (float_of k) (terms_of ws)

abbrev pub of_add : Option ℕ → Option ℕ → Option ℕ → Option Relation → Option Float → Option (List Term) → Option Call
of_add (Some g) (Some n) (Some b) (Some r) (Some k) (Some ts) = Some (adds g n ts k r b)
of_add (Some g) (Some n) (Some b) (Some r) (Some k) None = None
of_add (Some g) (Some n) (Some b) (Some r) None ts = None
of_add (Some g) (Some n) (Some b) None k ts = None
of_add (Some g) (Some n) None r k ts = None
of_add (Some g) None b r k ts = None
of_add None c b r k ts = None

-- N is how many pairs follow
abbrev pub counts : Option ℕ → ℕ → Bool
counts (Some n) l = 2 * n == l
counts None l = false

-- the words behind the name, and behind the group's
unfoldable pub add_words : Option ℕ → List ℕ → List ℕ → List ℕ → List ℕ → List ℕ → List ℕ → List (List ℕ) → Option Call
add_words g c b rel s k n ws =
    cond (counts (up_to 4294967295 (digits_of 10 n)) (length ws)) (of_add g (id_of c) (budget_of b) (relation_of rel (float_of s)) (float_of k) (terms_of ws)) None

abbrev pub addg_words : List ℕ → List ℕ → List ℕ → List ℕ → List ℕ → List ℕ → List (List ℕ) → Option Call
addg_words g c b rel s k [] = None
addg_words g c b rel s k (n ∷ ws) = add_words (budget_of g) c b rel s k n ws

unfoldable pub long_words : List ℕ → List ℕ → List ℕ → List ℕ → List ℕ → List ℕ → List ℕ → List (List ℕ) → Option Call
long_words name u v w x y z ws = cond (same_bytes name add_name) (add_words (Some 1) u v w x y z ws) (cond (same_bytes name addg_name) (addg_words u v w x y z ws) None)

-- ---- the call that a line names; "A line that is no call is answered `?` and changes nothing."

unfoldable pub call_of : List (List ℕ) → Option Call
call_of [] = None
call_of (name ∷ []) = one_word name
call_of (name ∷ a ∷ []) = two_words name a
call_of (name ∷ a ∷ b ∷ []) = three_words name a b
call_of (name ∷ a ∷ b ∷ c ∷ []) = four_words name a b c
call_of (name ∷ a ∷ b ∷ c ∷ d ∷ []) = five_words name a b c d
call_of (name ∷ a ∷ b ∷ c ∷ d ∷ e ∷ []) = None
call_of (name ∷ a ∷ b ∷ c ∷ d ∷ e ∷ f ∷ ws) = long_words name a b c d e f ws
