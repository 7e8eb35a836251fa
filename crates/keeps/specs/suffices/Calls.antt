-- Every changing call tells: after it each live variable is in the changed set, or has the value that was told of it. Assumes nothing.
use Rattle.std.proofs.Math.Path.{◌≡◌, sym}
use Rattle.std.specs.Prelude.{refl, List, [], ◌∷◌, Bool, not, cond, ◌&&◌, ℕ, zero, suc, ◌-◌, ◌≤◌, eqb, Float}
use Rattle.std.proofs.Common.{◌∙◌, true≢false, arith}
use Rattle.std.proofs.Math.Option.{Option, none, some}
use Rattle.std.proofs.Math.Bool.{true, false}
use Rattle.std.proofs.Math.Dec.{eqb-suc-zero}
use Rattle.std.specs.Float.Ieee.{lt}
use Rattle.steps.specs.Number.{zero64, is_finite, all_whole, not_whole}
use Rattle.steps.specs.Strength.{required, clip}
use Rattle.steps.specs.Symbol.{Kind, External, Slack, Error, Dummy, Symbol, is_external, is_error}
use Rattle.steps.specs.State.{Term, Relation, equal, strength_of, comparison_of, Tag, Constraint, Edit, State}
use Rattle.steps.specs.Work.{Work, Outcome, refused, going}
use Rattle.steps.specs.Add.{Added, add_steps}
use Rattle.steps.specs.Remove.{remove_steps}
use Rattle.steps.specs.Edit.{edit_terms, add_edit_steps, suggest_steps}
use Rattle.steps.specs.Tests.{first_refusal, finite_terms, add_tests, add_edit_tests, drop_tests, gone_full, group_of, kept_terms, find_constraint, keep_constraint, drop_constraint, find_edit, keep_edit, drop_edit}
use Rattle.steps.specs.Calls.{Result, begin, finish, refused_by, accepted_as, conclude, conclude_add, add, remove_stored, unless_full, remove, onward, remove_all, all_or_none, drop_group, add_edit, remove_edit_stored, remove_edit, suggest}
use Rattle.steps.specs.Changing.{Changing, adds, removes, drops, adds_edit, removes_edit, suggests, made}
use Rattle.steps.specs.Readable.{code, tag_symbols, tag_kinds, edit_kinds}
use Rattle.keeps.specs.Lists.{All, all-zip, times, left, right}
use Rattle.keeps.specs.Keys.{find_by, find-all, drop-total, find_constraint-is, find_edit-is}
use Rattle.keeps.specs.Cells.{Fine, zero-finite}
use Rattle.keeps.specs.Codes.{codes, codes-mem}
use Rattle.keeps.specs.Places.{times-all}
use Rattle.keeps.specs.Passes.{Ends}
use Rattle.keeps.specs.Reads.{Reads, unmap, con_number, edit_number, tag_code}
use Rattle.keeps.specs.Good.{tags_by, begin-good}
use Rattle.keeps.specs.Addition.{passed}
use Rattle.keeps.specs.Groups.{Removable, group-removable, first_found, removed-kept, others-removable}
use Rattle.keeps.specs.suffices.Fresh.{Aware}
use Rattle.keeps.specs.suffices.Values.{Rounded}
use Rattle.keeps.specs.suffices.Placed.{good_placed}
use Rattle.keeps.specs.suffices.Pivoting.{Sees}
use Rattle.keeps.specs.suffices.Passing.{suggest-sees}
use Rattle.keeps.specs.suffices.Removing.{Other, remove-sees}
use Rattle.keeps.specs.suffices.Adding.{add-sees}

-- of a state between calls
pub record Informed (s : State) : Type 0 where
  pub aware : Aware s.tableau.rows s.changes
  pub rounded : Rounded s.tableau.rows

begin-sees : (s : State) → Reads s → Informed s → Sees (begin s)
begin-sees s r h =
    let g = begin-good s r in
    unfold begin in record { fits = g.fits; fine = go s.whole; placed = good_placed _ _ (begin s) g; told = record { aware = h.aware; rounded = h.rounded } }
  where
    go : (b : Bool) → Fine (cond b all_whole not_whole)
    go true = tt
    go false = tt

finished : (w : Work) (cs : List Constraint) (es : List Edit) → Sees w → Informed (finish w cs es)
unfolding finish
finished w cs es h = record { aware = h.told.aware; rounded = h.told.rounded }

concluded : (s : State) (o : Outcome Work) (cs : List Constraint) (es : List Edit) → Informed s → Ends Sees o → Informed (conclude s o (λ w. finish w cs es)).state
unfolding conclude refused_by accepted_as
concluded s (refused n p m) cs es i h = i
concluded s (going w) cs es i h = finished w cs es h

concluded_add : (s : State) (o : Outcome Added) (cs : Added → List Constraint) (es : Added → List Edit) → Informed s → Ends (λ (a : Added). Sees a.work) o → Informed (conclude_add s o (λ a. finish a.work (cs a) (es a))).state
unfolding conclude_add refused_by accepted_as
concluded_add s (refused n p m) cs es i h = i
concluded_add s (going a) cs es i h = finished a.work (cs a) (es a) h

plain : (s : State) → (begin s).artificial ≡ none
unfolding begin
plain s = refl

-- ---- a tag's symbols are live, and none is a variable's

kinds-others : (strength : Float) (t : Tag) → tag_kinds strength t ≡ true → All (λ (x : Symbol). is_external x ≡ false) (tag_symbols t)
unfolding tag_kinds tag_symbols is_error is_external
kinds-others strength t e = (marker t.marker.kind e, other t.other t.marker.kind e)
  where
    below : Bool
    below = lt strength required

    error : (b : Bool) (o : Symbol) → (b && elim o.kind as (λ _. Bool) [ External ↦ false | Slack ↦ false | Error ↦ true | Dummy ↦ false ]) ≡ true → elim o.kind as (λ _. Bool) [ External ↦ true | Slack ↦ false | Error ↦ false | Dummy ↦ false ] ≡ false
    error b o e = go o.kind (right b _ e)
      where
        go : (k : Kind) → elim k as (λ _. Bool) [ External ↦ false | Slack ↦ false | Error ↦ true | Dummy ↦ false ] ≡ true → elim k as (λ _. Bool) [ External ↦ true | Slack ↦ false | Error ↦ false | Dummy ↦ false ] ≡ false
        go External q = absurd (true≢false (sym q))
        go Slack q = refl
        go Error q = refl
        go Dummy q = refl

    test : Kind → Option Symbol → Bool
    test k o =
        elim k [
          | External ↦ false
          | Slack ↦ elim o [ none ↦ not below | some x ↦ below && is_error x ]
          | Error ↦ elim o [ none ↦ false | some x ↦ below && is_error x ]
          | Dummy ↦ elim o [ none ↦ not below | some x ↦ false ]
        ]

    marker : (k : Kind) → test k t.other ≡ true → elim k as (λ _. Bool) [ External ↦ true | Slack ↦ false | Error ↦ false | Dummy ↦ false ] ≡ false
    marker External q = absurd (true≢false (sym q))
    marker Slack q = refl
    marker Error q = refl
    marker Dummy q = refl

    other : (o : Option Symbol) (k : Kind) → test k o ≡ true → All (λ (x : Symbol). is_external x ≡ false) (elim o as (λ _. List Symbol) [ none ↦ [] | some x ↦ x ∷ [] ])
    other none k q = tt
    other (some x) External q = absurd (true≢false (sym q))
    other (some x) Slack q = (error below x q, tt)
    other (some x) Error q = (error below x q, tt)
    other (some x) Dummy q = absurd (true≢false (sym q))

tag-others : (s : State) → Reads s → (t : Tag) → ((n : ℕ) → tag_code n t ≤ tags_by n s.constraints s.edits) → All (λ (x : Symbol). is_external x ≡ false) (tag_symbols t) → All (Other (begin s).tableau.symbols) (tag_symbols t)
unfolding begin
tag-others s r t l k = all-zip _ _ (Other s.tableau.symbols) (λ x m q. (codes-mem x s.tableau.symbols m, q)) (tag_symbols t) (unmap code _ (tag_symbols t) (times-all (λ n. 1 ≤ times n (codes s.tableau.symbols)) (codes (tag_symbols t)) (λ n h. omega (arith, h, l n, r.owns n)))) k

-- ---- the calls

constant-finite : (g n : ℕ) (ts : List Term) (k : Float) (r : Relation) (s : State) → first_refusal (add_tests g n ts k r s) ≡ none → is_finite k ≡ true
unfolding add_tests
constant-finite g n ts k r s e = right (finite_terms ts) (is_finite k) (left (finite_terms ts && is_finite k) (is_finite (strength_of r)) (yes _ (passed _ _ (passed _ _ e).1).0))
  where
    yes : (b : Bool) → not b ≡ false → b ≡ true
    yes true q = refl
    yes false q = absurd (true≢false q)

add-informed : (g n : ℕ) (ts : List Term) (k : Float) (r : Relation) (b : ℕ) (s : State) → Reads s → Informed s → Informed (add g n ts k r b s).state
unfolding add refused_by
add-informed g n ts k r b s reads i = go (first_refusal (add_tests g n ts k r s)) refl
  where
    stores : Added → List Constraint
    stores a = keep_constraint (record { number = n; group = g; comparison = comparison_of r; strength = strength_of r; constant = k; terms = kept_terms s.tableau.cutoff ts; tag = a.tag }) s.constraints

    go : (o : Option ℕ) → first_refusal (add_tests g n ts k r s) ≡ o
        → Informed (elim o as (λ _. Result) [ some x ↦ refused_by x 0 s.whole s | none ↦ conclude_add s (add_steps b ts k r (begin s)) (λ a. finish a.work (stores a) s.edits) ]).state
    go (some x) e = i
    go none e = concluded_add s (add_steps b ts k r (begin s)) stores (λ a. s.edits) i (add-sees b ts k r _ _ (begin s) (begin-good s reads) (begin-sees s reads i) (plain s) (constant-finite g n ts k r s e))

add_edit-informed : (n : ℕ) (k : Float) (b : ℕ) (s : State) → Reads s → Informed s → Informed (add_edit n k b s).state
unfolding add_edit add_edit_steps refused_by
add_edit-informed n k b s reads i = go (first_refusal (add_edit_tests n (clip k) s))
  where
    stores : Added → List Edit
    stores a = keep_edit (record { variable = n; strength = clip k; tag = a.tag; suggestion = zero64 }) s.edits

    go : (o : Option ℕ) → Informed (elim o as (λ _. Result) [ some x ↦ refused_by x 0 s.whole s | none ↦ conclude_add s (add_steps b (edit_terms n) zero64 (equal (clip k)) (begin s)) (λ a. finish a.work s.constraints (stores a)) ]).state
    go (some x) = i
    go none = concluded_add s (add_steps b (edit_terms n) zero64 (equal (clip k)) (begin s)) (λ a. s.constraints) stores i (add-sees b (edit_terms n) zero64 (equal (clip k)) _ _ (begin s) (begin-good s reads) (begin-sees s reads i) (plain s) zero-finite)

stored-informed : (n : ℕ) (c : Constraint) (b : ℕ) (s : State) → find_constraint n s.constraints ≡ some c → Reads s → Informed s → Informed (remove_stored n c b s).state
unfolding remove_stored
stored-informed n c b s e r i =
    concluded s (remove_steps b c.tag c.strength c.terms (begin s)) (drop_constraint n s.constraints) s.edits i
    (remove-sees b c.tag c.strength c.terms (begin s) (begin-sees s r i) (plain s) (tag-others s r c.tag few (kinds-others c.strength c.tag kinds)))
  where
    by : ◌≡◌ {A = Option Constraint} (find_by con_number n s.constraints) (some c)
    by = sym (find_constraint-is n s.constraints) ∙ e

    few : (m : ℕ) → tag_code m c.tag ≤ tags_by m s.constraints s.edits
    few m = omega (arith, drop-total con_number (λ (c : Constraint). tag_code m c.tag) n s.constraints c by)

    kinds : tag_kinds c.strength c.tag ≡ true
    kinds = find-all con_number (λ (c : Constraint). tag_kinds c.strength c.tag ≡ true) n s.constraints c by r.constraint-kinds

remove-informed : (n b : ℕ) (s : State) → Reads s → Informed s → Informed (remove n b s).state
unfolding remove unless_full refused_by
remove-informed n b s r i = go (find_constraint n s.constraints) refl
  where
    full : (c : Constraint) → find_constraint n s.constraints ≡ some c → (t : Bool) → Informed (elim t as (λ _. Result) [ true ↦ refused_by 25 0 s.whole s | false ↦ remove_stored n c b s ]).state
    full c e true = i
    full c e false = stored-informed n c b s e r i

    go : (o : Option Constraint) → find_constraint n s.constraints ≡ o → Informed (elim o as (λ _. Result) [ none ↦ refused_by 5 0 s.whole s | some c ↦ unless_full c.terms s (remove_stored n c b s) ]).state
    go none e = i
    go (some c) e = full c e (gone_full c.terms s)

remove_edit-informed : (n b : ℕ) (s : State) → Reads s → Informed s → Informed (remove_edit n b s).state
unfolding remove_edit remove_edit_stored unless_full refused_by
remove_edit-informed n b s r i = go (find_edit n s.edits) refl
  where
    removed : (c : Edit) → find_edit n s.edits ≡ some c → Informed (remove_edit_stored n c b s).state
    removed c e =
        concluded s (remove_steps b c.tag c.strength (edit_terms n) (begin s)) s.constraints (drop_edit n s.edits) i
        (remove-sees b c.tag c.strength (edit_terms n) (begin s) (begin-sees s r i) (plain s) (tag-others s r c.tag few (kinds-others c.strength c.tag (right (is_error c.tag.marker) (tag_kinds c.strength c.tag) (unfold edit_kinds in kinds)))))
      where
        by : ◌≡◌ {A = Option Edit} (find_by edit_number n s.edits) (some c)
        by = sym (find_edit-is n s.edits) ∙ e

        few : (m : ℕ) → tag_code m c.tag ≤ tags_by m s.constraints s.edits
        few m = omega (arith, drop-total edit_number (λ (e : Edit). tag_code m e.tag) n s.edits c by)

        kinds : edit_kinds c ≡ true
        kinds = find-all edit_number (λ (e : Edit). edit_kinds e ≡ true) n s.edits c by r.edit-kinds

    full : (c : Edit) → find_edit n s.edits ≡ some c → (t : Bool) → Informed (elim t as (λ _. Result) [ true ↦ refused_by 25 0 s.whole s | false ↦ remove_edit_stored n c b s ]).state
    full c e true = i
    full c e false = removed c e

    go : (o : Option Edit) → find_edit n s.edits ≡ o → Informed (elim o as (λ _. Result) [ none ↦ refused_by 8 0 s.whole s | some c ↦ unless_full (edit_terms n) s (remove_edit_stored n c b s) ]).state
    go none e = i
    go (some c) e = full c e (gone_full (edit_terms n) s)

suggest-informed : (n : ℕ) (x : Float) (b : ℕ) (s : State) → Reads s → Informed s → Informed (suggest n x b s).state
unfolding suggest refused_by
suggest-informed n x b s r i = by (is_finite x)
  where
    stores : Edit → List Edit
    stores c = keep_edit (record { variable = n; strength = c.strength; tag = c.tag; suggestion = x }) (drop_edit n s.edits)

    at : Option Edit → Result
    at o = elim o [ none ↦ refused_by 8 0 s.whole s | some c ↦ conclude s (suggest_steps b c x (begin s)) (λ w. finish w s.constraints (stores c)) ]

    go : (o : Option Edit) → Informed (at o).state
    go none = i
    go (some c) = concluded s (suggest_steps b c x (begin s)) s.constraints (stores c) i (suggest-sees b c x (begin s) (begin-sees s r i))

    by : (f : Bool) → Informed (elim f as (λ _. Result) [ false ↦ refused_by 1 0 s.whole s | true ↦ at (find_edit n s.edits) ]).state
    by false = i
    by true = go (find_edit n s.edits)

-- ---- a drop

remove_all-informed : (ds : List Constraint) (b : ℕ) (s : State) → Reads s → Removable ds s → Informed s → Informed (remove_all ds b s).state
unfolding remove_all
remove_all-informed [] b s r f i = i
remove_all-informed (d ∷ ds) b s r f i = go one.answer.number refl (λ e. remove_all-informed ds (b - one.answer.pivots) one.state (removed-kept d ds b s f r) (others-removable d ds b s f r e) first)
  where
    one : Result
    one = remove_stored d.number d b s

    first : Informed one.state
    first = stored-informed d.number d b s (first_found d ds b s f) r i

    rest : Result
    rest = remove_all ds (b - one.answer.pivots) one.state

    go : (k : ℕ) → one.answer.number ≡ k → (one.answer.number ≡ 0 → Informed rest.state) → Informed (onward one rest).state
    go zero e on = unfold onward in rw (e, onward) (on e)
    go (suc k) e on = unfold onward in rw (e, eqb-suc-zero k, onward) first

drop-informed : (g b : ℕ) (s : State) → Reads s → Informed s → Informed (drop_group g b s).state
unfolding drop_group all_or_none refused_by
drop-informed g b s r i = go (first_refusal (drop_tests g s)) refl
  where
    all : Result
    all = remove_all (group_of g s.constraints) b s

    by : first_refusal (drop_tests g s) ≡ none → (t : Bool) → Informed (elim t as (λ _. Result) [ true ↦ all | false ↦ refused_by all.answer.number all.answer.pivots all.answer.whole s ]).state
    by e true = remove_all-informed (group_of g s.constraints) b s r (group-removable g s r e) i
    by e false = i

    go : (o : Option ℕ) → first_refusal (drop_tests g s) ≡ o → Informed (elim o as (λ _. Result) [ some x ↦ refused_by x 0 s.whole s | none ↦ all_or_none s all ]).state
    go (some x) e = i
    go none e = by e (eqb all.answer.number 0)

-- every changing call
pub made-informed : (c : Changing) (s : State) → Reads s → Informed s → Informed (made c s).state
made-informed (adds g n ts k r b) s reads i = add-informed g n ts k r b s reads i
made-informed (removes n b) s reads i = remove-informed n b s reads i
made-informed (drops g b) s reads i = drop-informed g b s reads i
made-informed (adds_edit n k b) s reads i = add_edit-informed n k b s reads i
made-informed (removes_edit n b) s reads i = remove_edit-informed n b s reads i
made-informed (suggests n x b) s reads i = suggest-informed n x b s reads i
