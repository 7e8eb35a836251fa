-- The public calls as anybody can make them: with any working room, lists of any lengths, and a kind that may be none of the three. Tables are arrays, whose types say their lengths. Assumes nothing.
use Rattle.std.specs.Prelude.{ℕ, ◌≡◌, Bool, ◌&&◌, cond, List, [], ◌∷◌, eqb, ltb, length, Float}
use Rattle.std.proofs.Math.Path.{refl}
use Rattle.std.proofs.Math.Bool.{true, false}
use Rattle.std.proofs.lemmas.Bool.{false≢true}
use Rattle.std.proofs.Math.Option.{Option, none, some}
use Rattle.std.proofs.Common.{le-leb}
use Rattle.steps.specs.State.{State}
use Rattle.steps.specs.Calls.{add, remove, drop_group, add_edit, remove_edit, suggest}
use Rattle.steps.specs.Changing as changing
use Rattle.sparse.specs.Sparse.{Sparse, read}
use Rattle.sparse_test.specs.Asked.{asked}
use Rattle.sparse_test.specs.Reads.{greatest_u32}
use Rattle.lending.specs.Lending.{Called, called, call_of}
use Rattle.lending.specs.Reset.{reset_of}
use Rattle.fetches.specs.Fetch.{fetch_of}
use Rattle.changes.specs.declared.terms.Term.{Term}
use Rattle.changes.specs.terms.Terms.{term_of, terms_in}
use Rattle.knobharbor.specs.Given.{given, relation_by}
use Rattle.knobharbor.specs.Adding.{add_of, add_lists_of}
use Rattle.grammar.specs.Sums as grammar
use Rattle.grammar.specs.Reader.{read_line}
use Rattle.grammar.specs.Names.{Named}
use Rattle.grammar.proofs.Names.{line-named}
use Rattle.keeps.specs.Lists.{All}
use Rattle.entry.specs.typed.Typed.{typed_term, typed_terms, whole_of, required_by}
use Rattle.entry.specs.typed.Adding.{mark_in, add_read, text_of}
use Rattle.run.specs.Demand.{Call, resets, fetches, adds, removes, drops, adds_edit, removes_edit, suggests, make}
use Rattle.sparse_test.specs.narrow.Numbers.{is_u32}
use Rattle.sparse_test.specs.narrow.Narrow.{Typed}
use Rattle.sparse_test.specs.narrow.NearAdd.{TermNamed}
use Rattle.sparse_test.specs.narrow.Holds.{Holds}
use Rattle.solver.specs.Change.{call-holds}
use Rattle.lasting.specs.Promises.{fetch-holds, reset-made}

-- a call of a run over tables, with its working room: what its contract says that it answers and leaves. A fetch is no changing call: it leaves what its contract
-- says, and counts as accepted here, with the stored mark, as in `make`; what it lists is `tables-fetch`.
unfoldable pub make_on : Call → Sparse → Sparse → Called
make_on (resets cutoff) work t = reset_of cutoff t
make_on fetches work t = called (record { number = 0; pivots = 0; whole = (read t).whole }) (fetch_of t).tables
make_on (adds g n terms constant relation budget) work t = call_of (add g n terms constant relation budget) work t
make_on (removes n budget) work t = call_of (remove n budget) work t
make_on (drops g budget) work t = call_of (drop_group g budget) work t
make_on (adds_edit v strength budget) work t = call_of (add_edit v strength budget) work t
make_on (removes_edit v budget) work t = call_of (remove_edit v budget) work t
make_on (suggests v x budget) work t = call_of (suggest v x budget) work t

-- ---- any public call

pub data Public : Type 0 where
  -- one of a run's
  makes : Call → Public
  -- an add under its C names, of a list of records and of two lists: group, number, terms, constant, kind, strength, budget
  adds_terms : ℕ → ℕ → List Term → Float → ℕ → Float → ℕ → Public
  adds_lists : ℕ → ℕ → List ℕ → List Float → Float → ℕ → Float → ℕ → Public
  -- an add of a line of text, in group 1: number, bytes, budget
  adds_text : ℕ → List ℕ → ℕ → Public

-- what its contract says that it answers and leaves
unfoldable pub public_on : Public → Sparse → Sparse → Called
public_on (makes c) work t = make_on c work t
public_on (adds_terms g n ts constant kind strength budget) work t = add_of g n ts constant kind strength budget work t
public_on (adds_lists g n vars coefs constant kind strength budget) work t = add_lists_of g n vars coefs constant kind strength budget work t
public_on (adds_text n line budget) work t = (text_of n line budget work t).call

abbrev pub adds_by : ℕ → ℕ → List Term → Float → ℕ → Float → ℕ → Call
adds_by g n ts constant kind strength budget = adds g n (terms_in ts) constant (relation_by kind strength) budget

-- the add that a line reads as
abbrev pub adds_read : ℕ → grammar.Reading → ℕ → Call
adds_read n r budget = adds 1 n (terms_in (typed_terms r.terms)) (whole_of r.constant) (required_by r.relation) budget

abbrev pub text_call : ℕ → grammar.Answer → ℕ → Option Call
text_call n (grammar.reads r) budget = some (adds_read n r budget)
text_call n (grammar.outside at) budget = none
text_call n (grammar.refused k) budget = none

-- the call of a run that it is; none where the lists or the kind are unfit, or the line does not read
unfoldable pub run_call : Public → Option Call
run_call (makes c) = some c
run_call (adds_terms g n ts constant kind strength budget) = cond (ltb kind 3) (some (adds_by g n ts constant kind strength budget)) none
run_call (adds_lists g n vars coefs constant kind strength budget) =
    cond (eqb (length vars) (length coefs) && ltb kind 3) (some (adds_by g n (given vars coefs) constant kind strength budget)) none
run_call (adds_text n line budget) = text_call n (read_line line) budget

-- the number by which it is refused where it is none: 18, or the line's own
abbrev pub line_number : grammar.Answer → ℕ
line_number (grammar.reads r) = 18
line_number (grammar.outside at) = 20
line_number (grammar.refused k) = k

abbrev pub unfit_number : Public → ℕ
unfit_number (makes c) = 18
unfit_number (adds_terms g n ts constant kind strength budget) = 18
unfit_number (adds_lists g n vars coefs constant kind strength budget) = 18
unfit_number (adds_text n line budget) = line_number (read_line line)

-- what the types of the call's numbers say: a constraint's and a variable's number is a u32
abbrev pub TypedCall : Call → Type 0
TypedCall (resets cutoff) = Unit {0}
TypedCall fetches = Unit {0}
TypedCall (adds g n terms constant relation budget) = Typed (changing.adds g n terms constant relation budget)
TypedCall (removes n budget) = Unit {0}
TypedCall (drops g budget) = Unit {0}
TypedCall (adds_edit v strength budget) = Typed (changing.adds_edit v strength budget)
TypedCall (removes_edit v budget) = Unit {0}
TypedCall (suggests v x budget) = Unit {0}

abbrev pub TypedPublic : Public → Type 0
TypedPublic (makes c) = TypedCall c
TypedPublic (adds_terms g n ts constant kind strength budget) = TypedCall (adds_by g n ts constant kind strength budget)
TypedPublic (adds_lists g n vars coefs constant kind strength budget) = TypedCall (adds_by g n (given vars coefs) constant kind strength budget)
TypedPublic (adds_text n line budget) = is_u32 n ≡ true

-- of a line's variables the grammar says it
typed-read : (ts : List grammar.Term) → Named ts → All (TermNamed is_u32) (terms_in (typed_terms ts))
unfolding terms_in term_of typed_term is_u32
typed-read [] h = tt
typed-read (t ∷ ts) h = (le-leb t.variable greatest_u32 h.0, typed-read ts h.1)

-- ---- one call on tables that hold a state

-- a call of a run: its answer, and its state in the tables. Any other: the number k, and the tables as they were; the mark that it answers is no, or the stored one.
abbrev pub Steps : ℕ → State → Sparse → Called → Option Call → Type 0
Steps k s t r (some c) = (r.answer ≡ (make c s).answer) × Holds (make c s).state r.tables
Steps k s t r none = (r.answer.number ≡ k) × (r.tables ≡ t) × (r.answer.whole ≡ true → (read t).whole ≡ true)

module _ (s : State) (w t : Sparse) (h : Holds s t) where
  made-is : (c : Call) → TypedCall c → Steps 18 s t (make_on c w t) (some c)
  unfolding make_on make
  made-is (resets cutoff) typed = reset-made cutoff s t h
  made-is fetches typed = (rw h.state refl, fetch-holds s t h)
  made-is (adds g n ts k r b) typed = call-holds (changing.adds g n ts k r b) s w t typed h
  made-is (removes n b) typed = call-holds (changing.removes n b) s w t typed h
  made-is (drops g b) typed = call-holds (changing.drops g b) s w t typed h
  made-is (adds_edit v k b) typed = call-holds (changing.adds_edit v k b) s w t typed h
  made-is (removes_edit v b) typed = call-holds (changing.removes_edit v b) s w t typed h
  made-is (suggests v x b) typed = call-holds (changing.suggests v x b) s w t typed h

  says-no : false ≡ true → (read t).whole ≡ true
  says-no z = absurd (false≢true z)

  added_is : (g n : ℕ) (ts : List Term) (k : Float) (kind : ℕ) (x : Float) (b : ℕ) → TypedCall (adds_by g n ts k kind x b) → (right : Bool) → ltb kind 3 ≡ right
      → Steps 18 s t (add_of g n ts k kind x b w t) (cond right (some (adds_by g n ts k kind x b)) none)
  unfolding add_of make_on
  added_is g n ts k kind x b typed true e = rw e (made-is (adds_by g n ts k kind x b) typed)
  added_is g n ts k kind x b typed false e = rw e (refl, refl, says-no)

  listed-is : (g n : ℕ) (vars : List ℕ) (coefs : List Float) (k : Float) (kind : ℕ) (x : Float) (b : ℕ) → TypedCall (adds_by g n (given vars coefs) k kind x b) → (right : Bool) → eqb (length vars) (length coefs) ≡ right
      → Steps 18 s t (add_lists_of g n vars coefs k kind x b w t) (cond (right && ltb kind 3) (some (adds_by g n (given vars coefs) k kind x b)) none)
  unfolding add_lists_of
  listed-is g n vars coefs k kind x b typed true e = rw e (added_is g n (given vars coefs) k kind x b typed (ltb kind 3) refl)
  listed-is g n vars coefs k kind x b typed false e = rw e (refl, refl, says-no)

  mark-stored : mark_in t ≡ true → (read t).whole ≡ true
  unfolding mark_in asked
  mark-stored e = rw h.reads at e

  text-is : (n : ℕ) (a : grammar.Answer) (b : ℕ) → is_u32 n ≡ true → ((r : grammar.Reading) → a ≡ grammar.reads r → Named r.terms) → Steps (line_number a) s t (add_read n a b w t).call (text_call n a b)
  unfolding add_read make_on
  text-is n (grammar.reads r) b typed named = made-is (adds_read n r b) (typed, typed-read r.terms (named r refl))
  text-is n (grammar.outside at) b typed named = (refl, refl, mark-stored)
  text-is n (grammar.refused k) b typed named = (refl, refl, mark-stored)

  pub public-step : (p : Public) → TypedPublic p → Steps (unfit_number p) s t (public_on p w t) (run_call p)
  unfolding public_on run_call text_of
  public-step (makes c) typed = made-is c typed
  public-step (adds_terms g n ts k kind x b) typed = added_is g n ts k kind x b typed (ltb kind 3) refl
  public-step (adds_lists g n vars coefs k kind x b) typed = listed-is g n vars coefs k kind x b typed (eqb (length vars) (length coefs)) refl
  public-step (adds_text n line b) typed = text-is n (read_line line) b typed (line-named line)
