-- What the code of a fetch leaves is the state after it, written into the tables, and its list.
-- Assumes nothing.
use Rattle.std.specs.Prelude.{ℕ, zero, suc, ◌+◌, ◌-◌, ◌≤◌, ◌≡◌, Bool, not, eqb, leb, Float, length, get_or, set, replicate}
use Rattle.std.proofs.Math.Path.{refl, ap}
use Rattle.std.proofs.Common.{sym, ◌∙◌, not-suc-le-zero, le_of_suc-le-suc}
use Rattle.std.proofs.Math.Bool.{true, false}
use mathlib.Core.List.{List, [], ◌∷◌, map}
use Rattle.std.proofs.Math.Nat.{zero-add}
use Rattle.laws.specs.Loops.{map_in}
use Rattle.steps.specs.Number.{zero64}
use Rattle.steps.specs.State.{Basic, Variable, State}
use Rattle.steps.specs.Changes.{Change, with_flag, news_of, merged, reported, fetch_changes}
use Rattle.steps.specs.Readable.{ascend, all, gone_fits}
use Rattle.keeps.specs.Clauses.{and3, clauses-in}
use Rattle.layout.specs.Layout.{bit_of, over}
use Rattle.layout.proofs.Copied.{length-list_of}
use Rattle.sparse.specs.Places.{should_clear_at, gone_count_at, gone_numbers_at, changed_at, old_values_at, most_gone}
use Rattle.sparse.specs.Lookup.{Ascends}
use Rattle.sparse.specs.Sparse.{Sparse, variable_count, gone_count, variable_of, gone_of, read}
use Rattle.sparse.specs.Write.{write}
use Rattle.sparse.specs.Form.{Form}
use Rattle.sparse_test.specs.Reads.{reads}
use Rattle.sparse_test.specs.Stretch.{ascends}
use Rattle.sparse_test.specs.Records.{gone-ascend, not_told}
use Rattle.sparse_test.specs.Meaning.{reads-form, reads-readable}
use Rattle.sparse_test.specs.Whole.{tables}
use Rattle.fetches.specs.Anew.{over-same}
use Rattle.fetches.specs.Others.{map-kept, flag_bit, flags-there, others-written}
use Rattle.fetches.specs.Seen.{cleared_if, cleared_by, seen, seen_all, under, variables-seen, value_there}
use Rattle.fetches.specs.Lists.{Lists, lists, filled}
use Rattle.fetches.specs.Listing.{Ended, ended, listing, list_all, listed}
use Rattle.fetches.specs.Fetch.{fetch, numbers_of, values_of, flags_of, places, fetch_in, fetch18, fetch_of}

together : {l k : Lists} {t u : Sparse} → l ≡ k → t ≡ u → fetch 0 l.count l.numbers l.values l.gone t ≡ fetch 0 k.count k.numbers k.values k.gone u
together a b = rw (a, b) refl

map-twice : {A B C : Type 0} (f : B → C) (g : A → B) (l : List A) → map f (map g l) ≡ map (λ x. f (g x)) l
map-twice f g [] = refl
map-twice f g (x ∷ l) = rw (map-twice f g l) refl

-- the toggle, as the code has it
toggled : (x : ℕ) → x ≤ 1 → bit_of (not (eqb x 1)) ≡ 1 - x
unfolding bit_of
toggled zero h = refl
toggled (suc zero) h = refl
toggled (suc (suc x)) h = absurd (not-suc-le-zero (le_of_suc-le-suc h))

abbrev pub empty : Lists
empty = lists (replicate places 0) (replicate places zero64) (replicate places 0) 0

module _ (t : Sparse) (ok : reads t ≡ true) where
  pub form : Form t
  form = reads-form t ok

  -- what a lookup among the gone needs
  pub gone-ascends : Ascends t.words gone_numbers_at (gone_count t)
  unfolding gone_fits
  gone-ascends =
      let c = and3 (leb (length (read t).changes.gone) most_gone) (ascend (read t).changes.gone) (all (not_told t) (read t).changes.variables) (clauses-in (read t) (reads-readable t ok)).gone in
      ascends t.words gone_numbers_at (gone_count t) (sym (gone-ascend t) ∙ c.1)

  abbrev s : State
  s = read t

  abbrev vs : List Variable
  vs = s.changes.variables

  abbrev gone : List ℕ
  gone = s.changes.gone

  abbrev rows : List Basic
  rows = s.tableau.rows

  many : length vs ≡ variable_count t
  unfolding read
  many = length-list_of (variable_count t) (variable_of t)

  -- what a fetch leaves of a variable, and its list
  abbrev after : Bool → Variable → Variable
  after c v = reported gone rows (seen c v)

  abbrev list : Bool → List Change
  list c = merged gone (news_of gone rows (map (seen c) vs))

  abbrev made : Bool → State
  made c = record { tableau = s.tableau; changes = record { variables = map (after c) vs; gone = []; should_clear = not c }; constraints = s.constraints; edits = s.edits; whole = s.whole }

  fetch-is : (c : Bool) → s.changes.should_clear ≡ c → fetch_changes s ≡ record { list = list c; state = made c }
  unfolding fetch_changes
  fetch-is c e = rw (e, seen_all c vs, map-twice (reported gone rows) (seen c) vs) refl

  in_is : (c : Bool) → s.changes.should_clear ≡ c
      → fetch_in t ≡ fetch 0 (length (list c)) (over 0 (numbers_of (list c)) (replicate places 0)) (over 0 (values_of (list c)) (replicate places zero64)) (over 0 (flags_of (list c)) (replicate places 0)) (write (made c) t)
  unfolding fetch_in
  in_is c e = rw (fetch-is c e) refl

  -- ---- the tables

  after-number : (c : Bool) (v : Variable) → (after c v).number ≡ v.number
  unfolding reported with_flag
  after-number true v = refl
  after-number false v = refl

  after-symbol : (c : Bool) (v : Variable) → (after c v).symbol ≡ v.symbol
  unfolding reported with_flag
  after-symbol true v = refl
  after-symbol false v = refl

  after-uses : (c : Bool) (v : Variable) → (after c v).uses ≡ v.uses
  unfolding reported with_flag
  after-uses true v = refl
  after-uses false v = refl

  flags : (c : Bool) → over changed_at (map flag_bit (map (after c) vs)) t.bytes ≡ cleared_if c (variable_count t) t.bytes
  unfolding reported with_flag bit_of
  flags true =
      ap (λ (l : List ℕ). over changed_at l t.bytes) (map-twice flag_bit (after true) vs)
      ∙ over-same (λ (v : Variable). flag_bit (after true v)) 0 (λ v. refl) changed_at vs t.bytes
      ∙ ap (λ (n : ℕ). map_in (λ _. 0) changed_at (changed_at + n) t.bytes) many
  flags false = ap (λ (l : List ℕ). over changed_at l t.bytes) (map-kept (after false) flag_bit (λ v. refl) vs) ∙ flags-there t form

  olds : Bool → List Float
  olds c = over old_values_at (map (λ (v : Variable). v.old) (map (after c) vs)) t.reals

  written : (c : Bool) → write (made c) t ≡ tables (set (set t.words should_clear_at (bit_of (not c))) gone_count_at 0) t.keys (cleared_if c (variable_count t) t.bytes) (olds c) t.values
  unfolding olds
  written c = others-written t form (after c) (not c) (after-number c) (after-symbol c) (after-uses c) ∙ rw (flags c) refl

  -- ---- the lists

  all_listed : (c : Bool) → list_all t.words (cleared_if c (variable_count t) t.bytes) (gone_count t) (variable_count t) (listing t.reals empty 0)
      ≡ ended (olds c) (lists (over 0 (numbers_of (list c)) (replicate places 0)) (over 0 (values_of (list c)) (replicate places zero64)) (over 0 (flags_of (list c)) (replicate places 0)) (length (list c)))
  unfolding read olds gone_of
  all_listed c =
      listed (under t form c) rows form.counts.rows (value_there t form c) empty
      ∙ rw (variables-seen t form c, ← map-twice (reported gone rows) (seen c) vs, filled (list c) empty, zero-add (length (list c))) refl

  -- ---- what the code leaves

  -- its loop begins with lists of zeros
  pub begun : (b : List ℕ) {ns gs : List ℕ} {us : List Float} {e : Ended} → ns ≡ replicate places 0 → us ≡ replicate places zero64 → gs ≡ replicate places 0
      → e ≡ list_all t.words b (gone_count t) (variable_count t) (listing t.reals (lists ns us gs 0) 0) → e ≡ list_all t.words b (gone_count t) (variable_count t) (listing t.reals empty 0)
  begun b x y z h = h ∙ rw (x, y, z) refl

  module _ {w b : List ℕ} {r : List Float} {l : Lists} (h : ended r l ≡ list_all t.words b (gone_count t) (variable_count t) (listing t.reals empty 0)) (k : b ≡ cleared_by t.words t.bytes)
      (z : w ≡ set (set t.words should_clear_at (1 - get_or t.words should_clear_at 0)) gone_count_at 0) where
    abbrev clear : Bool
    clear = eqb (get_or t.words should_clear_at 0) 1

    bytes-are : b ≡ cleared_if clear (variable_count t) t.bytes
    bytes-are = k ∙ (unfold cleared_by in refl)

    words_are : w ≡ set (set t.words should_clear_at (bit_of (not clear))) gone_count_at 0
    words_are = z ∙ ap (λ (x : ℕ). set (set t.words should_clear_at x) gone_count_at 0) (sym (toggled (get_or t.words should_clear_at 0) form.clear))

    told : ended r l ≡ ended (olds clear) (lists (over 0 (numbers_of (list clear)) (replicate places 0)) (over 0 (values_of (list clear)) (replicate places zero64)) (over 0 (flags_of (list clear)) (replicate places 0)) (length (list clear)))
    told = h ∙ ap (λ (y : List ℕ). list_all t.words y (gone_count t) (variable_count t) (listing t.reals empty 0)) bytes-are ∙ all_listed clear

    left : tables w t.keys b r t.values ≡ write (made clear) t
    left = rw (words_are, bytes-are, ap (λ (x : Ended). x.reals) told) (sym (written clear))

    pub fetch-done : fetch 0 l.count l.numbers l.values l.gone (tables w t.keys b r t.values) ≡ fetch_in t
    fetch-done = together (ap (λ (x : Ended). x.lists) told) left ∙ sym (in_is clear (unfold read in refl))

-- ---- the test, over variables: the lists are cleared

module _ (t : Sparse) {r : Bool} (e : r ≡ reads t) where
  pub fetch-refused : {ns gs : List ℕ} {us : List Float} → r ≡ false → ns ≡ replicate places 0 → us ≡ replicate places zero64 → gs ≡ replicate places 0 → fetch 18 0 ns us gs t ≡ fetch_of t
  unfolding fetch_of fetch18
  fetch-refused h z y x = rw (← e, h, z, y, x) refl

  pub fetch-accepted : r ≡ true → fetch_in t ≡ fetch_of t
  unfolding fetch_of
  fetch-accepted h = rw (← e, h) refl
