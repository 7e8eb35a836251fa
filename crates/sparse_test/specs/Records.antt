-- The records' test over places is the state's: kinds, finite numbers.
-- Assumes nothing.
use Rattle.std.specs.Prelude.{ℕ, zero, suc, ◌+◌, ◌≤◌, ◌<◌, ◌≡◌, Bool, ◌&&◌, ◌||◌, eqb, Float, get_or}
use Rattle.std.proofs.Math.Path.{refl, sym, ap}
use Rattle.std.proofs.Common.{◌∙◌, not-suc-le-zero, le_of_suc-le-suc}
use Rattle.std.proofs.Math.Bool.{true, false, not, cond}
use mathlib.Core.List.{List, [], ◌∷◌, ◌++◌, map}
use Rattle.std.proofs.Math.Option.{none, some}
use Rattle.std.proofs.Math.Dec.{ltb}
use Rattle.std.specs.Float.{nan}
use Rattle.std.specs.Float.Ieee.{is_nan, ne}
use Rattle.laws.specs.Lists.{all_in}
use Rattle.layout.specs.Layout.{kind_of}
use Rattle.steps.specs.Number.{is_finite}
use Rattle.steps.specs.Symbol.{Error, Slack, Dummy, External, is_external, is_error}
use Rattle.steps.specs.State.{Term, Variable, Constraint, Edit}
use Rattle.steps.specs.Changes.{never_reported}
use Rattle.steps.specs.Tests.{member}
use Rattle.steps.specs.Readable as steps
use Rattle.rows.specs.places.Finding.{all-at, at_all}
use Rattle.rows.specs.places.Listed.{same, all_list, member-list, ascend-list}
use Rattle.rows.specs.places.Shares.{finite_in}
use Rattle.sparse.specs.Places.{variable_numbers_at, constraint_groups_at, gone_numbers_at, kinds_at, variable_places_at, constraint_markers_at, constraint_others_at, edit_markers_at, edit_others_at, old_values_at, constraint_strengths_at, edit_strengths_at, suggestions_at, coefficients_at, constraint_constants_at}
use Rattle.sparse.specs.Lookup.{place_from}
use Rattle.sparse.specs.Sparse.{Sparse, variable_count, constraint_count, edit_count, gone_count, gone_of, symbol_at, other_at, variable_of, terms_from, constraint_of, edit_of, read}
use Rattle.sparse.specs.Written.{term_at}
use Rattle.sparse.proofs.Written.{terms-are}
use Rattle.sparse_test.specs.Stretch.{ascend_in, above_zero_in}
use Rattle.sparse_test.specs.Tested.{kind_at, externals_in, tag_of_kinds, tags_fit, markers_fit, errors_in, olds_fit, returned_fit}

-- ---- tests over places that say the same

pub all-ext : (p q : ℕ → Bool) (i e : ℕ) → ((j : ℕ) → i ≤ j → j < e → p j ≡ q j) → all_in p i e ≡ all_in q i e
all-ext p q i e f = same (all_in p i e) (all_in q i e) (λ h. at_all q i e λ j a b. sym (f j a b) ∙ all-at p i e h j a b) (λ h. at_all p i e λ j a b. f j a b ∙ all-at q i e h j a b)

module _ {A : Type 0} where
  all_append : (p : A → Bool) (l m : List A) → steps.all p (l ++ m) ≡ steps.all p l && steps.all p m
  unfolding steps.all
  all_append p [] m = refl
  all_append p (x ∷ l) m = rw (all_append p l m) (assoc (p x) (steps.all p l) (steps.all p m))
    where
      assoc : (a b c : Bool) → a && (b && c) ≡ (a && b) && c
      assoc true b c = refl
      assoc false b c = refl

  all-concat : (p : A → Bool) (l : List (List A)) → steps.all p (steps.concat l) ≡ steps.all (λ (r : List A). steps.all p r) l
  unfolding steps.all steps.concat
  all-concat p [] = refl
  all-concat p (x ∷ l) = all_append p x (steps.concat l) ∙ ap (λ (b : Bool). steps.all p x && b) (all-concat p l)

  all_both : (p q : A → Bool) (l : List A) → steps.all (λ x. p x && q x) l ≡ steps.all p l && steps.all q l
  unfolding steps.all
  all_both p q [] = refl
  all_both p q (x ∷ l) = rw (all_both p q l) (swap (p x) (q x) (steps.all p l) (steps.all q l))
    where
      swap : (a b c d : Bool) → (a && b) && (c && d) ≡ (a && c) && (b && d)
      swap true true c d = refl
      swap true false true d = refl
      swap true false false d = refl
      swap false b c d = refl

all_map : {A B : Type 0} (p : B → Bool) (f : A → B) (l : List A) → steps.all p (map f l) ≡ steps.all (λ x. p (f x)) l
unfolding steps.all
all_map p f [] = refl
all_map p f (x ∷ l) = ap (λ (b : Bool). p (f x) && b) (all_map p f l)

-- ---- kinds by their numbers

external-kind : (i k : ℕ) → k ≤ 3 → is_external (record { id = i; kind = kind_of k }) ≡ eqb k 0
unfolding is_external kind_of
external-kind i zero h = refl
external-kind i (suc zero) h = refl
external-kind i (suc (suc zero)) h = refl
external-kind i (suc (suc (suc zero))) h = refl
external-kind i (suc (suc (suc (suc k)))) h = absurd (not-suc-le-zero (le_of_suc-le-suc (le_of_suc-le-suc (le_of_suc-le-suc h))))

pub error_kind : (i : ℕ) (a b c : Bool) → is_error (record { id = i; kind = cond a Error (cond b Slack (cond c Dummy External)) }) ≡ a
unfolding is_error
error_kind i true b c = refl
error_kind i false true c = refl
error_kind i false false true = refl
error_kind i false false false = refl

module _ (t : Sparse) where
  abbrev byte : ℕ → ℕ
  byte j = get_or t.bytes j 0

  abbrev real : ℕ → Float
  real j = get_or t.reals j nan

  pub externals-are : ((i : ℕ) → i < variable_count t → kind_at t.bytes (byte (variable_places_at + i)) ≤ 3) → steps.all (λ (v : Variable). is_external v.symbol) (read t).changes.variables ≡ externals_in t.bytes (variable_count t)
  unfolding read variable_of symbol_at externals_in kind_at
  externals-are f =
      all_list (λ (v : Variable). is_external v.symbol) (variable_count t) (variable_of t)
      ∙ all-ext _ _ 0 (variable_count t) λ j a b. external-kind _ (byte (kinds_at + byte (variable_places_at + j))) (f j b)

  tag_is : (s : Float) (m o : ℕ) → steps.tag_kinds s (record { marker = symbol_at t m; other = other_at t o }) ≡ steps.tag_kinds s (tag_of_kinds (kind_at t.bytes m) o (kind_at t.bytes o))
  unfolding steps.tag_kinds symbol_at other_at tag_of_kinds kind_at is_error
  tag_is s m o = go (eqb o 0)
    where
      go : (b : Bool) → steps.tag_kinds s (record { marker = symbol_at t m; other = cond b none (some (symbol_at t o)) }) ≡ steps.tag_kinds s (record { marker = record { id = 0; kind = kind_of (byte (kinds_at + m)) }; other = cond b none (some (record { id = 0; kind = kind_of (byte (kinds_at + o)) })) })
      go true = refl
      go false = refl

  pub constraint-kinds-are : steps.all (λ (c : Constraint). steps.tag_kinds c.strength c.tag) (read t).constraints ≡ tags_fit t.bytes t.reals constraint_strengths_at constraint_markers_at constraint_others_at (constraint_count t)
  unfolding read constraint_of tags_fit
  constraint-kinds-are =
      all_list (λ (c : Constraint). steps.tag_kinds c.strength c.tag) (constraint_count t) (constraint_of t)
      ∙ all-ext _ _ 0 (constraint_count t) λ j a b. tag_is (real (constraint_strengths_at + j)) (byte (constraint_markers_at + j)) (byte (constraint_others_at + j))

  pub markers-are : steps.all (λ (c : Constraint). steps.marker_fits c.comparison c.tag.marker) (read t).constraints ≡ markers_fit t.bytes (constraint_count t)
  unfolding read constraint_of markers_fit symbol_at kind_at steps.marker_fits
  markers-are = all_list (λ (c : Constraint). steps.marker_fits c.comparison c.tag.marker) (constraint_count t) (constraint_of t)

  pub groups-are : steps.groups_fit (read t) ≡ above_zero_in t.words constraint_groups_at (constraint_count t)
  unfolding steps.groups_fit read constraint_of above_zero_in
  groups-are = all_list (λ (c : Constraint). ltb 0 c.group) (constraint_count t) (constraint_of t)

  -- ---- the gone numbers

  abbrev gone : ℕ → ℕ
  gone j = get_or t.words (gone_numbers_at + j) 0

  pub gone-ascend : steps.ascend (read t).changes.gone ≡ ascend_in t.words gone_numbers_at (gone_count t)
  unfolding read gone_of ascend_in
  gone-ascend = ascend-list (gone_count t) gone

  -- not among the gone, or back and not reported
  abbrev pub not_told : Variable → Bool
  not_told v = not (member v.number (read t).changes.gone) || never_reported v

  pub returned-are : steps.all not_told (read t).changes.variables ≡ returned_fit t.words t.reals (variable_count t) (gone_count t)
  unfolding read variable_of gone_of returned_fit place_from never_reported
  returned-are =
      all_list not_told (variable_count t) (variable_of t)
      ∙ all-ext _ _ 0 (variable_count t) λ j a b. ap (λ (x : Bool). not x || ne (real (old_values_at + j)) (real (old_values_at + j))) (member-list (gone_count t) gone (get_or t.words (variable_numbers_at + j) 0))

  errors-are : steps.all (λ (e : Edit). is_error e.tag.marker) (read t).edits ≡ errors_in t.bytes (edit_count t)
  unfolding read errors_in kind_at symbol_at edit_of kind_of
  errors-are =
      all_list (λ (e : Edit). is_error e.tag.marker) (edit_count t) (edit_of t)
      ∙ all-ext _ _ 0 (edit_count t) λ j a b. error_kind _ (eqb (byte (kinds_at + byte (edit_markers_at + j))) 2) (eqb (byte (kinds_at + byte (edit_markers_at + j))) 1) (eqb (byte (kinds_at + byte (edit_markers_at + j))) 3)

  edit-tags-are : steps.all (λ (e : Edit). steps.tag_kinds e.strength e.tag) (read t).edits ≡ tags_fit t.bytes t.reals edit_strengths_at edit_markers_at edit_others_at (edit_count t)
  unfolding read tags_fit edit_of
  edit-tags-are =
      all_list (λ (e : Edit). steps.tag_kinds e.strength e.tag) (edit_count t) (edit_of t)
      ∙ all-ext _ _ 0 (edit_count t) λ j a b. tag_is (real (edit_strengths_at + j)) (byte (edit_markers_at + j)) (byte (edit_others_at + j))

  pub edit-kinds-are : steps.all steps.edit_kinds (read t).edits ≡ errors_in t.bytes (edit_count t) && tags_fit t.bytes t.reals edit_strengths_at edit_markers_at edit_others_at (edit_count t)
  unfolding steps.edit_kinds
  edit-kinds-are =
      all_both (λ (e : Edit). is_error e.tag.marker) (λ (e : Edit). steps.tag_kinds e.strength e.tag) (read t).edits
      ∙ (rw (errors-are, edit-tags-are) refl)

  -- ---- finite numbers

  pub olds-are : steps.all (λ (v : Variable). is_finite v.old || is_nan v.old) (read t).changes.variables ≡ olds_fit t.reals (variable_count t)
  unfolding read variable_of olds_fit
  olds-are = all_list (λ (v : Variable). is_finite v.old || is_nan v.old) (variable_count t) (variable_of t)

  coefficients-are : steps.all (λ (c : Constraint). steps.all (λ (x : Term). is_finite x.coefficient) c.terms) (read t).constraints ≡ finite_in t.reals coefficients_at (terms_from t (constraint_count t))
  unfolding finite_in
  coefficients-are =
      sym (all_map (λ (r : List Term). steps.all (λ (x : Term). is_finite x.coefficient) r) (λ (c : Constraint). c.terms) (read t).constraints)
      ∙ sym (all-concat (λ (x : Term). is_finite x.coefficient) (map (λ (c : Constraint). c.terms) (read t).constraints))
      ∙ ap (steps.all (λ (x : Term). is_finite x.coefficient)) (terms-are t)
      ∙ all_list (λ (x : Term). is_finite x.coefficient) (terms_from t (constraint_count t)) (term_at t)

  pub constraints-finite-are : steps.all steps.constraint_finite (read t).constraints ≡ finite_in t.reals constraint_strengths_at (constraint_count t) && finite_in t.reals constraint_constants_at (constraint_count t) && finite_in t.reals coefficients_at (terms_from t (constraint_count t))
  unfolding steps.constraint_finite
  constraints-finite-are =
      all_both (λ (c : Constraint). is_finite c.strength && is_finite c.constant) (λ (c : Constraint). steps.all (λ (x : Term). is_finite x.coefficient) c.terms) (read t).constraints
      ∙ (rw (all_both (λ (c : Constraint). is_finite c.strength) (λ (c : Constraint). is_finite c.constant) (read t).constraints, strengths, constants, coefficients-are) refl)
    where
      strengths : steps.all (λ (c : Constraint). is_finite c.strength) (read t).constraints ≡ finite_in t.reals constraint_strengths_at (constraint_count t)
      strengths = unfold read constraint_of finite_in in all_list (λ (c : Constraint). is_finite c.strength) (constraint_count t) (constraint_of t)

      constants : steps.all (λ (c : Constraint). is_finite c.constant) (read t).constraints ≡ finite_in t.reals constraint_constants_at (constraint_count t)
      constants = unfold read constraint_of finite_in in all_list (λ (c : Constraint). is_finite c.constant) (constraint_count t) (constraint_of t)

  pub edits-finite-are : steps.all steps.edit_finite (read t).edits ≡ finite_in t.reals edit_strengths_at (edit_count t) && finite_in t.reals suggestions_at (edit_count t)
  unfolding steps.edit_finite
  edits-finite-are =
      all_both (λ (e : Edit). is_finite e.strength) (λ (e : Edit). is_finite e.suggestion) (read t).edits
      ∙ (rw (strengths, suggestions) refl)
    where
      strengths : steps.all (λ (e : Edit). is_finite e.strength) (read t).edits ≡ finite_in t.reals edit_strengths_at (edit_count t)
      strengths = unfold read edit_of finite_in in all_list (λ (e : Edit). is_finite e.strength) (edit_count t) (edit_of t)

      suggestions : steps.all (λ (e : Edit). is_finite e.suggestion) (read t).edits ≡ finite_in t.reals suggestions_at (edit_count t)
      suggestions = unfold read edit_of finite_in in all_list (λ (e : Edit). is_finite e.suggestion) (edit_count t) (edit_of t)
