-- The lists that document 01's test speaks of, as they are read out of the tables, place by place.
-- Assumes nothing.
use Prim.Native.Nat.{ℕ, zero, suc, ◌+◌}
use Rattle.std.specs.Prelude.{◌≡◌, Bool, eqb, length}
use Rattle.std.proofs.Math.Path.{refl, sym, ap}
use Rattle.std.proofs.Common.{◌∙◌, zero-add, arith, length-append}
use Rattle.std.proofs.Math.Bool.{true, false, cond}
use mathlib.Core.List.{List, [], ◌∷◌, ◌++◌, map}
use Rattle.std.proofs.Math.Option.{none, some}
use Rattle.std.proofs.Math.ListN.{get_or}
use Rattle.laws.specs.Lists.{tab, list_of}
use Rattle.layout.specs.Laying.{list_ext}
use Rattle.layout.proofs.Copied.{length-list_of}
use Rattle.steps.specs.Symbol.{Symbol}
use Rattle.steps.specs.State.{Term, Tag, Basic, Variable, Constraint, Edit}
use Rattle.steps.specs.Edit.{edit_terms}
use Rattle.steps.specs.Readable as steps
use Rattle.rows.specs.places.Listed.{map-list}
use Rattle.sparse.specs.Places.{ids_at, variable_numbers_at, constraint_numbers_at, row_places_at, variable_places_at, constraint_markers_at, constraint_others_at, edit_variables_at, edit_markers_at, edit_others_at, terms_at}
use Rattle.sparse.specs.Sparse.{Sparse, symbol_count, row_count, variable_count, constraint_count, edit_count, symbol_at, other_at, number_at, variable_of, terms_from, constraint_of, edit_of, basic_of, symbols_of, basics_of, read}
use Rattle.sparse.specs.Written.{term_at}
use Rattle.sparse.proofs.Written.{part-is, terms-are}

module _ {A B : Type 0} where
  pub map-append : (f : A → B) (l m : List A) → map f (l ++ m) ≡ map f l ++ map f m
  map-append f [] m = refl
  map-append f (x ∷ l) m = ap (λ (r : List B). f x ∷ r) (map-append f l m)

  pub map-concat : (f : A → B) (l : List (List A)) → map f (steps.concat l) ≡ steps.concat (map (λ (r : List A). map f r) l)
  unfolding steps.concat
  map-concat f [] = refl
  map-concat f (x ∷ l) = map-append f x (steps.concat l) ∙ ap (λ (r : List B). map f x ++ r) (map-concat f l)

module _ {A : Type 0} where
  append_assoc : (l m r : List A) → (l ++ m) ++ r ≡ l ++ (m ++ r)
  append_assoc [] m r = refl
  append_assoc (x ∷ l) m r = ap (λ (z : List A). x ∷ z) (append_assoc l m r)

  concat-append : (l m : List (List A)) → steps.concat (l ++ m) ≡ steps.concat l ++ steps.concat m
  unfolding steps.concat
  concat-append [] m = refl
  concat-append (x ∷ l) m = rw (append_assoc x (steps.concat l) (steps.concat m)) (ap (λ (r : List A). x ++ r) (concat-append l m))

  singles : (g : ℕ → A) (i n : ℕ) → steps.concat (tab (λ j. g j ∷ []) i n) ≡ tab g i n
  unfolding steps.concat tab
  singles g i zero = refl
  singles g i (suc n) = ap (λ (r : List A). g i ∷ r) (singles g (suc i) n)

pub single : {A : Type 0} (n : ℕ) (g : ℕ → A) → steps.concat (list_of n λ i. g i ∷ []) ≡ list_of n g
unfolding list_of
single n g = singles g 0 n

abbrev pub variable_of_term : Term → ℕ
variable_of_term x = x.variable

-- what a tag owns: the places of its marker and of its other symbol, if it has one
unfoldable pub tag_places : ℕ → ℕ → List ℕ
tag_places m o = m ∷ cond (eqb o 0) [] (o ∷ [])

module _ (t : Sparse) where
  abbrev byte : ℕ → ℕ
  byte j = get_or t.bytes j 0

  -- the code of the symbol at place p
  abbrev pub code_at : ℕ → ℕ
  code_at p = steps.code (symbol_at t p)

  pub ids-are : steps.live_ids (read t) ≡ list_of (symbol_count t) λ j. get_or t.words (ids_at + 1 + j) 0
  unfolding steps.live_ids read symbols_of symbol_at list_of
  ids-are = part-is (λ (s : Symbol). s.id) (symbol_at t) (λ j. get_or t.words (ids_at + 1 + j) 0) 1 0 (symbol_count t) λ j h. ap (λ (i : ℕ). get_or t.words i 0) (omega arith)

  pub lives-are : steps.live (read t) ≡ list_of (symbol_count t) λ j. code_at (1 + j)
  unfolding steps.live read symbols_of list_of
  lives-are = part-is steps.code (symbol_at t) (λ j. code_at (1 + j)) 1 0 (symbol_count t) λ j h. rw (zero-add j) refl

  pub basics-are : steps.basics (read t) ≡ list_of (row_count t) λ j. code_at (byte (row_places_at + 1 + j))
  unfolding steps.basics read basics_of basic_of list_of
  basics-are = part-is (λ (b : Basic). steps.code b.symbol) (basic_of t) (λ j. code_at (byte (row_places_at + 1 + j))) 1 0 (row_count t) λ j h. ap (λ (i : ℕ). code_at (byte i)) (omega arith)

  pub basic-ids-are : steps.basic_ids (read t) ≡ list_of (row_count t) λ j. get_or t.words (ids_at + byte (row_places_at + 1 + j)) 0
  unfolding steps.basic_ids read basics_of basic_of symbol_at list_of
  basic-ids-are = part-is (λ (b : Basic). b.symbol.id) (basic_of t) (λ j. get_or t.words (ids_at + byte (row_places_at + 1 + j)) 0) 1 0 (row_count t) λ j h. ap (λ (i : ℕ). get_or t.words (ids_at + byte i) 0) (omega arith)

  pub numbers-are : steps.numbers (read t) ≡ list_of (variable_count t) λ j. get_or t.words (variable_numbers_at + j) 0
  unfolding steps.numbers read variable_of
  numbers-are = map-list (λ (v : Variable). v.number) (variable_count t) (variable_of t)

  pub constraint-numbers-are : map (λ (c : Constraint). c.number) (read t).constraints ≡ list_of (constraint_count t) λ j. get_or t.words (constraint_numbers_at + j) 0
  unfolding read constraint_of
  constraint-numbers-are = map-list (λ (c : Constraint). c.number) (constraint_count t) (constraint_of t)

  pub edit-numbers-are : map (λ (e : Edit). e.variable) (read t).edits ≡ list_of (edit_count t) λ j. number_at t (byte (edit_variables_at + j))
  unfolding read edit_of
  edit-numbers-are = map-list (λ (e : Edit). e.variable) (edit_count t) (edit_of t)

  -- ---- owners

  abbrev tag_at : ℕ → ℕ → Tag
  tag_at m o = record { marker = symbol_at t m; other = other_at t o }

  pub tags-are : steps.tags (read t) ≡ list_of (constraint_count t) (λ i. tag_at (byte (constraint_markers_at + i)) (byte (constraint_others_at + i))) ++ list_of (edit_count t) (λ i. tag_at (byte (edit_markers_at + i)) (byte (edit_others_at + i)))
  unfolding steps.tags read constraint_of edit_of
  tags-are = rw (map-list (λ (c : Constraint). c.tag) (constraint_count t) (constraint_of t), map-list (λ (e : Edit). e.tag) (edit_count t) (edit_of t)) refl

  pub tag-count : length (steps.tags (read t)) ≡ constraint_count t + edit_count t
  tag-count =
      let a : List Tag = list_of (constraint_count t) (λ i. tag_at (byte (constraint_markers_at + i)) (byte (constraint_others_at + i))) in
      let b : List Tag = list_of (edit_count t) (λ i. tag_at (byte (edit_markers_at + i)) (byte (edit_others_at + i))) in
      let la : length a ≡ constraint_count t = length-list_of _ _ in
      let lb : length b ≡ edit_count t = length-list_of _ _ in
      let ab : length (a ++ b) ≡ length a + length b = length-append a b in
      ap length tags-are ∙ ab ∙ (rw (la, lb) refl)

  tag-owns : (m o : ℕ) → map steps.code (steps.tag_symbols (tag_at m o)) ≡ map code_at (tag_places m o)
  unfolding steps.tag_symbols tag_places other_at
  tag-owns m o = go (eqb o 0)
    where
      go : (b : Bool) → map steps.code (symbol_at t m ∷ elim (cond b none (some (symbol_at t o))) [ none ↦ [] | some x ↦ x ∷ [] ]) ≡ map code_at (m ∷ cond b [] (o ∷ []))
      go true = refl
      go false = refl

  -- the places that the variables and the tags own
  abbrev pub owners : List ℕ
  owners =
      list_of (variable_count t) (λ i. byte (variable_places_at + i))
      ++ (steps.concat (list_of (constraint_count t) λ i. tag_places (byte (constraint_markers_at + i)) (byte (constraint_others_at + i))) ++ steps.concat (list_of (edit_count t) λ i. tag_places (byte (edit_markers_at + i)) (byte (edit_others_at + i))))

  tags-own : (n : ℕ) (m o : ℕ → ℕ) → steps.concat (map (λ (g : Tag). map steps.code (steps.tag_symbols g)) (list_of n λ i. tag_at (m i) (o i))) ≡ map code_at (steps.concat (list_of n λ i. tag_places (m i) (o i)))
  tags-own n m o =
      ap steps.concat (map-list (λ (g : Tag). map steps.code (steps.tag_symbols g)) n (λ i. tag_at (m i) (o i)) ∙ list_ext n _ _ (λ j h. tag-owns (m j) (o j)) ∙ sym (map-list (λ (l : List ℕ). map code_at l) n (λ i. tag_places (m i) (o i))))
      ∙ sym (map-concat code_at (list_of n λ i. tag_places (m i) (o i)))

  pub owned-are : steps.owned (read t) ≡ map code_at owners
  unfolding steps.owned
  owned-are =
      let f : Tag → List ℕ = λ g. map steps.code (steps.tag_symbols g) in
      let a : List Tag = list_of (constraint_count t) (λ i. tag_at (byte (constraint_markers_at + i)) (byte (constraint_others_at + i))) in
      let b : List Tag = list_of (edit_count t) (λ i. tag_at (byte (edit_markers_at + i)) (byte (edit_others_at + i))) in
      let v : map (λ (v : Variable). steps.code v.symbol) (read t).changes.variables ≡ map code_at (list_of (variable_count t) λ i. byte (variable_places_at + i)) = variables-own in
      let g : steps.concat (map f (steps.tags (read t))) ≡ map code_at (steps.concat (list_of (constraint_count t) λ i. tag_places (byte (constraint_markers_at + i)) (byte (constraint_others_at + i))) ++ steps.concat (list_of (edit_count t) λ i. tag_places (byte (edit_markers_at + i)) (byte (edit_others_at + i)))) =
      ap (λ (l : List Tag). steps.concat (map f l)) tags-are
      ∙ ap steps.concat (map-append f a b)
      ∙ concat-append (map f a) (map f b)
      ∙ (rw (tags-own (constraint_count t) (λ i. byte (constraint_markers_at + i)) (λ i. byte (constraint_others_at + i)), tags-own (edit_count t) (λ i. byte (edit_markers_at + i)) (λ i. byte (edit_others_at + i))) refl)
      ∙ sym (map-append code_at (steps.concat (list_of (constraint_count t) λ i. tag_places (byte (constraint_markers_at + i)) (byte (constraint_others_at + i)))) (steps.concat (list_of (edit_count t) λ i. tag_places (byte (edit_markers_at + i)) (byte (edit_others_at + i))))) in
      (rw (v, g) refl) ∙ sym (map-append code_at (list_of (variable_count t) λ i. byte (variable_places_at + i)) _)
    where
      variables-own : map (λ (v : Variable). steps.code v.symbol) (read t).changes.variables ≡ map code_at (list_of (variable_count t) λ i. byte (variable_places_at + i))
      variables-own = unfold read variable_of in map-list (λ (v : Variable). steps.code v.symbol) (variable_count t) (variable_of t) ∙ sym (map-list code_at (variable_count t) (λ i. byte (variable_places_at + i)))

  -- ---- the places of the stored terms' variables, edits counted

  abbrev pub asked : List ℕ
  asked = list_of (terms_from t (constraint_count t)) (λ j. byte (terms_at + j)) ++ list_of (edit_count t) (λ i. byte (edit_variables_at + i))

  terms-stored : map variable_of_term (steps.concat (map (λ (c : Constraint). c.terms) (read t).constraints)) ≡ map (number_at t) (list_of (terms_from t (constraint_count t)) λ j. byte (terms_at + j))
  terms-stored =
      ap (map variable_of_term) (terms-are t)
      ∙ map-list variable_of_term (terms_from t (constraint_count t)) (term_at t)
      ∙ sym (map-list (number_at t) (terms_from t (constraint_count t)) (λ j. byte (terms_at + j)))

  edits-stored : map variable_of_term (steps.concat (map (λ (e : Edit). edit_terms e.variable) (read t).edits)) ≡ map (number_at t) (list_of (edit_count t) λ i. byte (edit_variables_at + i))
  unfolding read edit_of edit_terms
  edits-stored =
      map-concat variable_of_term (map (λ (e : Edit). edit_terms e.variable) (list_of (edit_count t) (edit_of t)))
      ∙ ap steps.concat (
      ap (map (λ (r : List Term). map variable_of_term r)) (map-list (λ (e : Edit). edit_terms e.variable) (edit_count t) (edit_of t))
      ∙ map-list (λ (r : List Term). map variable_of_term r) (edit_count t) (λ i. edit_terms (edit_of t i).variable)
      )
      ∙ single (edit_count t) (λ i. number_at t (byte (edit_variables_at + i)))
      ∙ sym (map-list (number_at t) (edit_count t) (λ i. byte (edit_variables_at + i)))

  pub stored-are : map variable_of_term (steps.stored_terms (read t)) ≡ map (number_at t) asked
  unfolding steps.stored_terms
  stored-are =
      map-append variable_of_term (steps.concat (map (λ (c : Constraint). c.terms) (read t).constraints)) (steps.concat (map (λ (e : Edit). edit_terms e.variable) (read t).edits))
      ∙ (rw (terms-stored, edits-stored) refl)
      ∙ sym (map-append (number_at t) (list_of (terms_from t (constraint_count t)) λ j. byte (terms_at + j)) (list_of (edit_count t) λ i. byte (edit_variables_at + i)))
