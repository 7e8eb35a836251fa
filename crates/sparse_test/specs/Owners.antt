-- The owners' test over places is the state's: "symbols .. are distinct", "every basic or cell symbol is a live variable's or tag's", and theirs are live.
-- Assumes nothing.
use Rattle.std.specs.Prelude.{ℕ, ◌+◌, ◌≤◌, ◌<◌, ◌≡◌, Bool, cond, ltb}
use Rattle.std.proofs.Math.Path.{refl, ap}
use Rattle.std.proofs.Common.{sym, ◌∙◌, arith}
use Rattle.std.proofs.Math.Bool.{true, false}
use mathlib.Core.List.{List, [], ◌∷◌, ◌++◌, map}
use Rattle.std.proofs.Math.Dec.{eqb}
use Rattle.std.proofs.Math.ListN.{get_or}
use borrow.Author.Tests.{ltb-true, ltb-false, eqb-true, eqb-false}
use Rattle.laws.specs.Lists.{list_of}
use Rattle.steps.specs.Symbol.{Symbol}
use Rattle.steps.specs.Readable as steps
use Rattle.keeps.specs.Lists.{All}
use Rattle.keeps.specs.Codes.{code-injective}
use Rattle.rows.specs.places.Listed.{map-list}
use Rattle.sparse.specs.Places.{ids_at, variable_places_at, constraint_markers_at, constraint_others_at, edit_markers_at, edit_others_at}
use Rattle.sparse.specs.Sparse.{Sparse, symbol_count, variable_count, constraint_count, edit_count, symbol_at, read}
use Rattle.sparse.specs.Form.{At}
use Rattle.sparse_test.specs.Views.{tag_places, code_at, owners, lives-are, owned-are}
use Rattle.sparse_test.specs.Injective.{distinct-map, members-map, each-list, list-each, both-lists, first-list, second-list, all-lists, lists-all, in_ones, ones_in}

module _ (t : Sparse) where
  abbrev byte : ℕ → ℕ
  byte j = get_or t.bytes j 0

  abbrev k : ℕ
  k = symbol_count t

  -- ---- each live symbol has one owner, by places

  abbrev pub ones : List ℕ
  ones = list_of k λ j. 1 + j

  abbrev pub Once : Type 0
  Once = (steps.distinct (owners t) ≡ true) × (steps.all_in ones (owners t) ≡ true) × (steps.all_in (owners t) ones ≡ true)

  -- ---- a live symbol's code has one place

  abbrev pub IdsUp : Type 0
  IdsUp = (i j : ℕ) → 1 ≤ i → i < j → j ≤ symbol_count t → get_or t.words (ids_at + i) 0 < get_or t.words (ids_at + j) 0

  pub one_place : IdsUp → (x y : ℕ) → At t x → At t y → code_at t x ≡ code_at t y → x ≡ y
  unfolding symbol_at
  one_place up x y p q e = go (ltb x y) refl (ltb y x) refl
    where
      ids : get_or t.words (ids_at + x) 0 ≡ get_or t.words (ids_at + y) 0
      ids = ap (λ (s : Symbol). s.id) (code-injective (symbol_at t x) (symbol_at t y) e)

      go : (a : Bool) → ltb x y ≡ a → (b : Bool) → ltb y x ≡ b → x ≡ y
      go true u b v = let l = up x y p.0 (ltb-true x y u) q.1 in absurd (omega (arith, l, ids))
      go false u true v = let l = up y x q.0 (ltb-true y x v) p.1 in absurd (omega (arith, l, ids))
      go false u false v = omega (arith, ltb-false x y u, ltb-false y x v)

  -- ---- the state's clauses

  abbrev pub Owns : Type 0
  Owns = (steps.distinct (steps.owned (read t)) ≡ true) × (steps.all_in (steps.live (read t)) (steps.owned (read t)) ≡ true) × (steps.all_in (steps.owned (read t)) (steps.live (read t)) ≡ true)

  lives-map : steps.live (read t) ≡ map (code_at t) ones
  lives-map = lives-are t ∙ sym (map-list (code_at t) k (λ j. 1 + j))

  ones-live : All (At t) ones
  ones-live = each-list (At t) (λ j. 1 + j) k λ j h. (omega arith, omega (arith, h))

  pub once-owns : IdsUp → Once → Owns × All (At t) (owners t) × (steps.distinct (owners t) ≡ true)
  once-owns up o =
      let l : All (At t) (owners t) = in_ones k (owners t) o.2 in (
        (
          ap steps.distinct (owned-are t) ∙ distinct-map (code_at t) (At t) (one_place up) (owners t) l ∙ o.0,
          (rw (owned-are t, lives-map) refl) ∙ members-map (code_at t) (At t) (one_place up) ones (owners t) ones-live l ∙ o.1,
          (rw (owned-are t, lives-map) refl) ∙ members-map (code_at t) (At t) (one_place up) (owners t) ones l ones-live ∙ o.2,
        ),
        l,
        o.0,
      )

  pub owns-once : IdsUp → All (At t) (owners t) → Owns → Once
  owns-once up l o = (
    sym (ap steps.distinct (owned-are t) ∙ distinct-map (code_at t) (At t) (one_place up) (owners t) l) ∙ o.0,
    sym ((rw (owned-are t, lives-map) refl) ∙ members-map (code_at t) (At t) (one_place up) ones (owners t) ones-live l) ∙ o.1,
    ones_in k (owners t) l,
  )

  -- the owners' places are distinct in a state too
  pub owns-distinct : IdsUp → All (At t) (owners t) → Owns → steps.distinct (owners t) ≡ true
  owns-distinct up l o = sym (ap steps.distinct (owned-are t) ∙ distinct-map (code_at t) (At t) (one_place up) (owners t) l) ∙ o.0

  -- ---- each owner by itself

  tag-live : (m o : ℕ) → All (At t) (tag_places m o) → At t m × (o ≤ k)
  unfolding tag_places
  tag-live m o h = (h.0, go (eqb o 0) refl h.1)
    where
      go : (b : Bool) → eqb o 0 ≡ b → All (At t) (cond b [] (o ∷ [])) → o ≤ k
      go true q h = let e = eqb-true o 0 q in omega (arith, e)
      go false q h = h.0.1

  live_tag : (m o : ℕ) → At t m → o ≤ k → All (At t) (tag_places m o)
  unfolding tag_places
  live_tag m o a b = (a, go (eqb o 0) refl)
    where
      go : (c : Bool) → eqb o 0 ≡ c → All (At t) (cond c [] (o ∷ []))
      go true q = tt
      go false q = let n = eqb-false o 0 q in ((omega (arith, n), b), tt)

  pub record Placed : Type 0 where
    pub variables : (i : ℕ) → i < variable_count t → At t (byte (variable_places_at + i))
    pub markers : (i : ℕ) → i < constraint_count t → At t (byte (constraint_markers_at + i))
    pub others : (i : ℕ) → i < constraint_count t → byte (constraint_others_at + i) ≤ k
    pub pluses : (i : ℕ) → i < edit_count t → At t (byte (edit_markers_at + i))
    pub minuses : (i : ℕ) → i < edit_count t → byte (edit_others_at + i) ≤ k

  pub placed : All (At t) (owners t) → Placed
  placed h =
      let a : List ℕ = list_of (variable_count t) λ i. byte (variable_places_at + i) in
      let b : List ℕ = steps.concat (list_of (constraint_count t) λ i. tag_places (byte (constraint_markers_at + i)) (byte (constraint_others_at + i))) in
      let c : List ℕ = steps.concat (list_of (edit_count t) λ i. tag_places (byte (edit_markers_at + i)) (byte (edit_others_at + i))) in
      let r = second-list (At t) a (b ++ c) h in
      let f : (i : ℕ) → i < constraint_count t → All (At t) (tag_places (byte (constraint_markers_at + i)) (byte (constraint_others_at + i))) = list-each (λ (l : List ℕ). All (At t) l) (λ i. tag_places (byte (constraint_markers_at + i)) (byte (constraint_others_at + i))) (constraint_count t) (lists-all (At t) _ (first-list (At t) b c r)) in
      let g : (i : ℕ) → i < edit_count t → All (At t) (tag_places (byte (edit_markers_at + i)) (byte (edit_others_at + i))) = list-each (λ (l : List ℕ). All (At t) l) (λ i. tag_places (byte (edit_markers_at + i)) (byte (edit_others_at + i))) (edit_count t) (lists-all (At t) _ (second-list (At t) b c r)) in
      record {
        variables = list-each (At t) (λ i. byte (variable_places_at + i)) (variable_count t) (first-list (At t) a (b ++ c) h);
        markers = λ i u. (tag-live _ _ (f i u)).0;
        others = λ i u. (tag-live _ _ (f i u)).1;
        pluses = λ i u. (tag-live _ _ (g i u)).0;
        minuses = λ i u. (tag-live _ _ (g i u)).1;
      }

  pub all_placed : Placed → All (At t) (owners t)
  all_placed p =
      both-lists (At t) (list_of (variable_count t) λ i. byte (variable_places_at + i)) _ (each-list (At t) (λ i. byte (variable_places_at + i)) (variable_count t) p.variables)
      (both-lists (At t) (steps.concat (list_of (constraint_count t) λ i. tag_places (byte (constraint_markers_at + i)) (byte (constraint_others_at + i)))) _
      (all-lists (At t) _ (each-list (λ (l : List ℕ). All (At t) l) (λ i. tag_places (byte (constraint_markers_at + i)) (byte (constraint_others_at + i))) (constraint_count t) λ i u. live_tag _ _ (p.markers i u) (p.others i u)))
      (all-lists (At t) _ (each-list (λ (l : List ℕ). All (At t) l) (λ i. tag_places (byte (edit_markers_at + i)) (byte (edit_others_at + i))) (edit_count t) λ i u. live_tag _ _ (p.pluses i u) (p.minuses i u))))
