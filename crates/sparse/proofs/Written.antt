-- The live part of tables of the sparse form, put over others, is what the state that they read as writes; over themselves it changes nothing.
-- Assumes nothing.
use Prim.Native.Nat.{ℕ, zero, suc, ◌+◌, ◌-◌, ◌≤◌, ◌<◌}
use Rattle.std.specs.Prelude.{◌≡◌, List, [], ◌∷◌, map, Float}
use Rattle.std.proofs.Math.Path.{refl, ap}
use Rattle.std.proofs.Common.{sym, ◌∙◌, add-zero, zero-add, not-suc-le-zero, le_of_suc-le-suc}
use native.Mathlib.Omega.{arith}
use Rattle.std.proofs.Math.Dec.{eqb}
use Rattle.std.specs.Float.{nan}
use Rattle.std.proofs.Math.ListN.{length, get_or}
use borrow.Author.Tests.{eq-eqb, ne_eqb}
use Rattle.laws.specs.Lists.{tab, list_of, map-tab, get_or-tab, length-tab}
use Rattle.steps.specs.Symbol.{Symbol}
use Rattle.steps.specs.State.{Term, Basic, Variable, Constraint, Edit}
use Rattle.steps.specs.Readable.{concat, kind_code}
use Rattle.layout.specs.Layout.{kind_of, bit_of, comparison_code, over}
use Rattle.layout.specs.Laying.{tab-from}
use Rattle.layout.proofs.Written.{comparison-read}
use Rattle.layout.proofs.Copied.{length-list_of, get_or-list_of}
use Rattle.layout.specs.cells.Cells.{cells, row_of}
use Rattle.layout.specs.cells.Seek.{first-at}
use Rattle.sparse.specs.Places.{ids_at, variable_numbers_at, variable_uses_at, constraint_numbers_at, constraint_groups_at, gone_numbers_at, kinds_at, row_places_at, variable_places_at, changed_at, constraint_markers_at, constraint_others_at, term_counts_at, edit_variables_at, edit_markers_at, edit_others_at, terms_at, relations_at, constants_at, old_values_at, objective_at, cutoff_at, constraint_strengths_at, edit_strengths_at, suggestions_at, coefficients_at, constraint_constants_at}
use Rattle.sparse.specs.Sparse.{Sparse, symbol_count, row_count, cell_count, variable_count, constraint_count, edit_count, gone_count, symbol_at, other_at, number_at, variable_of, terms_from, term_of, constraint_of, edit_of, basic_of, symbols_of, basics_of, objective_of, gone_of, read}
use Rattle.sparse.specs.Stretches.{copied, over-itself, lay-itself, copied-itself}
use Rattle.sparse.specs.Concat.{listed-concat}
use Rattle.sparse.proofs.Repack.{repacked}
use Rattle.sparse.specs.Write.{no_symbol, no_variable, place_of, other_place, index_of, number_place, all_terms, cells_of, laid_of, heading_of, words_of, bytes_of, reals_of, write}
use Rattle.sparse.specs.Form.{index_at, index-named, At, Form}
use Rattle.sparse.specs.Copy.{live_words, live_bytes, live_reals, put_over}
use Rattle.sparse.specs.Written as specs

kind-read : (k : ℕ) → k ≤ 3 → kind_code (kind_of k) ≡ k
unfolding kind_code kind_of
kind-read zero h = refl
kind-read (suc zero) h = refl
kind-read (suc (suc zero)) h = refl
kind-read (suc (suc (suc zero))) h = refl
kind-read (suc (suc (suc (suc k)))) h = absurd (not-suc-le-zero (le_of_suc-le-suc (le_of_suc-le-suc (le_of_suc-le-suc h))))

bit-read : (b : ℕ) → b ≤ 1 → bit_of (eqb b 1) ≡ b
unfolding bit_of
bit-read zero h = refl
bit-read (suc zero) h = refl
bit-read (suc (suc b)) h = absurd (not-suc-le-zero (le_of_suc-le-suc h))

-- a list that is read, mapped, is the stretch that it was read from
pub part-is : {A B : Type 0} (f : B → A) (g : ℕ → B) (h : ℕ → A) (i b n : ℕ) → ((j : ℕ) → j < n → f (g (i + j)) ≡ h (b + j)) → map f (tab g i n) ≡ tab h b n
unfolding tab
part-is f g h i b zero q = refl
part-is {A} f g h i b (suc n) q =
    let e : f (g i) ≡ h b = rw (add-zero i, add-zero b) at (q 0 (omega arith)) in
    rw e (ap (λ (r : List A). h b ∷ r) (part-is f g h (suc i) (suc b) n λ j k.
    let o : i + suc j ≡ suc i + j = omega arith in
    let u : b + suc j ≡ suc b + j = omega arith in
    rw (o, u) at (q (suc j) (omega (arith, k)))))

-- ---- the terms, one after the other

module _ (w : Sparse) where
  abbrev term_at : ℕ → Term
  term_at = specs.term_at w

  pub terms-are : all_terms (read w) ≡ list_of (terms_from w (constraint_count w)) term_at
  unfolding read list_of constraint_of terms_from term_of
  terms-are =
      ap concat (map-tab (λ (c : Constraint). c.terms) (constraint_of w) 0 (constraint_count w))
      ∙ listed-concat term_at (λ c. get_or w.bytes (term_counts_at + c) 0) (constraint_count w)

module _ (w : Sparse) (form : Form w) where
  abbrev k : ℕ
  k = symbol_count w

  abbrev xs : List Symbol
  xs = symbols_of w

  abbrev vs : List Variable
  vs = list_of (variable_count w) (variable_of w)

  -- ---- places

  many : length xs ≡ k
  unfolding symbols_of
  many = length-tab (symbol_at w) 1 k

  id-at : (j : ℕ) → j < k → (get_or xs j no_symbol).id ≡ get_or w.words (ids_at + (1 + j)) 0
  unfolding symbols_of symbol_at
  id-at j h = ap (λ (x : Symbol). x.id) (get_or-tab (symbol_at w) 1 k j no_symbol h)

  place-live : (p : ℕ) → At w p → place_of xs (symbol_at w p) ≡ p
  unfolding place_of symbol_at
  place-live p l =
      let a = l.0 in
      let b = l.1 in
      let o : 1 + (p - 1) ≡ p = omega (arith, a) in
      let x : ℕ = get_or w.words (ids_at + p) 0 in
      first-at (λ j. eqb x (get_or xs j no_symbol).id) (λ j. 1 + j) 0 0 (length xs) (p - 1) (omega arith) (omega (arith, a, b, many))
      (eq-eqb x (get_or xs (p - 1) no_symbol).id (sym (rw o at (id-at (p - 1) (omega (arith, a, b))))))
      (λ j u v. ne_eqb x (get_or xs j no_symbol).id λ q. let d = id-at j (omega (arith, a, b, v)) in let c = form.ids (1 + j) p (omega arith) (omega (arith, v)) b in omega (arith, q, d, c))
      ∙ o

  other-live : (p : ℕ) → p ≤ k → other_place xs (other_at w p) ≡ p
  unfolding other_place other_at
  other-live zero l = refl
  other-live (suc p) l = rw (ne_eqb (suc p) 0 (λ e. omega (arith, e))) (place-live (suc p) (omega arith, l))

  variable-at : (j : ℕ) → j < variable_count w → get_or vs j no_variable ≡ variable_of w j
  variable-at j h = get_or-list_of (variable_count w) (variable_of w) j no_variable h

  index_back : (j : ℕ) → j < variable_count w → index_of vs (get_or w.words (variable_numbers_at + j) 0) ≡ j
  unfolding index_of variable_of
  index_back j h =
      let n : ℕ = get_or w.words (variable_numbers_at + j) 0 in
      let l : length vs ≡ variable_count w = length-list_of (variable_count w) (variable_of w) in
      let at : (i : ℕ) → i < variable_count w → (get_or vs i no_variable).number ≡ get_or w.words (variable_numbers_at + i) 0 = λ i u. ap (λ (v : Variable). v.number) (variable-at i u) in
      first-at (λ i. eqb n (get_or vs i no_variable).number) (λ i. i) (length vs) 0 (length vs) j (omega arith) (omega (arith, h, l))
      (eq-eqb n (get_or vs j no_variable).number (sym (at j h)))
      λ i u v. ne_eqb n (get_or vs i no_variable).number λ q. let d = at i (omega (arith, h, v)) in let c = form.numbers i j v h in omega (arith, q, d, c)

  -- the place of a variable's symbol names that variable
  named-place : (p : ℕ) → index_at w p < variable_count w → number_place xs vs (number_at w p) ≡ p
  unfolding number_place
  named-place p h =
      let q = index-named w p h in
      let j : ℕ = index_at w p in
      let v : (get_or vs (index_of vs (get_or w.words (variable_numbers_at + j) 0)) no_variable).symbol ≡ symbol_at w (get_or w.bytes (variable_places_at + j) 0) = ap (λ (i : ℕ). (get_or vs i no_variable).symbol) (index_back j h) ∙ ap (λ (v : Variable). v.symbol) (variable-at j h) ∙ symbol-of j in
      ap (λ (n : ℕ). place_of xs (get_or vs (index_of vs n) no_variable).symbol) q.1 ∙ ap (place_of xs) v ∙ place-live (get_or w.bytes (variable_places_at + j) 0) (form.owners j h) ∙ q.0
    where
      symbol-of : (j : ℕ) → (variable_of w j).symbol ≡ symbol_at w (get_or w.bytes (variable_places_at + j) 0)
      symbol-of j = unfold variable_of in refl

  -- ---- the cells

  rows_are : cells_of (read w).tableau ≡ tab (λ q. row_of w.keys w.values (cell_count w) k q) 1 (row_count w)
  unfolding read basics_of basic_of
  rows_are = map-tab (λ (r : Basic). r.row.cells) (basic_of w) 1 (row_count w)

  laid-is : (t : Sparse) → laid_of (read w).tableau t ≡ cells (copied (λ j. get_or w.keys j 0) (cell_count w) t.keys) (copied (λ j. get_or w.values j nan) (cell_count w) t.values) (cell_count w)
  unfolding laid_of read
  laid-is t =
      let c = form.counts.symbols in
      rw (many, rows_are) (repacked w.keys w.values (cell_count w) k (row_count w) (omega (arith, c)) form.cells t.keys t.values)

  -- ---- words

  gone-many : length (gone_of w) ≡ gone_count w
  unfolding gone_of
  gone-many = length-list_of (gone_count w) _

  heading-is : heading_of (read w) (cell_count w) ≡ tab (λ j. get_or w.words j 0) 0 10
  unfolding heading_of read tab basics_of
  heading-is =
      rw (many, length-tab (basic_of w) 1 (row_count w), length-list_of (variable_count w) (variable_of w), length-list_of (constraint_count w) (constraint_of w), length-list_of (edit_count w) (edit_of w), bit-read (get_or w.words 7 0) form.clear, bit-read (get_or w.words 8 0) form.whole, gone-many) refl

  gone-is : gone_of w ≡ tab (λ j. get_or w.words j 0) gone_numbers_at (gone_count w)
  unfolding gone_of list_of
  gone-is = tab-from (λ j. get_or w.words j 0) gone_numbers_at 0 (gone_count w)

  words_are : words_of (read w) (cell_count w) ≡ live_words w
  unfolding words_of live_words read list_of symbols_of
  words_are =
      rw (
        heading-is,
        part-is (λ (x : Symbol). x.id) (symbol_at w) (λ j. get_or w.words j 0) 1 (ids_at + 1) k (λ j h. unfold symbol_at in ap (λ (i : ℕ). get_or w.words i 0) (omega arith)),
        part-is (λ (v : Variable). v.number) (variable_of w) (λ j. get_or w.words j 0) 0 variable_numbers_at (variable_count w) (λ j h. unfold variable_of in rw (zero-add j) refl),
        part-is (λ (v : Variable). v.uses) (variable_of w) (λ j. get_or w.words j 0) 0 variable_uses_at (variable_count w) (λ j h. unfold variable_of in rw (zero-add j) refl),
        part-is (λ (c : Constraint). c.number) (constraint_of w) (λ j. get_or w.words j 0) 0 constraint_numbers_at (constraint_count w) (λ j h. unfold constraint_of in rw (zero-add j) refl),
        part-is (λ (c : Constraint). c.group) (constraint_of w) (λ j. get_or w.words j 0) 0 constraint_groups_at (constraint_count w) (λ j h. unfold constraint_of in rw (zero-add j) refl),
        gone-is,
      ) refl

  -- ---- bytes

  abbrev byte : ℕ → ℕ
  byte j = get_or w.bytes j 0

  kinds-are : map (λ (x : Symbol). kind_code x.kind) xs ≡ tab byte (kinds_at + 1) k
  unfolding symbols_of symbol_at
  kinds-are =
      part-is (λ (x : Symbol). kind_code x.kind) (symbol_at w) byte 1 (kinds_at + 1) k λ j h.
      kind-read (byte (kinds_at + (1 + j))) (form.kinds (1 + j) (omega arith) (omega (arith, h))) ∙ ap byte (omega arith)

  basics-are : map (λ (r : Basic). place_of xs r.symbol) (basics_of w) ≡ tab byte (row_places_at + 1) (row_count w)
  unfolding basics_of basic_of
  basics-are =
      part-is (λ (r : Basic). place_of xs r.symbol) (basic_of w) byte 1 (row_places_at + 1) (row_count w) λ j h.
      place-live (byte (row_places_at + (1 + j))) (form.rows (1 + j) (omega arith) (omega (arith, h))) ∙ ap byte (omega arith)

  owners-are : map (λ (v : Variable). place_of xs v.symbol) vs ≡ tab byte variable_places_at (variable_count w)
  unfolding list_of variable_of
  owners-are =
      part-is (λ (v : Variable). place_of xs v.symbol) (variable_of w) byte 0 variable_places_at (variable_count w) λ j h.
      rw (zero-add j) (place-live (byte (variable_places_at + j)) (form.owners j h))

  changed-are : map (λ (v : Variable). bit_of v.changed) vs ≡ tab byte changed_at (variable_count w)
  unfolding list_of variable_of
  changed-are =
      part-is (λ (v : Variable). bit_of v.changed) (variable_of w) byte 0 changed_at (variable_count w) λ j h.
      rw (zero-add j) (bit-read (byte (changed_at + j)) (form.changed j h))

  abbrev cs : List Constraint
  cs = list_of (constraint_count w) (constraint_of w)

  markers-are : map (λ (c : Constraint). place_of xs c.tag.marker) cs ≡ tab byte constraint_markers_at (constraint_count w)
  unfolding list_of constraint_of
  markers-are =
      part-is (λ (c : Constraint). place_of xs c.tag.marker) (constraint_of w) byte 0 constraint_markers_at (constraint_count w) λ j h.
      rw (zero-add j) (place-live (byte (constraint_markers_at + j)) (form.markers j h))

  others-are : map (λ (c : Constraint). other_place xs c.tag.other) cs ≡ tab byte constraint_others_at (constraint_count w)
  unfolding list_of constraint_of
  others-are =
      part-is (λ (c : Constraint). other_place xs c.tag.other) (constraint_of w) byte 0 constraint_others_at (constraint_count w) λ j h.
      rw (zero-add j) (other-live (byte (constraint_others_at + j)) (form.others j h))

  counts-are : map (λ (c : Constraint). length c.terms) cs ≡ tab byte term_counts_at (constraint_count w)
  unfolding list_of constraint_of
  counts-are =
      part-is (λ (c : Constraint). length c.terms) (constraint_of w) byte 0 term_counts_at (constraint_count w) λ j h.
      rw (zero-add j) (length-list_of (byte (term_counts_at + j)) (term_of w (terms_from w j)))

  relations-are : map (λ (c : Constraint). comparison_code c.comparison) cs ≡ tab byte relations_at (constraint_count w)
  unfolding list_of constraint_of
  relations-are =
      part-is (λ (c : Constraint). comparison_code c.comparison) (constraint_of w) byte 0 relations_at (constraint_count w) λ j h.
      rw (zero-add j) (comparison-read (byte (relations_at + j)) (form.relations j h))

  abbrev es : List Edit
  es = list_of (edit_count w) (edit_of w)

  edited-are : map (λ (e : Edit). number_place xs vs e.variable) es ≡ tab byte edit_variables_at (edit_count w)
  unfolding list_of edit_of
  edited-are =
      part-is (λ (e : Edit). number_place xs vs e.variable) (edit_of w) byte 0 edit_variables_at (edit_count w) λ j h.
      rw (zero-add j) (named-place (byte (edit_variables_at + j)) (form.edited j h))

  pluses-are : map (λ (e : Edit). place_of xs e.tag.marker) es ≡ tab byte edit_markers_at (edit_count w)
  unfolding list_of edit_of
  pluses-are =
      part-is (λ (e : Edit). place_of xs e.tag.marker) (edit_of w) byte 0 edit_markers_at (edit_count w) λ j h.
      rw (zero-add j) (place-live (byte (edit_markers_at + j)) (form.pluses j h))

  minuses-are : map (λ (e : Edit). other_place xs e.tag.other) es ≡ tab byte edit_others_at (edit_count w)
  unfolding list_of edit_of
  minuses-are =
      part-is (λ (e : Edit). other_place xs e.tag.other) (edit_of w) byte 0 edit_others_at (edit_count w) λ j h.
      rw (zero-add j) (other-live (byte (edit_others_at + j)) (form.minuses j h))

  named-are : map (λ (t : Term). number_place xs vs t.variable) (all_terms (read w)) ≡ tab byte terms_at (terms_from w (constraint_count w))
  unfolding list_of
  named-are =
      ap (map (λ (t : Term). number_place xs vs t.variable)) (terms-are w)
      ∙ part-is (λ (t : Term). number_place xs vs t.variable) (term_at w) byte 0 terms_at (terms_from w (constraint_count w)) λ j h.
      rw (zero-add j) (named-place (byte (terms_at + j)) (form.named j h))

  bytes-are : bytes_of (read w) ≡ live_bytes w
  unfolding bytes_of live_bytes read
  bytes-are = rw (kinds-are, basics-are, owners-are, changed-are, markers-are, others-are, counts-are, edited-are, pluses-are, minuses-are, named-are, relations-are) refl

  -- ---- reals

  abbrev real : ℕ → Float
  real j = get_or w.reals j nan

  coefficients-are : map (λ (t : Term). t.coefficient) (all_terms (read w)) ≡ tab real coefficients_at (terms_from w (constraint_count w))
  unfolding list_of
  coefficients-are =
      ap (map (λ (t : Term). t.coefficient)) (terms-are w)
      ∙ part-is (λ (t : Term). t.coefficient) (term_at w) real 0 coefficients_at (terms_from w (constraint_count w)) λ j h. rw (zero-add j) refl

  objective-is : objective_of w ≡ tab real (objective_at + 1) k
  unfolding objective_of
  objective-is = tab-from real objective_at 1 k

  cutoff-is : get_or w.reals cutoff_at nan ∷ [] ≡ tab real cutoff_at 1
  unfolding tab
  cutoff-is = refl

  reals-are : reals_of (read w) ≡ live_reals w
  unfolding reals_of live_reals read list_of basics_of
  reals-are =
      rw (
        part-is (λ (r : Basic). r.row.constant) (basic_of w) real 1 (constants_at + 1) (row_count w) (λ j h. unfold basic_of in ap real (omega arith)),
        part-is (λ (v : Variable). v.old) (variable_of w) real 0 old_values_at (variable_count w) (λ j h. unfold variable_of in rw (zero-add j) refl),
        objective-is,
        cutoff-is,
        part-is (λ (c : Constraint). c.strength) (constraint_of w) real 0 constraint_strengths_at (constraint_count w) (λ j h. unfold constraint_of in rw (zero-add j) refl),
        part-is (λ (e : Edit). e.strength) (edit_of w) real 0 edit_strengths_at (edit_count w) (λ j h. unfold edit_of in rw (zero-add j) refl),
        part-is (λ (e : Edit). e.suggestion) (edit_of w) real 0 suggestions_at (edit_count w) (λ j h. unfold edit_of in rw (zero-add j) refl),
        coefficients-are,
        part-is (λ (c : Constraint). c.constant) (constraint_of w) real 0 constraint_constants_at (constraint_count w) (λ j h. unfold constraint_of in rw (zero-add j) refl),
      ) refl

  -- ---- the law

  pub written_is : (t : Sparse) → put_over w t ≡ write (read w) t
  unfolding put_over write
  written_is t = rw (laid-is t, words_are, bytes-are, reals-are) refl

-- ---- a table's own live part put over it

put-itself : (t : Sparse) → put_over t t ≡ t
unfolding put_over live_words live_bytes live_reals
put-itself t =
    let u : (a n : ℕ) → over a (tab (λ j. get_or t.words j 0) a n) t.words ≡ t.words = over-itself 0 t.words in
    let b : (a n : ℕ) → over a (tab (λ j. get_or t.bytes j 0) a n) t.bytes ≡ t.bytes = over-itself 0 t.bytes in
    let r : (a n : ℕ) → over a (tab (λ j. get_or t.reals j nan) a n) t.reals ≡ t.reals = over-itself nan t.reals in
    rw (
      lay-itself (live_words t) t.words (u _ _, (u _ _, (u _ _, (u _ _, (u _ _, (u _ _, (u _ _, tt))))))),
      lay-itself (live_bytes t) t.bytes (b _ _, (b _ _, (b _ _, (b _ _, (b _ _, (b _ _, (b _ _, (b _ _, (b _ _, (b _ _, (b _ _, (b _ _, tt)))))))))))),
      lay-itself (live_reals t) t.reals (r _ _, (r _ _, (r _ _, (r _ _, (r _ _, (r _ _, (r _ _, (r _ _, (r _ _, tt))))))))),
      copied-itself 0 (cell_count t) t.keys,
      copied-itself nan (cell_count t) t.values,
    ) refl

-- tables of the sparse form are what the state that they read as writes into them
pub write_read : (t : Sparse) → Form t → write (read t) t ≡ t
write_read t f = sym (written_is t f t) ∙ put-itself t
