-- Records that were moved read as they did: each constraint and each edit that is kept, and the form of the tables.
-- Assumes nothing.
use Prim.Native.Nat.{ℕ, ◌+◌, ◌≤◌, ◌<◌}
use Rattle.std.specs.Prelude.{◌≡◌, Bool, true, false, ltb, length, get_or}
use Rattle.std.proofs.Math.Path.{refl}
use Rattle.std.proofs.Common.{sym, arith, ltb-true, ltb-false}
use Rattle.laws.specs.Lists.{list_of, sum_in}
use Rattle.layout.specs.Laying.{list_ext}
use Rattle.layout.proofs.Copied.{length-list_of, get_or-list_of}
use Rattle.sparse.specs.Places.{constraint_markers_at, constraint_others_at, edit_variables_at, edit_markers_at, edit_others_at, terms_at, relations_at}
use Rattle.sparse.specs.Sparse.{Sparse, symbol_count, variable_count, constraint_count, edit_count, symbol_at, other_at, number_at, terms_from, term_of, constraint_of, edit_of}
use Rattle.sparse.specs.Concat.{sum-in, sum-le}
use Rattle.sparse.specs.Write.{no_term}
use Rattle.sparse.specs.Form.{index_at, At, Form}
use Rattle.stored.specs.declared.parts.Plan.{Plan}
use Rattle.stored.specs.Parts.{past-low, past-high, source, target, size, source_size, target_size}
use Rattle.stored.specs.Maps.{counts_in}
use Rattle.stored.specs.Carried.{Carried}
use Rattle.stored.specs.Moved.{terms_plan, sum_same, Moved}
use Rattle.stored.specs.Gaps.{gap-cases, sum-cases, gap-size, gap-total, kept-within, gap-sum}
use Rattle.stored.specs.Beside.{Beside, Own}
use Rattle.stored.specs.Holds.{Known, HoldsC, HoldsE, tag-carried, other-carried, variable-carried}

-- what is kept comes from within
source-within : (p : Plan) (k : ℕ) → k < size p → source p k < source_size p
source-within p k h = go (ltb k p.at) refl
  where
    go : (z : Bool) → ltb k p.at ≡ z → source p k < source_size p
    go true q = let l = ltb-true k p.at q in rw (past-low p.at p.drop k l) (omega (arith, l))
    go false q = let l = ltb-false k p.at q in rw (past-high p.at p.drop k l) (omega (arith, l, h))

module _ (t w u : Sparse) (form : Form t) (o : Own w) (b : Beside w u) (c e : Plan) (n r : ℕ) (m : Moved c e n t.words t.bytes t.reals w.words w.bytes w.reals u.words u.bytes u.reals r) where
  abbrev s : Plan
  s = terms_plan (counts_in t.bytes) c n

  abbrev x : Carried c s e t.words t.bytes t.reals w.words w.bytes w.reals u.words u.bytes u.reals
  x = m.carried

  -- ---- constraints

  module _ (all : source_size c ≡ constraint_count t) (gapped : sum_in (counts_in u.bytes) c.at (c.at + c.free) ≡ n) where
    -- the counts of those kept
    abbrev h : ℕ → ℕ
    h k = counts_in t.bytes (source c k)

    count_kept : (k : ℕ) → k < size c → h k ≡ counts_in u.bytes (target c k)
    count_kept k l = sym (x.bytes.counts.kept k l)

    -- where the k-th kept one's terms stood, and where they stand
    from-t : (k j : ℕ) → k < size c → j < h k → terms_from t (source c k) + j ≡ source s (sum_in h 0 k + j)
    unfolding terms_from terms_plan
    from-t k j l i = gap-sum h (counts_in t.bytes) c.at c.drop c.rest (λ k l. refl) k j l i

    pub starts : sum_in (counts_in u.bytes) 0 c.at ≡ sum_in (counts_in t.bytes) 0 c.at
    starts = sum_same _ _ c.at λ j l.
        let q = x.bytes.counts.kept j (omega (arith, l)) in
        rw (past-low c.at c.free j l, past-low c.at c.drop j l) at q

    from-u : (k j : ℕ) → k < size c → j < h k → terms_from u (target c k) + j ≡ target s (sum_in h 0 k + j)
    unfolding terms_from terms_plan
    from-u k j l i = rw (starts, gapped) at (gap-sum h (counts_in u.bytes) c.at c.free c.rest count_kept k j l i)

    sizes : sum_in h 0 (size c) ≡ size s
    unfolding terms_plan
    sizes = gap-size h (counts_in t.bytes) c.at c.drop c.rest (λ k l. refl)

    pub terms-total : terms_from u (target_size c) ≡ target_size s
    unfolding terms_from
    terms-total =
        let a = gap-total h (counts_in u.bytes) c.at c.free c.rest count_kept in
        let f : s.free ≡ n = unfold terms_plan in refl in
        omega (arith, a, gapped, sizes, f)

    -- a kept term's variable, and where it is in t
    module _ (holds : (k : ℕ) → k < size c → HoldsC w (constraint_of t (source c k))) where
      known-term : (k j : ℕ) → k < size c → j < h k → Known w (number_at t (get_or t.bytes (terms_at + source s (sum_in h 0 k + j)) 0))
      known-term k j l i =
          let q = (holds k l).terms in
          rw (← from-t k j l i) (at-term q)
        where
          at-term : ((j : ℕ) → j < length (constraint_of t (source c k)).terms → Known w (get_or (constraint_of t (source c k)).terms j no_term).variable) → Known w (number_at t (get_or t.bytes (terms_at + (terms_from t (source c k) + j)) 0))
          at-term q = unfold constraint_of term_of in (rw (get_or-list_of (h k) (term_of t (terms_from t (source c k))) j no_term i) at (q j (rw (length-list_of (h k) (term_of t (terms_from t (source c k)))) i)))

      named-term : (k j : ℕ) → k < size c → j < h k → index_at t (get_or t.bytes (terms_at + source s (sum_in h 0 k + j)) 0) < variable_count t
      named-term k j l i =
          let q = source-within c k l in
          rw (← from-t k j l i) (form.named (terms_from t (source c k) + j) (within q))
        where
          within : source c k < source_size c → terms_from t (source c k) + j < terms_from t (constraint_count t)
          within q = unfold terms_from in rw (← all, sum-in (counts_in t.bytes) (source c k), sum-in (counts_in t.bytes) (source_size c)) (sum-le (counts_in t.bytes) (source c k) (source_size c) j q i)

      term-kept : (k j : ℕ) → k < size c → j < h k → term_of u (terms_from u (target c k)) j ≡ term_of t (terms_from t (source c k)) j
      unfolding term_of
      term-kept k j l i =
          let y : ℕ = sum_in h 0 k + j in
          let z : y < size s = omega (arith, kept-within h (counts_in t.bytes) c.at c.drop c.rest (λ k l. refl) k j l i, sizes) in
          rw (from-u k j l i, from-t k j l i, x.bytes.terms.kept y z, x.reals.coefficients.kept y z, (variable-carried t w u form o b x.named (get_or t.bytes (terms_at + source s y) 0) (named-term k j l i) (known-term k j l i)).1) refl

      marker-kept : (k : ℕ) → k < size c → At u (get_or u.bytes (constraint_markers_at + target c k) 0) × (symbol_at u (get_or u.bytes (constraint_markers_at + target c k) 0) ≡ symbol_at t (get_or t.bytes (constraint_markers_at + source c k) 0))
      marker-kept k l =
          let q = source-within c k l in
          rw (x.bytes.markers.kept k l) (tag-carried t w u form o b x.tagged (get_or t.bytes (constraint_markers_at + source c k) 0) (form.markers (source c k) (omega (arith, q, all))) (unfold constraint_of in (holds k l).marker))

      other-kept : (k : ℕ) → k < size c → (get_or u.bytes (constraint_others_at + target c k) 0 ≤ symbol_count u) × (other_at u (get_or u.bytes (constraint_others_at + target c k) 0) ≡ other_at t (get_or t.bytes (constraint_others_at + source c k) 0))
      other-kept k l =
          let q = source-within c k l in
          rw (x.bytes.others.kept k l) (other-carried t w u form o b x.tagged (get_or t.bytes (constraint_others_at + source c k) 0) (form.others (source c k) (omega (arith, q, all))) (unfold constraint_of in (holds k l).other))

      pub kept-constraint : (k : ℕ) → k < size c → constraint_of u (target c k) ≡ constraint_of t (source c k)
      unfolding constraint_of
      kept-constraint k l =
          let ts : list_of (h k) (term_of u (terms_from u (target c k))) ≡ list_of (h k) (term_of t (terms_from t (source c k))) = list_ext _ _ _ λ j i. term-kept k j l i in
          rw (x.words.numbers.kept k l, x.words.groups.kept k l, x.bytes.relations.kept k l, x.reals.strengths.kept k l, x.reals.constants.kept k l, x.bytes.counts.kept k l, ts, (marker-kept k l).1, (other-kept k l).1) refl

      -- ---- the form, if the gap has it

      pub markers-form : ((k : ℕ) → k < c.free → At u (get_or u.bytes (constraint_markers_at + (c.at + k)) 0)) → (i : ℕ) → i < target_size c → At u (get_or u.bytes (constraint_markers_at + i) 0)
      markers-form g = gap-cases (λ i. At u (get_or u.bytes (constraint_markers_at + i) 0)) c (λ k l. (marker-kept k l).0) g

      pub others-form : ((k : ℕ) → k < c.free → get_or u.bytes (constraint_others_at + (c.at + k)) 0 ≤ symbol_count u) → (i : ℕ) → i < target_size c → get_or u.bytes (constraint_others_at + i) 0 ≤ symbol_count u
      others-form g = gap-cases (λ i. get_or u.bytes (constraint_others_at + i) 0 ≤ symbol_count u) c (λ k l. (other-kept k l).0) g

      pub relations-form : ((k : ℕ) → k < c.free → get_or u.bytes (relations_at + (c.at + k)) 0 ≤ 2) → (i : ℕ) → i < target_size c → get_or u.bytes (relations_at + i) 0 ≤ 2
      relations-form g =
          gap-cases (λ i. get_or u.bytes (relations_at + i) 0 ≤ 2) c (λ k l. let q = source-within c k l in rw (x.bytes.relations.kept k l) (form.relations (source c k) (omega (arith, q, all)))) g

      pub terms-form : ((k : ℕ) → k < s.free → index_at u (get_or u.bytes (terms_at + (s.at + k)) 0) < variable_count u) → (j : ℕ) → j < target_size s → index_at u (get_or u.bytes (terms_at + j) 0) < variable_count u
      terms-form g =
          gap-cases (λ j. index_at u (get_or u.bytes (terms_at + j) 0) < variable_count u) s
          (λ y z. rw (x.bytes.terms.kept y z) (sum-cases (λ y. index_at u (get_or x.vars (get_or t.bytes (terms_at + source s y) 0) 0) < variable_count u) h (size c)
          (λ k j l i. (variable-carried t w u form o b x.named (get_or t.bytes (terms_at + source s (sum_in h 0 k + j)) 0) (named-term k j l i) (known-term k j l i)).0) y (omega (arith, z, sizes))))
          g

  -- ---- edits

  module _ (all : source_size e ≡ edit_count t) (holds : (k : ℕ) → k < size e → HoldsE w (edit_of t (source e k))) where
    variable-kept : (k : ℕ) → k < size e → (index_at u (get_or u.bytes (edit_variables_at + target e k) 0) < variable_count u) × (number_at u (get_or u.bytes (edit_variables_at + target e k) 0) ≡ number_at t (get_or t.bytes (edit_variables_at + source e k) 0))
    variable-kept k l =
        let q = source-within e k l in
        rw (x.bytes.edited.kept k l) (variable-carried t w u form o b x.named (get_or t.bytes (edit_variables_at + source e k) 0) (form.edited (source e k) (omega (arith, q, all))) (unfold edit_of in (holds k l).variable))

    plus-kept : (k : ℕ) → k < size e → At u (get_or u.bytes (edit_markers_at + target e k) 0) × (symbol_at u (get_or u.bytes (edit_markers_at + target e k) 0) ≡ symbol_at t (get_or t.bytes (edit_markers_at + source e k) 0))
    plus-kept k l =
        let q = source-within e k l in
        rw (x.bytes.pluses.kept k l) (tag-carried t w u form o b x.tagged (get_or t.bytes (edit_markers_at + source e k) 0) (form.pluses (source e k) (omega (arith, q, all))) (unfold edit_of in (holds k l).marker))

    minus-kept : (k : ℕ) → k < size e → (get_or u.bytes (edit_others_at + target e k) 0 ≤ symbol_count u) × (other_at u (get_or u.bytes (edit_others_at + target e k) 0) ≡ other_at t (get_or t.bytes (edit_others_at + source e k) 0))
    minus-kept k l =
        let q = source-within e k l in
        rw (x.bytes.minuses.kept k l) (other-carried t w u form o b x.tagged (get_or t.bytes (edit_others_at + source e k) 0) (form.minuses (source e k) (omega (arith, q, all))) (unfold edit_of in (holds k l).other))

    pub kept-edit : (k : ℕ) → k < size e → edit_of u (target e k) ≡ edit_of t (source e k)
    unfolding edit_of
    kept-edit k l = rw ((variable-kept k l).1, x.reals.edit_strengths.kept k l, (plus-kept k l).1, (minus-kept k l).1, x.reals.suggestions.kept k l) refl

    pub edited-form : ((k : ℕ) → k < e.free → index_at u (get_or u.bytes (edit_variables_at + (e.at + k)) 0) < variable_count u) → (i : ℕ) → i < target_size e → index_at u (get_or u.bytes (edit_variables_at + i) 0) < variable_count u
    edited-form g = gap-cases (λ i. index_at u (get_or u.bytes (edit_variables_at + i) 0) < variable_count u) e (λ k l. (variable-kept k l).0) g

    pub pluses-form : ((k : ℕ) → k < e.free → At u (get_or u.bytes (edit_markers_at + (e.at + k)) 0)) → (i : ℕ) → i < target_size e → At u (get_or u.bytes (edit_markers_at + i) 0)
    pluses-form g = gap-cases (λ i. At u (get_or u.bytes (edit_markers_at + i) 0)) e (λ k l. (plus-kept k l).0) g

    pub minuses-form : ((k : ℕ) → k < e.free → get_or u.bytes (edit_others_at + (e.at + k)) 0 ≤ symbol_count u) → (i : ℕ) → i < target_size e → get_or u.bytes (edit_others_at + i) 0 ≤ symbol_count u
    minuses-form g = gap-cases (λ i. get_or u.bytes (edit_others_at + i) 0 ≤ symbol_count u) e (λ k l. (minus-kept k l).0) g
