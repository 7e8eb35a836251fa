-- The claims of the places that variables and tags own: all are right exactly if each live symbol has one owner, of the kinds that Add gives.
-- Assumes nothing.
use Rattle.std.specs.Prelude.{ℕ, ◌+◌, ◌-◌, ◌≤◌, ◌<◌, ◌≡◌, Bool, ◌&&◌, ◌||◌, cond, Float}
use Rattle.std.proofs.Math.Path.{refl, sym, ap}
use Rattle.std.proofs.Common.{◌∙◌, true≢false}
use Rattle.std.proofs.Math.Bool.{true, false, not}
use mathlib.Core.List.{List, [], ◌∷◌, ◌++◌}
use native.Mathlib.Omega.{arith}
use Rattle.std.proofs.Math.Dec.{eqb, leb}
use Rattle.std.specs.Float.{nan}
use Rattle.std.specs.Float.Ieee.{lt}
use Rattle.std.proofs.Math.ListN.{length, get_or}
use borrow.Author.Tests.{eqb-true, eq-eqb, leb-true, le-leb}
use Rattle.laws.specs.Lists.{all_in}
use Rattle.layout.specs.Rooms.{both}
use Rattle.layout.proofs.Copied.{length-list_of}
use Rattle.layout.specs.Layout.{comparison_in}
use Rattle.steps.specs.Strength.{required}
use Rattle.steps.specs.Tests.{member}
use Rattle.steps.specs.Readable as steps
use Rattle.keeps.specs.Lists.{All, all_in_lem, all-out}
use Rattle.layout.specs.cells.Names.{last_place, place_room}
use Rattle.rows.specs.places.Finding.{all-at, at_all}
use Rattle.rows.specs.places.Listed.{join, at_listed, listed_at}
use Rattle.rows.specs.places.Shares.{Shares, shares}
use Rattle.sparse.specs.Places.{kinds_at, variable_places_at, changed_at, constraint_markers_at, constraint_others_at, edit_markers_at, edit_others_at, relations_at, constraint_strengths_at, edit_strengths_at}
use Rattle.sparse.specs.Sparse.{Sparse, symbol_count, variable_count, constraint_count, edit_count}
use Rattle.sparse.specs.Form.{At}
use Rattle.sparse_test.specs.Stretch.{most_in, most, in-most}
use Rattle.sparse_test.specs.Views.{owners}
use Rattle.sparse_test.specs.Tested.{kind_at, kind_symbol, externals_in, tag_of_kinds, tags_fit, markers_fit, errors_in, code_at, codes, softly, constraint_fits, edit_fits, claimed, owned_fit}
use Rattle.sparse_test.specs.Claims.{Claim, places, right, claims-right, claims-left, claims-length}
use Rattle.sparse_test.specs.Kinds.{tag_test, tag-parts, tag-join, tag-test, edit_test, edit-parts, edit-join, edit-test}
use Rattle.sparse_test.specs.Claimed as its
use Rattle.sparse_test.specs.Injective.{list-each, first-list, second-list, lists-all, in_ones, ones_in}
use Rattle.sparse_test.specs.Owners.{Once, Placed, placed}

module _ (t : Sparse) where
  abbrev byte : ℕ → ℕ
  byte j = get_or t.bytes j 0

  abbrev real : ℕ → Float
  real j = get_or t.reals j nan

  abbrev k : ℕ
  k = symbol_count t

  abbrev kind : ℕ → ℕ
  kind p = kind_at t.bytes p

  abbrev table : List ℕ
  table = its.table t

  abbrev marker_at : ℕ → ℕ
  marker_at = its.marker_at t

  abbrev variable_claim : ℕ → List Claim
  variable_claim = its.variable_claim t

  abbrev constraint_claim : ℕ → List Claim
  constraint_claim = its.constraint_claim t

  abbrev edit_claim : ℕ → List Claim
  edit_claim = its.edit_claim t

  abbrev L₁ : List Claim
  L₁ = its.L₁ t

  abbrev L₂ : List Claim
  L₂ = its.L₂ t

  abbrev L₃ : List Claim
  L₃ = its.L₃ t

  abbrev claims : List Claim
  claims = its.claims t

  abbrev s₁ : Shares
  s₁ = its.s₁ t

  abbrev s₂ : Shares
  s₂ = its.s₂ t

  abbrev s₃ : Shares
  s₃ = its.s₃ t

  abbrev all : Shares
  all = its.all t

  abbrev Bounded : Claim → Type 0
  Bounded = its.Bounded t

  abbrev Right : Claim → Type 0
  Right = its.Right t

  abbrev Shown : ℕ → ℕ → Type 0
  Shown = its.Shown t

  pub record Kept : Type 0 where
    pub once : Once t
    pub kinds : most_in t.bytes (kinds_at + 1) (symbol_count t) 3 ≡ true
    pub changed : most_in t.bytes changed_at (variable_count t) 1 ≡ true
    pub relations : most_in t.bytes relations_at (constraint_count t) 2 ≡ true
    pub externals : externals_in t.bytes (variable_count t) ≡ true
    pub tags : tags_fit t.bytes t.reals constraint_strengths_at constraint_markers_at constraint_others_at (constraint_count t) ≡ true
    pub markers : markers_fit t.bytes (constraint_count t) ≡ true
    pub errors : errors_in t.bytes (edit_count t) ≡ true
    pub edit_tags : tags_fit t.bytes t.reals edit_strengths_at edit_markers_at edit_others_at (edit_count t) ≡ true

  abbrev fit : Bool
  fit = owned_fit t.bytes t.reals k (variable_count t) (constraint_count t) (edit_count t)

  record Passed : Type 0 where
    oks : all.ok ≡ true
    zeros : (i : ℕ) → i < k → get_or all.left (1 + i) 0 ≡ 0
    flags : most_in t.bytes changed_at (variable_count t) 1 ≡ true
    constraints : (i : ℕ) → i < constraint_count t → (softly (real (constraint_strengths_at + i)) (byte (constraint_others_at + i)) && leb (byte (relations_at + i)) 2) ≡ true
    edits : (i : ℕ) → i < edit_count t → (lt (real (edit_strengths_at + i)) required && not (eqb (byte (edit_others_at + i)) 0)) ≡ true

  passed : fit ≡ true → Passed
  unfolding owned_fit claimed constraint_fits edit_fits
  passed h =
      let a = both _ _ h in
      let b = both _ _ a.0 in
      let c = both _ _ b.0 in
      let v = both s₁.ok _ c.0 in
      let n = both s₂.ok _ c.1 in
      let e = both s₃.ok _ b.1 in
      record {
        oks = (its.all-ok t) ∙ join v.0 (join n.0 e.0);
        zeros = λ i u. ap (λ (l : List ℕ). get_or l (1 + i) 0) (its.all_left t) ∙ eqb-true _ _ (all-at (λ i. eqb (get_or s₃.left (1 + i) 0) 0) 0 k a.1 i (omega arith) u);
        flags = v.1;
        constraints = λ i u. all-at (λ i. softly (real (constraint_strengths_at + i)) (byte (constraint_others_at + i)) && leb (byte (relations_at + i)) 2) 0 (constraint_count t) n.1 i (omega arith) u;
        edits = λ i u. all-at (λ i. lt (real (edit_strengths_at + i)) required && not (eqb (byte (edit_others_at + i)) 0)) 0 (edit_count t) e.1 i (omega arith) u;
      }

  passing : Passed → fit ≡ true
  unfolding owned_fit claimed constraint_fits edit_fits
  passing p =
      let o = both s₁.ok (s₂.ok && s₃.ok) (sym (its.all-ok t) ∙ p.oks) in
      let q = both s₂.ok s₃.ok o.1 in
      join (join (join (join o.0 p.flags) (join q.0 (at_all _ 0 (constraint_count t) λ i a b. p.constraints i b))) (join q.1 (at_all _ 0 (edit_count t) λ i a b. p.edits i b)))
      (at_all _ 0 k λ i a b. eq-eqb _ _ (sym (ap (λ (l : List ℕ). get_or l (1 + i) 0) (its.all_left t)) ∙ p.zeros i b))

  -- ---- the test keeps all that

  claimed-code : (p : ℕ) (l : List Claim) → All Bounded l → All Right l → member p (places l) ≡ true → get_or table p 0 ≤ 4
  unfolding member
  claimed-code p [] a b h = absurd (true≢false (sym h))
  claimed-code p (c ∷ l) a b h = go (eqb p c.0) refl h (λ q. claimed-code p l a.1 b.1 q)
    where
      go : (d : Bool) → eqb p c.0 ≡ d → (d || member p (places l)) ≡ true → (member p (places l) ≡ true → get_or table p 0 ≤ 4) → get_or table p 0 ≤ 4
      go true e q r =
          let o : p ≡ c.0 = eqb-true p c.0 e in
          let x = eqb-true (get_or table c.0 0) c.1 b.0 in
          let y = a.0.1 in
          rw o (omega (arith, x, y))
      go false e q r = r q

  all_live : (l : List Claim) → All Bounded l → All Right l → All (At t) (places l)
  all_live [] a b = tt
  all_live (c ∷ l) a b = ((its.shown t c.0 c.1 a.0.0 a.0.1 b.0).0, all_live l a.1 b.1)

  module _ (few : k ≤ last_place) where
    module _ (p : Passed) where
      sure : (steps.distinct (places claims) ≡ true) × (steps.all (right table) claims ≡ true)
      sure = both _ _ (sym (claims-right claims table (its.coded t)) ∙ p.oks)

      rights : All Right claims
      rights = all_in_lem (right table) claims sure.1

      taken : (i : ℕ) → i < k → member (1 + i) (places claims) ≡ true
      taken i u = go (member (1 + i) (places claims)) refl (sym (claims-left claims table true (1 + i)) ∙ p.zeros i u)
        where
          go : (b : Bool) → member (1 + i) (places claims) ≡ b → cond b 0 (get_or table (1 + i) 0) ≡ 0 → b ≡ true
          go true e q = refl
          go false e q = let c = its.some-code t (1 + i) few (omega arith, omega (arith, u)) in absurd (omega (arith, c, q))

      once-of : Once t
      unfolding steps.all_in
      once-of = (
        rw (← (its.claims-places t)) sure.0,
        at_listed (λ x. member x (owners t)) k (λ j. 1 + j) (λ j u. rw (← (its.claims-places t)) (taken j u)),
        ones_in k (owners t) (rw (← (its.claims-places t)) (all_live claims (its.bounded t) rights)),
      )

      kind-of : (i : ℕ) → i < k → kind (1 + i) ≤ 3
      kind-of i u = (its.code-live t (1 + i) (get_or table (1 + i) 0) refl (its.some-code t (1 + i) few (omega arith, omega (arith, u))) (claimed-code (1 + i) claims (its.bounded t) rights (taken i u))).1

      rest : All Right (L₂ ++ L₃)
      rest = second-list Right L₁ (L₂ ++ L₃) rights

      variable-of : (i : ℕ) → i < variable_count t → Shown (byte (variable_places_at + i)) 1
      variable-of i u = its.shown t (byte (variable_places_at + i)) 1 (omega arith) (omega arith) (list-each (λ (l : List Claim). All Right l) variable_claim (variable_count t) (lists-all Right _ (first-list Right L₁ (L₂ ++ L₃) rights)) i u).0

      constraint-of : (i : ℕ) → i < constraint_count t → Shown (byte (constraint_markers_at + i)) (marker_at i) × ((eqb (byte (constraint_others_at + i)) 0 || eqb (kind (byte (constraint_others_at + i))) 2) ≡ true)
      constraint-of i u =
          let c = its.marker-code t (byte (relations_at + i)) (byte (constraint_others_at + i)) in
          its.tag-shown t (marker_at i) (byte (constraint_markers_at + i)) (byte (constraint_others_at + i)) c.0 c.1 (list-each (λ (l : List Claim). All Right l) constraint_claim (constraint_count t) (lists-all Right _ (first-list Right L₂ L₃ rest)) i u)

      edit-of : (i : ℕ) → i < edit_count t → Shown (byte (edit_markers_at + i)) 3 × ((eqb (byte (edit_others_at + i)) 0 || eqb (kind (byte (edit_others_at + i))) 2) ≡ true)
      edit-of i u = its.tag-shown t 3 (byte (edit_markers_at + i)) (byte (edit_others_at + i)) (omega arith) (omega arith) (list-each (λ (l : List Claim). All Right l) edit_claim (edit_count t) (lists-all Right _ (second-list Right L₂ L₃ rest)) i u)

      tag_of : (i : ℕ) → i < constraint_count t → (steps.tag_kinds (real (constraint_strengths_at + i)) (tag_of_kinds (kind (byte (constraint_markers_at + i))) (byte (constraint_others_at + i)) (kind (byte (constraint_others_at + i)))) ≡ true) × (steps.marker_fits (comparison_in (byte (relations_at + i))) (kind_symbol (kind (byte (constraint_markers_at + i)))) ≡ true)
      tag_of i u =
          let c = constraint-of i u in
          let f = both (softly (real (constraint_strengths_at + i)) (byte (constraint_others_at + i))) (leb (byte (relations_at + i)) 2) (p.constraints i u) in
          both (steps.tag_kinds (real (constraint_strengths_at + i)) (tag_of_kinds (kind (byte (constraint_markers_at + i))) (byte (constraint_others_at + i)) (kind (byte (constraint_others_at + i))))) (steps.marker_fits (comparison_in (byte (relations_at + i))) (kind_symbol (kind (byte (constraint_markers_at + i)))))
          (sym (tag-test (real (constraint_strengths_at + i)) (byte (relations_at + i)) (kind (byte (constraint_others_at + i))) (kind (byte (constraint_markers_at + i))) (byte (constraint_others_at + i)) c.0.1)
          ∙ tag-join _ _ _ _ _ c.0.2 f.0 c.1)

      plus-of : (i : ℕ) → i < edit_count t → (eqb (kind (byte (edit_markers_at + i))) 2 ≡ true) × (steps.tag_kinds (real (edit_strengths_at + i)) (tag_of_kinds (kind (byte (edit_markers_at + i))) (byte (edit_others_at + i)) (kind (byte (edit_others_at + i)))) ≡ true)
      plus-of i u =
          let c = edit-of i u in
          both (eqb (kind (byte (edit_markers_at + i))) 2) (steps.tag_kinds (real (edit_strengths_at + i)) (tag_of_kinds (kind (byte (edit_markers_at + i))) (byte (edit_others_at + i)) (kind (byte (edit_others_at + i)))))
          (sym (edit-test (real (edit_strengths_at + i)) (kind (byte (edit_others_at + i))) (kind (byte (edit_markers_at + i))) (byte (edit_others_at + i)) c.0.1)
          ∙ edit-join _ _ _ _ c.0.2 (p.edits i u) c.1)

      kept : Kept
      unfolding externals_in tags_fit markers_fit errors_in
      kept =
          record {
            once = once-of;
            kinds = in-most t.bytes (kinds_at + 1) k 3 λ j u. unfold kind_at in let o : kinds_at + 1 + j ≡ kinds_at + (1 + j) = omega arith in rw o (kind-of j u);
            changed = p.flags;
            relations = in-most t.bytes relations_at (constraint_count t) 2 λ i u. leb-true (byte (relations_at + i)) 2 (both (softly (real (constraint_strengths_at + i)) (byte (constraint_others_at + i))) _ (p.constraints i u)).1;
            externals = at_all _ 0 (variable_count t) λ i a u. let e = (variable-of i u).2 in eq-eqb (kind (byte (variable_places_at + i))) 0 (omega (arith, e));
            tags = at_all _ 0 (constraint_count t) λ i a u. (tag_of i u).0;
            markers = at_all _ 0 (constraint_count t) λ i a u. (tag_of i u).1;
            errors = at_all _ 0 (edit_count t) λ i a u. (plus-of i u).0;
            edit_tags = at_all _ 0 (edit_count t) λ i a u. (plus-of i u).1;
          }

    pub fit-kept : owned_fit t.bytes t.reals (symbol_count t) (variable_count t) (constraint_count t) (edit_count t) ≡ true → Kept
    fit-kept h = kept (passed h)

    -- ---- what is left in the table

    held : (p : ℕ) (l : List ℕ) → All (At t) l → member p l ≡ true → At t p
    unfolding member
    held p [] h e = absurd (true≢false (sym e))
    held p (x ∷ l) h e = go (eqb p x) refl e (held p l h.1)
      where
        go : (b : Bool) → eqb p x ≡ b → (b || member p l) ≡ true → (member p l ≡ true → At t p) → At t p
        go true q r f = rw (eqb-true p x q) h.0
        go false q r f = f r

    left_at : Passed → (p : ℕ) → p ≤ 255 → eqb (get_or all.left p 0) 0 ≡ (leb 1 p && leb p k)
    left_at d p u = go (leb 1 p) refl (leb p k) refl
      where
        off : (a b : Bool) → leb 1 p ≡ a → leb p k ≡ b → (a && b) ≡ false → eqb (get_or all.left p 0) 0 ≡ false
        off a b x y z = no (member p (places claims)) refl
          where
            no : (m : Bool) → member p (places claims) ≡ m → eqb (get_or all.left p 0) 0 ≡ false
            no true q =
                let l = held p (places claims) (all_live claims (its.bounded t) (rights d)) q in
                let e : (a && b) ≡ true = rw (← x, ← y) (join (le-leb 1 p l.0) (le-leb p k l.1)) in
                absurd (true≢false (sym e ∙ z))
            no false q =
                let e : get_or all.left p 0 ≡ code_at t.bytes k p = claims-left claims table true p ∙ (rw q (its.code-there t p (omega (arith, u)))) in
                rw e (unfold code_at in rw (x, y, z) refl)

        go : (a : Bool) → leb 1 p ≡ a → (b : Bool) → leb p k ≡ b → eqb (get_or all.left p 0) 0 ≡ (a && b)
        go true x true y =
            let l = leb-true 1 p x in
            let m = leb-true p k y in
            let o : 1 + (p - 1) ≡ p = omega (arith, l) in
            eq-eqb _ _ (rw o at (d.zeros (p - 1) (omega (arith, l, m))))
        go true x false y = off true false x y refl
        go false x b y = off false b x y refl

    -- the places that are open before rows are
    pub claimed-at : owned_fit t.bytes t.reals (symbol_count t) (variable_count t) (constraint_count t) (edit_count t) ≡ true → (p : ℕ) → p ≤ 255 → eqb (get_or (claimed t.bytes (symbol_count t) (variable_count t) (constraint_count t) (edit_count t)) p 0) 0 ≡ (leb 1 p && leb p (symbol_count t))
    unfolding claimed
    claimed-at h p u = sym (ap (λ (l : List ℕ). eqb (get_or l p 0) 0) (its.all_left t)) ∙ left_at (passed h) p u

  pub claimed-long : length (claimed t.bytes (symbol_count t) (variable_count t) (constraint_count t) (edit_count t)) ≡ place_room
  unfolding claimed codes
  claimed-long = ap length (sym (its.all_left t)) ∙ claims-length claims (shares table true) ∙ length-list_of place_room (code_at t.bytes k)

  -- ---- all that passes the test

  pub kind-near : most_in t.bytes (kinds_at + 1) (symbol_count t) 3 ≡ true → (p : ℕ) → At t p → kind_at t.bytes p ≤ 3
  unfolding kind_at
  kind-near h p l =
      let a = l.0 in
      let b = l.1 in
      let o : kinds_at + 1 + (p - 1) ≡ kinds_at + p = omega (arith, a) in
      rw o at (most t.bytes (kinds_at + 1) k 3 h (p - 1) (omega (arith, a, b)))

  module _ (q : Kept) where
    at : (p : ℕ → Bool) (n : ℕ) → all_in p 0 n ≡ true → (i : ℕ) → i < n → p i ≡ true
    at p n h i u = all-at p 0 n h i (omega arith) u

    live_of : Placed t
    live_of = placed t (in_ones k (owners t) q.once.2)

    low : (p : ℕ) → At t p → kind p ≤ 3
    low p l = kind-near q.kinds p l

    tag_at : (i : ℕ) → i < constraint_count t → tag_test (real (constraint_strengths_at + i)) (byte (relations_at + i)) (kind (byte (constraint_markers_at + i))) (byte (constraint_others_at + i)) (kind (byte (constraint_others_at + i))) ≡ true
    unfolding tags_fit markers_fit
    tag_at i u =
        tag-test (real (constraint_strengths_at + i)) (byte (relations_at + i)) (kind (byte (constraint_others_at + i))) (kind (byte (constraint_markers_at + i))) (byte (constraint_others_at + i)) (low _ (live_of.markers i u))
        ∙ join (at _ (constraint_count t) q.tags i u) (at _ (constraint_count t) q.markers i u)

    edit-at : (i : ℕ) → i < edit_count t → edit_test (real (edit_strengths_at + i)) (kind (byte (edit_markers_at + i))) (byte (edit_others_at + i)) (kind (byte (edit_others_at + i))) ≡ true
    unfolding tags_fit errors_in
    edit-at i u =
        edit-test (real (edit_strengths_at + i)) (kind (byte (edit_others_at + i))) (kind (byte (edit_markers_at + i))) (byte (edit_others_at + i)) (low _ (live_of.pluses i u))
        ∙ join (at _ (edit_count t) q.errors i u) (at _ (edit_count t) q.edit_tags i u)

    variable-right : k ≤ last_place → (i : ℕ) → i < variable_count t → All Right (variable_claim i)
    unfolding externals_in
    variable-right few i u =
        let e = eqb-true (kind (byte (variable_places_at + i))) 0 (at _ (variable_count t) q.externals i u) in
        (its.is_right t (byte (variable_places_at + i)) 1 few (live_of.variables i u, low _ (live_of.variables i u), omega (arith, e)), tt)

    constraint-right : k ≤ last_place → (i : ℕ) → i < constraint_count t → All Right (constraint_claim i)
    constraint-right few i u =
        let a = tag-parts _ _ _ _ _ (tag_at i u) in
        its.tag-right t (marker_at i) (byte (constraint_markers_at + i)) (byte (constraint_others_at + i)) few (live_of.markers i u, low _ (live_of.markers i u), a.0) (live_of.others i u) a.2

    edit-right : k ≤ last_place → (i : ℕ) → i < edit_count t → All Right (edit_claim i)
    edit-right few i u =
        let a = edit-parts _ _ _ _ (edit-at i u) in
        its.tag-right t 3 (byte (edit_markers_at + i)) (byte (edit_others_at + i)) few (live_of.pluses i u, low _ (live_of.pluses i u), a.0) (live_of.minuses i u) a.2

    own : (i : ℕ) → i < k → member (1 + i) (places claims) ≡ true
    unfolding steps.all_in
    own i u = rw (its.claims-places t) (listed_at (λ x. member x (owners t)) k (λ j. 1 + j) q.once.1 i u)

    pub kept-fit : symbol_count t ≤ last_place → owned_fit t.bytes t.reals (symbol_count t) (variable_count t) (constraint_count t) (edit_count t) ≡ true
    kept-fit few =
        passing (record {
          oks = claims-right claims table (its.coded t) ∙ join {a = steps.distinct (places claims)} (rw (its.claims-places t) q.once.0) (all-out (right table) claims (its.each-claim t Right (variable-right few) (constraint-right few) (edit-right few)));
          zeros = λ i u. claims-left claims table true (1 + i) ∙ (rw (own i u) refl);
          flags = q.changed;
          constraints = λ i u. join {a = softly (real (constraint_strengths_at + i)) (byte (constraint_others_at + i))} (tag-parts _ _ _ _ _ (tag_at i u)).1 (le-leb (byte (relations_at + i)) 2 (most t.bytes relations_at (constraint_count t) 2 q.relations i u));
          edits = λ i u. (edit-parts _ _ _ _ (edit-at i u)).1;
        })
