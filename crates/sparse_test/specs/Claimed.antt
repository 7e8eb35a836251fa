-- The claims that variables and tags make, and the table of codes in which they make them.
-- Assumes nothing.
use Rattle.std.specs.Prelude.{ℕ, ◌+◌, ◌≤◌, ◌<◌, ◌≡◌, Bool, ◌&&◌, ◌||◌, eqb, ltb, Float, get_or}
use Rattle.std.proofs.Math.Path.{refl, sym}
use Rattle.std.proofs.Common.{ap, ◌∙◌}
use Rattle.std.proofs.Math.Bool.{true, false, cond}
use mathlib.Core.List.{List, [], ◌∷◌, ◌++◌}
use native.Mathlib.Omega.{arith}
use Rattle.std.proofs.Math.Dec.{leb}
use Rattle.std.specs.Float.{nan}
use Rattle.std.proofs.Math.ListN.{length, get_or-eq_default}
use borrow.Author.Tests.{eqb-true, eqb-false, eq-eqb, leb-true, le-leb, ltb-true, ltb-false}
use Rattle.laws.specs.Lists.{list_of}
use Rattle.layout.specs.Laying.{list_ext}
use Rattle.layout.proofs.Copied.{length-list_of, get_or-list_of}
use Rattle.steps.specs.Readable as steps
use Rattle.keeps.specs.Lists.{All, all-to}
use Rattle.layout.specs.cells.Names.{last_place, place_room}
use Rattle.rows.specs.places.Listed.{map-list}
use Rattle.rows.specs.places.Shares.{Shares, shares}
use Rattle.sparse.specs.Places.{variable_places_at, constraint_markers_at, constraint_others_at, edit_markers_at, edit_others_at, relations_at}
use Rattle.sparse.specs.Sparse.{Sparse, symbol_count, variable_count, constraint_count, edit_count}
use Rattle.sparse.specs.Form.{At}
use Rattle.sparse_test.specs.Views.{map-append, map-concat, single, tag_places, owners}
use Rattle.sparse_test.specs.Tested.{kind_at, code_of, code_at, codes, claim, claim_other, claim_variables, marker_code, claim_constraints, claim_edits, after₁, after₂, after₃}
use Rattle.sparse_test.specs.Claims.{Claim, places, claim_each, claims-append, run-claims, left-any, ok-any, Coded, right}
use Rattle.sparse_test.specs.Injective.{each-list, both-lists, all-lists}

module _ (t : Sparse) where
  abbrev byte : ℕ → ℕ
  byte j = get_or t.bytes j 0

  abbrev real : ℕ → Float
  real j = get_or t.reals j nan

  abbrev k : ℕ
  k = symbol_count t

  abbrev kind : ℕ → ℕ
  kind p = kind_at t.bytes p

  abbrev pub table : List ℕ
  table = codes t.bytes k

  -- ---- a live symbol's code

  pub code-there : (p : ℕ) → p < place_room → get_or table p 0 ≡ code_at t.bytes k p
  unfolding codes
  code-there p h = get_or-list_of place_room (code_at t.bytes k) p 0 h

  code-beyond : (p : ℕ) → place_room ≤ p → ◌≡◌ {A = ℕ} (get_or table p 0) 0
  unfolding codes
  code-beyond p h = get_or-eq_default table 0 (let n : length table ≡ place_room = length-list_of place_room (code_at t.bytes k) in omega (arith, n, h))

  live-code : (p : ℕ) → k ≤ last_place → At t p → kind p ≤ 3 → get_or table p 0 ≡ kind p + 1
  live-code p few l h =
      let a = l.0 in
      let b = l.1 in
      code-there p (omega (arith, few, b)) ∙ (unfold code_at code_of in rw (le-leb 1 p a, le-leb p k b, le-leb (kind p) 3 h) refl)

  pub code-live : (p x : ℕ) → get_or table p 0 ≡ x → 1 ≤ x → x ≤ 4 → At t p × (kind p ≤ 3) × (kind p + 1 ≡ x)
  code-live p x e low high = go (ltb p place_room) refl
    where
      within : (a : Bool) → leb 1 p ≡ a → (b : Bool) → leb p k ≡ b → (c : Bool) → leb (kind p) 3 ≡ c → cond (a && b) (cond c (kind p + 1) 9) 9 ≡ x → At t p × (kind p ≤ 3) × (kind p + 1 ≡ x)
      within true a true b true c q = ((leb-true 1 p a, leb-true p k b), leb-true (kind p) 3 c, q)
      within true a true b false c q = absurd (omega (arith, q, high))
      within true a false b c d q = absurd (omega (arith, q, high))
      within false a b c d e q = absurd (omega (arith, q, high))

      go : (b : Bool) → ltb p place_room ≡ b → At t p × (kind p ≤ 3) × (kind p + 1 ≡ x)
      go true h = within (leb 1 p) refl (leb p k) refl (leb (kind p) 3) refl (unfold code_at code_of in sym (code-there p (ltb-true p place_room h)) ∙ e)
      go false h = let z = code-beyond p (ltb-false p place_room h) in absurd (omega (arith, z, e, low))

  pub some-code : (p : ℕ) → k ≤ last_place → At t p → 1 ≤ get_or table p 0
  some-code p few l =
      let a = l.0 in
      let b = l.1 in
      let e : get_or table p 0 ≡ code_of (kind p) = code-there p (omega (arith, few, b)) ∙ (unfold code_at in rw (le-leb 1 p a, le-leb p k b) refl) in
      rw e (go (leb (kind p) 3) refl)
    where
      go : (c : Bool) → leb (kind p) 3 ≡ c → 1 ≤ code_of (kind p)
      go true h = unfold code_of in rw h (omega arith)
      go false h = unfold code_of in rw h (omega arith)

  -- ---- the claims, and their places

  abbrev pub tag_claims : ℕ → ℕ → ℕ → List Claim
  tag_claims x m o = (m, x) ∷ cond (eqb o 0) [] ((o, 3) ∷ [])

  abbrev pub marker_at : ℕ → ℕ
  marker_at i = marker_code (byte (relations_at + i)) (byte (constraint_others_at + i))

  abbrev pub variable_claim : ℕ → List Claim
  variable_claim i = (byte (variable_places_at + i), 1) ∷ []

  abbrev pub constraint_claim : ℕ → List Claim
  constraint_claim i = tag_claims (marker_at i) (byte (constraint_markers_at + i)) (byte (constraint_others_at + i))

  abbrev pub edit_claim : ℕ → List Claim
  edit_claim i = tag_claims 3 (byte (edit_markers_at + i)) (byte (edit_others_at + i))

  abbrev pub L₁ : List Claim
  L₁ = steps.concat (list_of (variable_count t) variable_claim)

  abbrev pub L₂ : List Claim
  L₂ = steps.concat (list_of (constraint_count t) constraint_claim)

  abbrev pub L₃ : List Claim
  L₃ = steps.concat (list_of (edit_count t) edit_claim)

  abbrev pub claims : List Claim
  claims = L₁ ++ (L₂ ++ L₃)

  abbrev place_of : Claim → ℕ
  place_of c = c.0

  tag-places : (x m o : ℕ) → places (tag_claims x m o) ≡ tag_places m o
  unfolding tag_places
  tag-places x m o = go (eqb o 0)
    where
      go : (b : Bool) → places ((m, x) ∷ cond b [] ((o, 3) ∷ [])) ≡ m ∷ cond b [] (o ∷ [])
      go true = refl
      go false = refl

  part-places : (n : ℕ) (f : ℕ → List Claim) (g : ℕ → List ℕ) → ((i : ℕ) → places (f i) ≡ g i) → places (steps.concat (list_of n f)) ≡ steps.concat (list_of n g)
  part-places n f g q = map-concat place_of (list_of n f) ∙ ap steps.concat (map-list (λ (l : List Claim). places l) n f ∙ list_ext n _ _ λ j h. q j)

  pub claims-places : places claims ≡ owners t
  claims-places =
      map-append place_of L₁ (L₂ ++ L₃)
      ∙ (rw (
        map-append place_of L₂ L₃,
        part-places (variable_count t) variable_claim (λ i. byte (variable_places_at + i) ∷ []) (λ i. refl) ∙ single (variable_count t) (λ i. byte (variable_places_at + i)),
        part-places (constraint_count t) constraint_claim (λ i. tag_places (byte (constraint_markers_at + i)) (byte (constraint_others_at + i))) (λ i. tag-places (marker_at i) (byte (constraint_markers_at + i)) (byte (constraint_others_at + i))),
        part-places (edit_count t) edit_claim (λ i. tag_places (byte (edit_markers_at + i)) (byte (edit_others_at + i))) (λ i. tag-places 3 (byte (edit_markers_at + i)) (byte (edit_others_at + i))),
      ) refl)

  -- ---- the loops make them

  tag-claimed : (x m o : ℕ) (z : Shares) → claim_other o (claim m x z) ≡ claim_each (tag_claims x m o) z
  unfolding claim_other claim_each
  tag-claimed x m o z = go (eqb o 0)
    where
      go : (b : Bool) → cond b (claim m x z) (claim o 3 (claim m x z)) ≡ claim_each (cond b [] ((o, 3) ∷ [])) (claim m x z)
      go true = refl
      go false = refl

  variables-claimed : (s : Shares) → claim_variables t.bytes (variable_count t) s ≡ claim_each L₁ s
  unfolding claim_variables claim_each
  variables-claimed s = run-claims _ variable_claim (variable_count t) s λ j z. refl

  constraints-claimed : (s : Shares) → claim_constraints t.bytes (constraint_count t) s ≡ claim_each L₂ s
  unfolding claim_constraints
  constraints-claimed s = run-claims _ constraint_claim (constraint_count t) s λ j z. tag-claimed _ _ _ z

  edits-claimed : (s : Shares) → claim_edits t.bytes (edit_count t) s ≡ claim_each L₃ s
  unfolding claim_edits
  edits-claimed s = run-claims _ edit_claim (edit_count t) s λ j z. tag-claimed _ _ _ z

  abbrev pub s₁ : Shares
  s₁ = after₁ t.bytes k (variable_count t)

  abbrev pub s₂ : Shares
  s₂ = after₂ t.bytes k (variable_count t) (constraint_count t)

  abbrev pub s₃ : Shares
  s₃ = after₃ t.bytes k (variable_count t) (constraint_count t) (edit_count t)

  abbrev pub all : Shares
  all = claim_each claims (shares table true)

  all_first : all ≡ claim_each (L₂ ++ L₃) s₁
  all_first = claims-append L₁ (L₂ ++ L₃) (shares table true) ∙ ap (claim_each (L₂ ++ L₃)) (sym (variables-claimed (shares table true)))

  rest-second : claim_each (L₂ ++ L₃) (shares s₁.left true) ≡ claim_each L₃ s₂
  rest-second = claims-append L₂ L₃ (shares s₁.left true) ∙ ap (claim_each L₃) (sym (constraints-claimed (shares s₁.left true)))

  pub all-ok : all.ok ≡ s₁.ok && (s₂.ok && s₃.ok)
  all-ok =
      ap (λ (s : Shares). s.ok) all_first
      ∙ ok-any (L₂ ++ L₃) s₁.left s₁.ok
      ∙ ap (λ (s : Shares). s₁.ok && s.ok) rest-second
      ∙ ap (λ (b : Bool). s₁.ok && b) (ok-any L₃ s₂.left s₂.ok ∙ ap (λ (s : Shares). s₂.ok && s.ok) (sym (edits-claimed (shares s₂.left true))))

  pub all_left : all.left ≡ s₃.left
  all_left =
      ap (λ (s : Shares). s.left) all_first
      ∙ left-any (L₂ ++ L₃) s₁.left s₁.ok
      ∙ ap (λ (s : Shares). s.left) rest-second
      ∙ left-any L₃ s₂.left s₂.ok
      ∙ ap (λ (s : Shares). s.left) (sym (edits-claimed (shares s₂.left true)))

  -- ---- a code is 1 to 4

  pub marker-code : (r o : ℕ) → (1 ≤ marker_code r o) × (marker_code r o ≤ 4)
  unfolding marker_code
  marker-code r o = go (eqb r 1) (eqb o 0)
    where
      go : (a b : Bool) → (1 ≤ cond a (cond b 4 3) 2) × (cond a (cond b 4 3) 2 ≤ 4)
      go true true = (omega arith, omega arith)
      go true false = (omega arith, omega arith)
      go false b = (omega arith, omega arith)

  abbrev pub Bounded : Claim → Type 0
  Bounded c = (1 ≤ c.1) × (c.1 ≤ 4)

  tag-bounded : (x m o : ℕ) → (1 ≤ x) × (x ≤ 4) → All Bounded (tag_claims x m o)
  tag-bounded x m o h = (h, go (eqb o 0))
    where
      go : (b : Bool) → All Bounded (cond b [] ((o, 3) ∷ []))
      go true = tt
      go false = ((omega arith, omega arith), tt)

  -- what holds of each owner's claims holds of all
  pub each-claim : (P : Claim → Type 0) → ((i : ℕ) → i < variable_count t → All P (variable_claim i)) → ((i : ℕ) → i < constraint_count t → All P (constraint_claim i)) → ((i : ℕ) → i < edit_count t → All P (edit_claim i)) → All P claims
  each-claim P f g h =
      both-lists P L₁ (L₂ ++ L₃) (all-lists P _ (each-list (λ (l : List Claim). All P l) variable_claim (variable_count t) f))
      (both-lists P L₂ L₃ (all-lists P _ (each-list (λ (l : List Claim). All P l) constraint_claim (constraint_count t) g)) (all-lists P _ (each-list (λ (l : List Claim). All P l) edit_claim (edit_count t) h)))

  pub bounded : All Bounded claims
  bounded =
      each-claim Bounded (λ i h. ((omega arith, omega arith), tt))
      (λ i h. tag-bounded (marker_at i) (byte (constraint_markers_at + i)) (byte (constraint_others_at + i)) (marker-code (byte (relations_at + i)) (byte (constraint_others_at + i))))
      (λ i h. tag-bounded 3 (byte (edit_markers_at + i)) (byte (edit_others_at + i)) (omega arith, omega arith))

  pub coded : Coded claims
  coded = all-to Bounded (λ (c : Claim). 1 ≤ c.1) (λ c h. h.0) claims bounded

  -- ---- each claim by itself

  abbrev pub Right : Claim → Type 0
  Right c = right table c ≡ true

  abbrev pub Shown : ℕ → ℕ → Type 0
  Shown p x = At t p × (kind p ≤ 3) × (kind p + 1 ≡ x)

  pub shown : (p x : ℕ) → 1 ≤ x → x ≤ 4 → Right (p, x) → Shown p x
  shown p x a b h = code-live p x (eqb-true (get_or table p 0) x h) a b

  pub is_right : (p x : ℕ) → k ≤ last_place → Shown p x → Right (p, x)
  is_right p x few s = eq-eqb (get_or table p 0) x (live-code p few s.0 s.1 ∙ s.2)

  other-error : (o : ℕ) → eqb (kind o) 2 ≡ true → (kind o ≤ 3) × (kind o + 1 ≡ 3)
  other-error o h = let e = eqb-true (kind o) 2 h in (omega (arith, e), omega (arith, e))

  pub tag-shown : (x m o : ℕ) → 1 ≤ x → x ≤ 4 → All Right (tag_claims x m o) → Shown m x × ((eqb o 0 || eqb (kind o) 2) ≡ true)
  tag-shown x m o a b h = (shown m x a b h.0, go (eqb o 0) h.1)
    where
      go : (b : Bool) → All Right (cond b [] ((o, 3) ∷ [])) → (b || eqb (kind o) 2) ≡ true
      go true r = refl
      go false r = let e = (shown o 3 (omega arith) (omega arith) r.0).2 in eq-eqb (kind o) 2 (omega (arith, e))

  pub tag-right : (x m o : ℕ) → k ≤ last_place → Shown m x → o ≤ k → (eqb o 0 || eqb (kind o) 2) ≡ true → All Right (tag_claims x m o)
  tag-right x m o few s l h = (is_right m x few s, go (eqb o 0) refl h)
    where
      go : (b : Bool) → eqb o 0 ≡ b → (b || eqb (kind o) 2) ≡ true → All Right (cond b [] ((o, 3) ∷ []))
      go true q r = tt
      go false q r =
          let n = eqb-false o 0 q in
          let e = other-error o r in
          (is_right o 3 few ((omega (arith, n), l), e.0, e.1), tt)
