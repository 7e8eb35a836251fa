-- "Each term in order": the loop over a pack's terms, as the steps' `insert_terms`.
-- Assumes nothing.
use Prim.Native.Nat.{ℕ, suc, ◌+◌, ◌-◌, ◌≤◌, ◌<◌}
use Rattle.std.specs.Prelude.{◌≡◌, refl, Bool, cond, List, [], ◌∷◌, Float, length, get_or}
use Rattle.std.proofs.Common.{sym, ap, ◌∙◌, add-one, arith}
use Rattle.std.proofs.Math.Path.{subst}
use Rattle.std.proofs.Math.Bool.{true, false}
use Rattle.std.proofs.Math.Option.{Option, none, some}
use Rattle.std.specs.Float.{nan}
use Rattle.laws.specs.Lists.{tab, list_of}
use Rattle.steps.specs.Number.{near_zero, Mark}
use Rattle.steps.specs.State.{Term, Variable}
use Rattle.steps.specs.Changes.{find_variable}
use Rattle.steps.specs.CreateRow.{Building, insert_term, insert_terms}
use Rattle.steps.specs.Tests.{kept_terms, member, new_variables}
use Rattle.keeps.specs.Terms.{insert_terms-length}
use Rattle.layout.specs.Copy.{most16}
use Rattle.layout.specs.Layout.{term_room}
use Rattle.sparse.specs.Sparse.{Sparse, symbol_count, row_count, variable_count, read}
use Rattle.sparse.specs.Places.{most_variables}
use Rattle.changes.specs.declared.terms.Pack.{Pack}
use Rattle.changes.specs.terms.Terms.{term_of, term_in, terms_of}
use Rattle.waist.specs.Working.{cutoff_of}
use Rattle.waist.specs.Standing.{Standing}
use Rattle.waist.specs.Growing.{next_id}
use Rattle.addition.specs.creation.Building.{building_of, Builds}
use Rattle.addition.specs.creation.Steps.{Used, most_spare, Room, Steps, steps-none, steps_then, changes-of, find-of, count_of}
use Rattle.addition.specs.creation.Terms.{kept_by}

abbrev count : Building → ℕ
count b = length b.work.changes.variables

-- a term of a new variable makes one more
one_more : (cutoff : Float) (term : Term) (b : Building) → near_zero cutoff term.coefficient ≡ false → find_variable term.variable b.work.changes.variables ≡ none → count (insert_term term b) ≡ count b + 1
unfolding insert_terms kept_terms new_variables member
one_more cutoff term b near new =
    let vs : List Variable = b.work.changes.variables in
    let n : ℕ = term.variable in
    let by_near : Bool → Type 0 = λ x. count (elim x [ true ↦ b | false ↦ insert_term term b ]) ≡ count b + length (new_variables vs [] (elim x [ true ↦ [] | false ↦ term ∷ [] ])) in
    let by-found : Option Variable → Type 0 = λ o. count (insert_term term b) ≡ count b + length (cond (elim o [ none ↦ false | some v ↦ true ]) [] (n ∷ [])) in
    subst by-found new (subst by_near near (insert_terms-length cutoff (term ∷ []) b))

-- the variables that the terms bring
abbrev pub new_in : List Term → Sparse → ℕ
new_in terms t = length (new_variables (read t).changes.variables [] (kept_terms (cutoff_of t) terms))

whole_is : (terms : List Term) (a : Mark) (t : Sparse) (row : List Float) → count (insert_terms (cutoff_of t) terms (building_of a t row)) ≡ variable_count t + new_in terms t
whole_is terms a t row = insert_terms-length (cutoff_of t) terms (building_of a t row) ∙ rw (count_of a t row, changes-of a t row) refl

-- e terms, by their variables and their coefficients
abbrev pub term_at : List ℕ → List Float → ℕ → Term
term_at vars coefs i = record { variable = get_or vars i 0; coefficient = get_or coefs i nan }

unfoldable pub terms_from : ℕ → List ℕ → List Float → List Term
terms_from e vars coefs = tab (term_at vars coefs) 0 e

pub terms-of : (p : Pack) (e : ℕ) → e ≡ most16 p.count → terms_of p ≡ terms_from e p.vars p.coefs
unfolding terms_of list_of term_of term_in terms_from
terms-of p e q = rw q refl

-- tables on which terms may be inserted
pub record Ready (a : Mark) (terms : List Term) (t : Sparse) : Type 0 where
  pub standing : Standing false a t
  pub few-variables : variable_count t + new_in terms t ≤ most_variables
  pub few-symbols : symbol_count t + new_in terms t ≤ 126
  pub few-ids : next_id t ≤ 4294900000
  pub spare : Used 4294900000 t

pub ready_by : {a : Mark} {terms : List Term} (others : List Term) {t : Sparse} → terms ≡ others → Ready a terms t → Ready a others t
ready_by others e r = rw e at r

pub builds-by : {a b : Mark} {terms : List Term} (others : List Term) {t u : Sparse} {row row₁ : List Float} → terms ≡ others → Builds a b (insert_terms (cutoff_of t) others) t u row row₁ → Builds a b (insert_terms (cutoff_of t) terms) t u row row₁
builds-by others e h = rw e h

-- j terms are inserted: those that are left give the whole
pub record Going (e : ℕ) (vars : List ℕ) (coefs : List Float) (a₀ : Mark) (t₀ : Sparse) (row₀ : List Float) (j : ℕ) (a : Mark) (t : Sparse) (row : List Float) : Type 0 where
  pub low : j ≤ e
  pub reads : insert_terms (cutoff_of t₀) (tab (term_at vars coefs) j (e - j)) (building_of a t row) ≡ insert_terms (cutoff_of t₀) (terms_from e vars coefs) (building_of a₀ t₀ row₀)
  pub stands : Standing false a t
  pub steps : Steps j j t₀ t

pub going_start : (e : ℕ) (vars : List ℕ) (coefs : List Float) (a : Mark) (t : Sparse) (row : List Float) → Standing false a t → Going e vars coefs a t row 0 a t row
unfolding terms_from
going_start e vars coefs a t row s =
    let q : e - 0 ≡ e = omega arith in
    record { low = omega arith; reads = rw q refl; stands = s; steps = steps-none 0 0 t }

module _ (e : ℕ) (vars : List ℕ) (coefs : List Float) (a₀ : Mark) (t₀ : Sparse) (row₀ : List Float) (j : ℕ) (a : Mark) (t : Sparse) (row : List Float) (g : Going e vars coefs a₀ t₀ row₀ j a t row) where
  pub going_end : e ≤ j → Builds a₀ a (insert_terms (cutoff_of t₀) (terms_from e vars coefs)) t₀ t row₀ row
  unfolding insert_terms tab
  going_end h =
      let q : e - j ≡ 0 = omega (arith, h) in
      record { reads = rw q at g.reads; stands = g.stands }

  -- what the terms leave room for
  pub going-few : e ≤ j → e ≤ term_room → Ready a₀ (terms_from e vars coefs) t₀ → (symbol_count t ≤ 126) × (row_count t ≡ row_count t₀) × (next_id t ≤ 4294900016)
  going-few h m r =
      let w = whole_is (terms_from e vars coefs) a₀ t₀ row₀ in
      let c : count (building_of a t row) ≡ count (insert_terms (cutoff_of t₀) (terms_from e vars coefs) (building_of a₀ t₀ row₀)) = ap count (going_end h).reads in
      let now = count_of a t row in
      let z = g.steps.grown in
      let y = r.few-symbols in
      let i = g.steps.ids in
      let x = r.few-ids in
      let l = g.low in
      (omega (arith, w, c, now, z, y), g.steps.rows, omega (arith, i, x, l, m))

  abbrev term : Term
  term = term_at vars coefs j

  abbrev n : ℕ
  n = get_or vars j 0

  abbrev k : Float
  k = get_or coefs j nan

  abbrev rest : List Term
  rest = tab (term_at vars coefs) (suc j) (e - (j + 1))

  module _ (more : j < e) where
    -- the term of this turn, and those after it
    turned : insert_terms (cutoff_of t₀) rest (kept_by (cutoff_of t₀) n k (building_of a t row)) ≡ insert_terms (cutoff_of t₀) (terms_from e vars coefs) (building_of a₀ t₀ row₀)
    unfolding insert_terms tab kept_by
    turned =
        let q : e - j ≡ suc (e - (j + 1)) = omega (arith, more) in
        rw q at g.reads

    going_next : (c : Mark) (u : Sparse) (row₁ : List Float) → Builds a c (kept_by (cutoff_of t₀) n k) t u row row₁ → Steps 1 1 t u → Going e vars coefs a₀ t₀ row₀ (j + 1) c u row₁
    going_next c u row₁ b s =
        let q : j + 1 ≡ suc j = add-one j in
        record {
          low = omega (arith, more);
          reads = rw b.reads (subst (λ (x : ℕ). insert_terms (cutoff_of t₀) (tab (term_at vars coefs) x (e - (j + 1))) (kept_by (cutoff_of t₀) n k (building_of a t row)) ≡ insert_terms (cutoff_of t₀) (terms_from e vars coefs) (building_of a₀ t₀ row₀)) (sym q) turned);
          stands = b.stands;
          steps = steps_then g.steps s;
        }

    -- by the number and the cutoff as the code has them
    pub going-turn : {m : ℕ} {z : Float} (c : Mark) (u : Sparse) (row₁ : List Float) → m ≡ n → z ≡ cutoff_of t₀ → Builds a c (kept_by z m k) t u row row₁ → Steps 1 1 t u → Going e vars coefs a₀ t₀ row₀ (j + 1) c u row₁
    going-turn c u row₁ q y b s = let b' : Builds a c (kept_by (cutoff_of t₀) n k) t u row row₁ = rw (q, y) at b in going_next c u row₁ b' s

    module _ (few : e ≤ term_room) (r : Ready a₀ (terms_from e vars coefs) t₀) where
      abbrev whole : ℕ
      whole = count (insert_terms (cutoff_of t₀) (terms_from e vars coefs) (building_of a₀ t₀ row₀))

      left_over : near_zero (cutoff_of t₀) k ≡ false → count (insert_terms (cutoff_of t₀) rest (insert_term term (building_of a t row))) ≡ whole
      unfolding kept_by
      left_over near = subst (λ (x : Bool). count (insert_terms (cutoff_of t₀) rest (elim x [ true ↦ building_of a t row | false ↦ insert_term term (building_of a t row) ])) ≡ whole) near (ap count turned)

      going-room : near_zero (cutoff_of t₀) k ≡ false → Room n t
      going-room near q =
          let f : find_variable n (building_of a t row).work.changes.variables ≡ none = find-of a t row n ∙ rw q refl in
          let new : count (insert_term term (building_of a t row)) ≡ count (building_of a t row) + 1 = one_more (cutoff_of t₀) term (building_of a t row) near f in
          let more₁ = insert_terms-length (cutoff_of t₀) rest (insert_term term (building_of a t row)) in
          let now = count_of a t row in
          let final = left_over near in
          let w = whole_is (terms_from e vars coefs) a₀ t₀ row₀ in
          let i = g.steps.ids in
          let z = g.steps.grown in
          let v = r.few-variables in
          let y = r.few-symbols in
          let x = r.few-ids in
          (omega (arith, i, x, few, more), omega (arith, z, new, more₁, now, final, w, y), omega (arith, new, more₁, now, final, w, v))

      -- a new variable has room
      pub going-room-by : {m : ℕ} {z : Float} → m ≡ n → z ≡ cutoff_of t₀ → near_zero z k ≡ false → Room m t
      going-room-by q y near = rw q (going-room (rw y at near))

      pub going-spare : Used most_spare t
      going-spare v h =
          let l = g.steps.uses 4294900000 r.spare v h in
          omega (arith, l, few, more)
