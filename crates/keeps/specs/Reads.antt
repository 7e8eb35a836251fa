-- "A state reads as one if ..", in facts: what the test says of a state, clause by clause, and back. Assumes nothing.
use Rattle.std.specs.Prelude.{◌≡◌, refl, List, [], ◌∷◌, ◌++◌, map, true, ◌||◌, ℕ, ◌+◌, ◌≤◌, ltb, length}
use Rattle.std.proofs.Common.{ap, ap₂, ◌∙◌, arith, length-append}
use Rattle.std.proofs.Math.Option.{none}
use Rattle.std.proofs.lemmas.List.{length-map}
use Rattle.std.specs.Float.Ieee.{is_nan}
use Rattle.steps.specs.Number.{is_finite, cutoff_fits, all_whole}
use Rattle.steps.specs.Symbol.{is_external}
use Rattle.steps.specs.State.{Tag, Variable, Constraint, Edit, State}
use Rattle.steps.specs.Edit.{edit_terms}
use Rattle.steps.specs.Readable.{concat, code, tag_symbols, tags, owned, stored_terms, uses_in, constraint_finite, edit_finite, tag_kinds, marker_fits, edit_kinds}
use Rattle.keeps.specs.Lists.{All, total, times, times-append, times-map, times-concat, Up, same}
use Rattle.keeps.specs.Fits.{Fits}
use Rattle.keeps.specs.Codes.{codes}
use Rattle.keeps.specs.Uses.{var_number, uses_of, uses-append, uses-concat}
use Rattle.keeps.specs.Waits.{Waits}

abbrev pub con_number : Constraint → ℕ
con_number c = c.number

abbrev pub edit_number : Edit → ℕ
edit_number e = e.variable

abbrev pub var_code : ℕ → Variable → ℕ
var_code n v = same n (code v.symbol)

-- how often the code n is of a symbol of the tag; how often the variable n is in the terms
abbrev pub tag_code : ℕ → Tag → ℕ
tag_code n t = times n (codes (tag_symbols t))

abbrev pub owned_by : ℕ → List Variable → List Constraint → List Edit → ℕ
owned_by n vs cs es = total (var_code n) vs + (total (λ (c : Constraint). tag_code n c.tag) cs + total (λ (e : Edit). tag_code n e.tag) es)

abbrev pub used_by : ℕ → List Constraint → List Edit → ℕ
used_by n cs es = total (λ (c : Constraint). uses_in n c.terms) cs + total (λ (e : Edit). uses_in n (edit_terms e.variable)) es

pub record Reads (s : State) : Type 0 where
  pub few-variables : length s.changes.variables ≤ 32
  pub few-tags : length s.constraints + length s.edits ≤ 48
  pub few-terms : All (λ (c : Constraint). length c.terms ≤ 16) s.constraints
  pub variables-up : Up 0 (map var_number s.changes.variables)
  pub constraints-up : Up 0 (map con_number s.constraints)
  pub edits-up : Up 0 (map edit_number s.edits)
  pub fits : Fits s.tableau.symbols s.tableau.next_id s.tableau.rows s.tableau.objective none all_whole
  pub few-rows : length s.tableau.rows ≤ length s.constraints + length s.edits
  pub owns : (n : ℕ) → owned_by n s.changes.variables s.constraints s.edits ≡ times n (codes s.tableau.symbols)
  pub uses : (n : ℕ) → uses_of n s.changes.variables ≡ used_by n s.constraints s.edits
  pub olds : All (λ (v : Variable). (is_finite v.old || is_nan v.old) ≡ true) s.changes.variables
  pub externals : All (λ (v : Variable). is_external v.symbol ≡ true) s.changes.variables
  pub constraints-finite : All (λ (c : Constraint). constraint_finite c ≡ true) s.constraints
  pub constraint-kinds : All (λ (c : Constraint). tag_kinds c.strength c.tag ≡ true) s.constraints
  pub constraint-markers : All (λ (c : Constraint). marker_fits c.comparison c.tag.marker ≡ true) s.constraints
  pub edits-finite : All (λ (e : Edit). edit_finite e ≡ true) s.edits
  pub edit-kinds : All (λ (e : Edit). edit_kinds e ≡ true) s.edits
  pub cutoff : cutoff_fits s.tableau.cutoff ≡ true
  pub groups : All (λ (c : Constraint). ltb 0 c.group ≡ true) s.constraints
  pub waits : Waits s.changes.gone s.changes.variables

pub unmap : {A B : Type 0} (g : A → B) (P : B → Type 0) (xs : List A) → All P (map g xs) → All (λ (x : A). P (g x)) xs
unmap g P [] h = tt
unmap g P (x ∷ xs) h = (h.0, unmap g P xs h.1)

-- ---- lengths, owners and uses as sums

pub tags-length : (s : State) → length (tags s) ≡ length s.constraints + length s.edits
unfolding tags
tags-length s =
    length-append (map (λ (c : Constraint). c.tag) s.constraints) (map (λ (e : Edit). e.tag) s.edits) ∙ ap₂ (λ (a b : ℕ). a + b)
    (length-map s.constraints (λ (c : Constraint). c.tag)) (length-map s.edits (λ (e : Edit). e.tag))

total-append : {A : Type 0} (f : A → ℕ) (xs ys : List A) → total f (xs ++ ys) ≡ total f xs + total f ys
unfolding total
total-append f [] ys = omega arith
total-append f (x ∷ xs) ys = omega (arith, total-append f xs ys)

total-map : {A B : Type 0} (f : B → ℕ) (g : A → B) (xs : List A) → total f (map g xs) ≡ total (λ (x : A). f (g x)) xs
unfolding total
total-map f g [] = refl
total-map f g (x ∷ xs) = ap (λ (k : ℕ). f (g x) + k) (total-map f g xs)

pub owned-total : (n : ℕ) (s : State) → times n (owned s) ≡ owned_by n s.changes.variables s.constraints s.edits
unfolding owned tags
owned-total n s =
    times-append n (map (λ (v : Variable). code v.symbol) vs) (concat (map symbol_codes ts))
    ∙ ap₂ (λ (a b : ℕ). a + b) (times-map (λ (v : Variable). code v.symbol) n vs)
    (times-concat symbol_codes n ts
    ∙ total-append (tag_code n) (map (λ (c : Constraint). c.tag) s.constraints) (map (λ (e : Edit). e.tag) s.edits)
    ∙ ap₂ (λ (a b : ℕ). a + b) (total-map (tag_code n) (λ (c : Constraint). c.tag) s.constraints) (total-map (tag_code n) (λ (e : Edit). e.tag) s.edits))
  where
    vs : List Variable
    vs = s.changes.variables

    ts : List Tag
    ts = map (λ (c : Constraint). c.tag) s.constraints ++ map (λ (e : Edit). e.tag) s.edits

    symbol_codes : Tag → List ℕ
    symbol_codes t = map code (tag_symbols t)

pub used-total : (n : ℕ) (s : State) → uses_in n (stored_terms s) ≡ used_by n s.constraints s.edits
unfolding stored_terms
used-total n s =
    uses-append n (concat (map (λ (c : Constraint). c.terms) s.constraints)) (concat (map (λ (e : Edit). edit_terms e.variable) s.edits))
    ∙ ap₂ (λ (a b : ℕ). a + b) (uses-concat (λ (c : Constraint). c.terms) n s.constraints) (uses-concat (λ (e : Edit). edit_terms e.variable) n s.edits)
