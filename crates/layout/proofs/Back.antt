-- A thing that was written is read back: symbols, rows, variables, constraints and edits, one by one.
-- Assumes nothing.
use Rattle.std.specs.Prelude.{ℕ, suc, ◌+◌, ◌*◌, ◌/◌, ◌%◌, ◌≤◌, ◌<◌, ◌≡◌, refl, Bool, true, false, List, [], ◌∷◌, map, eqb, length, get_or, Float}
use Rattle.std.proofs.Common.{ap, ◌∙◌, zero-add, arith, ne_eqb}
use Rattle.std.proofs.Math.Option.{Option, none, some}
use Rattle.std.proofs.lemmas.List.{length-map}
use Rattle.std.specs.Float.{nan}
use Rattle.steps.specs.Symbol.{Kind, External, Slack, Error, Dummy, Symbol}
use Rattle.steps.specs.State.{Term, Comparison, no_more, exactly, no_less, Basic, Tag, Variable, Constraint, Edit}
use Rattle.steps.specs.Readable.{kind_code, code}
use Rattle.laws.specs.Lists.{list_of, list_of-is, laid_in}
use Rattle.layout.specs.Laying.{get_d_map}
use Rattle.layout.specs.Layout.{kind_of, symbol_of, other_of, other_code, bit_of, comparison_in, comparison_code, variable_of, tag_of, term_of, constraint_of, edit_of, cells_of, basic_of, over, variable_names, variable_reals, constraint_names, constraint_reals, edit_names, edit_reals, basic_row}
use Rattle.layout.specs.Rooms.{Named}

-- ---- codes and flags

kind-back : (k : Kind) → kind_of (kind_code k) ≡ k
unfolding kind_of kind_code
kind-back External = refl
kind-back Slack = refl
kind-back Error = refl
kind-back Dummy = refl

code-small : (k : Kind) → kind_code k < 4
unfolding kind_code
code-small External = omega arith
code-small Slack = omega arith
code-small Error = omega arith
code-small Dummy = omega arith

pub symbol-back : (s : Symbol) → symbol_of (code s) ≡ s
unfolding symbol_of code
symbol-back s =
    let h = code-small s.kind in
    let a : (s.id * 4 + kind_code s.kind) / 4 ≡ s.id = omega (arith, h) in
    let b : (s.id * 4 + kind_code s.kind) % 4 ≡ kind_code s.kind = omega (arith, h) in
    rw (a, b, kind-back s.kind) refl

pub other-back : (o : Option Symbol) → Named o → other_of (other_code o) ≡ o
unfolding other_of other_code
other-back none h = refl
other-back (some s) h =
    let n : eqb (code s) 0 ≡ false = ne_eqb (code s) 0 (λ e. omega arith) in
    rw (n, symbol-back s) refl

pub bit-back : (b : Bool) → eqb (bit_of b) 1 ≡ b
unfolding bit_of
bit-back true = refl
bit-back false = refl

pub comparison-back : (c : Comparison) → comparison_in (comparison_code c) ≡ c
unfolding comparison_in comparison_code
comparison-back no_more = refl
comparison-back exactly = refl
comparison-back no_less = refl

-- ---- a list over the first places of a row

module _ {A : Type 0} where
  pub over-at : (a : ℕ) (l row : List A) (i : ℕ) (d e : A) → i < length l → a + i < length row → get_or (over a l row) (a + i) d ≡ get_or l i e
  unfolding over
  over-at a l row i d e h k = laid_in (λ x _. x) a l row i d e h k

  pub first-at : (l row : List A) (i : ℕ) (d : A) → i < length l → length l ≤ length row → get_or (over 0 l row) i d ≡ get_or l i d
  first-at l row i d h k = rw (zero-add i) at (over-at 0 l row i d d h (omega arith))

-- ---- one by one

cells-back : (c : Float) (cells row : List Float) → length row ≡ 130 → length cells ≤ 129 → cells_of (length cells) (over 0 (c ∷ cells) row) ≡ cells
unfolding cells_of
cells-back c cells row l r =
    list_of-is (λ j. get_or (over 0 (c ∷ cells) row) (1 + j) nan) cells nan λ j k.
    let m : 1 + j ≡ suc j = omega arith in
    first-at (c ∷ cells) row (1 + j) nan (omega arith) (omega arith) ∙ ap (λ (i : ℕ). get_or (c ∷ cells) i nan) m

pub basic-back : (b : Basic) (row : List Float) → length row ≡ 130 → length b.row.cells ≤ 129 → basic_of (length b.row.cells) (code b.symbol) (over 0 (basic_row b) row) ≡ b
unfolding basic_of basic_row
basic-back b row l r = rw (symbol-back b.symbol, first-at (b.row.constant ∷ b.row.cells) row 0 nan (omega arith) (omega arith), cells-back b.row.constant b.row.cells row l r) refl

pub objective-back : (cells row : List Float) → length row ≡ 130 → length cells ≤ 129 → cells_of (length cells) (over 1 cells row) ≡ cells
unfolding cells_of
objective-back cells row l r = list_of-is (λ j. get_or (over 1 cells row) (1 + j) nan) cells nan λ j k. over-at 1 cells row j nan nan k (omega arith)

pub variable-back : (v : Variable) (n : List ℕ) (r : List Float) → length n ≡ 21 → length r ≡ 18 → variable_of (over 0 (variable_names v) n) (over 0 (variable_reals v) r) ≡ v
unfolding variable_of variable_names variable_reals
variable-back v n r ln lr =
    let l : List ℕ = variable_names v in
    let a : (i : ℕ) → i < 4 → get_or (over 0 l n) i 0 ≡ get_or l i 0 = λ i h. first-at l n i 0 h (omega arith) in
    rw (
      a 0 (omega arith),
      a 1 (omega arith),
      a 2 (omega arith),
      a 3 (omega arith),
      first-at (v.old ∷ []) r 0 nan (omega arith) (omega arith),
      symbol-back v.symbol,
      bit-back v.changed,
    ) refl

tag_back : (t : Tag) (l n : List ℕ) → Named t.other → get_or (over 0 l n) 1 0 ≡ code t.marker → get_or (over 0 l n) 2 0 ≡ other_code t.other → tag_of (over 0 l n) ≡ t
unfolding tag_of
tag_back t l n o a b = rw (a, b, symbol-back t.marker, other-back t.other o) refl

terms-back : (ts : List Term) (n : List ℕ) (r : List Float) → ((j : ℕ) → j < length ts → get_or n (5 + j) 0 ≡ get_or (map (λ (t : Term). t.variable) ts) j 0)
    → ((j : ℕ) → j < length ts → get_or r (2 + j) nan ≡ get_or (map (λ (t : Term). t.coefficient) ts) j nan) → list_of (length ts) (term_of n r) ≡ ts
unfolding term_of
terms-back ts n r f g =
    let d : Term = record { variable = 0; coefficient = nan } in
    list_of-is (term_of n r) ts d λ j k.
    rw (f j k, g j k, get_d_map (λ (t : Term). t.variable) ts j d 0 k, get_d_map (λ (t : Term). t.coefficient) ts j d nan k) refl

pub constraint-back : (c : Constraint) (n : List ℕ) (r : List Float) → length n ≡ 21 → length r ≡ 18 → length c.terms ≤ 16 → Named c.tag.other → c.group ≡ 1 → constraint_of (over 0 (constraint_names c) n) (over 0 (constraint_reals c) r) ≡ c
unfolding constraint_of constraint_names constraint_reals
constraint-back c n r ln lr lt o g =
    let vs : List ℕ = map (λ (t : Term). t.variable) c.terms in
    let ks : List Float = map (λ (t : Term). t.coefficient) c.terms in
    let lv : length vs ≡ length c.terms = length-map c.terms (λ (t : Term). t.variable) in
    let lk : length ks ≡ length c.terms = length-map c.terms (λ (t : Term). t.coefficient) in
    let l : List ℕ = c.number ∷ code c.tag.marker ∷ other_code c.tag.other ∷ length c.terms ∷ comparison_code c.comparison ∷ vs in
    let m : List Float = c.strength ∷ c.constant ∷ ks in
    let a : (i : ℕ) → i < 5 + length c.terms → get_or (over 0 l n) i 0 ≡ get_or l i 0 = λ i h. first-at l n i 0 (omega arith) (omega arith) in
    let b : (i : ℕ) → i < 2 + length c.terms → get_or (over 0 m r) i nan ≡ get_or m i nan = λ i h. first-at m r i nan (omega arith) (omega arith) in
    let ts : list_of (length c.terms) (term_of (over 0 l n) (over 0 m r)) ≡ c.terms = terms-back c.terms (over 0 l n) (over 0 m r) (λ j k. a (5 + j) (omega arith) ∙ past j) (λ j k. b (2 + j) (omega arith) ∙ next j) in
    rw (a 0 (omega arith), a 3 (omega arith), a 4 (omega arith), comparison-back c.comparison, b 0 (omega arith), b 1 (omega arith), tag_back c.tag l n o (a 1 (omega arith)) (a 2 (omega arith)), ts, ← g) refl
  where
    past : (j : ℕ) → get_or (c.number ∷ code c.tag.marker ∷ other_code c.tag.other ∷ length c.terms ∷ comparison_code c.comparison ∷ map (λ (t : Term). t.variable) c.terms) (5 + j) 0 ≡ get_or (map (λ (t : Term). t.variable) c.terms) j 0
    past j =
        let e : 5 + j ≡ suc (suc (suc (suc (suc j)))) = omega arith in
        rw e refl

    next : (j : ℕ) → get_or (c.strength ∷ c.constant ∷ map (λ (t : Term). t.coefficient) c.terms) (2 + j) nan ≡ get_or (map (λ (t : Term). t.coefficient) c.terms) j nan
    next j =
        let e : 2 + j ≡ suc (suc j) = omega arith in
        rw e refl

pub edit-back : (e : Edit) (n : List ℕ) (r : List Float) → length n ≡ 21 → length r ≡ 18 → Named e.tag.other → edit_of (over 0 (edit_names e) n) (over 0 (edit_reals e) r) ≡ e
unfolding edit_of edit_names edit_reals
edit-back e n r ln lr o =
    let l : List ℕ = e.variable ∷ code e.tag.marker ∷ other_code e.tag.other ∷ [] in
    let m : List Float = e.strength ∷ e.suggestion ∷ [] in
    let a : (i : ℕ) → i < 3 → get_or (over 0 l n) i 0 ≡ get_or l i 0 = λ i h. first-at l n i 0 h (omega arith) in
    let b : (i : ℕ) → i < 2 → get_or (over 0 m r) i nan ≡ get_or m i nan = λ i h. first-at m r i nan h (omega arith) in
    rw (a 0 (omega arith), b 0 (omega arith), b 1 (omega arith), tag_back e.tag l n o (a 1 (omega arith)) (a 2 (omega arith))) refl
