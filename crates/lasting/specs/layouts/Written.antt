-- A state of the usual cutoff and of group 1 alone that reads and in which no gone entry waits, with numbers that a u32 holds, has its place in the dense tables, and the tables that it is written into read as it. Assumes nothing.
use Prim.Native.Nat.{ℕ, zero, suc, ◌+◌, ◌≤◌, ◌<◌}
use Rattle.std.specs.Prelude.{◌≡◌, true, get_or}
use Rattle.std.proofs.Math.Path.{refl, ap}
use Rattle.std.proofs.Common.{sym, ◌∙◌, subst, not-suc-le-zero, le_of_suc-le-suc, arith, le-leb}
use mathlib.Core.List.{List, [], ◌∷◌}
use Rattle.std.proofs.Math.Option.{Option, none, some}
use Rattle.std.proofs.Math.ListN.{length}
use Rattle.laws.specs.Lists.{list_of, laid, length-laid}
use Rattle.steps.specs.Number.{usual_cutoff}
use Rattle.steps.specs.Symbol.{Symbol}
use Rattle.steps.specs.State.{Tag, Variable, Constraint, Edit, State}
use Rattle.steps.specs.Readable.{code, tag_symbols, readable}
use Rattle.keeps.specs.Lists.{All, total, times, same?, Same?, is, isnt, Up, up_none, both}
use Rattle.keeps.specs.Along.{ids, along-length}
use Rattle.keeps.specs.Codes.{codes, codes-mem, mem-ids}
use Rattle.keeps.specs.Reads.{Reads, tag_code}
use Rattle.keeps.specs.Tested.{reads-out}
use Rattle.layout.specs.Layout.{Tables, read, write, over, write_names, write_reals, write_rows, next_id_of, variable_count, constraint_count, number_of, variable_of, variables_of, constraint_of, constraints_of, constraints_at}
use Rattle.layout.specs.Rooms.{lengths-right, Lengths, Wide, Named, Fits}
use Rattle.layout.specs.ReadBack.{no_variable, no_constraint}
use Rattle.layout.proofs.ReadBack.{read-write}
use Rattle.layout.proofs.Copied.{length-list_of, get_or-list_of, write-counts, write-coded, write-lengths}
use Rattle.layout.specs.cells.Names.{last_place}
use Rattle.rows.specs.places.Finding.{at_all}
use Rattle.sparse_test.specs.zeros.Fitting.{few-symbols}
use Rattle.sparse_test.specs.narrow.Numbers.{is_u32}
use Rattle.sparse_test.specs.narrow.Narrow.{Narrow}
use Rattle.lasting.specs.layouts.Dense.{codes_fit, reads}

-- ---- an element of a list

all-place : {A : Type 0} (P : A → Type 0) (xs : List A) (d : A) (j : ℕ) → j < length xs → All P xs → P (get_or xs j d)
all-place P [] d j k h = absurd (not-suc-le-zero k)
all-place P (x ∷ xs) d zero k h = h.0
all-place P (x ∷ xs) d (suc j) k h = all-place P xs d j (le_of_suc-le-suc k) h.1

total-place : {A : Type 0} (f : A → ℕ) (xs : List A) (d : A) (j : ℕ) → j < length xs → f (get_or xs j d) ≤ total f xs
unfolding total
total-place f [] d j k = absurd (not-suc-le-zero k)
total-place f (x ∷ xs) d zero k = omega arith
total-place f (x ∷ xs) d (suc j) k = omega (arith, total-place f xs d j (le_of_suc-le-suc k))

-- ---- a live symbol's code is not 0

live-named : (x : Symbol) (xs : List Symbol) → 1 ≤ times (code x) (codes xs) → Up 1 (ids xs) → 0 < code x
unfolding code
live-named x xs h u = go x.id refl
  where
    once : 1 ≤ times x.id (ids xs)
    once = mem-ids x xs (unfold code in codes-mem x xs h)

    go : (n : ℕ) → x.id ≡ n → 0 < code x
    go zero e = absurd (omega (arith, once, ap (λ (n : ℕ). times n (ids xs)) e ∙ up_none 1 0 (ids xs) (omega arith) u))
    go (suc n) e = unfold code in omega (arith, e)

tag-named : (t : Tag) (xs : List Symbol) → ((n : ℕ) → tag_code n t ≤ times n (codes xs)) → Up 1 (ids xs) → Named t.other
tag-named t xs h u = go t.other (λ n. unfold tag_symbols in h n)
  where
    go : (o : Option Symbol) → ((n : ℕ) → times n (codes (t.marker ∷ elim o [ none ↦ [] | some x ↦ x ∷ [] ])) ≤ times n (codes xs)) → Named o
    go none f = tt
    go (some x) f = live-named x xs (omega (arith, f (code x), mine (same? (code x) (code x)))) u
      where
        mine : Same? (code x) (code x) → 1 ≤ times (code x) (codes (t.marker ∷ x ∷ []))
        mine (is a b c) = unfold times in omega (arith, c)
        mine (isnt a b c) = absurd (b refl)

-- ---- the state has its place

-- no constraint is in another group than 1
abbrev pub OneGroup : State → Type 0
OneGroup s = All (λ (c : Constraint). c.group ≡ 1) s.constraints

-- the next fetch lists none as gone
abbrev pub NoneWaits : State → Type 0
NoneWaits s = s.changes.gone ≡ []

-- what the dense tables have a place for: they have none for a cutoff, for a group or for a gone entry
pub record Sayable (s : State) : Type 0 where
  pub usual : s.tableau.cutoff ≡ usual_cutoff
  pub one : OneGroup s
  pub none : NoneWaits s

pub fits-of : (s : State) → Reads s → Sayable s → Fits s
fits-of s r y =
    let few = few-symbols s r in
    let many = r.few-variables in
    let tags = r.few-tags in
    record {
      usual = y.usual;
      symbols = omega arith;
      rows = omega (arith, r.few-rows);
      variables = many;
      gone = y.none;
      constraints = omega arith;
      edits = omega arith;
      objective = along-length _ s.tableau.symbols s.tableau.objective r.fits.objective;
      cells = λ d j k. along-length _ s.tableau.symbols (get_or s.tableau.rows j d).row.cells (all-place _ s.tableau.rows d j k r.fits.rows).1;
      terms = λ d j k. all-place _ s.constraints d j k r.few-terms;
      groups = λ d j k. all-place _ s.constraints d j k y.one;
      others = λ d j k. tag-named (get_or s.constraints j d).tag s.tableau.symbols (λ n. omega (arith, r.owns n, total-place (λ (c : Constraint). tag_code n c.tag) s.constraints d j k)) r.fits.up;
      minuses = λ d j k. tag-named (get_or s.edits j d).tag s.tableau.symbols (λ n. omega (arith, r.owns n, total-place (λ (e : Edit). tag_code n e.tag) s.edits d j k)) r.fits.up;
    }

-- ---- a write keeps the rows' widths

module _ {A B : Type 0} (f : B → List A → List A) (keeps : (b : B) (r : List A) → length (f b r) ≡ length r) where
  laid-lengths : (a : ℕ) (l : List B) (m : List (List A)) (q : ℕ) → length (get_or (laid f a l m) q []) ≡ length (get_or m q [])
  unfolding laid
  laid-lengths a l [] q = refl
  laid-lengths zero [] (y ∷ m) q = refl
  laid-lengths zero (b ∷ l) (y ∷ m) zero = keeps b y
  laid-lengths zero (b ∷ l) (y ∷ m) (suc q) = laid-lengths zero l m q
  laid-lengths (suc a) l (y ∷ m) zero = refl
  laid-lengths (suc a) l (y ∷ m) (suc q) = laid-lengths a l m q

over-length : {A : Type 0} (a : ℕ) (l r : List A) → length (over a l r) ≡ length r
unfolding over
over-length a l r = length-laid (λ x _. x) a l r

pub write-wide : (s : State) (t : Tables) → Lengths t → Wide t → Wide (write s t)
unfolding write write_names write_reals write_rows
write-wide s t l w =
    let k = write-lengths s t l in (
      λ j b. laid-lengths _ (λ e m. over-length 0 _ m) _ s.edits _ j ∙ laid-lengths _ (λ c m. over-length 0 _ m) _ s.constraints _ j ∙ laid-lengths _ (λ v m. over-length 0 _ m) 0 s.changes.variables t.names j ∙ w.0 j (omega (arith, k.1, l.1)),
      λ j b. laid-lengths _ (λ e m. over-length 0 _ m) _ s.edits _ j ∙ laid-lengths _ (λ c m. over-length 0 _ m) _ s.constraints _ j ∙ laid-lengths _ (λ v m. over-length 0 _ m) 0 s.changes.variables t.reals j ∙ w.1 j (omega (arith, k.2, l.2)),
      λ j b. laid-lengths _ (λ b m. over-length 0 _ m) _ s.tableau.rows _ j ∙ laid-lengths _ (λ cs m. over-length _ cs m) 0 (s.tableau.objective ∷ []) t.rows j ∙ w.2 j (omega (arith, k.3, l.3)),
    )

-- ---- the tables read as it

module _ (s : State) (t : Tables) (r : Reads s) (y : Sayable s) (n : Narrow s) (l : Lengths t) (w : Wide t) where
  abbrev u : Tables
  u = write s t

  pub written-reads : read u ≡ s
  written-reads = read-write s t (fits-of s r y) l w

  variable-u32 : (j : ℕ) → j < variable_count u.head → is_u32 (number_of (get_or u.names j [])) ≡ true
  unfolding read variables_of variable_of
  variable-u32 j k =
      let g : ℕ → Variable = λ i. variable_of (get_or u.names i []) (get_or u.reals i []) in
      let e : list_of (variable_count u.head) g ≡ s.changes.variables = ap (λ (x : State). x.changes.variables) written-reads in
      let i : j < length (list_of (variable_count u.head) g) = omega (arith, length-list_of (variable_count u.head) g) in
      ap (λ (v : Variable). is_u32 v.number) (sym (get_or-list_of (variable_count u.head) g j no_variable k))
      ∙ all-place (λ (v : Variable). is_u32 v.number ≡ true) (list_of (variable_count u.head) g) no_variable j i (subst (λ (vs : List Variable). All (λ (v : Variable). is_u32 v.number ≡ true) vs) (sym e) n.variables)

  constraint-u32 : (j : ℕ) → j < constraint_count u.head → is_u32 (number_of (get_or u.names (constraints_at + j) [])) ≡ true
  unfolding read constraints_of constraint_of
  constraint-u32 j k =
      let g : ℕ → Constraint = λ i. constraint_of (get_or u.names (constraints_at + i) []) (get_or u.reals (constraints_at + i) []) in
      let e : list_of (constraint_count u.head) g ≡ s.constraints = ap (λ (x : State). x.constraints) written-reads in
      let i : j < length (list_of (constraint_count u.head) g) = omega (arith, length-list_of (constraint_count u.head) g) in
      ap (λ (c : Constraint). is_u32 c.number) (sym (get_or-list_of (constraint_count u.head) g j no_constraint k))
      ∙ all-place (λ (c : Constraint). is_u32 c.number ≡ true) (list_of (constraint_count u.head) g) no_constraint j i (subst (λ (cs : List Constraint). All (λ (c : Constraint). is_u32 c.number ≡ true) cs) (sym e) n.constraints)

  id-u32 : is_u32 (next_id_of u.head) ≡ true
  unfolding read
  id-u32 = ap (λ (x : State). is_u32 x.tableau.next_id) written-reads ∙ n.next

  codes-fit : codes_fit u ≡ true
  unfolding codes_fit
  codes-fit =
      let c = write-counts s t (fits-of s r y) l w in
      let q = write-coded s t (fits-of s r y) l w in
      both (both (both (both (both id-u32 (le-leb _ last_place c.0)) (le-leb _ 1 q.0)) (le-leb _ 1 q.1))
      (at_all _ 0 (variable_count u.head) (λ j a k. both (variable-u32 j k) (le-leb _ 1 (q.2 j k)))))
      (at_all _ 0 (constraint_count u.head) (λ j a k. both (constraint-u32 j k) (le-leb _ 2 (q.4 j k))))

  pub written_read : reads u ≡ true
  unfolding reads
  written_read = both (lengths-right u (write-lengths s t l)) (both codes-fit (ap readable written-reads ∙ reads-out s r))
