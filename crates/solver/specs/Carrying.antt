-- The records of a state that reads as one name live symbols and known variables: so a room that holds its tableau and its variables can hold them.
-- Assumes nothing.
use Rattle.std.specs.Prelude.{ℕ, zero, suc, ◌+◌, ◌≤◌, ◌<◌, ◌≡◌, refl, Bool, true, false, cond, List, [], ◌∷◌, eqb, length}
use Rattle.std.proofs.Common.{sym, ◌∙◌, inl, inr, zero-add, arith, eq-eqb}
use Rattle.std.proofs.Math.Path.{ap}
use Rattle.std.proofs.lemmas.Bool.{false≢true}
use Rattle.std.proofs.Math.Option.{Option, none, some}
use Rattle.std.proofs.Math.ListN.{get_or}
use Rattle.laws.specs.Lists.{list_of, get_or-tab, length-tab}
use Rattle.steps.specs.Symbol.{Symbol}
use Rattle.steps.specs.State.{Term, Tag, Variable, Constraint, Edit}
use Rattle.steps.specs.Edit.{edit_terms}
use Rattle.steps.specs.Tests.{keep_constraint, find_edit, keep_edit, drop_edit}
use Rattle.steps.specs.Readable.{readable, code, tag_symbols, uses_in}
use Rattle.keeps.specs.Lists.{All, total, Same?, is, isnt, same?}
use Rattle.keeps.specs.Keys.{keep-total, drop-total, keep_constraint-is, keep_edit-is, drop_edit-is, find_edit-is}
use Rattle.keeps.specs.Along.{Mem}
use Rattle.keeps.specs.Codes.{codes-mem, mem-codes}
use Rattle.keeps.specs.Uses.{uses_of, uses-miss}
use Rattle.keeps.specs.Reads.{Reads, con_number, edit_number, tag_code, owned_by, used_by}
use Rattle.keeps.specs.Tested.{reads_in}
use Rattle.sparse.specs.Places.{variable_numbers_at}
use Rattle.sparse.specs.Sparse.{Sparse, variable_count, variable_of, symbols_of, read}
use Rattle.sparse.specs.Write.{no_term}
use Rattle.stored.specs.Holds.{Lives, LivesOther, Known, HoldsC, HoldsE, mem-lives}
use Rattle.solver.specs.Bringing.{brought}

-- ---- a variable that is used is one of the variables

record Hit (ws : List Variable) (n : ℕ) (d : Variable) : Type 0 where
  at : ℕ
  low : at < length ws
  is : (get_or ws at d).number ≡ n

hit : (ws : List Variable) (n : ℕ) (d : Variable) → 1 ≤ uses_of n ws → Hit ws n d
unfolding uses_of
hit [] n d h = absurd (omega (arith, h))
hit (w ∷ ws) n d h = by (same? n w.number) (hit ws n d)
  where
    by : Same? n w.number → (1 ≤ uses_of n ws → Hit ws n d) → Hit (w ∷ ws) n d
    by (is a b c) f = record { at = 0; low = omega arith; is = sym b }
    by (isnt a b c) f =
        let g = f (omega (arith, h, uses-miss n w ws a)) in
        record { at = suc g.at; low = omega (arith, g.low); is = g.is }

uses-at : (ts : List Term) (j : ℕ) → j < length ts → 1 ≤ uses_in (get_or ts j no_term).variable ts
unfolding uses_in
uses-at [] j l = absurd (omega (arith, l))
uses-at (t ∷ ts) zero l = go (eqb t.variable t.variable) (eq-eqb t.variable t.variable refl)
  where
    go : (b : Bool) → b ≡ true → 1 ≤ cond b 1 0 + uses_in t.variable ts
    go true e = omega arith
    go false e = absurd (false≢true e)
uses-at (t ∷ ts) (suc j) l = omega (arith, uses-at ts j (omega (arith, l)))

edit-uses : (n : ℕ) → 1 ≤ uses_in n (edit_terms n)
unfolding edit_terms
edit-uses n = uses-at (edit_terms n) 0 (omega arith)

-- ---- a tag's symbols

tag-marker : (t : Tag) → 1 ≤ tag_code (code t.marker) t
unfolding tag_symbols
tag-marker t = mem-codes t.marker (t.marker ∷ elim t.other [ none ↦ [] | some x ↦ x ∷ [] ]) (inl refl)

tag-other : (t : Tag) (x : Symbol) → t.other ≡ some x → 1 ≤ tag_code (code x) t
unfolding tag_symbols
tag-other t x e = mem-codes x (t.marker ∷ elim t.other [ none ↦ [] | some x ↦ x ∷ [] ]) (inr (go t.other e))
  where
    go : (o : Option Symbol) → o ≡ some x → Mem x (elim o [ none ↦ [] | some y ↦ y ∷ [] ])
    go none q = absurd (false≢true (ap (λ (z : Option Symbol). elim z [ none ↦ false | some y ↦ true ]) q))
    go (some y) q = inl cc

-- what is said of every element is said of those whose measures the totals hold
all-total : {A : Type 0} (P : A → Type 0) (xs : List A) → ((x : A) → ((f : A → ℕ) → f x ≤ total f xs) → P x) → All P xs
unfolding total
all-total P [] h = tt
all-total P (x ∷ xs) h = (h x (λ f. omega arith), all-total P xs (λ y k. h y (λ f. let a = k f in omega (arith, a))))

-- ---- one record of the state

module _ (u : Sparse) (cs : List Constraint) (es : List Edit) (reads : readable (brought cs es u) ≡ true) where
  r : Reads (brought cs es u)
  r = reads_in (brought cs es u) reads

  abbrev vs : List Variable
  vs = (read u).changes.variables

  lives : (x : Symbol) → 1 ≤ owned_by (code x) vs cs es → Lives u x
  lives x h = mem-lives u x (at (codes-mem x (read u).tableau.symbols (omega (arith, h, r.owns (code x)))))
    where
      at : Mem x (read u).tableau.symbols → Mem x (symbols_of u)
      at m = unfold read in m

  known : (n : ℕ) → 1 ≤ used_by n cs es → Known u n
  known n h = go (hit vs n (variable_of u 0) (omega (arith, h, r.uses n)))
    where
      long : length vs ≡ variable_count u
      long = unfold read list_of in length-tab (variable_of u) 0 (variable_count u)

      at : (v : ℕ) → v < variable_count u → (get_or vs v (variable_of u 0)).number ≡ get_or u.words (variable_numbers_at + v) 0
      at v l = ap (λ (x : Variable). x.number) (place v l) ∙ (unfold variable_of in refl)
        where
          place : (v : ℕ) → v < variable_count u → get_or vs v (variable_of u 0) ≡ variable_of u v
          place v l = unfold read list_of in get_or-tab (variable_of u) 0 (variable_count u) v (variable_of u 0) l ∙ ap (variable_of u) (zero-add v)

      go : Hit vs n (variable_of u 0) → Known u n
      go k = let l : k.at < variable_count u = omega (arith, k.low, long) in (k.at, l, sym (at k.at l) ∙ k.is)

  lives-other : (t : Tag) → ((x : Symbol) → t.other ≡ some x → Lives u x) → (o : Option Symbol) → t.other ≡ o → LivesOther u o
  lives-other t f none e = tt
  lives-other t f (some x) e = f x e

  -- a constraint that the totals hold
  holds-c : (c : Constraint) → ((n : ℕ) → tag_code n c.tag ≤ total (λ (d : Constraint). tag_code n d.tag) cs) → ((n : ℕ) → uses_in n c.terms ≤ total (λ (d : Constraint). uses_in n d.terms) cs) → HoldsC u c
  holds-c c k m =
      record {
        marker = lives c.tag.marker (omega (arith, tag-marker c.tag, k (code c.tag.marker)));
        other = lives-other c.tag (λ x e. lives x (omega (arith, tag-other c.tag x e, k (code x)))) c.tag.other refl;
        terms = λ j l. known (get_or c.terms j no_term).variable (omega (arith, uses-at c.terms j l, m (get_or c.terms j no_term).variable));
      }

  holds-e : (e : Edit) → ((n : ℕ) → tag_code n e.tag ≤ total (λ (d : Edit). tag_code n d.tag) es) → ((n : ℕ) → uses_in n (edit_terms e.variable) ≤ total (λ (d : Edit). uses_in n (edit_terms d.variable)) es) → HoldsE u e
  holds-e e k m =
      record {
        variable = known e.variable (omega (arith, edit-uses e.variable, m e.variable));
        marker = lives e.tag.marker (omega (arith, tag-marker e.tag, k (code e.tag.marker)));
        other = lives-other e.tag (λ x q. lives x (omega (arith, tag-other e.tag x q, k (code x)))) e.tag.other refl;
      }

  -- all of them
  pub hold-constraints : All (HoldsC u) cs
  hold-constraints = all-total (HoldsC u) cs (λ c k. holds-c c (λ n. k (λ (d : Constraint). tag_code n d.tag)) (λ n. k (λ (d : Constraint). uses_in n d.terms)))

  pub hold-edits : All (HoldsE u) es
  hold-edits = all-total (HoldsE u) es (λ e k. holds-e e (λ n. k (λ (d : Edit). tag_code n d.tag)) (λ n. k (λ (d : Edit). uses_in n (edit_terms d.variable))))

-- ---- with one put in: it, and those that were there

keep-constraint : (f : Constraint → ℕ) (c : Constraint) (cs : List Constraint) → total f (keep_constraint c cs) ≡ f c + total f cs
keep-constraint f c cs = rw (keep_constraint-is c cs) (keep-total con_number f c cs)

keep-edit : (f : Edit → ℕ) (e : Edit) (es : List Edit) → total f (keep_edit e es) ≡ f e + total f es
keep-edit f e es = rw (keep_edit-is e es) (keep-total edit_number f e es)

module _ (u : Sparse) (c : Constraint) (cs : List Constraint) (es : List Edit) (reads : readable (brought (keep_constraint c cs) es u) ≡ true) where
  pub holds-new : HoldsC u c
  holds-new = holds-c u (keep_constraint c cs) es reads c (λ n. let a = keep-constraint (λ (d : Constraint). tag_code n d.tag) c cs in omega (arith, a)) (λ n. let a = keep-constraint (λ (d : Constraint). uses_in n d.terms) c cs in omega (arith, a))

  pub holds-old : All (HoldsC u) cs
  holds-old = all-total (HoldsC u) cs (λ d k. holds-c u (keep_constraint c cs) es reads d
      (λ n. let a = keep-constraint (λ (d : Constraint). tag_code n d.tag) c cs in let b = k (λ (d : Constraint). tag_code n d.tag) in omega (arith, a, b))
      (λ n. let a = keep-constraint (λ (d : Constraint). uses_in n d.terms) c cs in let b = k (λ (d : Constraint). uses_in n d.terms) in omega (arith, a, b)))

module _ (u : Sparse) (e : Edit) (cs : List Constraint) (es : List Edit) (reads : readable (brought cs (keep_edit e es) u) ≡ true) where
  pub holds-new-edit : HoldsE u e
  holds-new-edit = holds-e u cs (keep_edit e es) reads e (λ n. let a = keep-edit (λ (d : Edit). tag_code n d.tag) e es in omega (arith, a)) (λ n. let a = keep-edit (λ (d : Edit). uses_in n (edit_terms d.variable)) e es in omega (arith, a))

  -- those among which it comes, whose totals may be of a list with one more
  pub holds-old-edits : (ds : List Edit) → ((n : ℕ) → total (λ (d : Edit). tag_code n d.tag) ds ≤ total (λ (d : Edit). tag_code n d.tag) (keep_edit e es)) → ((n : ℕ) → total (λ (d : Edit). uses_in n (edit_terms d.variable)) ds ≤ total (λ (d : Edit). uses_in n (edit_terms d.variable)) (keep_edit e es)) → All (HoldsE u) ds
  holds-old-edits ds f g = all-total (HoldsE u) ds (λ d k. holds-e u cs (keep_edit e es) reads d
      (λ n. let a = f n in let b = k (λ (d : Edit). tag_code n d.tag) in omega (arith, a, b))
      (λ n. let a = g n in let b = k (λ (d : Edit). uses_in n (edit_terms d.variable)) in omega (arith, a, b)))

  pub holds-kept-edits : All (HoldsE u) es
  holds-kept-edits = holds-old-edits es (λ n. let a = keep-edit (λ (d : Edit). tag_code n d.tag) e es in omega (arith, a)) (λ n. let a = keep-edit (λ (d : Edit). uses_in n (edit_terms d.variable)) e es in omega (arith, a))

-- an edit with another suggestion has the tag and the variable that it had
pub holds-suggested : (u : Sparse) (cs : List Constraint) (es : List Edit) (e d : Edit) → d.tag ≡ e.tag → d.variable ≡ e.variable → find_edit e.variable es ≡ some e
    → readable (brought cs (keep_edit d (drop_edit e.variable es)) u) ≡ true → All (HoldsE u) es
holds-suggested u cs es e d a b f reads =
    holds-old-edits u d cs (drop_edit e.variable es) reads es (λ n. same_total (λ (x : Edit). tag_code n x.tag) (ap (tag_code n) a)) (λ n. same_total (λ (x : Edit). uses_in n (edit_terms x.variable)) (ap (λ (m : ℕ). uses_in n (edit_terms m)) b))
  where
    same_total : (g : Edit → ℕ) → g d ≡ g e → total g es ≤ total g (keep_edit d (drop_edit e.variable es))
    same_total g q =
        let x = drop-total edit_number g e.variable es e (sym (find_edit-is e.variable es) ∙ f) in
        let y = keep-edit g d (drop_edit e.variable es) in
        let z = ap (total g) (drop_edit-is e.variable es) in
        omega (arith, x, y, z, q)
