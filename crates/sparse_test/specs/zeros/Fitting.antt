-- A state that reads as one, with no cell -0.0, has a place for each of its parts in the sparse tables.
-- Assumes nothing.
use Prim.Native.Nat.{ℕ, zero, suc, ◌+◌, ◌*◌, ◌-◌, ◌≤◌, ◌<◌}
use Rattle.std.specs.Prelude.{◌≡◌, refl, Bool, true, false, not, cond, List, [], ◌∷◌, map, eqb, Float, length, get_or}
use Rattle.std.proofs.Common.{sym, ap, ◌∙◌, inl, inr, arith, length-append, eq-eqb, ne_eqb}
use Rattle.std.proofs.lemmas.Bool.{false≢true}
use Rattle.std.proofs.Math.Option.{Option, none, some}
use Rattle.std.specs.Float.{nan}
use Rattle.std.specs.Float.Ieee.{eq, ne}
use Rattle.std.proofs.lemmas.List.{length-map}
use Rattle.steps.specs.Number.{zero64, one64}
use Rattle.steps.specs.Symbol.{Symbol, absent}
use Rattle.steps.specs.Row.{stored}
use Rattle.steps.specs.Edit.{edit_terms}
use Rattle.steps.specs.State.{Term, Basic, Tag, Variable, Constraint, Edit, State}
use Rattle.steps.specs.Readable.{concat, code, tag_symbols, owned, tags, uses_in}
use Rattle.keeps.specs.Lists.{All, Up, same, same?, Same?, is, isnt, times, total}
use Rattle.keeps.specs.Uses.{uses_of, uses-miss, uses-concat}
use Rattle.keeps.specs.Along.{ids, Mem, along-length}
use Rattle.keeps.specs.Codes.{codes, codes-mem, mem-codes, codes-once}
use Rattle.sparse_test.specs.zeros.Plain.{Plain}
use Rattle.sparse_test.specs.zeros.PlainCalls.{PlainState}
use Rattle.keeps.specs.Reads.{Reads, var_code, tag_code, owned_by, tags-length, owned-total}
use Rattle.layout.specs.Layout.{term_room}
use Rattle.layout.specs.cells.Names.{cell_room}
use Rattle.layout.specs.cells.Cells.{settled}
use Rattle.layout.specs.cells.Seek.{first-at}
use Rattle.rows.specs.places.Finding.{place_in, place-live}
use Rattle.sparse.specs.Laying.{Settled}
use Rattle.sparse.proofs.Laying.{room_fits}
use Rattle.sparse.specs.Write.{no_symbol, no_basic, no_variable, no_term, no_constraint, no_edit, place_of, index_of, all_terms, cells_of}
use Rattle.sparse.specs.Fits.{Live, LiveOther, Fits}

plain-settled : (c : Float) → Plain c → settled c ≡ c
unfolding settled stored absent ne
plain-settled c h = go (eq c zero64) h
  where
    go : (b : Bool) → cond b zero64 c ≡ c → cond (not b) c zero64 ≡ c
    go true e = e
    go false e = refl

-- ---- lists by their places

all_get_d : {A : Type 0} (P : A → Type 0) (d : A) (xs : List A) (j : ℕ) → All P xs → j < length xs → P (get_or xs j d)
all_get_d P d [] j h l = absurd (omega (arith, l))
all_get_d P d (x ∷ xs) zero h l = h.0
all_get_d P d (x ∷ xs) (suc j) h l = all_get_d P d xs j h.1 (omega (arith, l))

get_d_map : {A B : Type 0} (f : A → B) (d : A) (e : B) (xs : List A) (j : ℕ) → j < length xs → get_or (map f xs) j e ≡ f (get_or xs j d)
get_d_map f d e [] j l = absurd (omega (arith, l))
get_d_map f d e (x ∷ xs) zero l = refl
get_d_map f d e (x ∷ xs) (suc j) l = get_d_map f d e xs j (omega (arith, l))

total-at : {A : Type 0} (f : A → ℕ) (d : A) (xs : List A) (j : ℕ) → j < length xs → f (get_or xs j d) ≤ total f xs
unfolding total
total-at f d [] j l = absurd (omega (arith, l))
total-at f d (x ∷ xs) zero l = omega arith
total-at f d (x ∷ xs) (suc j) l = omega (arith, total-at f d xs j (omega (arith, l)))

total-two : {A : Type 0} (f : A → ℕ) (d : A) (xs : List A) (i j : ℕ) → i < j → j < length xs → f (get_or xs i d) + f (get_or xs j d) ≤ total f xs
unfolding total
total-two f d [] i j a l = absurd (omega (arith, l))
total-two f d (x ∷ xs) zero zero a l = absurd (omega (arith, a))
total-two f d (x ∷ xs) zero (suc j) a l = omega (arith, total-at f d xs j (omega (arith, l)))
total-two f d (x ∷ xs) (suc i) zero a l = absurd (omega (arith, a))
total-two f d (x ∷ xs) (suc i) (suc j) a l = omega (arith, total-two f d xs i j (omega (arith, a)) (omega (arith, l)))

-- ---- a live symbol stands at its place

-- where a member stands
record Stands (x : Symbol) (xs : List Symbol) : Type 0 where
  at : ℕ
  low : at < length xs
  is : get_or xs at no_symbol ≡ x

stands : (x : Symbol) (xs : List Symbol) → Mem x xs → Stands x xs
stands x [] m = absurd m
stands x (y ∷ ys) (inl e) = record { at = 0; low = omega arith; is = sym e }
stands x (y ∷ ys) (inr m) = let s = stands x ys m in record { at = suc s.at; low = omega (arith, s.low); is = s.is }

up_at : (b : ℕ) (xs : List Symbol) (j : ℕ) → Up b (ids xs) → j < length xs → b ≤ (get_or xs j no_symbol).id
up_at b [] j u l = absurd (omega (arith, l))
up_at b (x ∷ xs) zero u l = u.0
up_at b (x ∷ xs) (suc j) u l = omega (arith, up_at (suc x.id) xs j u.1 (omega (arith, l)), u.0)

up-before : (b : ℕ) (xs : List Symbol) (i j : ℕ) → Up b (ids xs) → i < j → j < length xs → (get_or xs i no_symbol).id < (get_or xs j no_symbol).id
up-before b [] i j u a l = absurd (omega (arith, l))
up-before b (x ∷ xs) zero zero u a l = absurd (omega (arith, a))
up-before b (x ∷ xs) zero (suc j) u a l = omega (arith, up_at (suc x.id) xs j u.1 (omega (arith, l)))
up-before b (x ∷ xs) (suc i) zero u a l = absurd (omega (arith, a))
up-before b (x ∷ xs) (suc i) (suc j) u a l = up-before (suc x.id) xs i j u.1 (omega (arith, a)) (omega (arith, l))

pub live_of : (b : ℕ) (x : Symbol) (xs : List Symbol) → Up b (ids xs) → Mem x xs → Live xs x
unfolding place_of
live_of b x xs u m =
    let s = stands x xs m in
    let e : place_of xs x ≡ 1 + s.at =
    first-at (λ j. eqb x.id (get_or xs j no_symbol).id) (λ j. 1 + j) 0 0 (length xs) s.at (omega arith) s.low
    (eq-eqb x.id (get_or xs s.at no_symbol).id (ap (λ (z : Symbol). z.id) (sym s.is)))
    (λ j l h. ne_eqb x.id (get_or xs j no_symbol).id (λ q. let o = up-before b xs j s.at u h s.low in let i = ap (λ (z : Symbol). z.id) s.is in omega (arith, q, o, i))) in
    let f : place_of xs x - 1 ≡ s.at = omega (arith, e) in
    (omega (arith, e), omega (arith, e, s.low), rw f s.is)

-- ---- a variable that is used is one of the variables

record Hit (ws : List Variable) (n : ℕ) : Type 0 where
  at : ℕ
  low : at < length ws
  is : n ≡ (get_or ws at no_variable).number

hit : (ws : List Variable) (n : ℕ) → 1 ≤ uses_of n ws → Hit ws n
unfolding uses_of
hit [] n h = absurd (omega (arith, h))
hit (w ∷ ws) n h = by (same? n w.number) (hit ws n)
  where
    by : Same? n w.number → (1 ≤ uses_of n ws → Hit ws n) → Hit (w ∷ ws) n
    by (is a b c) f = record { at = 0; low = omega arith; is = b }
    by (isnt a b c) f =
        let g = f (omega (arith, h, uses-miss n w ws a)) in
        record { at = suc g.at; low = omega (arith, g.low); is = g.is }

pub used-named : (ws : List Variable) (n : ℕ) → 1 ≤ uses_of n ws → index_of ws n < length ws
unfolding index_of place_in
used-named ws n h = let f = hit ws n h in place-live (λ j. (get_or ws j no_variable).number) (length ws) n f.at f.low (sym f.is)

uses-at : (ts : List Term) (j : ℕ) → j < length ts → 1 ≤ uses_in (get_or ts j no_term).variable ts
unfolding uses_in
uses-at [] j l = absurd (omega (arith, l))
uses-at (t ∷ ts) zero l = go (eqb t.variable t.variable) (eq-eqb t.variable t.variable refl)
  where
    go : (b : Bool) → b ≡ true → 1 ≤ cond b 1 0 + uses_in t.variable ts
    go true e = omega arith
    go false e = absurd (false≢true e)
uses-at (t ∷ ts) (suc j) l = omega (arith, uses-at ts j (omega (arith, l)))

-- ---- how long the terms and the symbols are

terms-long : (cs : List Constraint) → All (λ (c : Constraint). length c.terms ≤ term_room) cs → length (concat (map (λ (c : Constraint). c.terms) cs)) ≤ term_room * length cs
unfolding concat
terms-long [] h = omega arith
terms-long (c ∷ cs) h = omega (arith, terms-long cs h.1, h.0, length-append c.terms (concat (map (λ (c : Constraint). c.terms) cs)))

-- ---- a list that has no number more often than another is no longer

-- ys with x, which it has, taken out once
record Taken (x : ℕ) (ys : List ℕ) : Type 0 where
  rest : List ℕ
  shorter : suc (length rest) ≡ length ys
  others : (n : ℕ) → times n ys ≡ same n x + times n rest

taken : (x : ℕ) (ys : List ℕ) → 1 ≤ times x ys → Taken x ys
unfolding times
taken x [] h = absurd (omega arith)
taken x (y ∷ ys) h = go (same? x y) (taken x ys)
  where
    go : Same? x y → (1 ≤ times x ys → Taken x ys) → Taken x (y ∷ ys)
    go (is a b c) on = record { rest = ys; shorter = refl; others = λ n. rw b refl }
    go (isnt a b c) on =
        let t = on (omega (arith, h, c)) in
        record { rest = y ∷ t.rest; shorter = ap suc t.shorter; others = λ n. omega (arith, t.others n) }

has-itself : (x : ℕ) → Same? x x → same x x ≡ 1
has-itself x (is a b c) = c
has-itself x (isnt a b c) = absurd (b refl)

no_longer : (xs ys : List ℕ) → ((n : ℕ) → times n xs ≤ times n ys) → length xs ≤ length ys
unfolding times
no_longer [] ys h = omega arith
no_longer (x ∷ xs) ys h =
    let t = taken x ys (omega (arith, h x, has-itself x (same? x x))) in
    omega (arith, no_longer xs t.rest (λ n. omega (arith, h n, t.others n)), t.shorter)

-- ---- how many symbols are live: one for each variable, and at most two for each tag

tag-short : (t : Tag) → length (tag_symbols t) ≤ 2
unfolding tag_symbols
tag-short t = go t.other
  where
    go : (o : Option Symbol) → length (t.marker ∷ elim o [ none ↦ [] | some x ↦ x ∷ [] ]) ≤ 2
    go none = omega arith
    go (some x) = omega arith

tags-short : (ts : List Tag) → length (concat (map (λ (t : Tag). map code (tag_symbols t)) ts)) ≤ 2 * length ts
unfolding concat
tags-short [] = omega arith
tags-short (t ∷ ts) =
    omega (arith, tags-short ts, tag-short t, length-map (tag_symbols t) code, length-append (map code (tag_symbols t)) (concat (map (λ (t : Tag). map code (tag_symbols t)) ts)))

owned-short : (s : State) → length (owned s) ≤ length s.changes.variables + 2 * (length s.constraints + length s.edits)
unfolding owned
owned-short s =
    omega (
      arith,
      tags-short (tags s),
      tags-length s,
      length-map s.changes.variables (λ (v : Variable). code v.symbol),
      length-append (map (λ (v : Variable). code v.symbol) s.changes.variables) (concat (map (λ (t : Tag). map code (tag_symbols t)) (tags s))),
    )

pub few-symbols : (s : State) → Reads s → length s.tableau.symbols ≤ length s.changes.variables + 2 * (length s.constraints + length s.edits)
few-symbols s r =
    omega (
      arith,
      owned-short s,
      length-map s.tableau.symbols code,
      no_longer (codes s.tableau.symbols) (owned s) (λ n. omega (arith, owned-total n s, r.owns n)),
    )

-- ---- whose place two symbols share is one symbol

same-symbol : (xs : List Symbol) (x y : Symbol) → Live xs x → Live xs y → place_of xs x ≡ place_of xs y → x ≡ y
same-symbol xs x y l m e = sym l.2 ∙ ap (λ (k : ℕ). get_or xs (k - 1) no_symbol) e ∙ m.2

-- ---- the state's own

tag-marker : (t : Tag) → 1 ≤ tag_code (code t.marker) t
unfolding tag_symbols
tag-marker t = mem-codes t.marker (t.marker ∷ elim t.other [ none ↦ [] | some x ↦ x ∷ [] ]) (inl refl)

tag-other : (m x : Symbol) → 1 ≤ times (code x) (codes (m ∷ x ∷ []))
tag-other m x = mem-codes x (m ∷ x ∷ []) (inr (inl refl))

module _ (s : State) (r : Reads s) (plain : PlainState s) where
  abbrev xs : List Symbol
  xs = s.tableau.symbols

  abbrev vs : List Variable
  vs = s.changes.variables

  up : Up 1 (ids xs)
  up = r.fits.up

  owner-live : (x : Symbol) → 1 ≤ owned_by (code x) vs s.constraints s.edits → Live xs x
  owner-live x h = live_of 1 x xs up (codes-mem x xs (omega (arith, h, r.owns (code x))))

  owners : (j : ℕ) → j < length vs → Live xs (get_or vs j no_variable).symbol
  owners j l =
      let v : Variable = get_or vs j no_variable in
      owner-live v.symbol (omega (arith, total-at (var_code (code v.symbol)) no_variable vs j l, itself (same? (code v.symbol) (code v.symbol))))
    where
      itself : {n : ℕ} → Same? n n → 1 ≤ same n n
      itself (is a b c) = omega (arith, c)
      itself (isnt a b c) = absurd (b refl)

  markers : (j : ℕ) → j < length s.constraints → Live xs (get_or s.constraints j no_constraint).tag.marker
  markers j l =
      let c : Constraint = get_or s.constraints j no_constraint in
      owner-live c.tag.marker (omega (arith, total-at (λ (c : Constraint). tag_code (code (get_or s.constraints j no_constraint).tag.marker) c.tag) no_constraint s.constraints j l, tag-marker c.tag))

  pluses : (j : ℕ) → j < length s.edits → Live xs (get_or s.edits j no_edit).tag.marker
  pluses j l =
      let c : Edit = get_or s.edits j no_edit in
      owner-live c.tag.marker (omega (arith, total-at (λ (c : Edit). tag_code (code (get_or s.edits j no_edit).tag.marker) c.tag) no_edit s.edits j l, tag-marker c.tag))

  others : (j : ℕ) → j < length s.constraints → LiveOther xs (get_or s.constraints j no_constraint).tag.other
  others j l = go (get_or s.constraints j no_constraint).tag.other refl
    where
      c : Constraint
      c = get_or s.constraints j no_constraint

      go : (o : Option Symbol) → c.tag.other ≡ o → LiveOther xs o
      go none e = tt
      go (some x) e =
          let k : 1 ≤ tag_code (code x) c.tag = unfold tag_symbols in (rw e (tag-other c.tag.marker x)) in
          owner-live x (omega (arith, total-at (λ (c : Constraint). tag_code (code x) c.tag) no_constraint s.constraints j l, k))

  minuses : (j : ℕ) → j < length s.edits → LiveOther xs (get_or s.edits j no_edit).tag.other
  minuses j l = go (get_or s.edits j no_edit).tag.other refl
    where
      c : Edit
      c = get_or s.edits j no_edit

      go : (o : Option Symbol) → c.tag.other ≡ o → LiveOther xs o
      go none e = tt
      go (some x) e =
          let k : 1 ≤ tag_code (code x) c.tag = unfold tag_symbols in (rw e (tag-other c.tag.marker x)) in
          owner-live x (omega (arith, total-at (λ (c : Edit). tag_code (code x) c.tag) no_edit s.edits j l, k))

  apart : (i j : ℕ) → i < j → j < length vs → place_of xs (get_or vs i no_variable).symbol ≡ place_of xs (get_or vs j no_variable).symbol → ⊥
  apart i j a l e =
      let x : Symbol = (get_or vs i no_variable).symbol in
      let same-one : x ≡ (get_or vs j no_variable).symbol = same-symbol xs x (get_or vs j no_variable).symbol (owners i (omega (arith, a, l))) (owners j l) e in
      let two = total-two (var_code (code x)) no_variable vs i j a l in
      let once = codes-once 1 (code x) xs up in
      let own = r.owns (code x) in
      let u : var_code (code x) (get_or vs j no_variable) ≡ same (code x) (code x) = ap (λ (y : Symbol). same (code x) (code y)) (sym same-one) in
      omega (arith, two, once, own, u, itself (same? (code x) (code x)))
    where
      itself : {n : ℕ} → Same? n n → 1 ≤ same n n
      itself (is a b c) = omega (arith, c)
      itself (isnt a b c) = absurd (b refl)

  term-used : (n : ℕ) → 1 ≤ uses_in n (all_terms s) → 1 ≤ uses_of n vs
  term-used n h = omega (arith, h, r.uses n, uses-concat (λ (c : Constraint). c.terms) n s.constraints)

  named : (j : ℕ) → j < length (all_terms s) → index_of vs (get_or (all_terms s) j no_term).variable < length vs
  named j l = used-named vs (get_or (all_terms s) j no_term).variable (term-used (get_or (all_terms s) j no_term).variable (uses-at (all_terms s) j l))

  edited : (j : ℕ) → j < length s.edits → index_of vs (get_or s.edits j no_edit).variable < length vs
  unfolding edit_terms
  edited j l =
      let n : ℕ = (get_or s.edits j no_edit).variable in
      used-named vs n (omega (arith, r.uses n, total-at (λ (e : Edit). uses_in (get_or s.edits j no_edit).variable (edit_terms e.variable)) no_edit s.edits j l, one n))
    where
      one : (n : ℕ) → 1 ≤ uses_in n (edit_terms n)
      one n = uses-at (record { variable = n; coefficient = one64 } ∷ []) 0 (omega arith)

  -- ---- the rows

  row-long : (q : ℕ) → q < length s.tableau.rows → length (get_or (cells_of s.tableau) q []) ≡ length xs
  row-long q l =
      rw (get_d_map (λ (b : Basic). b.row.cells) no_basic [] s.tableau.rows q l)
      (along-length _ xs (get_or s.tableau.rows q no_basic).row.cells (all_get_d (λ (b : Basic). _) no_basic s.tableau.rows q r.fits.rows l).1)

  settles : Settled (cells_of s.tableau) (length xs)
  settles q p l m =
      let n : q < length s.tableau.rows = omega (arith, l, length-map s.tableau.rows (λ (b : Basic). b.row.cells)) in
      let e : get_or (cells_of s.tableau) q [] ≡ (get_or s.tableau.rows q no_basic).row.cells = get_d_map (λ (b : Basic). b.row.cells) no_basic [] s.tableau.rows q n in
      let k = row-long q n in
      rw e (plain-settled (get_or (get_or s.tableau.rows q no_basic).row.cells p nan)
      (all_get_d Plain nan (get_or s.tableau.rows q no_basic).row.cells p (all_get_d (λ (b : Basic). All Plain b.row.cells) no_basic s.tableau.rows q plain n) (omega (arith, m, k, ap length e))))

  basics : (j : ℕ) → j < length s.tableau.rows → Live xs (get_or s.tableau.rows j no_basic).symbol
  basics j l = live_of 1 (get_or s.tableau.rows j no_basic).symbol xs up (all_get_d (λ (b : Basic). Mem b.symbol xs) no_basic s.tableau.rows j r.fits.live l)

  pub fits-of : Fits s
  fits-of =
      let few = few-symbols s r in
      let tags = r.few-tags in
      let variables = r.few-variables in
      let rows = r.few-rows in
      let terms = terms-long s.constraints r.few-terms in
      record {
        symbols = omega (arith, few, tags, variables);
        rows = omega (arith, rows, tags);
        variables = variables;
        constraints = omega (arith, tags);
        edits = omega (arith, tags);
        terms = omega (arith, terms, tags);
        gone = r.waits.few;
        objective = along-length _ xs s.tableau.objective r.fits.objective;
        wide = row-long;
        settled = settles;
        room = room_fits (length xs) (cells_of s.tableau) 0 cell_room (omega (arith, few, tags, variables)) (omega (arith, rows, tags, length-map s.tableau.rows (λ (b : Basic). b.row.cells)));
        basics = basics;
        owners = owners;
        apart = apart;
        markers = markers;
        others = others;
        pluses = pluses;
        minuses = minuses;
        named = named;
        edited = edited;
      }
