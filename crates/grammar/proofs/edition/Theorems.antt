-- T-13 of document 02: the second edition's reader answers what the document says of the bytes, and there is no other answer.
use Rattle.std.specs.Prelude.{ℕ, suc, ◌+◌, ◌≤◌, ◌<◌, ◌≡◌, refl, Bool, true, false, cond, List, [], ◌++◌, ◌↔◌, leb, ltb, length, take, drop}
use Rattle.std.proofs.Common.{sym, ap, ◌∙◌, subst, append_assoc, inl, inr, zero-add, arith, ltb→lt, take-append-drop, take-take, length-take-le, leb-true, leb-false, le-leb, ltb-true, ltb-false, ne_eqb}
use Rattle.std.proofs.Math.Option.{Option, none, some}
use Rattle.std.proofs.lemmas.Bool.{lt-leb}
use Rattle.grammar.specs.Sums.{Relation, Sums, Reading, Answer, reads, outside, refused, judged, summed}
use Rattle.grammar.specs.Trees.{Fault, line_fault}
use Rattle.grammar.specs.Says.{NotBefore, IsReading}
use Rattle.grammar.specs.LineWalk.{sums_of}
use Rattle.grammar.specs.Gather.{reading, reading-only}
use Rattle.grammar.proofs.Facts.{never, fault-above}
use Rattle.grammar.specs.Prefix.{at-start}
use Rattle.grammar.proofs.Theorems.{judged-reads, judged-inside}
use Rattle.grammar.specs.Names.{Named}
use Rattle.grammar.proofs.Names.{reading-named}
use Rattle.grammar.specs.edition.Endings.{Second, second_bytes, required, is_group, strength_of, group_of, Constraint, Reply, taken, astray, denied, ranged, behind}
use Rattle.grammar.specs.edition.Service.{Starts, Says, too_long, strays, faulty, in_grammar}
use Rattle.grammar.specs.edition.Steps.{Found, met, found, start, replied, read_second}
use Rattle.grammar.specs.edition.Follow.{alike}
use Rattle.grammar.specs.edition.Walks.{met-in}
use Rattle.grammar.proofs.edition.Walks.{walk-second}
use Rattle.grammar.specs.edition.Begun.{Tells₂}
use Rattle.grammar.proofs.edition.Begun.{tells₂}
use Rattle.grammar.specs.edition.Theorems.{outcome, Accepted, Longest}

-- ---- the reader over a whole line

pub told : (w : List ℕ) → Tells₂ w (outcome w)
told w = tells₂ w [] start at-start

abbrev says_all : Second → Found
says_all l = found l.line.relation (sums_of l.line) (strength_of l.ending) (group_of l.ending)

pub walks : (l : Second) → outcome (second_bytes l) ≡ met-in (line_fault l.line) (says_all l)
unfolding second_bytes
walks l = walk-second l.line l.ending

pub line-halts : (l : Second) {n i : ℕ} → outcome (second_bytes l) ≡ met n i → line_fault l.line ≡ some (record { number = n; offset = i })
line-halts l {n} {i} e = by (line_fault l.line) (sym (walks l) ∙ e)
  where
    by : (x : Option Fault) → met-in x (says_all l) ≡ met n i → x ≡ some (record { number = n; offset = i })
    by none q = never (cc)
    by (some x) q =
        let a : x.number ≡ n = cc in
        let b : x.offset ≡ i = cc in
        λ j. some (record { number = a j; offset = b j })

line-faulty : (l : Second) {x : Fault} → line_fault l.line ≡ some x → outcome (second_bytes l) ≡ met x.number x.offset
line-faulty l e = walks l ∙ ap (λ (y : Option Fault). met-in y (says_all l)) e

-- 20 is never met in a line
line-in : (l : Second) {i : ℕ} → outcome (second_bytes l) ≡ met 20 i → ⊥
line-in l e = let h = fault-above l.line (line-halts l e) in omega arith

-- ---- bytes that begin alike

module _ (l : Second) (w : List ℕ) (b : ℕ) (h : Starts l w b) (n i : ℕ) (less : i < b) where
  ahead : i < 0 + length (take b w)
  ahead = rw (length-take-le b w h.0, zero-add b) less

  to-line : outcome w ≡ met n i → outcome (second_bytes l) ≡ met n i
  to-line e = rw (← h.1.1) (alike (take b w) (drop b w) h.1.0 0 start (rw take-append-drop e) ahead)

  from-line : outcome (second_bytes l) ≡ met n i → outcome w ≡ met n i
  from-line e = ap outcome (sym (take-append-drop b w)) ∙ alike (take b w) h.1.0 (drop b w) 0 start (ap outcome h.1.1 ∙ e) ahead

starts-down : (l : Second) (w : List ℕ) (n b : ℕ) → n ≤ b → Starts l w b → Starts l w n
starts-down l w n b h (k, (more, e)) =
    (omega arith, (drop n (take b w) ++ more, sym (append_assoc (take n w) (drop n (take b w)) more) ∙ (ap (λ (x : List ℕ). (x ++ drop n (take b w)) ++ more) (sym (take-take n b w h)) ∙ (ap (λ (x : List ℕ). x ++ more) (take-append-drop n (take b w)) ∙ e))))

-- ---- the reader answers as the document says

not-twenty : (n i : ℕ) → 20 < n → replied (met n i) ≡ denied n
not-twenty n i h = rw (ne_eqb n 20 (λ e. omega arith))

module _ (w : List ℕ) (short : length w ≤ 4096) where
  not-before-it : (n : ℕ) (l : Second) → outcome w ≡ met 20 n → Starts l w n → NotBefore n (line_fault l.line)
  not-before-it n l e b = by (line_fault l.line) refl
    where
      by : (x : Option Fault) → line_fault l.line ≡ x → NotBefore n x
      by none q = tt
      by (some x) q = on (leb n x.offset) refl
        where
          on : (t : Bool) → leb n x.offset ≡ t → n ≤ x.offset
          on true h = leb-true n x.offset h
          on false h =
              let g = leb-false n x.offset h in
              let f = from-line l w n b x.number x.offset g (line-faulty l q) in
              let z : x.offset ≡ n = cc in
              absurd (omega arith)

  whole_says : (r : Relation) (s : Sums) (n g : ℕ) (l : Second) → second_bytes l ≡ w → outcome w ≡ found r s n g → Says w (behind (judged (summed r s)) n g)
  whole_says r s n g l q e = by (line_fault l.line) refl (sym (walks l) ∙ (ap outcome q ∙ e))
    where
      by : (x : Option Fault) → line_fault l.line ≡ x → met-in x (says_all l) ≡ found r s n g → Says w (behind (judged (summed r s)) n g)
      by none f y =
          let a : l.line.relation ≡ r = cc in
          let b : sums_of l.line ≡ s = cc in
          let c : strength_of l.ending ≡ n = cc in
          let d : group_of l.ending ≡ g = cc in
          rw (← a, ← b, ← c, ← d) (in_grammar (summed l.line.relation (sums_of l.line)) l short q f (reading l.line))
      by (some x) f y = never (cc)

  says-outcome : (x : Found) → outcome w ≡ x → Tells₂ w x → Says w (replied x)
  says-outcome (met n i) e (inl (q, (l, b))) =
      let f : outcome w ≡ met 20 i = e ∙ ap (λ (k : ℕ). met k i) q in
      rw q (strays i l short b (not-before-it i l f b) (λ k. ((λ g. line-in k (ap outcome g ∙ f)), λ g. line-in k (to-line k w (suc i) g 20 i (omega arith) f))))
  says-outcome (met n i) e (inr (t, (l, b))) =
      rw (not-twenty n i (ltb→lt 20 n t)) (faulty (record { number = n; offset = i }) l short b (line-halts l (to-line l w (suc i) b n i (omega arith) e)))
  says-outcome (found r s n g) e (l, q) = whole_says r s n g l q e

pub answers : (w : List ℕ) → Says w (read_second w)
unfolding read_second
answers w = by (leb (length w) 4096) refl
  where
    by : (t : Bool) → leb (length w) 4096 ≡ t → Says w (cond t (replied (outcome w)) (denied 19))
    by true h = says-outcome w (leb-true (length w) 4096 h) (outcome w) refl (told w)
    by false h = too_long (leb-false (length w) 4096 h)

-- ---- and there is no other answer

module _ (w : List ℕ) where
  pub short-answer : length w ≤ 4096 → read_second w ≡ replied (outcome w)
  unfolding read_second
  short-answer h = rw (le-leb (length w) 4096 h)

  stray-at : (n : ℕ) (l : Second) → Starts l w n → NotBefore n (line_fault l.line) → ((k : Second) → (second_bytes k ≡ w → ⊥) × (Starts k w (suc n) → ⊥)) → (x : Found) → outcome w ≡ x → Tells₂ w x → astray n ≡ replied x
  stray-at n l b f g (met k i) e (inl (q, (m, c))) = rw q (ap astray (at (ltb i n) (ltb n i) refl refl))
    where
      at : (t u : Bool) → ltb i n ≡ t → ltb n i ≡ u → n ≡ i
      at true u x y = absurd (line-in l (to-line l w n b 20 i (ltb-true i n x) (e ∙ ap (λ (j : ℕ). met j i) q)))
      at false true x y = absurd ((g m).1 (starts-down m w (suc n) i (ltb-true n i y) c))
      at false false x y = omega (arith, ltb-false i n x, ltb-false n i y)
  stray-at n l b f g (met k i) e (inr (t, (m, c))) = absurd (at (ltb i n) refl)
    where
      at : (t : Bool) → ltb i n ≡ t → ⊥
      at true x =
          let h : i < n = ltb-true i n x in
          let y : n ≤ i = subst (NotBefore n) (line-halts l (to-line l w n b k i h e)) f in
          omega arith
      at false x = (g m).1 (starts-down m w (suc n) (suc i) (omega (arith, ltb-false i n x)) c)
  stray-at n l b f g (found r s k j) e (m, q) = absurd ((g m).0 q)

pub only : (w : List ℕ) (a : Reply) → Says w a → a ≡ read_second w
unfolding read_second
only w _ (too_long h) = rw (lt-leb (length w) 4096 h)
only w _ (strays n l h b f g) = stray-at w n l b f g (outcome w) refl (told w) ∙ sym (short-answer w h)
only w _ (faulty x l h b e) =
    let y = from-line l w (suc x.offset) b x.number x.offset (omega arith) (line-faulty l e) in
    sym (short-answer w h ∙ (ap replied y ∙ not-twenty x.number x.offset (fault-above l.line e)))
only w _ (in_grammar r l h q e i) =
    let y = ap outcome (sym q) ∙ (walks l ∙ ap (λ (x : Option Fault). met-in x (says_all l)) e) in
    ap (λ (z : Reading). behind (judged z) (strength_of l.ending) (group_of l.ending)) (reading-only l.line r (summed l.line.relation (sums_of l.line)) i (reading l.line)) ∙ sym (short-answer w h ∙ ap replied y)

-- ---- in fewer words

ranged-taken : (c d : Constraint) → ranged c ≡ taken d → c ≡ d
ranged-taken c d e = by (leb c.strength required) (is_group c.group) e
  where
    by : (t u : Bool) → cond t (cond u (taken c) (denied 35)) (denied 34) ≡ taken d → c ≡ d
    by true true e = cc
    by true false e = never (cc)
    by false u e = never (cc)

ranged-in : (c : Constraint) (n : ℕ) → ranged c ≡ astray n → ⊥
ranged-in c n e = by (leb c.strength required) (is_group c.group) e
  where
    by : (t u : Bool) → cond t (cond u (taken c) (denied 35)) (denied 34) ≡ astray n → ⊥
    by true true e = never (cc)
    by true false e = never (cc)
    by false u e = never (cc)

behind-taken : (r : Reading) (n g : ℕ) (c : Constraint) → behind (judged r) n g ≡ taken c → record { reading = r; strength = n; group = g } ≡ c
behind-taken r n g c e = by (judged r) refl e
  where
    by : (a : Answer) → judged r ≡ a → behind a n g ≡ taken c → record { reading = r; strength = n; group = g } ≡ c
    by (reads q) j e = ap (λ (z : Reading). record { reading = z; strength = n; group = g }) (judged-reads r q j) ∙ ranged-taken (record { reading = q; strength = n; group = g }) c e
    by (outside i) j e = never (cc)
    by (refused k) j e = never (cc)

behind-in : (r : Reading) (n g i : ℕ) → behind (judged r) n g ≡ astray i → ⊥
behind-in r n g i e = by (judged r) refl e
  where
    by : (a : Answer) → judged r ≡ a → behind a n g ≡ astray i → ⊥
    by (reads q) j e = ranged-in (record { reading = q; strength = n; group = g }) i e
    by (outside k) j e = judged-inside r k j
    by (refused k) j e = never (cc)

-- accepted is what is in the grammar and within the bounds, and the answer is what it says
pub accepts : (w : List ℕ) (c : Constraint) → (read_second w ≡ taken c) ↔ Accepted w c
accepts w c = (λ e. there (read_second w) (answers w) e, λ (l, h, q, f, i, n, g, j). back l h q f i n g j)
  where
    back : (l : Second) → length w ≤ 4096 → second_bytes l ≡ w → line_fault l.line ≡ none → IsReading l.line c.reading → strength_of l.ending ≡ c.strength → group_of l.ending ≡ c.group
        → behind (judged c.reading) c.strength c.group ≡ taken c → read_second w ≡ taken c
    back l h q f i n g j = sym (only w (behind (judged c.reading) (strength_of l.ending) (group_of l.ending)) (in_grammar c.reading l h q f i)) ∙ rw (n, g) j

    there : (a : Reply) → Says w a → a ≡ taken c → Accepted w c
    there _ (too_long h) e = never (cc)
    there _ (strays n l h b f g) e = never (cc)
    there _ (faulty x l h b f) e = never (cc)
    there _ (in_grammar r l h p f i) e =
        let z = behind-taken r (strength_of l.ending) (group_of l.ending) c e in
        (l, h, p, f, subst (IsReading l.line) (ap (λ (d : Constraint). d.reading) z) i, ap (λ (d : Constraint). d.strength) z, ap (λ (d : Constraint). d.group) z, ap (λ (d : Constraint). behind (judged d.reading) d.strength d.group) (sym z) ∙ e)

-- its variables fit
pub second-named : (w : List ℕ) (c : Constraint) → read_second w ≡ taken c → Named c.reading.terms
second-named w c e =
    let a = (accepts w c).0 e in
    reading-named a.0.line c.reading a.3 a.4

pub longest : (w : List ℕ) (n : ℕ) → read_second w ≡ astray n → Longest w n
longest w n e = by (read_second w) (answers w) e
  where
    by : (a : Reply) → Says w a → a ≡ astray n → Longest w n
    by _ (too_long h) e = never (cc)
    by _ (strays k l h b f g) e =
        let q : k ≡ n = cc in
        ((l, subst (Starts l w) q b), (λ l. (g l).0), λ l m c. within l m c (ltb n m) refl q)
      where
        within : (l : Second) (m : ℕ) → Starts l w m → (t : Bool) → ltb n m ≡ t → k ≡ n → m ≤ n
        within l m c true x q = absurd ((g l).1 (starts-down l w (suc k) m (omega (arith, ltb-true n m x)) c))
        within l m c false x q = ltb-false n m x
    by _ (faulty x l h b f) e = never (cc)
    by _ (in_grammar r l h q f i) e = absurd (behind-in r (strength_of l.ending) (group_of l.ending) n e)
