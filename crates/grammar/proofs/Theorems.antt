-- T-01 of document 02: the reader's answer is what the document says of the bytes, and there is no other answer.
use Rattle.std.specs.Prelude.{ℕ, suc, ◌≤◌, ◌<◌, ◌≡◌, refl, Bool, true, false, cond, ◌&&◌, List, [], ◌↔◌, leb, ltb, length, nat_abs}
use Rattle.std.proofs.Common.{sym, ap, ◌∙◌, subst, inl, inr, arith, ltb→lt, leb-true, leb-false, le-leb, ltb-true, ltb-false, ne_eqb}
use Rattle.std.proofs.Math.Option.{Option, none, some}
use Rattle.std.proofs.lemmas.Bool.{lt-leb}
use Rattle.grammar.specs.Sums.{Reading, Answer, reads, outside, refused, most, small_terms, judged, summed, nothing}
use Rattle.grammar.specs.Reader.{first, left, Outcome, read, halted, whole, answered, refuses, read_line}
use Rattle.grammar.specs.Trees.{Line, Fault, line_fault, line_bytes}
use Rattle.grammar.specs.Says.{Says, too_long, astray, faulty, in_grammar, Begins, NotBefore, IsReading}
use Rattle.grammar.specs.Pieces.{met}
use Rattle.grammar.specs.Prefix.{at-start}
use Rattle.grammar.specs.Complete.{Tells}
use Rattle.grammar.proofs.Complete.{tells}
use Rattle.grammar.specs.LineWalk.{sums_of}
use Rattle.grammar.proofs.LineWalk.{walk-line}
use Rattle.grammar.specs.Gather.{reading, reading-only}
use Rattle.grammar.specs.Facts.{outcome}
use Rattle.grammar.proofs.Facts.{never, fault-above, line-halts, line-faulty, line-whole, line-in, to-line, from-line, begins-down}
use Rattle.grammar.specs.Theorems.{Accepted}

told : (w : List ℕ) → Tells w (outcome w)
told w = tells w [] first left nothing at-start

not-twenty : (n i : ℕ) → 20 < n → refuses n i ≡ refused n
not-twenty n i h = rw (ne_eqb n 20 (λ e. omega arith))

-- ---- the reader answers as the document says

module _ (w : List ℕ) (short : length w ≤ 4096) where
  not-before-it : (n : ℕ) (l : Line) → outcome w ≡ halted 20 n → Begins l w n → NotBefore n (line_fault l)
  not-before-it n l e b = by (line_fault l) refl
    where
      by : (x : Option Fault) → line_fault l ≡ x → NotBefore n x
      by none q = tt
      by (some x) q = on (leb n x.offset) refl
        where
          on : (t : Bool) → leb n x.offset ≡ t → n ≤ x.offset
          on true h = leb-true n x.offset h
          on false h =
              let g = leb-false n x.offset h in
              let f = from-line l w n b x.number x.offset g (line-faulty l q) in
              let z : x.offset ≡ n = cc in
              absurd (omega arith)

  says-outcome : (x : Outcome) → outcome w ≡ x → Tells w x → Says w (answered x)
  says-outcome (read i t s) e h = absurd h
  says-outcome (halted n i) e (inl (q, (l, b))) =
      let f : outcome w ≡ halted 20 i = e ∙ ap (λ (k : ℕ). halted k i) q in
      rw q (astray i l short b (not-before-it i l f b) (λ k. ((λ g. line-in k (ap outcome g ∙ f)), λ g. line-in k (to-line k w (suc i) g 20 i (omega arith) f))))
  says-outcome (halted n i) e (inr (t, (l, b))) =
      rw (not-twenty n i (ltb→lt 20 n t)) (faulty (record { number = n; offset = i }) l short b (line-halts l (to-line l w (suc i) b n i (omega arith) e)))
  says-outcome (whole r s) e (l, q) =
      let f = line-whole l (ap outcome q ∙ e) in
      in_grammar (summed r s) l short q f.0 (rw (f.1, f.2) (reading l))

-- "Accept exactly this grammar", and every refusal at its place
pub answers : (w : List ℕ) → Says w (read_line w)
unfolding read_line
answers w = by (leb (length w) 4096) refl
  where
    by : (t : Bool) → leb (length w) 4096 ≡ t → Says w (cond t (answered (outcome w)) (refused 19))
    by true h = says-outcome w (leb-true (length w) 4096 h) (outcome w) refl (told w)
    by false h = too_long (leb-false (length w) 4096 h)

-- ---- and there is no other answer

module _ (w : List ℕ) where
  short-answer : length w ≤ 4096 → read_line w ≡ answered (outcome w)
  unfolding read_line
  short-answer h = rw (le-leb (length w) 4096 h)

  strays : (n : ℕ) (l : Line) → Begins l w n → NotBefore n (line_fault l) → ((k : Line) → (line_bytes k ≡ w → ⊥) × (Begins k w (suc n) → ⊥)) → (x : Outcome) → outcome w ≡ x → Tells w x → outside n ≡ answered x
  strays n l b f g (read i t s) e h = absurd h
  strays n l b f g (halted k i) e (inl (q, (m, c))) = rw q (ap outside (at (ltb i n) (ltb n i) refl refl))
    where
      at : (t u : Bool) → ltb i n ≡ t → ltb n i ≡ u → n ≡ i
      at true u x y = absurd (line-in l (to-line l w n b 20 i (ltb-true i n x) (e ∙ ap (λ (j : ℕ). halted j i) q)))
      at false true x y = absurd ((g m).1 (begins-down m w (suc n) i (ltb-true n i y) c))
      at false false x y = omega (arith, ltb-false i n x, ltb-false n i y)
  strays n l b f g (halted k i) e (inr (t, (m, c))) = absurd (at (ltb i n) refl)
    where
      at : (t : Bool) → ltb i n ≡ t → ⊥
      at true x =
          let h : i < n = ltb-true i n x in
          let y : n ≤ i = subst (NotBefore n) (line-halts l (to-line l w n b k i h e)) f in
          omega arith
      at false x = (g m).1 (begins-down m w (suc n) (suc i) (omega (arith, ltb-false i n x)) c)
  strays n l b f g (whole r s) e (m, q) = absurd ((g m).0 q)

pub only : (w : List ℕ) (a : Answer) → Says w a → a ≡ read_line w
unfolding read_line
only w _ (too_long h) = rw (lt-leb (length w) 4096 h)
only w _ (astray n l h b f g) = strays w n l b f g (outcome w) refl (told w) ∙ sym (short-answer w h)
only w _ (faulty x l h b e) =
    let y = from-line l w (suc x.offset) b x.number x.offset (omega arith) (line-faulty l e) in
    sym (short-answer w h ∙ (ap answered y ∙ not-twenty x.number x.offset (fault-above l e)))
only w _ (in_grammar r l h q e i) =
    let y = ap outcome (sym q) ∙ (walk-line l ∙ ap (λ (x : Option Fault). met x (whole l.relation (sums_of l))) e) in
    ap judged (reading-only l r (summed l.relation (sums_of l)) i (reading l)) ∙ sym (short-answer w h ∙ ap answered y)

-- ---- in fewer words

pub judged-reads : (r q : Reading) → judged r ≡ reads q → r ≡ q
unfolding judged
judged-reads r q e = by (leb (nat_abs r.constant) most && small_terms r.terms) (leb (length r.terms) 16) e
  where
    by : (t u : Bool) → cond t (cond u (reads r) (refused 23)) (refused 22) ≡ reads q → r ≡ q
    by true true e = cc
    by true false e = never (cc)
    by false u e = never (cc)

pub judged-inside : (r : Reading) (n : ℕ) → judged r ≡ outside n → ⊥
unfolding judged
judged-inside r n e = by (leb (nat_abs r.constant) most && small_terms r.terms) (leb (length r.terms) 16) e
  where
    by : (t u : Bool) → cond t (cond u (reads r) (refused 23)) (refused 22) ≡ outside n → ⊥
    by true true e = never (cc)
    by true false e = never (cc)
    by false u e = never (cc)

-- "Accept exactly this grammar": accepted is what is in it and within the bounds, and the answer is its reading
pub accepts : (w : List ℕ) (r : Reading) → (read_line w ≡ reads r) ↔ Accepted w r
accepts w r = (λ e. there (read_line w) (answers w) e, λ (l, h, q, f, i, j). sym (sym j ∙ only w (judged r) (in_grammar r l h q f i)))
  where
    there : (a : Answer) → Says w a → a ≡ reads r → Accepted w r
    there _ (too_long h) e = never (cc)
    there _ (astray n l h b f g) e = never (cc)
    there _ (faulty x l h b f) e = never (cc)
    there _ (in_grammar q l h p f i) e =
        let j = judged-reads q r e in
        (l, h, p, f, subst (IsReading l) j i, ap judged (sym j) ∙ e)

-- the offset of 20 is the length of the longest prefix of the line that is also a prefix of a line of the grammar
pub longest : (w : List ℕ) (n : ℕ) → read_line w ≡ outside n → ((l : Line) × Begins l w n) × ((l : Line) → line_bytes l ≡ w → ⊥) × ((l : Line) (m : ℕ) → Begins l w m → m ≤ n)
longest w n e = by (read_line w) (answers w) e
  where
    by : (a : Answer) → Says w a → a ≡ outside n → ((l : Line) × Begins l w n) × ((l : Line) → line_bytes l ≡ w → ⊥) × ((l : Line) (m : ℕ) → Begins l w m → m ≤ n)
    by _ (too_long h) e = never (cc)
    by _ (astray k l h b f g) e =
        let q : k ≡ n = cc in
        ((l, subst (Begins l w) q b), (λ l. (g l).0), λ l m c. within l m c (ltb n m) refl q)
      where
        within : (l : Line) (m : ℕ) → Begins l w m → (t : Bool) → ltb n m ≡ t → k ≡ n → m ≤ n
        within l m c true x q = absurd ((g l).1 (begins-down l w (suc k) m (omega (arith, ltb-true n m x)) c))
        within l m c false x q = ltb-false n m x
    by _ (faulty x l h b f) e = never (cc)
    by _ (in_grammar r l h q f i) e = absurd (judged-inside r n e)
