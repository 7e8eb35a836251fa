-- "the writer gives 36 for terms not ascending or anything a line can't say": for that and for nothing else.
use Rattle.std.specs.Prelude.{ℕ, zero, suc, ◌+◌, ◌*◌, ◌≤◌, ◌/◌, ◌%◌, ◌≡◌, refl, Bool, cond, not, ◌&&◌, List, [], ◌∷◌, ◌++◌, ◌↔◌, leb, ltb, eqb, length, ℤ, pos, nat_abs}
use Rattle.std.proofs.Common.{arith, leb→le, le→leb, length-append}
use Rattle.std.proofs.Math.Bool.{true, false}
use Rattle.std.proofs.Math.Dec.{T}
use Rattle.laws.specs.Z.{eq_zb, eq_zb→}
use Rattle.grammar.specs.Sums.{Relation, at_most, equal, at_least, Term, reads, refused as declined, most, most_name, small_terms, judged}
use Rattle.grammar.specs.Trees.{mark_of}
use Rattle.grammar.specs.Says.{NoneZero}
use Rattle.grammar.specs.Pieces.{both}
use Rattle.grammar.proofs.Facts.{never}
use Rattle.grammar.specs.Names.{Named}
use Rattle.grammar.specs.edition.Endings.{required, is_group, Constraint, taken, denied, ranged, behind}
use Rattle.grammar.specs.edition.Free.{and_both}
use Rattle.grammar.specs.edition.Steps.{read_second}
use Rattle.grammar.proofs.edition.Theorems.{accepts, second-named}
use Rattle.grammar.specs.plain.Decimal.{decimal_in, decimal}
use Rattle.grammar.specs.plain.Plain.{is_negative, first_sign, next_sign, term_text, next_text, constant_text, sum_text, ending_text, plain_text, term_said, terms_said, sayable, wrote, refused, room, write_line}
use Rattle.grammar.specs.plain.Said.{ascended}
use Rattle.grammar.specs.plain.Theorems.{Says}
use Rattle.grammar.proofs.plain.Theorems.{says, said, plain-reads}

-- ---- what a line says can be said

terms-said : (ts : List Term) → NoneZero ts → T (small_terms ts) → Named ts → T (terms_said ts)
unfolding terms_said small_terms
terms-said [] z s n = tt
terms-said (t ∷ ts) z s n =
    let g = both (leb (nat_abs t.coefficient) most) (small_terms ts) s in
    and_both (term_said t) (terms_said ts)
    (and_both (not (eq_zb t.coefficient (pos 0))) (leb (nat_abs t.coefficient) most && leb t.variable most_name) (other (eq_zb t.coefficient (pos 0)) (λ e. z.0 (eq_zb→ t.coefficient (pos 0) e)))
    (and_both (leb (nat_abs t.coefficient) most) (leb t.variable most_name) g.0 (le→leb t.variable most_name n.0)))
    (terms-said ts z.1 g.1 n.1)
  where
    other : (b : Bool) → (T b → ⊥) → T (not b)
    other true h = h tt
    other false h = tt

module _ (c : Constraint) where
  abbrev n : ℕ
  n = c.strength

  in-range : ranged c ≡ taken c → T (leb n required) × T (is_group c.group)
  in-range e = by (leb n required) (is_group c.group) e
    where
      by : (t u : Bool) → cond t (cond u (taken c) (denied 35)) (denied 34) ≡ taken c → T t × T u
      by true true e = (tt, tt)
      by true false e = never (cc)
      by false u e = never (cc)

  in_bounds : behind (judged c.reading) n c.group ≡ taken c
      → T (leb (nat_abs c.reading.constant) most) × T (small_terms c.reading.terms) × T (leb (length c.reading.terms) 16) × (ranged c ≡ taken c)
  unfolding judged
  in_bounds e = by (leb (nat_abs c.reading.constant) most) (small_terms c.reading.terms) (leb (length c.reading.terms) 16) e
    where
      by : (t u v : Bool) → behind (cond (t && u) (cond v (reads c.reading) (declined 23)) (declined 22)) n c.group ≡ taken c → T t × T u × T v × (ranged c ≡ taken c)
      by true true true e = (tt, tt, tt, e)
      by true true false e = never (cc)
      by true false v e = never (cc)
      by false u v e = never (cc)

  pub read-says : (w : List ℕ) → read_second w ≡ taken c → Says c
  read-says w e =
      let a = (accepts w c).0 e in
      let i = a.4 in
      let b = in_bounds a.7 in
      let g = in-range b.3 in
      record {
        few = b.2;
        rising = ascended c.reading.terms i.ascending;
        terms = terms-said c.reading.terms i.dropped b.1 (second-named w c e);
        constant = b.0;
        strength = g.0;
        group = g.1;
      }

-- ---- a plain line is short enough to be read

digits-length : (k n : ℕ) → length (decimal_in k n) ≤ k
unfolding decimal_in
digits-length zero n = omega arith
digits-length (suc k) n = by (ltb n 10) (digits-length k (n / 10))
  where
    by : (t : Bool) → length (decimal_in k (n / 10)) ≤ k → length (cond t ((48 + n) ∷ []) (decimal_in k (n / 10) ++ ((48 + n % 10) ∷ []))) ≤ suc k
    by true h = omega arith
    by false h = rw length-append (omega arith)

decimal-length : (n : ℕ) → length (decimal n) ≤ 20
unfolding decimal
decimal-length n = digits-length 20 n

either : (t : Bool) (u w : List ℕ) (n : ℕ) → length u ≤ n → length w ≤ n → length (cond t u w) ≤ n
either true u w n h k = h
either false u w n h k = k

term-length : (t : Term) → length (term_text t) ≤ 42
term-length t =
    let m = nat_abs t.coefficient in
    let a = either (eqb m 1) [] (decimal m ++ (42 ∷ [])) 21 (omega arith) (rw length-append (omega (arith, decimal-length m))) in
    rw length-append (omega (arith, a, decimal-length t.variable))

next-sign : (z : ℤ) → length (next_sign z) ≤ 1
next-sign z = either (is_negative z) (45 ∷ []) (43 ∷ []) 1 (omega arith) (omega arith)

first-sign : (z : ℤ) → length (first_sign z) ≤ 1
first-sign z = either (is_negative z) (45 ∷ []) [] 1 (omega arith) (omega arith)

next-length : (ts : List Term) → length (next_text ts) ≤ 43 * length ts
unfolding next_text
next-length [] = omega arith
next-length (t ∷ ts) = simp length-append (omega (arith, next-sign t.coefficient, simp length-append at (term-length t), next-length ts))

constant-length : (z : ℤ) → length (constant_text z) ≤ 21
constant-length z = either (eq_zb z (pos 0)) [] (next_sign z ++ decimal (nat_abs z)) 21 (omega arith) (rw length-append (omega (arith, next-sign z, decimal-length (nat_abs z))))

sum-length : (z : ℤ) (ts : List Term) → length (sum_text z ts) ≤ 43 * length ts + 21
sum-length z [] = rw length-append (omega (arith, first-sign z, decimal-length (nat_abs z)))
sum-length z (t ∷ ts) = simp length-append (omega (arith, first-sign t.coefficient, simp length-append at (term-length t), next-length ts, constant-length z))

mark-length : (r : Relation) → length (mark_of r) ≤ 2
mark-length at_most = omega arith
mark-length equal = omega arith
mark-length at_least = omega arith

ending-length : (n g : ℕ) → length (ending_text n g) ≤ 42
ending-length n g =
    either (eqb n required && eqb g 1) [] (64 ∷ (decimal n ++ (44 ∷ decimal g))) 42 (omega arith) (rw length-append (omega (arith, decimal-length n, decimal-length g)))

plain-length : (c : Constraint) → length c.reading.terms ≤ 16 → length (plain_text c) ≤ 4096
unfolding plain_text
plain-length c h =
    let r = c.reading in
    let s = sum_text r.constant r.terms in
    let e = ending_text c.strength c.group in
    omega (arith, length-append s (mark_of r.relation ++ (48 ∷ e)), length-append (mark_of r.relation) (48 ∷ e), sum-length r.constant r.terms, mark-length r.relation, ending-length c.strength c.group)

-- ---- 36

refuses-36 : (c : Constraint) → write_line c ≡ refused 36 → T (sayable c) → ⊥
unfolding write_line
refuses-36 c e h = by (sayable c) (leb (length (plain_text c)) room) h e
  where
    by : (t u : Bool) → T t → cond t (cond u (wrote (plain_text c)) (refused 32)) (refused 36) ≡ refused 36 → ⊥
    by true true h e = never (cc)
    by true false h e = let z : ◌≡◌ {A = ℕ} 32 36 = cc in omega arith
    by false u h e = h

gives-36 : (c : Constraint) → (T (sayable c) → ⊥) → write_line c ≡ refused 36
unfolding write_line
gives-36 c h = by (sayable c) h
  where
    by : (t : Bool) → (T t → ⊥) → cond t (cond (leb (length (plain_text c)) room) (wrote (plain_text c)) (refused 32)) (refused 36) ≡ refused 36
    by true h = absurd (h tt)
    by false h = refl

-- the plain line of what can be said reads as that
said-reads : (c : Constraint) → T (sayable c) → read_second (plain_text c) ≡ taken c
said-reads c h =
    let s = says c h in
    plain-reads c s (plain-length c (leb→le (length c.reading.terms) 16 s.few))

-- 36 is for what no line reads as
pub unsaid : (c : Constraint) → (write_line c ≡ refused 36) ↔ ((w : List ℕ) → read_second w ≡ taken c → ⊥)
unsaid c = (λ e w r. refuses-36 c e (said c (read-says c w r)), λ h. gives-36 c (λ s. h (plain_text c) (said-reads c s)))
