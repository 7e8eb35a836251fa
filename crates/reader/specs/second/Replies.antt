-- The code's answer to a line of the second edition, by the grammar's.
use Rattle.std.specs.Prelude.{ℕ, ◌≤◌, ◌<◌, ◌≡◌, Bool, cond, ◌&&◌, ◌||◌, List, leb, ltb, eqb, length, nat_abs, Result, Ok, Err}
use Rattle.std.proofs.Math.Path.{refl}
use Rattle.std.proofs.Common.{sym, ap, ap₂, ◌∙◌, arith}
use Rattle.std.proofs.Math.Bool.{true, false}
use Rattle.std.proofs.lemmas.Bool.{false≢true}
use borrow.Author.Tests.{leb-true, le-leb, lt-leb, ltb-true, ltb-false, eq-eqb, ne_eqb}
use Rattle.grammar.specs.Sums.{Reading as Constraint, reads, outside, refused, most, small_terms, judged, summed}
use Rattle.grammar.specs.Reader.{refuses}
use Rattle.grammar.specs.edition.Endings as edition
use Rattle.grammar.specs.edition.Endings.{required, most_group, is_group, taken, astray, denied, behind}
use Rattle.grammar.specs.edition.Steps.{met, replied, start, read_second}
use Rattle.grammar.specs.edition.Descent.{pass_from}
use Rattle.reader.specs.Sides.{relation_of}
use Rattle.reader.specs.Parts.{sums_of}
use Rattle.reader.specs.Answers.{Reading, refusal, shown, as_read, faults}
use Rattle.reader.specs.second.Numbers.{capped, capped-in, capped-range, capped-group}
use Rattle.reader.specs.second.Ends.{Agrees}
use Rattle.reader.specs.declared.second.Weighted.{Weighted}
use Rattle.reader.specs.declared.fault.Refusal.{Refusal}
use Rattle.reader.specs.declared.second.ends.Second.{Second}
use Rattle.reader.specs.Faults.{number_of, place_of, refused_by, some-number}
use Rattle.reader.specs.declared.fault.Fault.{Fault}

-- the reading, with the strength and the group; both are 0 where the line is refused
pub record Reply : Type 0 where
  pub reading : Reading
  pub strength : ℕ
  pub group : ℕ

-- a refusal, or what has none yet
abbrev pub unread : Reading → Reply
unread r = record { reading = r; strength = 0; group = 0 }

-- the code's answer, by its number
abbrev pub answered : Result Weighted Refusal → Reply
answered (Ok x) = record { reading = shown (Ok x.constraint); strength = x.strength; group = x.group }
answered (Err r) = unread (shown (Err r))

abbrev pub as_reply : edition.Reply → Reply
as_reply (taken c) = record { reading = as_read (reads c.reading); strength = c.strength; group = c.group }
as_reply (astray at) = unread (refusal 20 at)
as_reply (denied n) = unread (refusal n 0)

unfoldable pub ranged_by : Reading → ℕ → ℕ → Reply
ranged_by r n g = cond (eqb r.number 0) (cond (leb n required) (cond (is_group g) (record { reading = r; strength = n; group = g }) (unread (refusal 35 0))) (unread (refusal 34 0))) (unread r)

-- ---- by what the code has tested

not-group : (g : ℕ) → ltb g 1 || ltb most_group g ≡ true → is_group g ≡ false
not-group g e = by (ltb g 1) (ltb most_group g) (ltb-true g 1) (ltb-true most_group g) e
  where
    by : (t u : Bool) → (t ≡ true → g < 1) → (u ≡ true → most_group < g) → t || u ≡ true → is_group g ≡ false
    by true u f h e = rw (lt-leb 1 g (f refl))
    by false true f h e = rw (le-leb 1 g (omega (arith, h refl)), lt-leb g most_group (h refl))
    by false false f h e = absurd (false≢true e)

pub is-group : (g : ℕ) → ltb g 1 || ltb most_group g ≡ false → (is_group g ≡ true) × (g ≤ most_group)
is-group g e = by (ltb g 1) (ltb most_group g) (ltb-false g 1) (ltb-false most_group g) e
  where
    by : (t u : Bool) → (t ≡ false → 1 ≤ g) → (u ≡ false → g ≤ most_group) → t || u ≡ false → (is_group g ≡ true) × (g ≤ most_group)
    by true u f h e = absurd (false≢true (sym e))
    by false true f h e = absurd (false≢true (sym e))
    by false false f h e = (rw (le-leb 1 g (f refl), le-leb g most_group (h refl)), h refl)

pub refused-first : (r : Refusal) (n g : ℕ) → unread (shown (Err r)) ≡ ranged_by (shown (Err r)) n g
unfolding ranged_by
refused-first r n g = rw (some-number r) refl

module _ (r : Reading) (n g : ℕ) where
  module _ (z : r.number ≡ 0) where
    pub too-strong : required < n → unread (refusal 34 0) ≡ ranged_by r n g
    unfolding ranged_by
    too-strong h = rw (eq-eqb r.number 0 z, lt-leb n required h)

    pub no-group : n ≤ required → ltb g 1 || ltb most_group g ≡ true → unread (refusal 35 0) ≡ ranged_by r n g
    unfolding ranged_by
    no-group h e = rw (eq-eqb r.number 0 z, le-leb n required h, not-group g e)

    pub all-in-range : n ≤ required → ltb g 1 || ltb most_group g ≡ false → record { reading = r; strength = n; group = g } ≡ ranged_by r n g
    unfolding ranged_by
    all-in-range h e = rw (eq-eqb r.number 0 z, le-leb n required h, (is-group g e).0)

-- ---- the grammar's answer

module _ (r : Constraint) (j k : ℕ) where
  in-range : ranged_by (as_read (reads r)) (capped required j) (capped most_group k) ≡ as_reply (behind (reads r) j k)
  unfolding ranged_by
  in-range = rw (capped-range required j, capped-group k) (by (leb j required) (is_group k) (λ e. capped-in required j (leb-true j required e)) (λ e. capped-in most_group k (leb-true k most_group (second (leb 1 k) (leb k most_group) e))))
    where
      second : (p q : Bool) → p && q ≡ true → q ≡ true
      second true q e = e
      second false true e = refl
      second false false e = e

      by : (t u : Bool) → (t ≡ true → capped required j ≡ j) → (u ≡ true → capped most_group k ≡ k)
          → cond t (cond u (record { reading = as_read (reads r); strength = capped required j; group = capped most_group k }) (unread (refusal 35 0))) (unread (refusal 34 0))
          ≡ as_reply (cond t (cond u (taken (record { reading = r; strength = j; group = k })) (denied 35)) (denied 34))
      by true true f g = ap₂ (λ (x y : ℕ). record { reading = as_read (reads r); strength = x; group = y }) (f refl) (g refl)
      by true false f g = refl
      by false u f g = refl

  ranged-is : ranged_by (as_read (judged r)) (capped required j) (capped most_group k) ≡ as_reply (behind (judged r) j k)
  unfolding judged ranged_by
  ranged-is = by (leb (nat_abs r.constant) most && small_terms r.terms) (leb (length r.terms) 16)
    where
      by : (t u : Bool) → ranged_by (as_read (cond t (cond u (reads r) (refused 23)) (refused 22))) (capped required j) (capped most_group k) ≡ as_reply (behind (cond t (cond u (reads r) (refused 23)) (refused 22)) j k)
      by true true = in-range
      by true false = refl
      by false u = refl

refused-is : (n b : ℕ) → unread (as_read (refuses n b)) ≡ as_reply (replied (met n b))
refused-is n b = by (eqb n 20)
  where
    by : (t : Bool) → unread (as_read (cond t (outside b) (refused n))) ≡ as_reply (cond t (astray b) (denied n))
    by true = refl
    by false = refl

module _ (w : List ℕ) where
  short : length w ≤ 4096 → read_second w ≡ replied (pass_from w 0 start)
  unfolding read_second
  short h = rw (le-leb (length w) 4096 h)

  pub too_long : 4096 < length w → unread (refusal 19 0) ≡ as_reply (read_second w)
  unfolding read_second
  too_long h = rw (lt-leb (length w) 4096 h)

  module _ (numbers sums : List ℕ) (h : length w ≤ 4096) where
    pub read_whole : (z : Second) {r : Reading} {x : Reply} → Agrees numbers sums (Ok z) (pass_from w 0 start) → r ≡ as_read (judged (summed (relation_of z.relation) (sums_of numbers sums z.place))) → x ≡ ranged_by r z.ending.strength z.ending.group → x ≡ as_reply (read_second w)
    read_whole z (j, k, e, f, g) q y =
        let a = summed (relation_of z.relation) (sums_of numbers sums z.place) in
        y ∙ (ap (λ (v : Reading). ranged_by v z.ending.strength z.ending.group) q ∙ (ap₂ (ranged_by (as_read (judged a))) f g ∙ (ranged-is a j k ∙ sym (ap as_reply (short h ∙ ap replied e)))))

    pub read-refused : (e : Fault) {r : Refusal} → Agrees numbers sums (Err e) (pass_from w 0 start) → r ≡ refused_by e → answered (Err r) ≡ as_reply (read_second w)
    read-refused e z q = rw q (ap unread (faults e) ∙ (refused-is (number_of e) (place_of e) ∙ sym (ap as_reply (short h ∙ ap replied z))))
