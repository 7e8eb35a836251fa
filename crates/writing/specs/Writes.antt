-- The writer's answer: "36 for terms not ascending or anything a line can't say, then 32, and its buffer is all zero".
use Rattle.std.specs.Prelude.{◌≡◌, ℕ, ◌<◌, ◌≤◌, Bool, true, false, cond, not, ◌&&◌, T, List, [], ◌∷◌, ◌++◌, length, replicate, ◌==◌, ◌≢◌, ◌⊎◌, nat_le, unsigned_abs, Float}
use Rattle.std.proofs.Math.Path.{refl, sym, ap, ap₂, subst⁻¹}
use Rattle.std.proofs.Common.{◌∙◌, inl, inr, subst, append_assoc, arith, le-leb, eq-eqb, ne_eqb, leb→le}
use Rattle.std.proofs.lemmas.Bool.{lt-leb}
use Rattle.std.proofs.lemmas.List.{length-replicate}
use Rattle.laws.specs.Lists.{tab, length-tab}
use Rattle.grammar.specs.Sums.{Relation, at_most, equal, at_least, most}
use Rattle.grammar.specs.Trees.{mark_of}
use Rattle.grammar.specs.Pieces.{both}
use Rattle.grammar.specs.edition.Endings.{Constraint, required, is_group}
use Rattle.grammar.specs.edition.Free.{and_both}
use Rattle.laws.specs.exact.Whole.{val}
use Rattle.grammar.specs.plain.Plain.{is_negative, sum_text, ending_text, plain_text, ascends, terms_said, sayable, Written, wrote, refused, room, write_line}
use Rattle.grammar.specs.plain.Theorems.{Says}
use Rattle.grammar.proofs.plain.Theorems.{says, said}
use Rattle.changes.specs.declared.tags.Relation.{Relation as Given}
use Rattle.changes.specs.declared.tags.Relation.TheVariants.{AtMost, Equal, AtLeast}
use Rattle.changes.specs.declared.terms.Pack.{Pack}
use Rattle.writing.specs.declared.figures.Figure.{Figure}
use Rattle.writing.specs.Buffer.{padded, Holds, fits, passed, Adds}
use Rattle.writing.specs.Figures.{is_figure, figure_of}
use Rattle.writing.specs.Texts.{up_to, const_text, relation_text, line_text}
use Rattle.writing.specs.Given.{term_at, whole_from, all_up_to, all_said, sum_is}

-- ---- the call

abbrev pub relation_in : Given → Relation
relation_in (AtMost s) = at_most
relation_in (Equal s) = equal
relation_in (AtLeast s) = at_least

-- the first byte of its mark
unfoldable pub mark_in : Given → ℕ
mark_in (AtMost s) = 60
mark_in (Equal s) = 61
mark_in (AtLeast s) = 62

-- a relation carries its strength
unfoldable pub strength_in : Given → Float
strength_in (AtMost s) = s
strength_in (Equal s) = s
strength_in (AtLeast s) = s

pub strength-any : (r : Given) (s : Float) → (r ≡ AtMost s) ⊎ ((r ≡ Equal s) ⊎ (r ≡ AtLeast s)) → s ≡ strength_in r
unfolding strength_in
strength-any r s (inl e) = sym (ap strength_in e)
strength-any r s (inr (inl e)) = sym (ap strength_in e)
strength-any r s (inr (inr e)) = sym (ap strength_in e)

-- the constraint as numbers
unfoldable pub constraint_of : Given → ℕ → Float → Pack → Constraint
constraint_of r g x p =
    record { reading = record { relation = relation_in r; constant = val x; terms = tab (term_at p.vars p.coefs) 0 p.count }; strength = unsigned_abs (val (strength_in r)); group = g }

-- all of them are whole, there are at most 16 terms, and the strength is not below 0
unfoldable pub numbers_in : Given → Float → Pack → Bool
numbers_in r x p = (p.finite && nat_le p.count 16) && (whole_from p.vars p.coefs 0 p.count && (is_figure x && (is_figure (strength_in r) && not (is_negative (val (strength_in r))))))

unfoldable pub writes : Given → ℕ → Float → Pack → Written
writes r g x p = cond (numbers_in r x p) (write_line (constraint_of r g x p)) (refused 36)

-- "zero past the line"; 0 is accepted
abbrev pub number_of : Written → ℕ
number_of (wrote l) = 0
number_of (refused n) = n

abbrev pub buffer_of : Written → List ℕ
buffer_of (wrote l) = padded l
buffer_of (refused n) = replicate room 0

pub record Called : Type 0 where
  pub number : ℕ
  pub buffer : List ℕ

abbrev pub called_is : ℕ → List ℕ → Called
called_is n o = record { number = n; buffer = o }

-- a buffer of another length: 18, and it stays as it is
unfoldable pub called : List ℕ → Written → Called
called o w = cond (length o == room) (record { number = number_of w; buffer = buffer_of w }) (record { number = 18; buffer = o })

-- ---- as the code tests it

abbrev pub number_said : Figure → Bool
number_said c = c.whole && nat_le c.size most

abbrev pub strength_said : Figure → Bool
strength_said s = (s.whole && not s.negative) && nat_le s.size required

unfoldable pub said_in : Pack → Figure → Figure → ℕ → Bool
said_in p c s g = cond (p.finite && nat_le p.count 16) (((all_up_to p.vars p.coefs p.count p.count && number_said c) && strength_said s) && is_group g) false

number-said : (x : Float) → number_said (figure_of x) ≡ is_figure x && nat_le (unsigned_abs (val x)) most
unfolding figure_of
number-said x = by (is_figure x)
  where
    by : (t : Bool) → number_said (cond t (record { whole = true; negative = is_negative (val x); size = unsigned_abs (val x) }) (record { whole = false; negative = false; size = 0 })) ≡ t && nat_le (unsigned_abs (val x)) most
    by true = refl
    by false = refl

strength-said : (x : Float) → strength_said (figure_of x) ≡ (is_figure x && not (is_negative (val x))) && nat_le (unsigned_abs (val x)) required
unfolding figure_of
strength-said x = by (is_figure x)
  where
    by : (t : Bool) → strength_said (cond t (record { whole = true; negative = is_negative (val x); size = unsigned_abs (val x) }) (record { whole = false; negative = false; size = 0 })) ≡ (t && not (is_negative (val x))) && nat_le (unsigned_abs (val x)) required
    by true = refl
    by false = refl

size_is : (x : Float) → T (is_figure x) → (figure_of x).size ≡ unsigned_abs (val x)
unfolding figure_of
size_is x h = by (is_figure x) h
  where
    by : (t : Bool) → T t → (cond {A = Figure} t (record { whole = true; negative = is_negative (val x); size = unsigned_abs (val x) }) (record { whole = false; negative = false; size = 0 })).size ≡ unsigned_abs (val x)
    by true h = refl
    by false h = absurd h

mark-is : (r : Given) → relation_text (mark_in r) ≡ mark_of (relation_in r)
unfolding relation_text mark_in
mark-is (AtMost s) = refl
mark-is (Equal s) = refl
mark-is (AtLeast s) = refl

to-true : (t : Bool) → T t → t ≡ true
to-true true h = refl
to-true false h = absurd h

module _ (r : Given) (g : ℕ) (x : Float) (p : Pack) where
  abbrev c : Constraint
  c = constraint_of r g x p

  abbrev y : Float
  y = strength_in r

  abbrev whole : Bool
  whole = whole_from p.vars p.coefs 0 p.count

  abbrev few : Bool
  few = p.finite && nat_le p.count 16

  abbrev signed : Bool
  signed = not (is_negative (val y))

  -- what both tests come to
  record Facts : Type 0 where
    little : T few
    wholes : T whole
    constant : T (is_figure x)
    strong : T (is_figure y)
    above : T signed
    can : Says c

  facts-make : Facts → T (numbers_in r x p) × T (sayable c)
  unfolding numbers_in
  facts-make f = (
    and_both few (whole && (is_figure x && (is_figure y && signed))) f.little (and_both whole (is_figure x && (is_figure y && signed)) f.wholes (and_both (is_figure x) (is_figure y && signed) f.constant (and_both (is_figure y) signed f.strong f.above))),
    said c f.can,
  )

  facts-of : T (numbers_in r x p) → T (sayable c) → Facts
  unfolding numbers_in
  facts-of n h =
      let a = both few (whole && (is_figure x && (is_figure y && signed))) n in
      let b = both whole (is_figure x && (is_figure y && signed)) a.1 in
      let d = both (is_figure x) (is_figure y && signed) b.1 in
      let e = both (is_figure y) signed d.1 in
      record { little = a.0; wholes = b.0; constant = d.0; strong = e.0; above = e.1; can = says c h }

  abbrev tested : Bool
  tested = said_in p (figure_of x) (figure_of y) g

  abbrev terms : Bool
  terms = all_up_to p.vars p.coefs p.count p.count

  abbrev rest : Bool
  rest = ((terms && number_said (figure_of x)) && strength_said (figure_of y)) && is_group g

  said_facts : T tested → Facts
  unfolding said_in constraint_of
  said_facts t = by few refl t
    where
      by : (b : Bool) → few ≡ b → T (cond b rest false) → Facts
      by false e t = absurd t
      by true e t =
          let a = both ((terms && number_said (figure_of x)) && strength_said (figure_of y)) (is_group g) t in
          let b = both (terms && number_said (figure_of x)) (strength_said (figure_of y)) a.0 in
          let d = both terms (number_said (figure_of x)) b.0 in
          let list = tab (term_at p.vars p.coefs) 0 p.count in
          let w = both whole (ascends list && terms_said list) (subst T (all_said p.vars p.coefs p.count) d.0) in
          let o = both (ascends list) (terms_said list) w.1 in
          let k = both (is_figure x) (nat_le (unsigned_abs (val x)) most) (subst T (number-said x) d.1) in
          let m = both (is_figure y && signed) (nat_le (unsigned_abs (val y)) required) (subst T (strength-said y) b.1) in
          let q = both (is_figure y) signed m.0 in
          let l = both p.finite (nat_le p.count 16) (rw e tt) in
          record {
            little = rw e tt;
            wholes = w.0;
            constant = k.0;
            strong = q.0;
            above = q.1;
            can = record { few = rw (length-tab (term_at p.vars p.coefs) 0 p.count) l.1; rising = o.0; terms = o.1; constant = k.1; strength = m.1; group = a.1 };
          }

  facts-said : Facts → T tested
  unfolding said_in constraint_of
  facts-said f =
      let list = tab (term_at p.vars p.coefs) 0 p.count in
      let h = f.can in
      let t = subst⁻¹ T (all_said p.vars p.coefs p.count) (and_both whole (ascends list && terms_said list) f.wholes (and_both (ascends list) (terms_said list) h.rising h.terms)) in
      let n = subst⁻¹ T (number-said x) (and_both (is_figure x) (nat_le (unsigned_abs (val x)) most) f.constant h.constant) in
      let s = subst⁻¹ T (strength-said y) (and_both (is_figure y && signed) (nat_le (unsigned_abs (val y)) required) (and_both (is_figure y) signed f.strong f.above) h.strength) in
      rw (to-true few f.little) (and_both ((terms && number_said (figure_of x)) && strength_said (figure_of y)) (is_group g) (and_both (terms && number_said (figure_of x)) (strength_said (figure_of y)) (and_both terms (number_said (figure_of x)) t n) s) h.group)

  -- ---- what the code answers

  abbrev text : List ℕ
  text = line_text p.vars p.coefs p.count (figure_of x) (mark_in r) (figure_of y).size g

  text-is : Facts → text ≡ plain_text c
  unfolding line_text plain_text constraint_of
  text-is f =
      let list = tab (term_at p.vars p.coefs) 0 p.count in
      let e = sum_is p.vars p.coefs p.count x f.wholes f.constant in
      sym (append_assoc (up_to p.vars p.coefs p.count) (const_text (figure_of x) (p.count == 0)) (relation_text (mark_in r) ++ ((48 ∷ []) ++ ending_text (figure_of y).size g)))
      ∙ (ap (λ (w : List ℕ). w ++ (relation_text (mark_in r) ++ (48 ∷ ending_text (figure_of y).size g))) e
      ∙ ap₂ (λ (m : List ℕ) (n : ℕ). sum_text (val x) list ++ (m ++ (48 ∷ ending_text n g))) (mark-is r) (size_is y f.strong))

  written : Facts → writes r g x p ≡ cond (nat_le (length text) room) (wrote text) (refused 32)
  unfolding writes write_line
  written f =
      let m = facts-make f in
      rw (to-true (numbers_in r x p) m.0, to-true (sayable c) m.1, text-is f)

  pub not-said : tested ≡ false → writes r g x p ≡ refused 36
  unfolding writes write_line
  not-said e = by (numbers_in r x p) (sayable c) refl refl
    where
      by : (a b : Bool) → numbers_in r x p ≡ a → sayable c ≡ b → cond a (cond b (cond (nat_le (length (plain_text c)) room) (wrote (plain_text c)) (refused 32)) (refused 36)) (refused 36) ≡ refused 36
      by false b u v = refl
      by true false u v = refl
      by true true u v = absurd (subst T e (facts-said (facts-of (rw u tt) (rw v tt))))

  -- an empty buffer holds the empty line
  module _ (o o' z : List ℕ) (n : ℕ) (size : length o ≡ room) (clear : z ≡ replicate (length o) 0) (put : Adds z o' 0 n text) where
    empty : Holds z 0 []
    unfolding padded
    empty = fits (omega arith) refl (clear ∙ ap (λ (k : ℕ). replicate k 0) size)

    pub refuses : tested ≡ false → record { number = 36; buffer = z } ≡ called o (writes r g x p)
    unfolding called
    refuses e = rw (eq-eqb (length o) room size, not-said e, clear, size)

    pub line-fits : tested ≡ true → n ≤ room → record { number = 0; buffer = o' } ≡ called o (writes r g x p)
    unfolding called
    line-fits e h = rw (eq-eqb (length o) room size, written (said_facts (rw e tt))) (by (put.adds [] empty))
      where
        by : Holds o' n text → ◌≡◌ {A = Called} (record { number = 0; buffer = o' }) (record { number = number_of (cond (nat_le (length text) room) (wrote text) (refused 32)); buffer = buffer_of (cond (nat_le (length text) room) (wrote text) (refused 32)) })
        by (fits l q w) = rw (le-leb (length text) room l, w)
        by (passed l q w) = absurd (omega arith)

    pub line-passes : tested ≡ true → room < n → (e : List ℕ) → e ≡ replicate (length o') 0 → record { number = 32; buffer = e } ≡ called o (writes r g x p)
    unfolding called
    line-passes t h e q = rw (eq-eqb (length o) room size, written (said_facts (rw t tt))) (by (put.adds [] empty))
      where
        long : length o' ≡ room
        long = put.kept ∙ (ap length clear ∙ (length-replicate (length o) 0 ∙ size))

        by : Holds o' n text → ◌≡◌ {A = Called} (record { number = 32; buffer = e }) (record { number = number_of (cond (nat_le (length text) room) (wrote text) (refused 32)); buffer = buffer_of (cond (nat_le (length text) room) (wrote text) (refused 32)) })
        by (fits l u w) = absurd (omega arith)
        by (passed l u w) = rw (lt-leb (length text) room w, q, long)

  pub wrong_size : (o : List ℕ) → (length o ≢ room) → record { number = 18; buffer = o } ≡ called o (writes r g x p)
  unfolding called
  wrong_size o h = rw (ne_eqb (length o) room h)

-- ---- by what the code has in hand

pub said-few : (p : Pack) (c s : Figure) (g : ℕ) → said_in p c s g ≡ true → p.count ≤ 16
unfolding said_in
said-few p c s g e = by (p.finite && nat_le p.count 16) refl e
  where
    by : (t : Bool) → p.finite && nat_le p.count 16 ≡ t → cond t (((all_up_to p.vars p.coefs p.count p.count && number_said c) && strength_said s) && is_group g) false ≡ true → p.count ≤ 16
    by true q e = leb→le p.count 16 (both p.finite (nat_le p.count 16) (rw q tt)).1
    by false q e = absurd (subst T (sym e) tt)

module _ (p : Pack) (c s : Figure) (g : ℕ) where
  pub said-yes : {t : Bool} → p.finite && nat_le p.count 16 ≡ true → t ≡ all_up_to p.vars p.coefs p.count p.count → ((t && number_said c) && strength_said s) && is_group g ≡ said_in p c s g
  unfolding said_in
  said-yes e q = rw (e, q)

  pub said-no : p.finite && nat_le p.count 16 ≡ false → false ≡ said_in p c s g
  unfolding said_in
  said-no e = rw e

pub count-few : (p : Pack) → p.finite && nat_le p.count 16 ≡ true → p.count ≤ 16
count-few p e = leb→le p.count 16 (both p.finite (nat_le p.count 16) (rw e tt)).1

module _ (r : Given) (g : ℕ) (x : Float) (p : Pack) (m : ℕ) (q : Float) (c s : Figure) {t : Bool} (em : m ≡ mark_in r) (eq : q ≡ strength_in r) (ec : c ≡ figure_of x) (es : s ≡ figure_of q) (et : t ≡ said_in p c s g) where
  tested-is : t ≡ tested r g x p
  tested-is = et ∙ (ap₂ (λ (a b : Figure). said_in p a b g) ec (es ∙ ap figure_of eq))

  abbrev in_hand : List ℕ
  in_hand = line_text p.vars p.coefs p.count c m s.size g

  text_in-hand : in_hand ≡ text r g x p
  text_in-hand = rw (ec, es, eq, em)

  module _ (o z : List ℕ) (size : length o ≡ room) (clear : z ≡ replicate (length o) 0) where
    pub code-refuses : t ≡ false → called_is 36 z ≡ called o (writes r g x p)
    unfolding called
    code-refuses e = rw (eq-eqb (length o) room size, not-said r g x p (sym tested-is ∙ e), clear, size)

    module _ (o' : List ℕ) (n : ℕ) (put : Adds z o' 0 n in_hand) (yes : t ≡ true) where
      pub code-writes : n ≤ room → called_is 0 o' ≡ called o (writes r g x p)
      code-writes h = line-fits r g x p o o' z n size clear (subst (λ (w : List ℕ). Adds z o' 0 n w) text_in-hand put) (sym tested-is ∙ yes) h

      pub code-passes : room < n → (e : List ℕ) → e ≡ replicate (length o') 0 → called_is 32 e ≡ called o (writes r g x p)
      code-passes h e w = line-passes r g x p o o' z n size clear (subst (λ (w : List ℕ). Adds z o' 0 n w) text_in-hand put) (sym tested-is ∙ yes) h e w
