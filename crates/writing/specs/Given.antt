-- What a caller hands to the writer, as numbers; and what the writer answers.
use Rattle.std.specs.Prelude.{◌≡◌, ℕ, zero, suc, ◌+◌, Bool, true, false, cond, not, ◌&&◌, T, List, [], ◌++◌, ℤ, pos, negsuc, ◌==◌, nat_le, nat_lt, slice_index, slice_index_or, unsigned_abs, Float}
use Rattle.std.proofs.Math.Path.{refl, sym, ap, ap₂}
use Rattle.std.proofs.Common.{◌∙◌, ne_eqb, lt-ltb, le-ltb}
use mathlib.Core.List.{append_assoc, append-nil}
use Rattle.std.proofs.Math.Numerals.{add-one}
use Rattle.std.proofs.Math.Nat.{add-zero}
use native.Mathlib.Omega.{arith}
use Rattle.std.specs.Float.{nan}
use Rattle.laws.specs.Z.{eq_zb}
use Rattle.laws.specs.Lists.{tab}
use Rattle.grammar.specs.Sums.{Term, most, most_name}
use Rattle.grammar.specs.Pieces.{both}
use Rattle.laws.specs.exact.Whole.{val}
use Rattle.grammar.specs.plain.Decimal.{decimal}
use Rattle.grammar.specs.plain.Plain.{is_negative, first_sign, next_sign, term_text, next_text, constant_text, sum_text, below_first, ascends, term_said, terms_said}
use Rattle.writing.specs.declared.figures.Figure.{Figure}
use Rattle.writing.specs.Figures.{is_figure, figure_of}
use Rattle.writing.specs.Texts.{sign_text, figure_text, place_text, up_to, const_text}

-- ---- as the code tests them

abbrev pub ok_figure : Figure → ℕ → Bool
ok_figure f v = ((f.whole && not (f.size == 0)) && nat_le f.size most) && nat_le v most_name

abbrev pub rises_at : List ℕ → ℕ → ℕ → Bool
rises_at vs n i = cond (nat_lt (i + 1) n) (nat_lt (slice_index vs i) (slice_index vs (i + 1))) true

-- ---- the terms, by place

module _ (vs : List ℕ) (cs : List Float) where
  abbrev pub term_at : ℕ → Term
  term_at j = record { variable = slice_index vs j; coefficient = val (slice_index_or cs j nan) }

  unfoldable pub whole_from : ℕ → ℕ → Bool
  whole_from i zero = true
  whole_from i (suc k) = is_figure (slice_index_or cs i nan) && whole_from (suc i) k

  abbrev pub ok_at : ℕ → ℕ → Bool
  ok_at n i = ok_figure (figure_of (slice_index_or cs i nan)) (slice_index vs i) && rises_at vs n i

  unfoldable pub all_up_to : ℕ → ℕ → Bool
  all_up_to n zero = true
  all_up_to n (suc i) = all_up_to n i && ok_at n i

  ok_from : ℕ → ℕ → ℕ → Bool
  ok_from n i zero = true
  ok_from n i (suc k) = ok_at n i && ok_from n (suc i) k

and-true : (b : Bool) → b && true ≡ b
and-true true = refl
and-true false = refl

and_assoc : (a b c : Bool) → (a && b) && c ≡ a && (b && c)
and_assoc true b c = refl
and_assoc false b c = refl

shuffle : (f t r w a s : Bool) → ((f && t) && r) && (w && (a && s)) ≡ (f && w) && ((r && a) && (t && s))
shuffle false t r w a s = refl
shuffle true false r false a s = refl
shuffle true false false true a s = refl
shuffle true false true true false s = refl
shuffle true false true true true s = refl
shuffle true true false false a s = refl
shuffle true true false true a s = refl
shuffle true true true w a s = refl

abs-zero : (z : ℤ) → (unsigned_abs z == 0) ≡ eq_zb z (pos 0)
abs-zero (pos n) = refl
abs-zero (negsuc n) = ne_eqb (suc n) 0 (λ e. omega arith)

module _ (vs : List ℕ) (cs : List Float) where
  abbrev term : ℕ → Term
  term = term_at vs cs

  -- a figure that the code takes is a whole number that a line says
  figure-said : (x : Float) (v : ℕ) → ok_figure (figure_of x) v ≡ is_figure x && term_said (record { variable = v; coefficient = val x })
  unfolding figure_of
  figure-said x v = by (is_figure x)
    where
      by : (t : Bool) → ok_figure (cond t (record { whole = true; negative = is_negative (val x); size = unsigned_abs (val x) }) (record { whole = false; negative = false; size = 0 })) v
          ≡ t && (not (eq_zb (val x) (pos 0)) && (nat_le (unsigned_abs (val x)) most && nat_le v most_name))
      by true = rw (abs-zero (val x)) (and_assoc (not (eq_zb (val x) (pos 0))) (nat_le (unsigned_abs (val x)) most) (nat_le v most_name))
      by false = refl

  from_place : (n i k : ℕ) → all_up_to vs cs n (i + k) ≡ all_up_to vs cs n i && ok_from vs cs n i k
  unfolding ok_from all_up_to
  from_place n i zero = rw add-zero (sym (and-true (all_up_to vs cs n i)))
  from_place n i (suc k) =
      let e : i + suc k ≡ suc i + k = omega arith in
      ap (all_up_to vs cs n) e ∙ (from_place n (suc i) k ∙ and_assoc (all_up_to vs cs n i) (ok_at vs cs n i) (ok_from vs cs n (suc i) k))

  rises : (n i k : ℕ) → i + suc k ≡ n → rises_at vs n i ≡ below_first (slice_index vs i) (tab term (suc i) k)
  unfolding tab
  rises n i zero e = rw (le-ltb (i + 1) n (omega arith))
  rises n i (suc k) e = rw (lt-ltb (i + 1) n (omega arith), add-one i)

  terms-said : (n i k : ℕ) → i + k ≡ n → ok_from vs cs n i k ≡ whole_from vs cs i k && (ascends (tab term i k) && terms_said (tab term i k))
  unfolding ok_from whole_from ascends terms_said tab
  terms-said n i zero e = refl
  terms-said n i (suc k) e =
      rw (figure-said (slice_index_or cs i nan) (slice_index vs i), rises n i k e, terms-said n (suc i) k (omega arith))
      (shuffle (is_figure (slice_index_or cs i nan)) (term_said (term i)) (below_first (slice_index vs i) (tab term (suc i) k)) (whole_from vs cs (suc i) k) (ascends (tab term (suc i) k)) (terms_said (tab term (suc i) k)))

  pub all_said : (n : ℕ) → all_up_to vs cs n n ≡ whole_from vs cs 0 n && (ascends (tab term 0 n) && terms_said (tab term 0 n))
  unfolding all_up_to
  all_said n =
      let e : 0 + n ≡ n = omega arith in
      sym (ap (all_up_to vs cs n) e) ∙ (from_place n 0 n ∙ terms-said n 0 n e)

  -- one place more
  pub said-next : (n i : ℕ) {f : Figure} {ok b r : Bool} → ok ≡ all_up_to vs cs n i → f ≡ figure_of (slice_index_or cs i nan) → b ≡ ok_figure f (slice_index vs i) → r ≡ rises_at vs n i → ok && (b && r) ≡ all_up_to vs cs n (i + 1)
  unfolding all_up_to
  said-next n i a f b r = rw (add-one i, a, b, r, f)

  -- ---- their text

  rest : ℕ → ℕ → List ℕ
  rest i zero = []
  rest i (suc k) = place_text vs cs i ++ rest (suc i) k

  rest_from : (i k : ℕ) → up_to vs cs (i + k) ≡ up_to vs cs i ++ rest i k
  unfolding rest up_to
  rest_from i zero = rw add-zero (sym (append-nil (up_to vs cs i)))
  rest_from i (suc k) =
      let e : i + suc k ≡ suc i + k = omega arith in
      ap (up_to vs cs) e ∙ (rest_from (suc i) k ∙ append_assoc (up_to vs cs i) (place_text vs cs i) (rest (suc i) k))

  place_is : (i : ℕ) → T (is_figure (slice_index_or cs i nan)) → place_text vs cs i ≡ sign_text (is_negative (term i).coefficient) (i == 0) ++ term_text (term i)
  unfolding place_text figure_of figure_text
  place_is i h = by (is_figure (slice_index_or cs i nan)) h
    where
      by : (t : Bool) → T t → figure_text (cond t (record { whole = true; negative = is_negative (val (slice_index_or cs i nan)); size = unsigned_abs (val (slice_index_or cs i nan)) }) (record { whole = false; negative = false; size = 0 })) (slice_index vs i) (i == 0)
          ≡ sign_text (is_negative (val (slice_index_or cs i nan))) (i == 0) ++ term_text (term i)
      by true h = refl
      by false h = absurd h

  rest-is : (i k : ℕ) → T (whole_from vs cs (suc i) k) → rest (suc i) k ≡ next_text (tab term (suc i) k)
  unfolding rest next_text tab whole_from sign_text
  rest-is i zero h = refl
  rest-is i (suc k) h =
      let g = both (is_figure (slice_index_or cs (suc i) nan)) (whole_from vs cs (suc (suc i)) k) h in
      ap₂ (λ (x y : List ℕ). x ++ y) (place_is (suc i) g.0 ∙ ap (λ (b : Bool). sign_text (is_negative (term (suc i)).coefficient) b ++ term_text (term (suc i))) (ne_eqb (suc i) 0 (λ e. omega arith))) (rest-is (suc i) k g.1)
      ∙ append_assoc (next_sign (term (suc i)).coefficient) (term_text (term (suc i))) (next_text (tab term (suc (suc i)) k))

  constant-is : (x : Float) (b : Bool) → T (is_figure x) → const_text (figure_of x) b ≡ cond b (first_sign (val x) ++ decimal (unsigned_abs (val x))) (constant_text (val x))
  unfolding const_text figure_of sign_text
  constant-is x b h = by (is_figure x) h b
    where
      by : (t : Bool) → T t → (b : Bool) → const_text (cond t (record { whole = true; negative = is_negative (val x); size = unsigned_abs (val x) }) (record { whole = false; negative = false; size = 0 })) b
          ≡ cond b (first_sign (val x) ++ decimal (unsigned_abs (val x))) (constant_text (val x))
      by false h b = absurd h
      by true h true = refl
      by true h false = rw (abs-zero (val x))

  -- the terms and the constant
  pub sum_is : (n : ℕ) (x : Float) → T (whole_from vs cs 0 n) → T (is_figure x) → up_to vs cs n ++ const_text (figure_of x) (n == 0) ≡ sum_text (val x) (tab term 0 n)
  unfolding up_to tab whole_from sign_text
  sum_is zero x w h = constant-is x true h
  sum_is (suc k) x w h =
      let g = both (is_figure (slice_index_or cs 0 nan)) (whole_from vs cs 1 k) w in
      let e : suc k ≡ 1 + k = omega arith in
      let terms : up_to vs cs (suc k) ≡ (first_sign (term 0).coefficient ++ term_text (term 0)) ++ next_text (tab term 1 k)
      = ap (up_to vs cs) e ∙ (rest_from 1 k ∙ ap₂ (λ (p q : List ℕ). p ++ q) (place_is 0 g.0) (rest-is 0 k g.1)) in
      let c : const_text (figure_of x) (suc k == 0) ≡ constant_text (val x) = ap (const_text (figure_of x)) (ne_eqb (suc k) 0 (λ z. omega arith)) ∙ constant-is x false h in
      ap₂ (λ (p q : List ℕ). p ++ q) terms c ∙ by (first_sign (term 0).coefficient) (term_text (term 0)) (next_text (tab term 1 k)) (constant_text (val x))
    where
      by : (p q r t : List ℕ) → ((p ++ q) ++ r) ++ t ≡ p ++ (q ++ (r ++ t))
      by p q r t = simp append_assoc
