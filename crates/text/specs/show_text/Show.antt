-- "`show C`: `REL STRENGTH GROUP CONSTANT N V1 K1 ...` or `no 5`": which constraint a line asks for, and the text of what is shown.
use Rattle.std.specs.Prelude.{◌≡◌, ℕ, zero, suc, ◌+◌, ◌*◌, ◌<◌, ◌≤◌, cond, List, [], ◌∷◌, ◌++◌, map, length, ◌==◌, slice_index, slice_index_or, to_bits, refl, Float, Option, None}
use Rattle.std.proofs.Common.{sym, ◌∙◌, add-one, arith, length-append}
use Rattle.std.proofs.Math.Path.{ap}
use mathlib.Core.List.{append_assoc, append-nil}
use Rattle.std.specs.Float.{nan, binary64}
use Rattle.std.proofs.lemmas.List.{length-map}
use Rattle.std.proofs.Math.ListN.{get_or-append, get_or-map}
use Rattle.laws.specs.Lists.{tab, list_of, list_of-is}
use Rattle.rows.specs.choose.Walk.{tab-snoc}
use Rattle.steps.specs.State.{Term, Relation, at_most, equal, at_least, strength_of, comparison_of}
use Rattle.layout.specs.Layout.{comparison_code}
use Rattle.text.specs.Digits.{same_bytes}
use Rattle.text.specs.Floats.{id_of}
use Rattle.text.specs.Names.{le_name, eq_name, ge_name}
use Rattle.text.specs.Words.{word}
use Rattle.text.specs.Answers.{number_text, float_text, decimal-short, hex-length}

-- `show`
abbrev pub show_name : List ℕ
show_name = 115 ∷ 104 ∷ 111 ∷ 119 ∷ []

-- two words, the second a constraint's number
unfoldable pub asks_for : List (List ℕ) → Option ℕ
asks_for ws = cond (length ws == 2) (cond (same_bytes (word ws 0) show_name) (id_of (word ws 1)) None) None

-- ---- the answer, part by part: each with the space before it

abbrev pub number_after : ℕ → List ℕ
number_after n = (32 ∷ []) ++ number_text n

-- "floats .. as `0x` and 16 hexadecimal digits"
abbrev pub float_after : Float → List ℕ
float_after x = (32 ∷ []) ++ ((48 ∷ 120 ∷ []) ++ float_text x)

abbrev pub term_text : ℕ → Float → List ℕ
term_text v k = number_after v ++ float_after k

unfoldable pub terms_text : List Term → List ℕ
terms_text [] = []
terms_text (t ∷ ts) = term_text t.variable t.coefficient ++ terms_text ts

-- "REL is le, eq or ge"
abbrev pub relation_text : Relation → List ℕ
relation_text (at_most s) = le_name
relation_text (equal s) = eq_name
relation_text (at_least s) = ge_name

-- of the group, the terms, the constant and the relation
unfoldable pub given_text : ℕ → List Term → Float → Relation → List ℕ
given_text g ts k r = relation_text r ++ (float_after (strength_of r) ++ (number_after g ++ (float_after k ++ (number_after (length ts) ++ terms_text ts))))

-- `no NUMBER`
unfoldable pub no_text : ℕ → List ℕ
no_text n = (110 ∷ 111 ∷ []) ++ number_after n

-- ---- the same of the places in which a constraint is lent

-- 0 is at most, 1 equal, 2 at least
abbrev pub kind_text : ℕ → List ℕ
kind_text kind = cond (kind == 0) le_name (cond (kind == 1) eq_name ge_name)

abbrev pub head_text : List ℕ → List Float → List ℕ
head_text w x = kind_text (slice_index w 3) ++ (float_after (slice_index_or x 1 nan) ++ (number_after (slice_index w 5) ++ (float_after (slice_index_or x 0 nan) ++ number_after (slice_index w 4))))

unfoldable pub terms_in : ℕ → List ℕ → List Float → List ℕ
terms_in zero v k = []
terms_in (suc n) v k = terms_in n v k ++ term_text (slice_index v n) (slice_index_or k n nan)

abbrev pub line_text : List ℕ → List Float → List ℕ → List Float → List ℕ
line_text w x v k = head_text w x ++ terms_in (slice_index w 4) v k

unfoldable pub shown_text : List ℕ → List Float → List ℕ → List Float → List ℕ
shown_text w x v k = cond (slice_index w 1 == 0) (line_text w x v k) (no_text (slice_index w 1))

pub terms-next : (n : ℕ) (v : List ℕ) (k : List Float) → terms_in (n + 1) v k ≡ terms_in n v k ++ term_text (slice_index v n) (slice_index_or k n nan)
unfolding terms_in
terms-next n v k = rw add-one

-- ---- no answer is long

pub number_short : (n : ℕ) → length (number_text n) ≤ 20
number_short n = decimal-short 20 n

pub float-length : (x : Float) → length (float_text x) ≡ 16
float-length x = hex-length 16 (to_bits binary64 x)

pub no_short : (n : ℕ) → length (no_text n) ≤ 23
unfolding no_text
no_short n = omega (arith, number_short n)

terms-short : (ts : List Term) → length (terms_text ts) ≤ 40 * length ts
unfolding terms_text
terms-short [] = omega arith
terms-short (t ∷ ts) =
    let h = terms-short ts in
    let k : length (term_text t.variable t.coefficient) ≤ 40 = simp length-append (omega (arith, number_short t.variable, float-length t.coefficient)) in
    let e = length-append (term_text t.variable t.coefficient) (terms_text ts) in
    omega (arith, h, k, e)

relation-short : (r : Relation) → length (relation_text r) ≤ 2
relation-short (at_most s) = omega arith
relation-short (equal s) = omega arith
relation-short (at_least s) = omega arith

pub given-short : (g : ℕ) (ts : List Term) (k : Float) (r : Relation) → length ts ≤ 16 → length (given_text g ts k r) ≤ 722
unfolding given_text
given-short g ts k r h =
    simp length-append (omega (arith, h, relation-short r, float-length (strength_of r), number_short g, float-length k, number_short (length ts), terms-short ts))

-- ---- places that hold a constraint say it

abbrev kind_of : Relation → ℕ
kind_of r = comparison_code (comparison_of r)

kind-text : (r : Relation) → kind_text (kind_of r) ≡ relation_text r
unfolding comparison_code comparison_of
kind-text (at_most s) = refl
kind-text (equal s) = refl
kind-text (at_least s) = refl

abbrev term_at : List ℕ → List Float → ℕ → Term
term_at v k j = record { variable = slice_index v j; coefficient = slice_index_or k j nan }

terms-snoc : (ts : List Term) (t : Term) → terms_text (ts ++ (t ∷ [])) ≡ terms_text ts ++ term_text t.variable t.coefficient
unfolding terms_text
terms-snoc [] t = append-nil (term_text t.variable t.coefficient)
terms-snoc (u ∷ ts) t =
    ap (λ (l : List ℕ). term_text u.variable u.coefficient ++ l) (terms-snoc ts t)
    ∙ sym (append_assoc (term_text u.variable u.coefficient) (terms_text ts) (term_text t.variable t.coefficient))

terms-listed : (n : ℕ) (v : List ℕ) (k : List Float) → terms_in n v k ≡ terms_text (list_of n (term_at v k))
unfolding terms_in terms_text list_of tab
terms-listed zero v k = refl
terms-listed (suc n) v k =
    let e : 0 + n ≡ n = omega arith in
    ap (λ (l : List ℕ). l ++ term_text (slice_index v n) (slice_index_or k n nan)) (terms-listed n v k)
    ∙ sym (ap terms_text (tab-snoc (term_at v k) 0 n) ∙ terms-snoc (tab (term_at v k) 0 n) (term_at v k (0 + n)) ∙ rw e refl)

-- the terms at the front, whatever stands behind them
module _ (ts : List Term) (vs : List ℕ) (ks : List Float) where
  abbrev no_term : Term
  no_term = record { variable = 0; coefficient = nan }

  term-back : (j : ℕ) → j < length ts → term_at (map (λ t. t.variable) ts ++ vs) (map (λ t. t.coefficient) ts ++ ks) j ≡ slice_index_or ts j no_term
  term-back j h =
      let a : length (map (λ (t : Term). t.variable) ts) ≡ length ts = length-map ts (λ (t : Term). t.variable) in
      let b : length (map (λ (t : Term). t.coefficient) ts) ≡ length ts = length-map ts (λ (t : Term). t.coefficient) in
      rw (
        get_or-append (map (λ (t : Term). t.variable) ts) vs 0 j (omega (arith, h, a)),
        get_or-append (map (λ (t : Term). t.coefficient) ts) ks nan j (omega (arith, h, b)),
        get_or-map (λ (t : Term). t.variable) ts j no_term,
        get_or-map (λ (t : Term). t.coefficient) ts j no_term,
      )
      refl

  terms-back : terms_in (length ts) (map (λ t. t.variable) ts ++ vs) (map (λ t. t.coefficient) ts ++ ks) ≡ terms_text ts
  terms-back = terms-listed (length ts) _ _ ∙ ap terms_text (list_of-is (term_at (map (λ t. t.variable) ts ++ vs) (map (λ t. t.coefficient) ts ++ ks)) ts no_term term-back)

  pub given-shown : (g : ℕ) (k : Float) (r : Relation)
      → shown_text (0 ∷ 0 ∷ 0 ∷ kind_of r ∷ length ts ∷ g ∷ []) (k ∷ strength_of r ∷ []) (map (λ t. t.variable) ts ++ vs) (map (λ t. t.coefficient) ts ++ ks) ≡ given_text g ts k r
  unfolding shown_text given_text
  given-shown g k r = rw (kind-text r, terms-back) (assoc (relation_text r) (float_after (strength_of r)) (number_after g) (float_after k) (number_after (length ts)) (terms_text ts))
    where
      assoc : (a b c d e f : List ℕ) → (a ++ (b ++ (c ++ (d ++ e)))) ++ f ≡ a ++ (b ++ (c ++ (d ++ (e ++ f))))
      assoc a b c d e f =
          append_assoc a (b ++ (c ++ (d ++ e))) f
          ∙ ap (λ (l : List ℕ). a ++ l) (append_assoc b (c ++ (d ++ e)) f ∙ ap (λ (l : List ℕ). b ++ l) (append_assoc c (d ++ e) f ∙ ap (λ (l : List ℕ). c ++ l) (append_assoc d e f)))
