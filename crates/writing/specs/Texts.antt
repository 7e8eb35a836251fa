-- The texts that the writer's functions put, place by place.
use Rattle.std.specs.Prelude.{◌≡◌, ℕ, zero, suc, ◌+◌, Bool, true, false, cond, not, ◌&&◌, List, [], ◌∷◌, ◌++◌, ◌==◌, ◌≢◌, nat_eq, slice_index, slice_index_or, Float}
use Rattle.std.proofs.Common.{add-one, eq-eqb, ne_eqb}
use Rattle.std.specs.Float.{nan}
use Rattle.grammar.specs.plain.Decimal.{decimal}
use Rattle.grammar.specs.edition.Endings.{required}
use Rattle.grammar.specs.plain.Plain.{size_text, ending_text}
use Rattle.writing.specs.declared.figures.Figure.{Figure}
use Rattle.writing.specs.Figures.{figure_of}

unfoldable pub sign_text : Bool → Bool → List ℕ
sign_text negative first = cond negative (45 ∷ []) (cond first [] (43 ∷ []))

unfoldable pub figure_text : Figure → ℕ → Bool → List ℕ
figure_text f v first = sign_text f.negative first ++ (size_text f.size ++ ((118 ∷ []) ++ decimal v))

-- the term at a place of a pack
unfoldable pub place_text : List ℕ → List Float → ℕ → List ℕ
place_text vs cs i = figure_text (figure_of (slice_index_or cs i nan)) (slice_index vs i) (i == 0)

-- the terms before a place
unfoldable pub up_to : List ℕ → List Float → ℕ → List ℕ
up_to vs cs zero = []
up_to vs cs (suc i) = up_to vs cs i ++ place_text vs cs i

unfoldable pub const_text : Figure → Bool → List ℕ
const_text f alone = cond (not alone && f.size == 0) [] (sign_text f.negative alone ++ decimal f.size)

-- `<=`, `=`, `>=`, by the first byte
unfoldable pub relation_text : ℕ → List ℕ
relation_text m = cond (m == 61) (61 ∷ []) (m ∷ 61 ∷ [])

unfoldable pub line_text : List ℕ → List Float → ℕ → Figure → ℕ → ℕ → ℕ → List ℕ
line_text vs cs n c m s g = up_to vs cs n ++ (const_text c (n == 0) ++ (relation_text m ++ ((48 ∷ []) ++ ending_text s g)))

-- ---- by what the code has tested

module _ (t u : Bool) where
  pub sign-minus : t ≡ true → sign_text t u ≡ 45 ∷ []
  unfolding sign_text
  sign-minus e = rw e

  pub sign-none : t ≡ false → u ≡ true → sign_text t u ≡ []
  unfolding sign_text
  sign-none e q = rw (e, q)

  pub sign-plus : t ≡ false → u ≡ false → sign_text t u ≡ 43 ∷ []
  unfolding sign_text
  sign-plus e q = rw (e, q)

pub size-one : (n : ℕ) → n ≡ 1 → size_text n ≡ []
size-one n e = rw (eq-eqb n 1 e)

pub size-more : (n : ℕ) → (n ≢ 1) → size_text n ≡ decimal n ++ (42 ∷ [])
size-more n e = rw (ne_eqb n 1 e)

module _ (f : Figure) (alone : Bool) where
  pub constant-none : not alone && (f.size == 0) ≡ true → const_text f alone ≡ []
  unfolding const_text
  constant-none e = rw e

  pub constant-some : not alone && (f.size == 0) ≡ false → const_text f alone ≡ sign_text f.negative alone ++ decimal f.size
  unfolding const_text
  constant-some e = rw e

pub mark-one : (m : ℕ) → m ≡ 61 → relation_text m ≡ 61 ∷ []
unfolding relation_text
mark-one m e = rw (eq-eqb m 61 e)

pub mark-two : (m : ℕ) → (m ≢ 61) → relation_text m ≡ (m ∷ []) ++ (61 ∷ [])
unfolding relation_text
mark-two m e = rw (ne_eqb m 61 e)

module _ (n g : ℕ) where
  pub ending-none : nat_eq n required && (g == 1) ≡ true → ending_text n g ≡ []
  ending-none e = rw e

  pub ending-some : nat_eq n required && (g == 1) ≡ false → ending_text n g ≡ (64 ∷ []) ++ (decimal n ++ ((44 ∷ []) ++ decimal g))
  ending-some e = rw e

pub next_place : (vs : List ℕ) (cs : List Float) (i : ℕ) {f : Figure} → f ≡ figure_of (slice_index_or cs i nan) → up_to vs cs (i + 1) ≡ up_to vs cs i ++ figure_text f (slice_index vs i) (i == 0)
unfolding up_to place_text
next_place vs cs i e = rw (add-one, e)
