-- Lists laid over stretches of a table that lie apart from each other: each is read back, and a table's own stretches change nothing. Laws that know nothing of the solver.
-- Assumes nothing.
use Prim.Native.Nat.{ℕ, zero, suc, ◌+◌, ◌≤◌, ◌<◌}
use Rattle.std.specs.Prelude.{◌≡◌}
use Rattle.std.proofs.Math.Path.{refl, sym, ap}
use Rattle.std.proofs.Common.{◌∙◌, not-suc-le-zero, le_of_suc-le-suc, zero-add, arith}
use mathlib.Core.List.{List, [], ◌∷◌}
use Rattle.std.proofs.Math.ListN.{length, get_or}
use Rattle.laws.specs.Lists.{tab, length-tab, get_or-tab, length-laid, laid_in, laid-before}
use Rattle.layout.specs.Layout.{over}
use Rattle.layout.specs.Laying.{stretch, run-same}

-- a list, and where in a table it begins
pub record Stretch (A : Type 0) : Type 0 where
  pub at : ℕ
  pub list : List A

module _ {A : Type 0} where
  abbrev pub from : ℕ → List A → Stretch A
  from a l = record { at = a; list = l }

  abbrev none : Stretch A
  none = record { at = 0; list = [] }

  -- the last one first
  unfoldable pub lay : List (Stretch A) → List A → List A
  lay [] m = m
  lay (s ∷ ss) m = over s.at s.list (lay ss m)

  -- each ends before the one that follows it in the table begins, and the last one before the place e
  abbrev pub Within : ℕ → List (Stretch A) → Type 0
  Within e [] = Unit {0}
  Within e (s ∷ ss) = (s.at + length s.list ≤ e) × Within s.at ss

  pub length_over : (a : ℕ) (l m : List A) → length (over a l m) ≡ length m
  unfolding over
  length_over a l m = length-laid (λ x _. x) a l m

  pub length-lay : (ss : List (Stretch A)) (m : List A) → length (lay ss m) ≡ length m
  unfolding lay
  length-lay [] m = refl
  length-lay (s ∷ ss) m = length_over s.at s.list (lay ss m) ∙ length-lay ss m

  ends : (e : ℕ) (ss : List (Stretch A)) → Within e ss → (i : ℕ) → i < length ss → (get_or ss i none).at + length (get_or ss i none).list ≤ e
  ends e [] w i h = absurd (not-suc-le-zero h)
  ends e (s ∷ ss) w zero h = w.0
  ends e (s ∷ ss) w (suc i) h = omega (arith, w.0, ends s.at ss w.1 i (le_of_suc-le-suc h))

  -- the j-th element of the i-th of them
  pub lay-in : (e : ℕ) (ss : List (Stretch A)) (m : List A) → Within e ss → e ≤ length m → (i j : ℕ) (d : A) → i < length ss → j < length (get_or ss i none).list → get_or (lay ss m) ((get_or ss i none).at + j) d ≡ get_or (get_or ss i none).list j d
  unfolding lay over
  lay-in e [] m w l i j d h k = absurd (not-suc-le-zero h)
  lay-in e (s ∷ ss) m w l zero j d h k = laid_in (λ x _. x) s.at s.list (lay ss m) j d d k (omega (arith, w.0, k, l, length-lay ss m))
  lay-in e (s ∷ ss) m w l (suc i) j d h k =
      let o = ends s.at ss w.1 i (le_of_suc-le-suc h) in
      laid-before (λ x _. x) s.at s.list (lay ss m) ((get_or ss i none).at + j) d (omega (arith, o, k))
      ∙ lay-in s.at ss m w.1 (omega (arith, w.0, l)) i j d (le_of_suc-le-suc h) k

  -- ---- a table's own stretches

  -- the n places of a table from a on
  abbrev pub part : A → List A → ℕ → ℕ → Stretch A
  part d m a n = from a (tab (λ j. get_or m j d) a n)

  pub over-itself : (d : A) (m : List A) (a n : ℕ) → over a (tab (λ j. get_or m j d) a n) m ≡ m
  unfolding over
  over-itself d m a n = sym (stretch d m (tab (λ j. get_or m j d) a n) a n (a + n) m refl refl) ∙ run-same d (λ i _. get_or m i d) a (a + n) m (λ j. refl)

  -- each is there already
  abbrev pub There : List (Stretch A) → List A → Type 0
  There [] m = Unit {0}
  There (s ∷ ss) m = (over s.at s.list m ≡ m) × There ss m

  pub lay-itself : (ss : List (Stretch A)) (m : List A) → There ss m → lay ss m ≡ m
  unfolding lay
  lay-itself [] m h = refl
  lay-itself (s ∷ ss) m h = ap (over s.at s.list) (lay-itself ss m h.1) ∙ h.0

  -- the first m elements of g, over a table
  unfoldable pub copied : (ℕ → A) → ℕ → List A → List A
  copied g m l = over 0 (tab g 0 m) l

  pub length-copied : (g : ℕ → A) (m : ℕ) (l : List A) → length (copied g m l) ≡ length l
  unfolding copied
  length-copied g m l = length_over 0 (tab g 0 m) l

  pub copied_at : (g : ℕ → A) (m : ℕ) (l : List A) (j : ℕ) (d : A) → j < m → m ≤ length l → get_or (copied g m l) j d ≡ g j
  unfolding copied over
  copied_at g m l j d h k =
      let n : length (tab g 0 m) ≡ m = length-tab g 0 m in
      let a : get_or (copied g m l) (0 + j) d ≡ get_or (tab g 0 m) j d = laid_in (λ x _. x) 0 (tab g 0 m) l j d d (omega (arith, h, n)) (omega (arith, h, k)) in
      (rw (zero-add j) at (a ∙ get_or-tab g 0 m j d h))

  pub copied-itself : (d : A) (m : ℕ) (l : List A) → copied (λ j. get_or l j d) m l ≡ l
  unfolding copied
  copied-itself d m l = over-itself d l 0 m
