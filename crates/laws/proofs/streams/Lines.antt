-- However a stream's bytes are cut into pieces, its lines are the same; bytes without a newline are held while they keep to the limit.
use Rattle.std.specs.Prelude.{ℕ, ◌+◌, ◌≤◌, ◌<◌, ◌≡◌, Bool, eqb, leb, ltb}
use Rattle.std.proofs.Math.Path.{refl, ap}
use Rattle.std.proofs.Common.{◌∙◌, arith, ltb-true, ltb-false, lt-ltb, le-ltb, le-leb}
use Rattle.std.proofs.Math.Bool.{true, false, cond}
use mathlib.Core.List.{List, [], ◌∷◌, ◌++◌, append_assoc}
use Rattle.std.proofs.Math.Option.{Option, none, some}
use Rattle.std.proofs.lemmas.Bool.{lt-leb}
use Rattle.std.proofs.Math.ListN.{length, length-append}
use Rattle.laws.specs.streams.Lines.{grown, Cut, before, cut_from, Unbroken, within}

-- ---- However the bytes are cut into pieces, the lines are the same.

module _ (limit : ℕ) where
  abbrev cut : Option (List ℕ) → List ℕ → Cut
  cut = cut_from limit

  pub pieces : (h : Option (List ℕ)) (a b : List ℕ) → cut_from limit h (a ++ b) ≡ before (cut_from limit h a).lines (cut_from limit (cut_from limit h a).left b)
  unfolding cut_from
  pieces h [] b = refl
  pieces h (x ∷ a) b = test (eqb x 10) (pieces (some []) a b) (pieces (grown limit h x) a b)
    where
      test : (t : Bool)
          → cut (some []) (a ++ b) ≡ before (cut (some []) a).lines (cut (cut (some []) a).left b)
          → cut (grown limit h x) (a ++ b) ≡ before (cut (grown limit h x) a).lines (cut (cut (grown limit h x) a).left b)
          → cond t (before (h ∷ []) (cut (some []) (a ++ b))) (cut (grown limit h x) (a ++ b)) ≡ before (cond t (before (h ∷ []) (cut (some []) a)) (cut (grown limit h x) a)).lines (cut (cond t (before (h ∷ []) (cut (some []) a)) (cut (grown limit h x) a)).left b)
      test true p q = ap (before (h ∷ [])) p
      test false p q = q

-- ---- A line's bytes, none of them a newline: it is held if it keeps to the limit, and else it is too long.

module _ (limit : ℕ) where
  grown-within : (w : List ℕ) (b : ℕ) → grown limit (within limit w) b ≡ within limit (w ++ (b ∷ []))
  unfolding grown
  grown-within w b = test (ltb (length w) limit) (ltb-true (length w) limit) (ltb-false (length w) limit)
    where
      e : length (w ++ (b ∷ [])) ≡ length w + 1
      e = length-append w (b ∷ [])

      test : (t : Bool) → (t ≡ true → length w < limit) → (t ≡ false → limit ≤ length w) → grown limit (within limit w) b ≡ within limit (w ++ (b ∷ []))
      test true k l = let m : length w < limit = k refl in rw (le-leb (length w) limit (omega arith), lt-ltb (length w) limit m, e, le-leb (length w + 1) limit (omega arith))
      test false k l = over (leb (length w) limit) (l refl)
        where
          over : (u : Bool) → limit ≤ length w → grown limit (cond u (some w) none) b ≡ within limit (w ++ (b ∷ []))
          over true m = rw (le-ltb (length w) limit m, e, lt-leb (length w + 1) limit (omega arith))
          over false m = rw (e, lt-leb (length w + 1) limit (omega arith))

  pub begun : (w s : List ℕ) → Unbroken s → cut_from limit (within limit w) s ≡ record { lines = []; left = within limit (w ++ s) }
  unfolding cut_from
  begun w [] u = rw (nil w)
    where
      nil : (w : List ℕ) → w ++ [] ≡ w
      nil [] = refl
      nil (b ∷ w) = ap (◌∷◌ b) (nil w)
  begun w (b ∷ s) u = rw (u.0, grown-within w b) (begun (w ++ (b ∷ [])) s u.1 ∙ rw (append_assoc w (b ∷ []) s))
