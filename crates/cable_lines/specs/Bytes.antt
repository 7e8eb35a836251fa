-- The bytes that a call leaves in the lent table: one form for each line that has begun, so that equal states are equal bytes.
use Prim.Native.Nat.{ℕ, zero, suc, ◌+◌, ◌-◌, ◌≤◌, ◌<◌}
use Rattle.std.specs.Prelude.{◌≡◌, Bool, true, false, cond, eqb, leb, ltb, take, drop, replicate}
use Rattle.std.proofs.Math.Path.{refl}
use Rattle.std.proofs.Common.{sym, ap, ◌∙◌, suc-add, arith, le-leb, leb-true, ltb-true, length-append, length-take, drop-cons}
use mathlib.Core.List.{List, [], ◌∷◌, ◌++◌}
use Rattle.std.proofs.Math.Option.{Option, none, some}
use Rattle.std.proofs.Math.Numerals.{unary_clauses}
use Rattle.std.proofs.lemmas.Bool.{lt-leb}
use Rattle.std.proofs.Math.ListN.{length, get_or, set, length-set, length-drop}
use Rattle.std.proofs.Math.Seq.{get_or-set_same, drop-length, drop-drop, length-take-le}
use Rattle.laws.specs.streams.Lines.{grown}
use Rattle.cable_lines.specs.Cable.{limit, new, answer_of, further, takes}
use Rattle.cable_lines.specs.State.{held_by}

-- the line's bytes, zeros behind them, and last how many they are; of a line that is too long zeros, and 201
unfoldable pub bytes_of : Option (List ℕ) → List ℕ
bytes_of none = replicate 200 0 ++ (201 ∷ [])
bytes_of (some w) = w ++ (replicate (200 - length w) 0 ++ (length w ∷ []))

-- zeros are a new reader
pub new-zeros : bytes_of new ≡ replicate 201 0
unfolding bytes_of
new-zeros = refl

-- ---- the code clears what stands behind the line's bytes

last_byte : (s : List ℕ) → length s ≡ 201 → drop 200 s ≡ get_or s 200 0 ∷ []
last_byte s long =
    let e : drop 201 s ≡ [] = ap (λ (n : ℕ). drop n s) (sym long) ∙ drop-length s in
    drop-cons s 200 0 (omega arith) ∙ ap (λ (r : List ℕ). get_or s 200 0 ∷ r) e

module _ (s : List ℕ) (long : length s ≡ 201) where
  pub cleared-within : {ys : List ℕ} → get_or s 200 0 ≤ 200 → ys ≡ replicate (length (take (200 - get_or s 200 0) (drop (get_or s 200 0) s))) 0
      → take (get_or s 200 0) s ++ (ys ++ drop (200 - get_or s 200 0) (drop (get_or s 200 0) s)) ≡ bytes_of (held_by s)
  unfolding bytes_of
  cleared-within h q =
      let n : ℕ = get_or s 200 0 in
      let l : length (take n s) ≡ n = length-take-le n s (omega arith) in
      let k : length (take (200 - n) (drop n s)) ≡ 200 - n = length-take-le (200 - n) (drop n s) (rw length-drop (omega arith)) in
      let e : n + (200 - n) ≡ 200 = omega arith in
      rw (q, k, drop-drop (200 - n) n s, e, le-leb n 200 h, l, last_byte s long) refl

  pub cleared-over : {ys : List ℕ} → 200 < get_or s 200 0 → ys ≡ replicate (length (take 200 (set s 200 201))) 0 → ys ++ drop 200 (set s 200 201) ≡ bytes_of (held_by s)
  unfolding bytes_of
  cleared-over h q =
      let t : List ℕ = set s 200 201 in
      let l : length t ≡ 201 = length-set s 200 201 ∙ long in
      let k : length (take 200 t) ≡ 200 = length-take-le 200 t (omega arith) in
      let g : get_or t 200 0 ≡ 201 = get_or-set_same s 200 201 0 (omega arith) in
      rw (q, k, lt-leb (get_or s 200 0) 200 h, last_byte t l, g) refl

-- ---- a call reads what the call before it left

abbrev pub Within : Option (List ℕ) → Type 0
Within none = Unit {0}
Within (some w) = length w ≤ limit

pub held-within : (s : List ℕ) → Within (held_by s)
held-within s = test (leb (get_or s 200 0) 200) refl
  where
    test : (t : Bool) → leb (get_or s 200 0) 200 ≡ t → Within (cond t (some (take (get_or s 200 0) s)) none)
    test true e = omega (arith, length-take (get_or s 200 0) s, leb-true (get_or s 200 0) 200 e)
    test false e = tt

grown-within : (h : Option (List ℕ)) (b : ℕ) → Within h → Within (grown limit h b)
unfolding grown
grown-within none b h = tt
grown-within (some w) b h = test (ltb (length w) limit) refl
  where
    test : (t : Bool) → ltb (length w) limit ≡ t → Within (cond t (some (w ++ (b ∷ []))) none)
    test true e = omega (arith, length-append w (b ∷ []), ltb-true (length w) limit e)
    test false e = tt

pub takes-within : (h : Option (List ℕ)) (s : List ℕ) → Within h → Within (takes h s).left
unfolding takes
takes-within h [] k = k
takes-within h (b ∷ s) k = test (eqb b 10) (takes-within (grown limit h b) s (grown-within h b k))
  where
    test : (t : Bool) → Within (takes (grown limit h b) s).left → Within (cond t (record { answer = some (answer_of h); taken = 1; left = new }) (further (takes (grown limit h b) s))).left
    test true f = omega arith
    test false f = f

last-at : (w : List ℕ) (k x : ℕ) → get_or (w ++ (replicate k 0 ++ (x ∷ []))) (length w + k) 0 ≡ x
last-at [] zero x = refl
last-at [] (suc k) x = simp unary_clauses (last-at [] k x)
last-at (b ∷ w) k x = rw suc-add (last-at w k x)

front_at : (w l : List ℕ) → take (length w) (w ++ l) ≡ w
front_at [] l = refl
front_at (b ∷ w) l = ap (λ (r : List ℕ). b ∷ r) (front_at w l)

pub held_back : (h : Option (List ℕ)) → Within h → held_by (bytes_of h) ≡ h
unfolding bytes_of
held_back none k = refl
held_back (some w) k =
    let e : length w + (200 - length w) ≡ 200 = omega arith in
    let g : get_or (w ++ (replicate (200 - length w) 0 ++ (length w ∷ []))) 200 0 ≡ length w = rw e at (last-at w (200 - length w) (length w)) in
    rw (g, le-leb (length w) 200 k, front_at w (replicate (200 - length w) 0 ++ (length w ∷ []))) refl
