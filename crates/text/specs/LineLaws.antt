-- The loop that reads the terms of an add: a turn, the ways out, and the end.
use Rattle.std.specs.Prelude.{◌≡◌, ℕ, suc, ◌+◌, ◌<◌, ◌≤◌, List, [], length, drop, refl, Float, Option, Some, None}
use Rattle.std.proofs.Math.Path.{sym}
use Rattle.std.proofs.Common.{ap, ◌∙◌, arith, drop_of_length-le, drop-cons}
use Rattle.steps.specs.State.{Term}
use Rattle.changes.specs.declared.terms.Pack.{Pack}
use Rattle.text.specs.Words.{word}
use Rattle.text.specs.Floats.{id_of, float_of}
use Rattle.text.specs.Format.{term_then, terms_of}
use Rattle.changes.specs.terms.Terms.{pushed, pack_from}
use Rattle.text.specs.Lines.{packed_from}

-- the two words of a term, and those after it
pair : (ws : List (List ℕ)) (i j k : ℕ) → j ≡ i + 1 → k ≡ i + 2 → j < length ws → terms_of (drop i ws) ≡ term_then (id_of (word ws i)) (float_of (word ws j)) (terms_of (drop k ws))
unfolding terms_of
pair ws i j k p q h =
    let p' : j ≡ suc i = omega arith in
    let q' : k ≡ suc (suc i) = omega arith in
    let h' : suc i < length ws = omega arith in
    rw (p', q', drop-cons ws i [] (omega arith), drop-cons ws (suc i) [] h')

-- a term that was read is pushed
one_more : (t : Pack) (v : ℕ) (x : Float) (o : Option (List Term)) → packed_from t (term_then (Some v) (Some x) o) ≡ packed_from (pushed t record { variable = v; coefficient = x }) o
unfolding packed_from pack_from
one_more t v x None = refl
one_more t v x (Some ts) = refl

module _ (ws : List (List ℕ)) (i j k : ℕ) (p : j ≡ i + 1) (q : k ≡ i + 2) (h : j < length ws) (t : Pack) {z : Option Pack} (left : packed_from t (terms_of (drop i ws)) ≡ z) where
  pub terms-next : {v : ℕ} {x : Float} → id_of (word ws i) ≡ Some v → float_of (word ws j) ≡ Some x → packed_from (pushed t record { variable = v; coefficient = x }) (terms_of (drop k ws)) ≡ z
  terms-next {v} {x} e f = sym (one_more t v x (terms_of (drop k ws))) ∙ sym (ap (packed_from t) (rw (e, f) at (pair ws i j k p q h))) ∙ left

  pub terms-no-id : id_of (word ws i) ≡ None → None ≡ z
  unfolding packed_from
  terms-no-id e = sym (ap (packed_from t) (rw e at (pair ws i j k p q h))) ∙ left

  pub terms-no-real : {v : ℕ} → id_of (word ws i) ≡ Some v → float_of (word ws j) ≡ None → None ≡ z
  unfolding packed_from
  terms-no-real e f = sym (ap (packed_from t) (rw (e, f) at (pair ws i j k p q h))) ∙ left

pub terms-last : (ws : List (List ℕ)) (i : ℕ) (t : Pack) {z : Option Pack} → length ws ≤ i → packed_from t (terms_of (drop i ws)) ≡ z → Some t ≡ z
unfolding packed_from pack_from terms_of
terms-last ws i t h r = rw (drop_of_length-le ws h) at r
