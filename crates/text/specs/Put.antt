-- Text at the front of a buffer whose length is known: of what stood there the first i bytes, then the text, up to the next place j.
use Rattle.std.specs.Prelude.{◌≡◌, ℕ, ◌+◌, List, [], ◌++◌, length, take, refl}
use Rattle.std.proofs.Common.{sym, ap, subst, ◌∙◌, append_assoc, append-nil, arith, length-append}
use Rattle.text.specs.Answers.{Wrote}

pub record Put (before after : List ℕ) (i j : ℕ) (text : List ℕ) : Type 0 where
  pub next : j ≡ i + length text
  pub size : length after ≡ length before
  pub front : take j after ≡ take i before ++ text

pub put_as : {a b : List ℕ} {i j : ℕ} {s t : List ℕ} → s ≡ t → Put a b i j s → Put a b i j t
put_as {a} {b} {i} {j} e p = subst (λ (t : List ℕ). Put a b i j t) e p

pub put-none : (l : List ℕ) (i : ℕ) → Put l l i i []
put-none l i = record { next = omega arith; size = refl; front = sym (append-nil (take i l)) }

pub put_then : {a b c : List ℕ} {i j k : ℕ} {s t : List ℕ} → Put a b i j s → Put b c j k t → Put a c i k (s ++ t)
put_then {a} {b} {c} {i} {j} {k} {s} {t} p q = record {
  next = omega (arith, p.next, q.next, length-append s t);
  size = q.size ∙ p.size;
  front = q.front ∙ (ap (λ (l : List ℕ). l ++ t) p.front ∙ append_assoc (take i a) s t);
}

pub put-wrote : (a b : List ℕ) (i j : ℕ) {t : List ℕ} → Wrote a b i j t → Put a b i j t
put-wrote a b i j w = record { next = w.0; size = w.1; front = w.2 }

pub wrote-put : (a b : List ℕ) (i j : ℕ) {t : List ℕ} → Put a b i j t → Wrote a b i j t
wrote-put a b i j p = (p.next, p.size, p.front)
