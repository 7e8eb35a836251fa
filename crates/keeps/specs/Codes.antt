-- Symbols as numbers: a code is of one symbol only, and the codes of the live symbols are counted. Assumes nothing.
use Rattle.std.specs.Prelude.{◌≡◌, refl, ◌⊎◌, List, [], ◌∷◌, ◌++◌, map, true, false, ℕ, suc, ◌+◌, ◌*◌, ◌≤◌, ◌<◌, eqb}
use Rattle.std.proofs.Common.{ap, inl, inr, arith}
use Rattle.steps.specs.Symbol.{Kind, External, Slack, Error, Dummy, Symbol, is_symbol, delete_symbol}
use Rattle.steps.specs.Readable.{kind_code, code}
use Rattle.keeps.specs.Lists.{Same?, is, isnt, same, same?, times, Up}
use Rattle.keeps.specs.Along.{ids, Mem}

kind-code : (i j : ℕ) (k l : Kind) → i * 4 + kind_code k ≡ j * 4 + kind_code l → (i ≡ j) × (k ≡ l)
unfolding kind_code
kind-code i j External External e = (omega arith, refl)
kind-code i j External Slack e = absurd (omega arith)
kind-code i j External Error e = absurd (omega arith)
kind-code i j External Dummy e = absurd (omega arith)
kind-code i j Slack External e = absurd (omega arith)
kind-code i j Slack Slack e = (omega arith, refl)
kind-code i j Slack Error e = absurd (omega arith)
kind-code i j Slack Dummy e = absurd (omega arith)
kind-code i j Error External e = absurd (omega arith)
kind-code i j Error Slack e = absurd (omega arith)
kind-code i j Error Error e = (omega arith, refl)
kind-code i j Error Dummy e = absurd (omega arith)
kind-code i j Dummy External e = absurd (omega arith)
kind-code i j Dummy Slack e = absurd (omega arith)
kind-code i j Dummy Error e = absurd (omega arith)
kind-code i j Dummy Dummy e = (omega arith, refl)

pub code-injective : (a b : Symbol) → code a ≡ code b → a ≡ b
unfolding code
code-injective a b e = let (p, q) = kind-code a.id b.id a.kind b.kind e in λ t. record { id = p t; kind = q t }

abbrev pub codes : List Symbol → List ℕ
codes xs = map code xs

pub codes-mem : (s : Symbol) (xs : List Symbol) → 1 ≤ times (code s) (codes xs) → Mem s xs
unfolding times
codes-mem s [] h = absurd (omega arith)
codes-mem s (x ∷ xs) h = go (same? (code s) (code x)) (codes-mem s xs)
  where
    go : Same? (code s) (code x) → (1 ≤ times (code s) (codes xs) → Mem s xs) → (s ≡ x) ⊎ Mem s xs
    go (is a b c) ih = inl (code-injective s x b)
    go (isnt a b c) ih = inr (ih (omega arith))

pub mem-codes : (s : Symbol) (xs : List Symbol) → Mem s xs → 1 ≤ times (code s) (codes xs)
unfolding times
mem-codes s [] h = absurd h
mem-codes s (x ∷ xs) (inl e) = go (same? (code s) (code x))
  where
    go : Same? (code s) (code x) → 1 ≤ same (code s) (code x) + times (code s) (codes xs)
    go (is a b c) = omega arith
    go (isnt a b c) = absurd (b (ap code e))
mem-codes s (x ∷ xs) (inr h) = omega (arith, mem-codes s xs h)

pub mem-ids : (s : Symbol) (xs : List Symbol) → Mem s xs → 1 ≤ times s.id (ids xs)
unfolding times
mem-ids s [] h = absurd h
mem-ids s (x ∷ xs) (inl e) = go (same? s.id x.id)
  where
    go : Same? s.id x.id → 1 ≤ same s.id x.id + times s.id (ids xs)
    go (is a b c) = omega arith
    go (isnt a b c) = absurd (b (ap (λ (z : Symbol). z.id) e))
mem-ids s (x ∷ xs) (inr h) = omega (arith, mem-ids s xs h)

-- ---- ascending ids: each code once
above-none : (i : ℕ) (s : Symbol) (xs : List Symbol) → s.id < i → Up i (ids xs) → times (code s) (codes xs) ≡ 0
unfolding times
above-none i s [] l u = refl
above-none i s (x ∷ xs) l u = go (same? (code s) (code x)) (above-none (suc x.id) s xs (omega (arith, u.0)) u.1)
  where
    go : Same? (code s) (code x) → times (code s) (codes xs) ≡ 0 → same (code s) (code x) + times (code s) (codes xs) ≡ 0
    go (is a b c) ih = absurd (omega (arith, u.0, ap (λ (z : Symbol). z.id) (code-injective s x b)))
    go (isnt a b c) ih = omega arith

pub codes-once : (i n : ℕ) (xs : List Symbol) → Up i (ids xs) → times n (codes xs) ≤ 1
unfolding times
codes-once i n [] u = omega arith
codes-once i n (x ∷ xs) u = go (same? n (code x)) (codes-once (suc x.id) n xs u.1)
  where
    go : Same? n (code x) → times n (codes xs) ≤ 1 → same n (code x) + times n (codes xs) ≤ 1
    go (is a b c) ih = let z : times n (codes xs) ≡ 0 = rw b (above-none (suc x.id) x xs (omega arith) u.1) in omega arith
    go (isnt a b c) ih = omega arith

-- ---- a symbol more, a symbol less
pub codes-append : (n : ℕ) (xs : List Symbol) (s : Symbol) → times n (codes (xs ++ (s ∷ []))) ≡ same n (code s) + times n (codes xs)
unfolding times
codes-append n [] s = refl
codes-append n (x ∷ xs) s = omega (arith, codes-append n xs s)

pub codes-delete : (n i : ℕ) (s : Symbol) (xs : List Symbol) → Up i (ids xs) → Mem s xs → same n (code s) + times n (codes (delete_symbol s.id xs)) ≡ times n (codes xs)
unfolding times delete_symbol is_symbol
codes-delete n i s [] u m = absurd m
codes-delete n i s (x ∷ xs) u (inl e) = go (same? s.id x.id)
  where
    go : Same? s.id x.id
        → same n (code s) + times n (codes (elim (eqb s.id x.id) [ true ↦ xs | false ↦ x ∷ delete_symbol s.id xs ])) ≡ same n (code x) + times n (codes xs)
    go (is a b c) = rw (a, e)
    go (isnt a b c) = absurd (b (ap (λ (z : Symbol). z.id) e))
codes-delete n i s (x ∷ xs) u (inr m) = go (same? s.id x.id) (codes-delete n (suc x.id) s xs u.1 m)
  where
    beyond : (k : ℕ) (xs : List Symbol) → Up k (ids xs) → Mem s xs → k ≤ s.id
    beyond k [] u m = absurd m
    beyond k (y ∷ ys) u (inl e) = omega (arith, u.0, ap (λ (z : Symbol). z.id) e)
    beyond k (y ∷ ys) u (inr m) = omega (arith, u.0, beyond (suc y.id) ys u.1 m)

    go : Same? s.id x.id → same n (code s) + times n (codes (delete_symbol s.id xs)) ≡ times n (codes xs)
        → same n (code s) + times n (codes (elim (eqb s.id x.id) [ true ↦ xs | false ↦ x ∷ delete_symbol s.id xs ])) ≡ same n (code x) + times n (codes xs)
    go (is a b c) ih = absurd (omega (arith, beyond (suc x.id) xs u.1 m))
    go (isnt a b c) ih = rw a (omega arith)
