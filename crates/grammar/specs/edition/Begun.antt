-- Where the second edition's reader stands behind a line's bytes, what they can be completed to, and what its outcome says of them.
use Rattle.std.specs.Prelude.{ℕ, suc, ◌≡◌, List, ◌∷◌, ◌++◌, ◌⊎◌, T, ltb}
use Rattle.grammar.specs.Trees.{Digits, Line, spaces, line_bytes}
use Rattle.grammar.specs.Prefix.{Reached}
use Rattle.grammar.specs.edition.Endings.{Second, second_bytes}
use Rattle.grammar.specs.edition.Service.{Starts}
use Rattle.grammar.specs.edition.Steps.{Tail, opened, strong, rested, parted, grouped, State, head, tail, Found, met, found}

-- ---- behind the `@`

-- as many spaces, digits, spaces, a comma, spaces and digits as have been read
abbrev TailAt : Tail → List ℕ → Type 0
TailAt opened q = (j : ℕ) × (q ≡ spaces j)
TailAt (strong n) q = (j : ℕ) × (d : Digits) × (q ≡ spaces j ++ d.bytes)
TailAt (rested n) q = (j : ℕ) × (d : Digits) × (i : ℕ) × (q ≡ spaces j ++ (d.bytes ++ spaces i))
TailAt (parted n) q = (j : ℕ) × (d : Digits) × (i : ℕ) × (h : ℕ) × (q ≡ spaces j ++ (d.bytes ++ (spaces i ++ (44 ∷ spaces h))))
TailAt (grouped n g) q = (j : ℕ) × (d : Digits) × (i : ℕ) × (h : ℕ) × (e : Digits) × (q ≡ spaces j ++ (d.bytes ++ (spaces i ++ (44 ∷ (spaces h ++ e.bytes)))))

-- the reader is here behind the bytes p
abbrev pub Stands : State → List ℕ → Type 0
Stands (head m a s) p = Reached p m a
Stands (tail r s t) p = (l : Line) × (k : ℕ) × (q : List ℕ) × TailAt t q × (p ≡ line_bytes l ++ (spaces k ++ (64 ∷ q)))

-- ---- how it can be completed

abbrev pub Completes₂ : List ℕ → Type 0
Completes₂ p = (l : Second) × (more : List ℕ) × (p ++ more ≡ second_bytes l)

-- ---- what the reader's outcome says of the line's bytes

abbrev pub Tells₂ : List ℕ → Found → Type 0
Tells₂ w (met n at) = ((n ≡ 20) × ((l : Second) × Starts l w at)) ⊎ (T (ltb 20 n) × ((l : Second) × Starts l w (suc at)))
Tells₂ w (found r s n g) = (l : Second) × (second_bytes l ≡ w)
