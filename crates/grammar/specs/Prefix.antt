-- The bytes that the reader has passed begin a line of the grammar, whatever numbers and depths it refuses: what it has read is a line with one open end.
use Rattle.std.specs.Prelude.{ℕ, suc, ◌≡◌, refl, List, [], ◌∷◌, ◌++◌, T}
use Rattle.std.proofs.Math.Path.{sym}
use Rattle.std.proofs.Common.{ap, ◌∙◌, append_assoc, append-nil}
use Rattle.grammar.specs.Sums.{Relation, at_most, equal, at_least}
use Rattle.grammar.specs.Reader.{Mode, first, spaced, wanted, lettered, number, numbered, named, closed, apart, half, Around, part, sum, inside, left, right, is_read}
use Rattle.grammar.specs.Trees.{Digits, a_part, a_sum, Tree, amount, variable, multiple, negated, bracketed, single, added, subtracted, spaces, bytes_of, mark_of}

-- ---- what stands between a bracket, a relation or the line's start and the reader

-- spaces may lead, but not at the line's start
abbrev pub Leads : Around → ℕ → Type 0
Leads (part n) j = Unit {0}
Leads (sum n f) j = Unit {0}
Leads (inside f a) j = Unit {0}
Leads left j = j ≡ 0
Leads (right r) j = Unit {0}

-- a sum
abbrev pub Full : Around → List ℕ → Type 0
Full a c = (j : ℕ) × (t : Tree a_sum) × Leads a j × (c ≡ spaces j ++ bytes_of t)

-- a part makes it a sum; with spaces between; brackets do; spaces do
abbrev pub Plugs : Around → List ℕ → Type 0
Plugs a c = (u : Tree a_part) → Full a (c ++ bytes_of u)

abbrev pub Wants : Around → List ℕ → Type 0
Wants a c = (k : ℕ) (u : Tree a_part) → Full a (c ++ (spaces k ++ bytes_of u))

abbrev pub Opens : Around → List ℕ → Type 0
Opens a c = (t : Tree a_sum) (j i k : ℕ) → Full a (c ++ (40 ∷ (spaces j ++ (bytes_of t ++ (spaces i ++ (41 ∷ spaces k))))))

abbrev pub Has : Around → List ℕ → Type 0
Has a c = (k : ℕ) → Full a (c ++ spaces k)

-- a sum, and then spaces
abbrev pub Rests : Around → List ℕ → Type 0
Rests a c = (d : List ℕ) × (k : ℕ) × Full a d × (c ≡ d ++ spaces k)

abbrev pub IsLeft : Around → Type 0
IsLeft (part n) = ⊥
IsLeft (sum n f) = ⊥
IsLeft (inside f a) = ⊥
IsLeft left = Unit {0}
IsLeft (right r) = ⊥

abbrev pub half_mark : Relation → List ℕ
half_mark at_most = 60 ∷ []
half_mark equal = []
half_mark at_least = 62 ∷ []

abbrev pub At : Mode → Around → List ℕ → Type 0
At first a c = IsLeft a × (c ≡ [])
At spaced a c = IsLeft a × ((n : ℕ) × (c ≡ spaces n))
At (wanted f) a c = Wants a c
At (lettered f) a c = (d : List ℕ) × Plugs a d × (c ≡ d ++ (118 ∷ []))
At (number f v) a c = (d : List ℕ) × (n : Digits) × Plugs a d × (c ≡ d ++ n.bytes)
At (numbered f v) a c = (d : List ℕ) × (n : Digits) × (k : ℕ) × Plugs a d × (c ≡ d ++ (n.bytes ++ spaces k))
At (named f v) a c = (d : List ℕ) × (n : Digits) × Plugs a d × (c ≡ d ++ (118 ∷ n.bytes))
At closed a c = Has a c
At apart a c = Rests a c
At (half r) a c = IsLeft a × ((t : Tree a_sum) × (k : ℕ) × (c ≡ bytes_of t ++ (spaces k ++ half_mark r)))

-- ---- and what stands before that

abbrev pub Outer : Around → List ℕ → Type 0
Outer (part n) q = ⊥
Outer (sum n f) q = ⊥
Outer (inside f a) q = (p : List ℕ) × (c : List ℕ) × Outer a p × Opens a c × (q ≡ p ++ (c ++ (40 ∷ [])))
Outer left q = q ≡ []
Outer (right r) q = (t : Tree a_sum) × (k : ℕ) × (q ≡ bytes_of t ++ (spaces k ++ mark_of r))

-- the reader is at m with a around it behind the bytes p
abbrev pub Reached : List ℕ → Mode → Around → Type 0
Reached p m a = (q : List ℕ) × (c : List ℕ) × Outer a q × At m a c × (p ≡ q ++ c)

pub at-start : Reached [] first left
at-start = ([], [], refl, (tt, refl), refl)

-- ---- moves within the level

pub fresh : (a : Around) → Leads a 0 → Plugs a []
unfolding bytes_of
fresh a l u = (0, single u, l, refl)

pub fresh-wants : (a : Around) → ((k : ℕ) → Leads a k) → Wants a []
unfolding bytes_of
fresh-wants a l k u = (k, single u, l k, refl)

pub start-opens : (n : ℕ) → Opens left (spaces n)
unfolding bytes_of
start-opens n t j i k = (0, single (bracketed (record { before = n; after = j }) t (record { before = i; after = k })), refl, simp append_assoc)

pub start-minus : (n : ℕ) → Wants left (spaces n ++ (45 ∷ []))
unfolding bytes_of
start-minus n k u = (0, single (negated (record { before = n; after = k }) u), refl, simp append_assoc)

module _ (a : Around) where
  pub full_by : {x y : List ℕ} → x ≡ y → Full a x → Full a y
  full_by e h = (h.0, h.1, h.2, sym e ∙ h.3)

  module _ (c : List ℕ) where
    pub wants-plugs : Wants a c → Plugs a c
    wants-plugs h u = h 0 u

    pub plugs-opens : Plugs a c → Opens a c
    unfolding bytes_of
    plugs-opens h t j i k = h (bracketed (record { before = 0; after = j }) t (record { before = i; after = k }))

    pub more-space : Wants a c → Wants a (c ++ (32 ∷ []))
    more-space h k u = full_by (sym (append_assoc c (32 ∷ []) (spaces k ++ bytes_of u))) (h (suc k) u)

    pub minus-first : Plugs a c → Wants a (c ++ (45 ∷ []))
    unfolding bytes_of
    minus-first h k u = full_by (sym (append_assoc c (45 ∷ []) (spaces k ++ bytes_of u))) (h (negated (record { before = 0; after = k }) u))

    pub star-next : (d : List ℕ) (n : Digits) (k : ℕ) → Plugs a d → c ≡ d ++ (n.bytes ++ spaces k) → Wants a (c ++ (42 ∷ []))
    unfolding bytes_of
    star-next d n k h e i u = full_by (rw e (simp append_assoc)) (h (multiple n (record { before = k; after = i }) u))

    pub plus-next : Rests a c → Wants a (c ++ (43 ∷ []))
    unfolding bytes_of
    plus-next r i u =
        let t = r.2 in
        (t.0, added t.1 (record { before = r.1; after = i }) u, t.2, rw (r.3, t.3) (simp append_assoc))

    pub minus-next : Rests a c → Wants a (c ++ (45 ∷ []))
    unfolding bytes_of
    minus-next r i u =
        let t = r.2 in
        (t.0, subtracted t.1 (record { before = r.1; after = i }) u, t.2, rw (r.3, t.3) (simp append_assoc))

    -- every mode behind a part
    pub rests : (m : Mode) → T (is_read m) → At m a c → Rests a c
    unfolding bytes_of
    rests first r h = absurd r
    rests spaced r h = absurd r
    rests (wanted f) r h = absurd r
    rests (lettered f) r h = absurd r
    rests (number f v) r h = (c, 0, full_by (sym h.3) (h.2 (amount h.1)), sym (append-nil c))
    rests (numbered f v) r h = (h.0 ++ h.1.bytes, h.2, h.3 (amount h.1), h.4 ∙ sym (append_assoc h.0 h.1.bytes (spaces h.2)))
    rests (named f v) r h = (c, 0, full_by (sym h.3) (h.2 (variable h.1)), sym (append-nil c))
    rests closed r h = (c, 0, full_by (append-nil c) (h 0), sym (append-nil c))
    rests apart r h = h
    rests (half x) r h = absurd r

-- ---- the next byte

pub moved : (p : List ℕ) (b : ℕ) (a : Around) (m m' : Mode) → ((c : List ℕ) → At m a c → At m' a (c ++ (b ∷ []))) → Reached p m a → Reached (p ++ (b ∷ [])) m' a
moved p b a m m' f (q, c, o, h, e) = (q, c ++ (b ∷ []), o, f c h, ap (λ (l : List ℕ). l ++ (b ∷ [])) e ∙ append_assoc q c (b ∷ []))
