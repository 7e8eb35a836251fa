-- One more byte: the reader goes on, and the bytes with it begin a line; or the refusal is 20; or it is 21 or 22, and they begin a line too.
use Rattle.std.specs.Prelude.{ℕ, zero, suc, ◌-◌, ◌≡◌, refl, Bool, true, false, cond, ◌&&◌, List, [], ◌∷◌, ◌++◌, ◌⊎◌, T, ltb, eqb}
use Rattle.std.proofs.Common.{sym, ap, append_assoc, append-nil, inl, inr, eqb→eq}
use Rattle.std.proofs.Math.Path.{subst⁻¹}
use Rattle.grammar.specs.Bytes.{Kind, digit, letter, space, plus, minus, star, opening, closing, less, equals, more, strange, is_digit, kind_of}
use Rattle.grammar.specs.Sums.{Relation, at_most, equal, at_least, Sums, Factor, turned, one}
use Rattle.grammar.specs.Reader.{Mode, first, spaced, wanted, closed, half, Around, part, sum, inside, left, right, Next, go, ends, stop, opened, halts, joins, closes, relates, is_read}
use Rattle.grammar.specs.Trees.{Digits, a_sum, Tree, all_digits, are_digits, spaces, bytes_of, mark_of}
use Rattle.grammar.specs.Pieces.{both}
use Rattle.grammar.specs.Prefix.{Leads, Plugs, Wants, Opens, Rests, half_mark, At, Reached, fresh, fresh-wants, start-opens, start-minus, full_by, rests, moved}

-- ---- which byte it is

pub data Seen (b : ℕ) : Kind → Type 0 where
  is-digit : T (is_digit b) → Seen b (digit (b - 48))
  is-letter : b ≡ 118 → Seen b letter
  is-space : b ≡ 32 → Seen b space
  is-plus : b ≡ 43 → Seen b plus
  is-minus : b ≡ 45 → Seen b minus
  is-star : b ≡ 42 → Seen b star
  is-opening : b ≡ 40 → Seen b opening
  is-closing : b ≡ 41 → Seen b closing
  is-less : b ≡ 60 → Seen b less
  is-equals : b ≡ 61 → Seen b equals
  is-more : b ≡ 62 → Seen b more
  is-strange : Seen b strange

pub see : (b : ℕ) → Seen b (kind_of b)
unfolding kind_of
see b =
    whether (is_digit b) (λ h. h)
    (if-is 32 is-space
    (if-is 40 is-opening
    (if-is 41 is-closing
    (if-is 42 is-star
    (if-is 43 is-plus
    (if-is 45 is-minus
    (if-is 60 is-less
    (if-is 61 is-equals
    (if-is 62 is-more
    (if-is 118 is-letter
    is-strange))))))))))
  where
    whether : (t : Bool) → (T t → T (is_digit b)) → {k : Kind} → Seen b k → Seen b (cond t (digit (b - 48)) k)
    whether true f h = is-digit (f tt)
    whether false f h = h

    if-is : (c : ℕ) {k r : Kind} → (b ≡ c → Seen b k) → Seen b r → Seen b (cond (eqb b c) k r)
    if-is c {k} {r} f h = by (eqb b c) (eqb→eq b c)
      where
        by : (t : Bool) → (T t → b ≡ c) → Seen b (cond t k r)
        by true e = f (e tt)
        by false e = h

-- ---- the bytes p, and one more

abbrev pub Somewhere : List ℕ → Type 0
Somewhere p = (m : Mode) × (a : Around) × Reached p m a

abbrev pub Goes : List ℕ → Next → Type 0
Goes p (go m a s) = Reached p m a
Goes p ends = ⊥
Goes p (stop n) = (n ≡ 20) ⊎ (T (ltb 20 n) × Somewhere p)

closing-is : (c c' d v : List ℕ) (j k i : ℕ) → c ≡ d ++ spaces k → d ≡ spaces j ++ v → c' ++ (40 ∷ (spaces j ++ (v ++ (spaces k ++ (41 ∷ spaces i))))) ≡ (c' ++ (40 ∷ (c ++ (41 ∷ [])))) ++ spaces i
closing-is c c' d v j k i e q = rw (e, q) (simp append_assoc)

left_is : (p q c d v : List ℕ) (j k : ℕ) → p ≡ q ++ c → q ≡ [] → c ≡ d ++ spaces k → d ≡ spaces j ++ v → j ≡ 0 → p ≡ v ++ spaces k
left_is p q c d v j k e o x y z = rw (e, o, x, y, z)

mark-is : (x : Relation) → half_mark x ++ (61 ∷ []) ≡ mark_of x
mark-is at_most = refl
mark-is equal = refl
mark-is at_least = refl

half_is : (x : Relation) (p q c v : List ℕ) (k : ℕ) → p ≡ q ++ c → q ≡ [] → c ≡ v ++ (spaces k ++ half_mark x) → p ++ (61 ∷ []) ≡ v ++ (spaces k ++ mark_of x)
half_is x p q c v k e o y = rw (e, o, y, ← mark-is x) (simp append_assoc)

module _ (p : List ℕ) where
  -- to a bracket's inside
  pub reach-opening : (f : Factor) (m : Mode) (a : Around) → ((c : List ℕ) → At m a c → Opens a c) → Reached p m a → Reached (p ++ (40 ∷ [])) (wanted f) (inside f a)
  reach-opening f m a g (q, c, o, h, e) = (q ++ (c ++ (40 ∷ [])), [], (q, c, o, g c h, refl), fresh-wants (inside f a) (λ k. tt), rw e (simp (append_assoc, append-nil)))

  -- out of it
  reach-closing : (f : Factor) (m : Mode) (a : Around) → T (is_read m) → Reached p m (inside f a) → Reached (p ++ (41 ∷ [])) closed a
  reach-closing f m a r (q, c, (q', c', o, g, e'), h, e) =
      let x = rests (inside f a) c m r h in
      let t = x.2 in
      (q', c' ++ (40 ∷ (c ++ (41 ∷ []))), o, (λ k. full_by a (closing-is c c' x.0 (bytes_of t.1) t.0 x.1 k x.3 t.3) (g t.1 t.0 x.1 k)), rw (e, e') (simp append_assoc))

  -- the left side, behind it spaces
  leftward : (m : Mode) → T (is_read m) → Reached p m left → (t : Tree a_sum) × (k : ℕ) × (p ≡ bytes_of t ++ spaces k)
  leftward m r (q, c, o, h, e) =
      let x = rests left c m r h in
      let t = x.2 in
      (t.1, x.1, left_is p q c x.0 (bytes_of t.1) t.0 x.1 e o x.3 t.3 t.2)

  tail-is : (b k : ℕ) (v : List ℕ) → p ≡ v ++ spaces k → p ++ (b ∷ []) ≡ v ++ (spaces k ++ (b ∷ []))
  tail-is b k v e = rw e (append_assoc v (spaces k) (b ∷ []))

  pub reach-equals : (f : Factor) (m : Mode) → T (is_read m) → Reached p m left → Reached (p ++ (61 ∷ [])) (wanted f) (right equal)
  reach-equals f m r h =
      let x = leftward m r h in
      (p ++ (61 ∷ []), [], (x.0, x.1, tail-is 61 x.1 (bytes_of x.0) x.2), fresh-wants (right equal) (λ k. tt), sym (append-nil (p ++ (61 ∷ []))))

  -- the first byte of `<=` and `>=`
  pub reach-half : (x : Relation) (b : ℕ) (m : Mode) → half_mark x ≡ b ∷ [] → T (is_read m) → Reached p m left → Reached (p ++ (b ∷ [])) (half x) left
  reach-half x b m e r h =
      let y = leftward m r h in
      ([], p ++ (b ∷ []), refl, (tt, (y.0, y.1, rw e (tail-is b y.1 (bytes_of y.0) y.2))), refl)

  pub reach-whole : (x : Relation) (f : Factor) (a : Around) → Reached p (half x) a → Reached (p ++ (61 ∷ [])) (wanted f) (right x)
  reach-whole x f (part n) (q, c, o, h, e) = absurd o
  reach-whole x f (sum n g) (q, c, o, h, e) = absurd o
  reach-whole x f (inside g a) (q, c, o, h, e) = absurd h.0
  reach-whole x f left (q, c, o, h, e) =
      let y = h.1 in
      (p ++ (61 ∷ []), [], (y.0, y.1, half_is x p q c (bytes_of y.0) y.1 e o y.2), fresh-wants (right x) (λ k. tt), sym (append-nil (p ++ (61 ∷ []))))
  reach-whole x f (right r) (q, c, o, h, e) = absurd h.0

-- ---- digits and spaces, one more

and_both : (p q : Bool) → T p → T q → T (p && q)
and_both true q h k = k
and_both false q h k = h

pub one-is : (b : ℕ) → T (is_digit b) → T (are_digits (b ∷ []))
unfolding all_digits
one-is b h = and_both (is_digit b) true h tt

abbrev pub one-digit : (b : ℕ) → T (is_digit b) → Digits
one-digit b h = record { bytes = b ∷ []; are-digits = one-is b h }

all_more : (bs : List ℕ) (b : ℕ) → T (all_digits bs) → T (is_digit b) → T (all_digits (bs ++ (b ∷ [])))
unfolding all_digits
all_more [] b h k = and_both (is_digit b) true k tt
all_more (x ∷ bs) b h k =
    let g = both (is_digit x) (all_digits bs) h in
    and_both (is_digit x) (all_digits (bs ++ (b ∷ []))) g.0 (all_more bs b g.1 k)

pub are-more : (bs : List ℕ) (b : ℕ) → T (are_digits bs) → T (is_digit b) → T (are_digits (bs ++ (b ∷ [])))
are-more [] b h k = absurd h
are-more (x ∷ bs) b h k =
    let g = both (is_digit x) (all_digits bs) h in
    and_both (is_digit x) (all_digits (bs ++ (b ∷ []))) g.0 (all_more bs b g.1 k)

abbrev pub more-digits : (n : Digits) (b : ℕ) → T (is_digit b) → Digits
more-digits n b h = record { bytes = n.bytes ++ (b ∷ []); are-digits = are-more n.bytes b n.are-digits h }

spaces-more : (k : ℕ) → spaces k ++ (32 ∷ []) ≡ spaces (suc k)
spaces-more zero = refl
spaces-more (suc k) = ap (λ (l : List ℕ). 32 ∷ l) (spaces-more k)

pub behind_more : (c d v : List ℕ) (k : ℕ) → c ≡ d ++ (v ++ spaces k) → c ++ (32 ∷ []) ≡ d ++ (v ++ spaces (suc k))
behind_more c d v k e = rw (e, ← spaces-more k) (simp append_assoc)

pub rests-more : (a : Around) (c : List ℕ) → Rests a c → Rests a (c ++ (32 ∷ []))
rests-more a c (d, k, f, e) = (d, suc k, f, behind_more c d [] k e)

leads-none : (a : Around) → Leads a 0
leads-none (part n) = tt
leads-none (sum n f) = tt
leads-none (inside f a) = tt
leads-none left = refl
leads-none (right r) = tt

pub first-plugs : (a : Around) (c : List ℕ) → At first a c → Plugs a c
first-plugs a c h = subst⁻¹ (λ (x : List ℕ). Plugs a x) h.1 (fresh a (leads-none a))

pub spaced-opens : (a : Around) (c : List ℕ) → At spaced a c → Opens a c
spaced-opens (part n) c h = absurd h.0
spaced-opens (sum n f) c h = absurd h.0
spaced-opens (inside f a) c h = absurd h.0
spaced-opens left c h = subst⁻¹ (λ (x : List ℕ). Opens left x) h.1.1 (start-opens h.1.0)
spaced-opens (right r) c h = absurd h.0

pub spaced-minus : (a : Around) (c : List ℕ) → At spaced a c → Wants a (c ++ (45 ∷ []))
spaced-minus (part n) c h = absurd h.0
spaced-minus (sum n f) c h = absurd h.0
spaced-minus (inside f a) c h = absurd h.0
spaced-minus left c h = subst⁻¹ (λ (x : List ℕ). Wants left (x ++ (45 ∷ []))) h.1.1 (start-minus h.1.0)
spaced-minus (right r) c h = absurd h.0

-- ---- a step

module _ (p : List ℕ) (b : ℕ) where
  abbrev pub next : List ℕ
  next = p ++ (b ∷ [])

  pub goes-if : (t : Bool) (m : Mode) (a : Around) (s : Sums) → Reached next m a → Goes next (cond t (go m a s) (stop 22))
  goes-if true m a s h = h
  goes-if false m a s h = inr (tt, (m, a, h))

  pub goes-opened : (f : Factor) (a : Around) (s : Sums) (r : ℕ) → Reached next (wanted f) (inside f a) → Goes next (opened f a s r)
  goes-opened f a s zero h = inr (tt, (wanted f, inside f a, h))
  goes-opened f a s (suc r) h = h

  pub goes-halts : (m : Mode) (a : Around) → Reached p m a → Goes next (halts a)
  goes-halts m (part n) h = absurd h.2
  goes-halts m (sum n f) h = absurd h.2
  goes-halts m (inside f a) h = inl refl
  goes-halts m left h = inl refl
  goes-halts m (right r) h = inl refl

  pub goes-joins : (g : Factor → Factor) (m : Mode) (a : Around) (s : Sums) → ((a : Around) (c : List ℕ) → Rests a c → Wants a (c ++ (b ∷ []))) → T (is_read m) → Reached p m a → Goes next (joins g a s)
  goes-joins g m (part n) s k r h = absurd h.2
  goes-joins g m (sum n f) s k r h = absurd h.2
  goes-joins g m (inside f a) s k r h = moved p b (inside f a) m (wanted (g f)) (λ c x. k (inside f a) c (rests (inside f a) c m r x)) h
  goes-joins g m left s k r h = moved p b left m (wanted (g one)) (λ c x. k left c (rests left c m r x)) h
  goes-joins g m (right q) s k r h = moved p b (right q) m (wanted (g (turned one))) (λ c x. k (right q) c (rests (right q) c m r x)) h

  pub goes-relates : (m' : Mode) (a' : Around) (m : Mode) (a : Around) (s : Sums) → (Reached p m left → Reached next m' a') → Reached p m a → Goes next (relates m' a' a s)
  goes-relates m' a' m (part n) s k h = absurd h.2
  goes-relates m' a' m (sum n f) s k h = absurd h.2
  goes-relates m' a' m (inside f a) s k h = inl refl
  goes-relates m' a' m left s k h = k h
  goes-relates m' a' m (right r) s k h = inl refl

pub goes-closes : (p : List ℕ) (m : Mode) (a : Around) (s : Sums) → T (is_read m) → Reached p m a → Goes (p ++ (41 ∷ [])) (closes a s)
goes-closes p m (part n) s r h = absurd h.2
goes-closes p m (sum n f) s r h = absurd h.2
goes-closes p m (inside f a) s r h = reach-closing p f m a r h
goes-closes p m left s r h = inl refl
goes-closes p m (right q) s r h = inl refl
