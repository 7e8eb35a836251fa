-- What the reader has passed begins a line of the second edition; and at the end of a line that it accepts it is one.
use Rattle.std.specs.Prelude.{ℕ, zero, suc, ◌-◌, ◌≡◌, refl, Bool, true, false, cond, List, [], ◌∷◌, ◌++◌, ◌⊎◌, T, ltb, eqb, length}
use Rattle.std.proofs.Common.{sym, ap, ◌∙◌, append_assoc, append-nil, inl, inr, arith, eqb→eq, length-append, take_at}
use Rattle.std.proofs.Math.Path.{subst⁻¹}
use Rattle.std.proofs.Math.Option.{Option, none, some}
use Rattle.grammar.specs.Bytes.{is_digit, kind_of}
use Rattle.grammar.specs.Sums.{Relation, Sums, nothing}
use Rattle.grammar.specs.Reader.{Mode, Around, part, sum, inside, left, right, Next, go, ends, stop, step, finished, flushed, is_read, is_bare, run}
use Rattle.grammar.specs.Trees.{Digits, Gap, Line, around, spaces, bytes_of, mark_of, line_bytes}
use Rattle.grammar.specs.Prefix.{Reached, rests}
use Rattle.grammar.specs.Reach.{see, Goes, one-digit, more-digits}
use Rattle.grammar.proofs.Begun.{goes}
use Rattle.grammar.specs.Complete.{Tells}
use Rattle.grammar.proofs.Complete.{completes, tells}
use Rattle.grammar.specs.edition.Endings.{Second, second_bytes}
use Rattle.grammar.specs.edition.Service.{Starts}
use Rattle.grammar.specs.edition.Steps.{Mark, digit, space, comma, other, mark_at, Tail, opened, strong, rested, parted, grouped, tail_step, State, head, tail, Move, on, halt, stepped, closing, tailed, move, unended, tail_end, last, onward, pass}
use Rattle.grammar.specs.edition.Begun.{Stands, Completes₂, Tells₂}

-- ---- behind the `@`

-- as many spaces, digits, spaces, a comma, spaces and digits as have been read
abbrev TailAt : Tail → List ℕ → Type 0
TailAt opened q = (j : ℕ) × (q ≡ spaces j)
TailAt (strong n) q = (j : ℕ) × (d : Digits) × (q ≡ spaces j ++ d.bytes)
TailAt (rested n) q = (j : ℕ) × (d : Digits) × (i : ℕ) × (q ≡ spaces j ++ (d.bytes ++ spaces i))
TailAt (parted n) q = (j : ℕ) × (d : Digits) × (i : ℕ) × (h : ℕ) × (q ≡ spaces j ++ (d.bytes ++ (spaces i ++ (44 ∷ spaces h))))
TailAt (grouped n g) q = (j : ℕ) × (d : Digits) × (i : ℕ) × (h : ℕ) × (e : Digits) × (q ≡ spaces j ++ (d.bytes ++ (spaces i ++ (44 ∷ (spaces h ++ e.bytes)))))

-- ---- how it can be completed

abbrev Ended : List ℕ → Type 0
Ended q = (j : ℕ) × (d : Digits) × (c : Gap) × (g : Digits) × (q ≡ spaces j ++ (d.bytes ++ (around c (44 ∷ []) ++ g.bytes)))

abbrev tight : Gap
tight = record { before = 0; after = 0 }

one : Digits
one = one-digit 49 tt

fill : (t : Tail) (q : List ℕ) → TailAt t q → (more : List ℕ) × Ended (q ++ more)
unfolding one
fill opened q (j, e) = (49 ∷ 44 ∷ 49 ∷ [], (j, one, tight, one, rw e))
fill (strong n) q (j, d, e) = (44 ∷ 49 ∷ [], (j, d, tight, one, rw e (simp append_assoc)))
fill (rested n) q (j, d, i, e) = (44 ∷ 49 ∷ [], (j, d, record { before = i; after = 0 }, one, rw e (simp append_assoc)))
fill (parted n) q (j, d, i, h, e) = (49 ∷ [], (j, d, record { before = i; after = h }, one, rw e (simp append_assoc)))
fill (grouped n g) q (j, d, i, h, f, e) = ([], (j, d, record { before = i; after = h }, f, rw e (simp (append_assoc, append-nil))))

whole_of : (l : Line) (k : ℕ) (p q : List ℕ) → p ≡ line_bytes l ++ (spaces k ++ (64 ∷ q)) → Ended q → (x : Second) × (p ≡ second_bytes x)
unfolding second_bytes
whole_of l k p q e (j, d, c, g, f) =
    (record { line = l; ending = some (record { mark = record { before = k; after = j }; strength = d; comma = c; group = g }) }, rw (e, f) (simp append_assoc))

pub completes₂ : (x : State) (p : List ℕ) → Stands x p → Completes₂ p
unfolding second_bytes
completes₂ (head m a s) p h =
    let c = completes p m a h in
    (record { line = c.0; ending = none }, c.1, c.2 ∙ sym (append-nil (line_bytes c.0)))
completes₂ (tail r s t) p (l, k, q, f, e) =
    let c = fill t q f in
    let w = whole_of l k (p ++ c.0) (q ++ c.0) (rw e (simp append_assoc)) c.1 in
    (w.0, c.0, w.1)

-- ---- one more byte

data Sees (b : ℕ) : Mark → Type 0 where
  a-digit : T (is_digit b) → Sees b (digit (b - 48))
  a-space : b ≡ 32 → Sees b space
  a-comma : b ≡ 44 → Sees b comma
  another : Sees b other

sees : (b : ℕ) → Sees b (mark_at b)
sees b = whether (is_digit b) (λ h. h) (if-is 32 a-space (if-is 44 a-comma another))
  where
    whether : (t : Bool) → (T t → T (is_digit b)) → {k : Mark} → Sees b k → Sees b (cond t (digit (b - 48)) k)
    whether true f h = a-digit (f tt)
    whether false f h = h

    if-is : (c : ℕ) {k r : Mark} → (b ≡ c → Sees b k) → Sees b r → Sees b (cond (eqb b c) k r)
    if-is c {k} {r} f h = by (eqb b c) (eqb→eq b c)
      where
        by : (t : Bool) → (T t → b ≡ c) → Sees b (cond t k r)
        by true e = f (e tt)
        by false e = h

spaces-more : (k : ℕ) → spaces k ++ (32 ∷ []) ≡ spaces (suc k)
spaces-more zero = refl
spaces-more (suc k) = ap (λ (l : List ℕ). 32 ∷ l) (spaces-more k)

-- the bytes p and one more
abbrev Goes₂ : List ℕ → Move → Type 0
Goes₂ p (on x) = Stands x p
Goes₂ p (halt n) = (n ≡ 20) ⊎ (T (ltb 20 n) × Completes₂ p)

-- the ending's own bytes, and one more
abbrev Moved : List ℕ → Option Tail → Type 0
Moved q none = Unit {0}
Moved q (some t) = TailAt t q

tail-moved : (t : Tail) (q : List ℕ) (b : ℕ) (k : Mark) → Sees b k → TailAt t q → Moved (q ++ (b ∷ [])) (tail_step t k)
tail-moved opened q b _ (a-digit h) (j, e) = (j, one-digit b h, rw e)
tail-moved opened q b _ (a-space h) (j, e) = (suc j, rw (e, h) (spaces-more j))
tail-moved opened q b _ (a-comma h) f = tt
tail-moved opened q b _ another f = tt
tail-moved (strong n) q b _ (a-digit h) (j, d, e) = (j, more-digits d b h, rw e (simp append_assoc))
tail-moved (strong n) q b _ (a-space h) (j, d, e) = (j, d, 1, rw (e, h) (simp append_assoc))
tail-moved (strong n) q b _ (a-comma h) (j, d, e) = (j, d, 0, 0, rw (e, h) (simp append_assoc))
tail-moved (strong n) q b _ another f = tt
tail-moved (rested n) q b _ (a-digit h) f = tt
tail-moved (rested n) q b _ (a-space h) (j, d, i, e) = (j, d, suc i, rw (e, h, ← spaces-more i) (simp append_assoc))
tail-moved (rested n) q b _ (a-comma h) (j, d, i, e) = (j, d, i, 0, rw (e, h) (simp append_assoc))
tail-moved (rested n) q b _ another f = tt
tail-moved (parted n) q b _ (a-digit h) (j, d, i, g, e) = (j, d, i, g, one-digit b h, rw e (simp append_assoc))
tail-moved (parted n) q b _ (a-space h) (j, d, i, g, e) = (j, d, i, suc g, rw (e, h, ← spaces-more g) (simp append_assoc))
tail-moved (parted n) q b _ (a-comma h) f = tt
tail-moved (parted n) q b _ another f = tt
tail-moved (grouped n g) q b _ (a-digit h) (j, d, i, k, f, e) = (j, d, i, k, more-digits f b h, rw e (simp append_assoc))
tail-moved (grouped n g) q b _ (a-space h) f = tt
tail-moved (grouped n g) q b _ (a-comma h) f = tt
tail-moved (grouped n g) q b _ another f = tt

-- a line of T-01 and spaces
right_is : (q c d u v m : List ℕ) (k j i : ℕ) → q ≡ u ++ (spaces k ++ m) → c ≡ d ++ spaces i → d ≡ spaces j ++ v → q ++ c ≡ (u ++ ((spaces k ++ (m ++ spaces j)) ++ v)) ++ spaces i
right_is q c d u v m k j i x y z = rw (x, y, z) (simp append_assoc)

lined : (p : List ℕ) (m : Mode) (r : Relation) → T (is_read m) → Reached p m (right r) → (l : Line) × (k : ℕ) × (p ≡ line_bytes l ++ spaces k)
unfolding line_bytes
lined p m r b (q, c, (t, k, x), h, e) =
    let y = rests (right r) c m b h in
    let f = y.2 in
    (record { left_side = t; gap = record { before = k; after = f.0 }; relation = r; right_side = f.1 }, y.1, e ∙ right_is q c y.0 (bytes_of t) (bytes_of f.1) (mark_of r) k f.0 y.1 x y.3 f.3)

closed : (p : List ℕ) (m : Mode) (a : Around) (s : Sums) (t : Bool) → (T t → T (is_read m)) → Reached p m a → Goes₂ (p ++ (64 ∷ [])) (closing t a s)
closed p m (part n) s true f h = inl refl
closed p m (sum n g) s true f h = inl refl
closed p m (inside g a) s true f h = inl refl
closed p m left s true f h = inl refl
closed p m (right r) s true f h =
    let l = lined p m r (f tt) h in
    (l.0, l.1, [], (0, refl), ap (λ (w : List ℕ). w ++ (64 ∷ [])) l.2 ∙ append_assoc (line_bytes l.0) (spaces l.1) (64 ∷ []))
closed p m a s false f h = inl refl

as_before : (p : List ℕ) (x : Next) → Goes p x → Goes₂ p (stepped x)
as_before p (go m a s) h = h
as_before p ends h = inl refl
as_before p (stop n) (inl e) = inl e
as_before p (stop n) (inr (t, (m, a, h))) = inr (t, completes₂ (head m a nothing) p h)

tail-goes : (r : Relation) (s : Sums) (p : List ℕ) (o : Option Tail) (l : Line) (k : ℕ) (q : List ℕ) → Moved q o → p ≡ line_bytes l ++ (spaces k ++ (64 ∷ q)) → Goes₂ p (tailed r s o)
tail-goes r s p none l k q f e = inl refl
tail-goes r s p (some t) l k q f e = (l, k, q, f, e)

moves : (x : State) (p : List ℕ) (b : ℕ) → Stands x p → Goes₂ (p ++ (b ∷ [])) (move x b)
moves (head m a s) p b h = by (eqb b 64) (eqb→eq b 64)
  where
    by : (t : Bool) → (T t → b ≡ 64) → Goes₂ (p ++ (b ∷ [])) (cond t (closing (is_read m) a (flushed m s)) (stepped (step m a s (kind_of b))))
    by true e = subst⁻¹ (λ (c : ℕ). Goes₂ (p ++ (c ∷ [])) (closing (is_read m) a (flushed m s))) (e tt) (closed p m a (flushed m s) (is_read m) (λ z. z) h)
    by false e = as_before (p ++ (b ∷ [])) (step m a s (kind_of b)) (goes p b m a s (see b) h)
moves (tail r s t) p b (l, k, q, f, e) = tail-goes r s (p ++ (b ∷ [])) (tail_step t (mark_at b)) l k (q ++ (b ∷ [])) (tail-moved t q b (mark_at b) (sees b) f) (rw e (simp append_assoc))

-- ---- what the reader's outcome says of the line's bytes

starts-at : (p w : List ℕ) → Completes₂ p → (l : Second) × Starts l (p ++ w) (length p)
starts-at p w (l, more, e) = (l, (rw length-append (omega arith), (more, rw (take_at p w (length p) refl) e)))

starts-whole : (p : List ℕ) → Completes₂ p → (l : Second) × Starts l p (length p)
starts-whole p c = rw append-nil at (starts-at p [] c)

length-next : (p : List ℕ) (b : ℕ) → length (p ++ (b ∷ [])) ≡ suc (length p)
length-next p b = rw length-append (omega arith)

starts-next : (p w : List ℕ) (b : ℕ) → Completes₂ (p ++ (b ∷ [])) → (l : Second) × Starts l (p ++ (b ∷ w)) (suc (length p))
starts-next p w b c = rw (append_assoc p (b ∷ []) w, length-next p b) at (starts-at (p ++ (b ∷ [])) w c)

-- a line of T-01 is one of the second edition
upgraded : (l : Line) (w : List ℕ) → line_bytes l ≡ w → (x : Second) × (second_bytes x ≡ w)
unfolding second_bytes
upgraded l w e = (record { line = l; ending = none }, append-nil (line_bytes l) ∙ e)

module _ (p : List ℕ) (c : Completes₂ p) where
  halted-end : (l : Second) × Starts l p (length p)
  halted-end = starts-whole p c

  -- at the end the only refusal is 20, and it is met there
  head-end : (q t : Bool) (a : Around) (s : Sums) → Tells p (finished (length p) q t a s) → Tells₂ p (unended (finished (length p) q t a s))
  head-end true t (part n) s h = absurd h
  head-end false t (part n) s h = inl (refl, halted-end)
  head-end true t (sum n f) s h = absurd h
  head-end false t (sum n f) s h = inl (refl, halted-end)
  head-end q t (inside f a) s h = inl (refl, halted-end)
  head-end q t left s h = inl (refl, halted-end)
  head-end q true (right r) s (l, e) = upgraded l p e
  head-end q false (right r) s h = inl (refl, halted-end)

  tail-end : (r : Relation) (s : Sums) (t : Tail) → Stands (tail r s t) p → Tells₂ p (tail_end (length p) r s t)
  tail-end r s opened h = inl (refl, halted-end)
  tail-end r s (strong n) h = inl (refl, halted-end)
  tail-end r s (rested n) h = inl (refl, halted-end)
  tail-end r s (parted n) h = inl (refl, halted-end)
  tail-end r s (grouped n g) (l, k, q, (j, d, i, h, f, x), e) =
      let w = whole_of l k p q e (j, d, record { before = i; after = h }, f, rw x (simp append_assoc)) in
      (w.0, sym w.1)

last-tells : (x : State) (p : List ℕ) → Stands x p → Tells₂ p (last (length p) x)
unfolding run
last-tells (head m a s) p h = head-end p (completes₂ (head m a s) p h) (is_read m) (is_bare m) a (flushed m s) (rw append-nil at (tells [] p m a s h))
last-tells (tail r s t) p h = tail-end p (completes₂ (tail r s t) p h) r s t h

pub tells₂ : (w p : List ℕ) (x : State) → Stands x p → Tells₂ (p ++ w) (pass w (length p) x)
unfolding pass
tells₂ [] p x h = rw append-nil (last-tells x p h)
tells₂ (b ∷ w) p x h = by (move x b) (moves x p b h) (λ y g. tells₂ w (p ++ (b ∷ [])) y g)
  where
    by : (v : Move) → Goes₂ (p ++ (b ∷ [])) v → ((y : State) → Stands y (p ++ (b ∷ [])) → Tells₂ ((p ++ (b ∷ [])) ++ w) (pass w (length (p ++ (b ∷ []))) y)) → Tells₂ (p ++ (b ∷ w)) (onward (length p) v (pass w (suc (length p))))
    by (on y) g next = rw (append_assoc p (b ∷ []) w, length-next p b) at (next y g)
    by (halt n) (inl e) next = inl (e, starts-at p (b ∷ w) (completes₂ x p h))
    by (halt n) (inr (t, c)) next = inr (t, starts-next p w b c)
