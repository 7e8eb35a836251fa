-- What the reader has passed can be completed to a line of the grammar; and at the end of a line that it accepts it is one.
use Rattle.std.specs.Prelude.{ℕ, suc, ◌≡◌, refl, Bool, true, false, cond, List, [], ◌∷◌, ◌++◌, ◌⊎◌, T, length}
use Rattle.std.proofs.Common.{sym, ap, ◌∙◌, append_assoc, append-nil, inl, inr, arith, length-append, take_at}
use Rattle.grammar.specs.Bytes.{kind_of}
use Rattle.grammar.specs.Sums.{Relation, equal, Sums, one}
use Rattle.grammar.specs.Reader.{Mode, first, spaced, wanted, lettered, number, numbered, named, closed, apart, half, Around, part, sum, inside, left, right, Next, go, ends, stop, step, halted, whole, finished, follow, flushed, is_bare, is_read, run}
use Rattle.grammar.specs.Trees.{Digits, amount, variable, single, Line, spaces, bytes_of, mark_of, line_bytes}
use Rattle.grammar.specs.Says.{Begins}
use Rattle.grammar.specs.Prefix.{Full, Rests, At, Outer, Reached, full_by, plus-next, rests}
use Rattle.grammar.specs.Reach.{see, Goes, one-digit, first-plugs, spaced-minus, reach-whole}
use Rattle.grammar.proofs.Begun.{goes}
use Rattle.grammar.specs.Complete.{Completes, Tells}

-- "0"
abbrev nought : Digits
nought = one-digit 48 tt

-- ---- what is open is filled

abbrev Fills : Around → List ℕ → Type 0
Fills a c = (x : List ℕ) × Full a (c ++ x)

fills-rest : (a : Around) (c : List ℕ) → Rests a c → Fills a c
unfolding bytes_of
fills-rest a c r = (43 ∷ 48 ∷ [], full_by a (append_assoc c (43 ∷ []) (48 ∷ [])) (plus-next a c r 0 (amount nought)))

-- every mode but that behind half a relation
fills : (m : Mode) (a : Around) (c : List ℕ) → At m a c → Fills a c ⊎ ((r : Relation) × At (half r) a c)
unfolding bytes_of
fills first a c h = inl (48 ∷ [], first-plugs a c h (amount nought))
fills spaced a c h = inl (45 ∷ 48 ∷ [], full_by a (append_assoc c (45 ∷ []) (48 ∷ [])) (spaced-minus a c h 0 (amount nought)))
fills (wanted f) a c h = inl (48 ∷ [], h 0 (amount nought))
fills (lettered f) a c h = inl (48 ∷ [], full_by a (sym (append_assoc h.0 (118 ∷ []) (48 ∷ [])) ∙ ap (λ (l : List ℕ). l ++ (48 ∷ [])) (sym h.2)) (h.1 (variable nought)))
fills (number f v) a c h = inl (fills-rest a c (rests a c (number f v) tt h))
fills (numbered f v) a c h = inl (fills-rest a c (rests a c (numbered f v) tt h))
fills (named f v) a c h = inl (fills-rest a c (rests a c (named f v) tt h))
fills closed a c h = inl (fills-rest a c (rests a c closed tt h))
fills apart a c h = inl (fills-rest a c h)
fills (half r) a c h = inr (r, h)

-- ---- the brackets are closed, and the right side is there

inside_is : (q p c d v more : List ℕ) (j : ℕ) {e : List ℕ} → q ≡ p ++ (c ++ (40 ∷ [])) → d ≡ spaces j ++ v → (p ++ (c ++ (40 ∷ (spaces j ++ (v ++ (41 ∷ [])))))) ++ more ≡ e → (q ++ d) ++ (41 ∷ more) ≡ e
inside_is q p c d v more j x y z = rw (x, y) (simp append_assoc (simp append_assoc at z))

right_is : (q d u v m : List ℕ) (k j : ℕ) → q ≡ u ++ (spaces k ++ m) → d ≡ spaces j ++ v → (q ++ d) ++ [] ≡ u ++ ((spaces k ++ (m ++ spaces j)) ++ v)
right_is q d u v m k j x y = rw (x, y) (simp (append_assoc, append-nil))

left_is : (q d v : List ℕ) (j : ℕ) → q ≡ [] → d ≡ spaces j ++ v → j ≡ 0 → (q ++ d) ++ (61 ∷ 48 ∷ []) ≡ v ++ (61 ∷ 48 ∷ [])
left_is q d v j x y z = rw (x, y, z)

closing : (a : Around) (q d : List ℕ) → Outer a q → Full a d → Completes (q ++ d)
unfolding line_bytes bytes_of
closing (part n) q d o f = absurd o
closing (sum n g) q d o f = absurd o
closing (inside g a) q d (p, c, o, w, e) (j, t, x, y) =
    let z = closing a p (c ++ (40 ∷ (spaces j ++ (bytes_of t ++ (41 ∷ []))))) o (w t j 0 0) in
    (z.0, 41 ∷ z.1, inside_is q p c d (bytes_of t) z.1 j e y z.2)
closing left q d o (j, t, x, y) = (record { left_side = t; gap = record { before = 0; after = 0 }; relation = equal; right_side = single (amount nought) }, 61 ∷ 48 ∷ [], left_is q d (bytes_of t) j o y x)
closing (right r) q d (t, k, e) (j, u, x, y) = (record { left_side = t; gap = record { before = k; after = j }; relation = r; right_side = u }, [], right_is q d (bytes_of t) (bytes_of u) (mark_of r) k j e y)

filled : (p : List ℕ) (a : Around) (q c x : List ℕ) → p ≡ q ++ c → Outer a q → Full a (c ++ x) → Completes p
filled p a q c x e o f =
    let z = closing a q (c ++ x) o f in
    (z.0, x ++ z.1, rw e (simp append_assoc (simp append_assoc at z.2)))

pub completes : (p : List ℕ) (m : Mode) (a : Around) → Reached p m a → Completes p
unfolding bytes_of
completes p m a (q, c, o, h, e) = by (fills m a c h)
  where
    by : Fills a c ⊎ ((r : Relation) × At (half r) a c) → Completes p
    by (inl x) = filled p a q c x.0 e o x.1
    by (inr (r, k)) =
        let y = reach-whole p r one a (q, c, o, k, e) in
        let z = filled (p ++ (61 ∷ [])) (right r) y.0 y.1 (48 ∷ []) y.4 y.2 (y.3 0 (amount nought)) in
        (z.0, 61 ∷ z.1, sym (append_assoc p (61 ∷ []) z.1) ∙ z.2)

-- ---- the line's end

bare-full : (m : Mode) (a : Around) (c : List ℕ) → T (is_bare m) → At m a c → Full a c
unfolding bytes_of
bare-full first a c b h = absurd b
bare-full spaced a c b h = absurd b
bare-full (wanted f) a c b h = absurd b
bare-full (lettered f) a c b h = absurd b
bare-full (number f v) a c b h = full_by a (sym h.3) (h.2 (amount h.1))
bare-full (numbered f v) a c b h = absurd b
bare-full (named f v) a c b h = full_by a (sym h.3) (h.2 (variable h.1))
bare-full closed a c b h = full_by a (append-nil c) (h 0)
bare-full apart a c b h = absurd b
bare-full (half r) a c b h = absurd b

ended : (p : List ℕ) (m : Mode) (r : Relation) → T (is_bare m) → Reached p m (right r) → (l : Line) × (line_bytes l ≡ p)
unfolding line_bytes
ended p m r b (q, c, (t, k, x), h, e) =
    let f = bare-full m (right r) c b h in
    (record { left_side = t; gap = record { before = k; after = f.0 }; relation = r; right_side = f.1 }, sym (right_is q c (bytes_of t) (bytes_of f.1) (mark_of r) k f.0 x f.3) ∙ (append-nil (q ++ c) ∙ sym e))

-- ---- what the reader's outcome says of the line's bytes

begins-at : (p w : List ℕ) → Completes p → (l : Line) × Begins l (p ++ w) (length p)
begins-at p w (l, more, e) = (l, (rw length-append (omega arith), (more, rw (take_at p w (length p) refl) e)))

begins-whole : (p : List ℕ) → Completes p → (l : Line) × Begins l p (length p)
begins-whole p c = rw append-nil at (begins-at p [] c)

tells-end : (p : List ℕ) (m : Mode) (a : Around) (s : Sums) → Reached p m a → Tells p (finished (length p) (is_read m) (is_bare m) a s)
tells-end p m (part n) s h = absurd h.2
tells-end p m (sum n f) s h = absurd h.2
tells-end p m (inside f a) s h = inl (refl, begins-whole p (completes p m (inside f a) h))
tells-end p m left s h = inl (refl, begins-whole p (completes p m left h))
tells-end p m (right r) s h = by (is_bare m) (λ b. ended p m r b h)
  where
    by : (t : Bool) → (T t → (l : Line) × (line_bytes l ≡ p)) → Tells p (cond t (whole r s) (halted 20 (length p)))
    by true f = f tt
    by false f = inl (refl, begins-whole p (completes p m (right r) h))

length-next : (p : List ℕ) (b : ℕ) → length (p ++ (b ∷ [])) ≡ suc (length p)
length-next p b = rw length-append (omega arith)

begins-next : (p w : List ℕ) (b : ℕ) → Completes (p ++ (b ∷ [])) → (l : Line) × Begins l (p ++ (b ∷ w)) (suc (length p))
begins-next p w b c = rw (append_assoc p (b ∷ []) w, length-next p b) at (begins-at (p ++ (b ∷ [])) w c)

pub tells : (w p : List ℕ) (m : Mode) (a : Around) (s : Sums) → Reached p m a → Tells (p ++ w) (run w (length p) m a s)
unfolding run
tells [] p m a s h = rw append-nil (tells-end p m a (flushed m s) h)
tells (b ∷ w) p m a s h = by (step m a s (kind_of b)) (goes p b m a s (see b) h) (λ m' a' s' h'. tells w (p ++ (b ∷ [])) m' a' s' h')
  where
    by : (x : Next) → Goes (p ++ (b ∷ [])) x → ((m' : Mode) (a' : Around) (s' : Sums) → Reached (p ++ (b ∷ [])) m' a' → Tells ((p ++ (b ∷ [])) ++ w) (run w (length (p ++ (b ∷ []))) m' a' s')) → Tells (p ++ (b ∷ w)) (follow (length p) m s x (run w (suc (length p))))
    by (go m' a' s') g next = rw (append_assoc p (b ∷ []) w, length-next p b) at (next m' a' s' g)
    by ends g next = absurd g
    by (stop n) (inl e) next = inl (e, begins-at p (b ∷ w) (completes p m a h))
    by (stop n) (inr (t, (m', a', h'))) next = inr (t, begins-next p w b (completes (p ++ (b ∷ [])) m' a' h'))
