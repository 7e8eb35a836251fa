-- The step of every mode: what the reader has passed begins a line. And how it can be completed to one.
use Rattle.std.specs.Prelude.{ℕ, suc, ◌-◌, ◌+◌, ◌*◌, ◌≡◌, refl, cond, List, [], ◌∷◌, ◌++◌, T, leb}
use Rattle.std.proofs.Common.{sym, ap, ◌∙◌, append_assoc, append-nil, inl}
use Rattle.std.proofs.Math.Path.{subst⁻¹}
use Rattle.grammar.specs.Bytes.{Kind, is_digit}
use Rattle.grammar.specs.Sums.{at_most, equal, at_least, Sums, Factor, turned, one, most, most_name, multiplied, with_number, with_variable}
use Rattle.grammar.specs.Reader.{Mode, first, spaced, wanted, lettered, number, numbered, named, closed, apart, half, Around, inside, left, right, room_of, Next, go, stop, begins, digits, equalled, halts, joins, closes, relates, unturned, behind, step, is_read}
use Rattle.grammar.specs.Trees.{Digits, spaces}
use Rattle.grammar.specs.Prefix.{Plugs, At, Reached, full_by, wants-plugs, plugs-opens, more-space, minus-first, star-next, plus-next, minus-next, rests, moved}
use Rattle.grammar.specs.Reach.{Seen, is-digit, is-letter, is-space, is-plus, is-minus, is-star, is-opening, is-closing, is-less, is-equals, is-more, is-strange, Goes, next, reach-opening, reach-equals, reach-half, reach-whole, one-digit, more-digits, behind_more, rests-more, first-plugs, spaced-opens, spaced-minus, goes-if, goes-opened, goes-halts, goes-joins, goes-relates, goes-closes}

none-behind : (c d v : List ℕ) → c ≡ d ++ v → c ≡ d ++ (v ++ spaces 0)
none-behind c d v e = e ∙ ap (λ (l : List ℕ). d ++ l) (sym (append-nil v))

module _ (p : List ℕ) (b : ℕ) where
  goes-begins : (n : ℕ → Next) (l g : Next) (f : Factor) (a : Around) (s : Sums) {k : Kind} → (T (is_digit b) → Goes (next p b) (n (b - 48))) → (b ≡ 118 → Goes (next p b) l) → (b ≡ 32 → Goes (next p b) g)
      → Reached (next p 45) (wanted (turned f)) a → Reached (next p 40) (wanted f) (inside f a) → Seen b k → Goes (next p b) (begins n l g f a s k)
  goes-begins n l g f a s hn hl hg hm ho (is-digit h) = hn h
  goes-begins n l g f a s hn hl hg hm ho (is-letter e) = hl e
  goes-begins n l g f a s hn hl hg hm ho (is-space e) = hg e
  goes-begins n l g f a s hn hl hg hm ho (is-plus e) = inl refl
  goes-begins n l g f a s hn hl hg hm ho (is-minus e) = subst⁻¹ (λ (x : ℕ). Reached (next p x) (wanted (turned f)) a) e hm
  goes-begins n l g f a s hn hl hg hm ho (is-star e) = inl refl
  goes-begins n l g f a s hn hl hg hm ho (is-opening e) = goes-opened p b f a s (room_of a) (subst⁻¹ (λ (x : ℕ). Reached (next p x) (wanted f) (inside f a)) e ho)
  goes-begins n l g f a s hn hl hg hm ho (is-closing e) = inl refl
  goes-begins n l g f a s hn hl hg hm ho (is-less e) = inl refl
  goes-begins n l g f a s hn hl hg hm ho (is-equals e) = inl refl
  goes-begins n l g f a s hn hl hg hm ho (is-more e) = inl refl
  goes-begins n l g f a s hn hl hg hm ho is-strange = inl refl

  goes-digits : (n : ℕ → Next) {k : Kind} → (T (is_digit b) → Goes (next p b) (n (b - 48))) → Seen b k → Goes (next p b) (digits n k)
  goes-digits n hn (is-digit h) = hn h
  goes-digits n hn (is-letter e) = inl refl
  goes-digits n hn (is-space e) = inl refl
  goes-digits n hn (is-plus e) = inl refl
  goes-digits n hn (is-minus e) = inl refl
  goes-digits n hn (is-star e) = inl refl
  goes-digits n hn (is-opening e) = inl refl
  goes-digits n hn (is-closing e) = inl refl
  goes-digits n hn (is-less e) = inl refl
  goes-digits n hn (is-equals e) = inl refl
  goes-digits n hn (is-more e) = inl refl
  goes-digits n hn is-strange = inl refl

  goes-equalled : (x : Next) {k : Kind} → (b ≡ 61 → Goes (next p b) x) → Seen b k → Goes (next p b) (equalled x k)
  goes-equalled x hx (is-digit h) = inl refl
  goes-equalled x hx (is-letter e) = inl refl
  goes-equalled x hx (is-space e) = inl refl
  goes-equalled x hx (is-plus e) = inl refl
  goes-equalled x hx (is-minus e) = inl refl
  goes-equalled x hx (is-star e) = inl refl
  goes-equalled x hx (is-opening e) = inl refl
  goes-equalled x hx (is-closing e) = inl refl
  goes-equalled x hx (is-less e) = inl refl
  goes-equalled x hx (is-equals e) = hx e
  goes-equalled x hx (is-more e) = inl refl
  goes-equalled x hx is-strange = inl refl

  module _ (m : Mode) (a : Around) (s : Sums) (r : T (is_read m)) (h : Reached p m a) where
    goes-behind : (n : ℕ → Next) (g t : Next) {k : Kind} → (T (is_digit b) → Goes (next p b) (n (b - 48))) → (b ≡ 32 → Goes (next p b) g) → (b ≡ 42 → Goes (next p b) t) → Seen b k → Goes (next p b) (behind n g t a s k)
    goes-behind n g t hn hg ht (is-digit x) = hn x
    goes-behind n g t hn hg ht (is-letter e) = goes-halts p b m a h
    goes-behind n g t hn hg ht (is-space e) = hg e
    goes-behind n g t hn hg ht (is-plus e) = subst⁻¹ (λ (x : ℕ). Goes (next p x) (joins unturned a s)) e (goes-joins p 43 unturned m a s plus-next r h)
    goes-behind n g t hn hg ht (is-minus e) = subst⁻¹ (λ (x : ℕ). Goes (next p x) (joins turned a s)) e (goes-joins p 45 turned m a s minus-next r h)
    goes-behind n g t hn hg ht (is-star e) = ht e
    goes-behind n g t hn hg ht (is-opening e) = goes-halts p b m a h
    goes-behind n g t hn hg ht (is-closing e) = subst⁻¹ (λ (x : ℕ). Goes (next p x) (closes a s)) e (goes-closes p m a s r h)
    goes-behind n g t hn hg ht (is-less e) = subst⁻¹ (λ (x : ℕ). Goes (next p x) (relates (half at_most) left a s)) e (goes-relates p 60 (half at_most) left m a s (reach-half p at_most 60 m refl r) h)
    goes-behind n g t hn hg ht (is-equals e) = subst⁻¹ (λ (x : ℕ). Goes (next p x) (relates (wanted (turned one)) (right equal) a s)) e (goes-relates p 61 (wanted (turned one)) (right equal) m a s (reach-equals p (turned one) m r) h)
    goes-behind n g t hn hg ht (is-more e) = subst⁻¹ (λ (x : ℕ). Goes (next p x) (relates (half at_least) left a s)) e (goes-relates p 62 (half at_least) left m a s (reach-half p at_least 62 m refl r) h)
    goes-behind n g t hn hg ht is-strange = goes-halts p b m a h

  -- a number's first digit, a variable's letter
  begin-number : (m : Mode) (a : Around) (f : Factor) (v : ℕ) → ((c : List ℕ) → At m a c → Plugs a c) → T (is_digit b) → Reached p m a → Reached (next p b) (number f v) a
  begin-number m a f v k x h = moved p b a m (number f v) (λ c y. (c, one-digit b x, k c y, refl)) h

  begin-letter : (m : Mode) (a : Around) (f : Factor) → ((c : List ℕ) → At m a c → Plugs a c) → b ≡ 118 → Reached p m a → Reached (next p b) (lettered f) a
  begin-letter m a f k e h = moved p b a m (lettered f) (λ c y. (c, k c y, ap (λ (x : ℕ). c ++ (x ∷ [])) e)) h

  -- by a known byte to another mode of the level
  moved_by : (c : ℕ) (a : Around) (m m' : Mode) → b ≡ c → ((d : List ℕ) → At m a d → At m' a (d ++ (c ∷ []))) → Reached p m a → Reached (next p b) m' a
  moved_by c a m m' e k h = subst⁻¹ (λ (x : ℕ). Reached (next p x) m' a) e (moved p c a m m' k h)

  star-by : (a : Around) (m : Mode) (f : Factor) → b ≡ 42 → ((c : List ℕ) → At m a c → (d : List ℕ) × (n : Digits) × (k : ℕ) × Plugs a d × (c ≡ d ++ (n.bytes ++ spaces k))) → Reached p m a → Reached (next p b) (wanted f) a
  star-by a m f e k h = moved_by 42 a m (wanted f) e (λ c y. let x = k c y in star-next a c x.0 x.1 x.2 x.3 x.4) h

  pub goes : (m : Mode) (a : Around) (s : Sums) {k : Kind} → Seen b k → Reached p m a → Goes (next p b) (step m a s k)
  goes first a s x h =
      goes-begins (λ d. go (number one d) a s) (go (lettered one) a s) (go spaced a s) one a s (λ y. begin-number first a one (b - 48) (first-plugs a) y h) (λ e. begin-letter first a one (first-plugs a) e h)
      (λ e. moved_by 32 a first spaced e (λ c y. (y.0, (1, ap (λ (l : List ℕ). l ++ (32 ∷ [])) y.1))) h)
      (moved p 45 a first (wanted (turned one)) (λ c y. minus-first a c (first-plugs a c y)) h)
      (reach-opening p one first a (λ c y. plugs-opens a c (first-plugs a c y)) h)
      x
  goes spaced a s x h =
      goes-begins (λ d. stop 20) (stop 20) (go spaced a s) one a s (λ y. inl refl) (λ e. inl refl)
      (λ e. moved_by 32 a spaced spaced e (λ c y. (y.0, (suc y.1.0, behind_more c [] [] y.1.0 y.1.1))) h)
      (moved p 45 a spaced (wanted (turned one)) (spaced-minus a) h)
      (reach-opening p one spaced a (spaced-opens a) h)
      x
  goes (wanted f) a s x h =
      goes-begins (λ d. go (number f d) a s) (go (lettered f) a s) (go (wanted f) a s) f a s (λ y. begin-number (wanted f) a f (b - 48) (wants-plugs a) y h) (λ e. begin-letter (wanted f) a f (wants-plugs a) e h)
      (λ e. moved_by 32 a (wanted f) (wanted f) e (more-space a) h)
      (moved p 45 a (wanted f) (wanted (turned f)) (λ c y. minus-first a c (wants-plugs a c y)) h)
      (reach-opening p f (wanted f) a (λ c y. plugs-opens a c (wants-plugs a c y)) h)
      x
  goes (lettered f) a s x h = goes-digits (λ d. go (named f d) a s) (λ y. moved p b a (lettered f) (named f (b - 48)) (λ c z. (z.0, one-digit b y, z.1, ap (λ (l : List ℕ). l ++ (b ∷ [])) z.2 ∙ append_assoc z.0 (118 ∷ []) (b ∷ []))) h) x
  goes (number f v) a s x h =
      goes-behind (number f v) a (with_number f v s) tt h (λ d. cond (leb (v * 10 + d) most) (go (number f (v * 10 + d)) a s) (stop 22)) (go (numbered f v) a s) (cond (leb (f.times * v) most) (go (wanted (multiplied f v)) a s) (stop 22))
      (λ y. goes-if p b (leb (v * 10 + (b - 48)) most) (number f (v * 10 + (b - 48))) a s (moved p b a (number f v) (number f (v * 10 + (b - 48))) (λ c z. (z.0, more-digits z.1 b y, z.2, ap (λ (l : List ℕ). l ++ (b ∷ [])) z.3 ∙ append_assoc z.0 z.1.bytes (b ∷ []))) h))
      (λ e. moved_by 32 a (number f v) (numbered f v) e (λ c z. (z.0, z.1, 1, z.2, behind_more c z.0 z.1.bytes 0 (none-behind c z.0 z.1.bytes z.3))) h)
      (λ e. goes-if p b (leb (f.times * v) most) (wanted (multiplied f v)) a s (star-by a (number f v) (multiplied f v) e (λ c z. (z.0, z.1, 0, z.2, none-behind c z.0 z.1.bytes z.3)) h))
      x
  goes (numbered f v) a s x h =
      goes-behind (numbered f v) a (with_number f v s) tt h (λ d. halts a) (go (numbered f v) a s) (cond (leb (f.times * v) most) (go (wanted (multiplied f v)) a s) (stop 22))
      (λ y. goes-halts p b (numbered f v) a h)
      (λ e. moved_by 32 a (numbered f v) (numbered f v) e (λ c z. (z.0, z.1, suc z.2, z.3, behind_more c z.0 z.1.bytes z.2 z.4)) h)
      (λ e. goes-if p b (leb (f.times * v) most) (wanted (multiplied f v)) a s (star-by a (numbered f v) (multiplied f v) e (λ c z. z) h))
      x
  goes (named f v) a s x h =
      goes-behind (named f v) a (with_variable f v s) tt h (λ d. cond (leb (v * 10 + d) most_name) (go (named f (v * 10 + d)) a s) (stop 22)) (go apart a (with_variable f v s)) (halts a)
      (λ y. goes-if p b (leb (v * 10 + (b - 48)) most_name) (named f (v * 10 + (b - 48))) a s (moved p b a (named f v) (named f (v * 10 + (b - 48))) (λ c z. (z.0, more-digits z.1 b y, z.2, ap (λ (l : List ℕ). l ++ (b ∷ [])) z.3 ∙ append_assoc z.0 (118 ∷ z.1.bytes) (b ∷ []))) h))
      (λ e. moved_by 32 a (named f v) apart e (λ c z. rests-more a c (rests a c (named f v) tt z)) h)
      (λ e. goes-halts p b (named f v) a h)
      x
  goes closed a s x h =
      goes-behind closed a s tt h (λ d. halts a) (go closed a s) (halts a) (λ y. goes-halts p b closed a h)
      (λ e. moved_by 32 a closed closed e (λ c z k. full_by a (sym (append_assoc c (32 ∷ []) (spaces k))) (z (suc k))) h)
      (λ e. goes-halts p b closed a h)
      x
  goes apart a s x h =
      goes-behind apart a s tt h (λ d. halts a) (go apart a s) (halts a) (λ y. goes-halts p b apart a h)
      (λ e. moved_by 32 a apart apart e (rests-more a) h)
      (λ e. goes-halts p b apart a h)
      x
  goes (half r) a s x h = goes-equalled (go (wanted (turned one)) (right r) s) (λ e. subst⁻¹ (λ (y : ℕ). Reached (next p y) (wanted (turned one)) (right r)) e (reach-whole p r (turned one) a h)) x
