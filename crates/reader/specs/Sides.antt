-- What the code finds at a line's start and at its relation, and how a reader goes over it: T-01's, and one that takes the same steps up to an `@`.
use Prim.Native.Nat.{ℕ, zero, suc, ◌+◌, ◌≤◌, ◌<◌}
use Rattle.std.specs.Prelude.{◌≡◌, Bool, List, ◌⊎◌, length, get_or, Result, Ok, Err}
use Rattle.std.proofs.Math.Path.{refl, sym, ap}
use Rattle.std.proofs.Common.{subst, ◌∙◌, inl, inr, arith}
use Rattle.std.proofs.Math.Bool.{true, false}
use Rattle.grammar.specs.Bytes.{Kind as Byte, kind_of}
use Rattle.grammar.specs.Sums.{Relation, at_most, equal, at_least, Sums, one, turned}
use Rattle.grammar.specs.Reader.{Mode, first, spaced, wanted, half, closed, apart, Around, left, right, room_of, go, stop, step}
use Rattle.grammar.specs.Descent.{rested}
use Rattle.reader.specs.Scan.{Skips, present}
use Rattle.reader.specs.Run.{by_kind, behind-spaces, fewer-spaces, Follows}
use Rattle.reader.specs.Parts.{Unjoined}
use Rattle.reader.specs.declared.sides.Mark.{Mark}
use Rattle.reader.specs.declared.sides.Mark.TheVariants.{AtMost, Equal, AtLeast}
use Rattle.reader.specs.declared.fault.Fault.{Fault}
use Rattle.reader.specs.declared.fault.Fault.TheVariants.{Astray, TooDeep, TooLarge}

abbrev pub relation_of : Mark → Relation
relation_of AtMost = at_most
relation_of Equal = equal
relation_of AtLeast = at_least

-- ---- what the code finds, by its bytes

-- a line's first part: at once, or behind spaces where a mark stands
abbrev pub StartIs : List ℕ → Result ℕ Fault → Type 0
StartIs w (Ok i) = Skips w 0 i × ((0 < i) → (get_or w i 0 ≡ 45) ⊎ (get_or w i 0 ≡ 40))
StartIs w (Err (Astray b)) = Skips w 0 b × (0 < b) × (get_or w b 0 ≡ 45 → ⊥) × (get_or w b 0 ≡ 40 → ⊥)
StartIs w (Err (TooDeep b)) = ⊥
StartIs w (Err (TooLarge b)) = ⊥

-- behind `<` or `>`
abbrev pub HalfIs : List ℕ → ℕ → Mark → Result (Mark × ℕ) Fault → Type 0
HalfIs w at m (Ok (r, next)) = (r ≡ m) × (next ≡ at + 1) × (get_or w at 0 ≡ 61)
HalfIs w at m (Err (Astray b)) = (b ≡ at) × (get_or w at 0 ≡ 61 → ⊥)
HalfIs w at m (Err (TooDeep b)) = ⊥
HalfIs w at m (Err (TooLarge b)) = ⊥

abbrev pub MarkIs : List ℕ → ℕ → ℕ → Mark → Type 0
MarkIs w at next AtMost = (get_or w at 0 ≡ 60) × (get_or w (at + 1) 0 ≡ 61) × (next ≡ at + 2)
MarkIs w at next Equal = (get_or w at 0 ≡ 61) × (next ≡ at + 1)
MarkIs w at next AtLeast = (get_or w at 0 ≡ 62) × (get_or w (at + 1) 0 ≡ 61) × (next ≡ at + 2)

-- no mark that relates two sides
pub record Unrelated (w : List ℕ) (at : ℕ) : Type 0 where
  pub unjoined : Unjoined w at
  pub no-equals : get_or w at 0 ≡ 61 → ⊥
  pub no_less : get_or w at 0 ≡ 60 → ⊥
  pub no_more : get_or w at 0 ≡ 62 → ⊥

-- half a mark
abbrev pub Halved : List ℕ → ℕ → Type 0
Halved w at = ((get_or w at 0 ≡ 60) ⊎ (get_or w at 0 ≡ 62)) × (get_or w (at + 1) 0 ≡ 61 → ⊥)

abbrev pub RelatedIs : List ℕ → ℕ → Result (Mark × ℕ) Fault → Type 0
RelatedIs w at (Ok (m, next)) = MarkIs w at next m
RelatedIs w at (Err (Astray b)) = ((b ≡ at) × (at ≤ length w) × Unrelated w at) ⊎ ((b ≡ at + 1) × Halved w at)
RelatedIs w at (Err (TooDeep b)) = ⊥
RelatedIs w at (Err (TooLarge b)) = ⊥

module _ (w : List ℕ) (at : ℕ) where
  pub related-less : (r : Result (Mark × ℕ) Fault) → get_or w at 0 ≡ 60 → HalfIs w (at + 1) AtMost r → RelatedIs w at r
  related-less (Ok (r, next)) e (q, n, h) = subst (MarkIs w at next) (sym q) (e, h, omega arith)
  related-less (Err (Astray b)) e (q, h) = inr (q, (inl e, h))
  related-less (Err (TooDeep b)) e h = absurd h
  related-less (Err (TooLarge b)) e h = absurd h

  pub related-more : (r : Result (Mark × ℕ) Fault) → get_or w at 0 ≡ 62 → HalfIs w (at + 1) AtLeast r → RelatedIs w at r
  related-more (Ok (r, next)) e (q, n, h) = subst (MarkIs w at next) (sym q) (e, h, omega arith)
  related-more (Err (Astray b)) e (q, h) = inr (q, (inr e, h))
  related-more (Err (TooDeep b)) e h = absurd h
  related-more (Err (TooLarge b)) e h = absurd h

  pub related-within : (m : Mark) (next : ℕ) → RelatedIs w at (Ok (m, next)) → (at < next) × (next ≤ length w)
  related-within AtMost next (e, h, q) = let k = present w (at + 1) (omega (arith, h)) in (omega arith, omega arith)
  related-within Equal next (e, q) = let k = present w at (omega (arith, e)) in (omega arith, omega arith)
  related-within AtLeast next (e, h, q) = let k = present w (at + 1) (omega (arith, h)) in (omega arith, omega arith)

-- ---- how a reader goes over it

module _ (w : List ℕ) {X : Type 0} (from : ℕ → Mode → Around → Sums → X) (halt : ℕ → ℕ → X) (f : Follows w from halt) where
  on : (at b : ℕ) (m : Mode) (a : Around) (s : Sums) {m' : Mode} {a' : Around} {s' : Sums} → get_or w at 0 ≡ b → 0 < b → (b ≡ 64 → ⊥) → step m a s (kind_of b) ≡ go m' a' s' → from at m a s ≡ from (at + 1) m' a' s'
  on at b m a s e h n q = f.goes at m a s (present w at (omega arith)) (λ g. n (sym e ∙ g)) (ap (λ (x : ℕ). step m a s (kind_of x)) e ∙ q)

  -- spaces that begin a line
  spaces-first : (i : ℕ) (s : Sums) → Skips w 0 i → 0 < i → from 0 first left s ≡ from i spaced left s
  unfolding kind_of
  spaces-first i s k h =
      on 0 32 first left s (k.spaces 0 (omega arith) h) (omega arith) (λ e. omega arith) refl
      ∙ behind-spaces w (λ j. from j spaced left s) (λ j g e. on j 32 spaced left s e (omega arith) (λ e. omega arith) refl) 1 i (fewer-spaces w 0 i k h)

  pub start-at : (i : ℕ) (s : Sums) → StartIs w (Ok i) → from 0 first left s ≡ from i (wanted one) left s
  unfolding kind_of room_of
  start-at zero s (k, h) = f.begins s k.stops
  start-at (suc i) s (k, h) = spaces-first (suc i) s k (omega arith) ∙ by (h (omega arith))
    where
      by : (get_or w (suc i) 0 ≡ 45) ⊎ (get_or w (suc i) 0 ≡ 40) → from (suc i) spaced left s ≡ from (suc i) (wanted one) left s
      by (inl e) = on (suc i) 45 spaced left s e (omega arith) (λ e. omega arith) refl ∙ sym (on (suc i) 45 (wanted one) left s e (omega arith) (λ e. omega arith) refl)
      by (inr e) = on (suc i) 40 spaced left s e (omega arith) (λ e. omega arith) refl ∙ sym (on (suc i) 40 (wanted one) left s e (omega arith) (λ e. omega arith) refl)

  pub start-bad : (b : ℕ) (s : Sums) → StartIs w (Err (Astray b)) → from 0 first left s ≡ halt 20 b
  start-bad b s (k, h, m, o) =
      spaces-first b s k h
      ∙ f.strays b spaced s k.within
      (by_kind (λ (x : Byte). step spaced left s x ≡ stop 20) (get_or w b 0)
      (λ e. refl) (λ e. absurd (k.stops e)) (λ e. absurd (o e)) (λ e. refl) (λ e. refl) (λ e. refl) (λ e. absurd (m e)) (λ e. refl) (λ e. refl) (λ e. refl) (λ e. refl) refl)

  -- the whole mark
  pub related-by : (at next : ℕ) (m : Mark) (bare : Bool) (s : Sums) → MarkIs w at next m → from at (rested bare) left s ≡ from next (wanted (turned one)) (right (relation_of m)) s
  unfolding kind_of
  related-by at next AtMost bare s (e, h, q) = first-half bare ∙ (on (at + 1) 61 (half at_most) left s h (omega arith) (λ e. omega arith) refl ∙ ap (λ (i : ℕ). from i (wanted (turned one)) (right at_most) s) (omega arith))
    where
      first-half : (t : Bool) → from at (rested t) left s ≡ from (at + 1) (half at_most) left s
      first-half true = on at 60 closed left s e (omega arith) (λ e. omega arith) refl
      first-half false = on at 60 apart left s e (omega arith) (λ e. omega arith) refl
  related-by at next Equal bare s (e, q) = by bare ∙ ap (λ (i : ℕ). from i (wanted (turned one)) (right equal) s) (sym q)
    where
      by : (t : Bool) → from at (rested t) left s ≡ from (at + 1) (wanted (turned one)) (right equal) s
      by true = on at 61 closed left s e (omega arith) (λ e. omega arith) refl
      by false = on at 61 apart left s e (omega arith) (λ e. omega arith) refl
  related-by at next AtLeast bare s (e, h, q) = first-half bare ∙ (on (at + 1) 61 (half at_least) left s h (omega arith) (λ e. omega arith) refl ∙ ap (λ (i : ℕ). from i (wanted (turned one)) (right at_least) s) (omega arith))
    where
      first-half : (t : Bool) → from at (rested t) left s ≡ from (at + 1) (half at_least) left s
      first-half true = on at 62 closed left s e (omega arith) (λ e. omega arith) refl
      first-half false = on at 62 apart left s e (omega arith) (λ e. omega arith) refl

  unrelated : (at : ℕ) (bare : Bool) (s : Sums) → at ≤ length w → Unrelated w at → from at (rested bare) left s ≡ halt 20 at
  unrelated at bare s h u = f.strays at (rested bare) s h (by bare)
    where
      by : (t : Bool) → step (rested t) left s (kind_of (get_or w at 0)) ≡ stop 20
      by true =
          by_kind (λ (x : Byte). step closed left s x ≡ stop 20) (get_or w at 0)
          (λ e. refl) (λ e. absurd (u.unjoined.no-space e)) (λ e. refl) (λ e. refl) (λ e. refl) (λ e. absurd (u.unjoined.no_plus e)) (λ e. absurd (u.unjoined.no_minus e)) (λ e. absurd (u.no_less e)) (λ e. absurd (u.no-equals e)) (λ e. absurd (u.no_more e)) (λ e. refl) refl
      by false =
          by_kind (λ (x : Byte). step apart left s x ≡ stop 20) (get_or w at 0)
          (λ e. refl) (λ e. absurd (u.unjoined.no-space e)) (λ e. refl) (λ e. refl) (λ e. refl) (λ e. absurd (u.unjoined.no_plus e)) (λ e. absurd (u.unjoined.no_minus e)) (λ e. absurd (u.no_less e)) (λ e. absurd (u.no-equals e)) (λ e. absurd (u.no_more e)) (λ e. refl) refl

  halved : (at : ℕ) (bare : Bool) (s : Sums) → Halved w at → from at (rested bare) left s ≡ halt 20 (at + 1)
  unfolding kind_of
  halved at bare s (mark, n) = by mark bare
    where
      astray : (r : Relation) → step (half r) left s (kind_of (get_or w (at + 1) 0)) ≡ stop 20
      astray r =
          by_kind (λ (x : Byte). step (half r) left s x ≡ stop 20) (get_or w (at + 1) 0)
          (λ e. refl) (λ e. refl) (λ e. refl) (λ e. refl) (λ e. refl) (λ e. refl) (λ e. refl) (λ e. refl) (λ e. absurd (n e)) (λ e. refl) (λ e. refl) refl

      at-half : (r : Relation) → at < length w → from (at + 1) (half r) left s ≡ halt 20 (at + 1)
      at-half r h = f.strays (at + 1) (half r) s (omega arith) (astray r)

      by : (get_or w at 0 ≡ 60) ⊎ (get_or w at 0 ≡ 62) → (t : Bool) → from at (rested t) left s ≡ halt 20 (at + 1)
      by (inl e) true = on at 60 closed left s e (omega arith) (λ e. omega arith) refl ∙ at-half at_most (present w at (omega arith))
      by (inl e) false = on at 60 apart left s e (omega arith) (λ e. omega arith) refl ∙ at-half at_most (present w at (omega arith))
      by (inr e) true = on at 62 closed left s e (omega arith) (λ e. omega arith) refl ∙ at-half at_least (present w at (omega arith))
      by (inr e) false = on at 62 apart left s e (omega arith) (λ e. omega arith) refl ∙ at-half at_least (present w at (omega arith))

  pub related-no : (at b : ℕ) (bare : Bool) (s : Sums) → RelatedIs w at (Err (Astray b)) → from at (rested bare) left s ≡ halt 20 b
  related-no at b bare s (inl (q, h, u)) = unrelated at bare s h u ∙ ap (halt 20) (sym q)
  related-no at b bare s (inr (q, h)) = halved at bare s h ∙ ap (halt 20) (sym q)
