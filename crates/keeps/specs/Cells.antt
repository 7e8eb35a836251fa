-- A cell that reads: absent if its symbol is basic, finite while no write has been other. What each write leaves of that. Assumes nothing.
use Rattle.std.specs.Prelude.{◌≡◌, List, [], ◌∷◌, Bool, not, ◌&&◌, cond, ℕ, ◌+◌, ◌*◌, eqb, ℤ, Float}
use Rattle.std.proofs.Math.Path.{refl}
use Rattle.std.proofs.Common.{sym, ap, ◌∙◌, subst, true≢false, arith, eqb→eq, ltb→lt}
use Rattle.std.proofs.Math.Bool.{true, false}
use Rattle.std.specs.Float.{nan, inf, fin}
use Rattle.std.specs.Float.Ieee.{lt, eq, neg, of_bits, level, below, up, down}
use Rattle.steps.specs.Number.{zero64, below_zero, near_zero, is_finite, Mark, all_whole, not_whole, not_finite, worse, mark_write, whole_if, within, ◌+₆₄◌, ◌*₆₄◌}
use Rattle.steps.specs.Symbol.{Symbol, absent, holds}
use Rattle.steps.specs.Row.{Cell, kept, wrote, stored, cell_value, cell_values, cell_mark, cell_marks, goes_if_near_zero, insert_cell, insert_times, scale_cell}
use Rattle.keeps.specs.Lists.{so, left, right, no_both}
use Rattle.keeps.specs.Along.{Along, along-to}

-- ---- floats

pub zero-absent : absent zero64 ≡ true
unfolding absent zero64 of_bits eq
zero-absent = refl

pub zero-finite : is_finite zero64 ≡ true
unfolding is_finite zero64 of_bits
zero-finite = refl

-- a number below or above another isn't equal to it
apart : (s t : Bool) (a b : ℕ) → below s a t b ≡ true → level s a t b ≡ true → ⊥
apart false false a b l e = omega (arith, ltb→lt a b (so l), eqb→eq a b (so (left (eqb a b) _ e)))
apart false true a b l e = true≢false (sym l)
apart true false a b l e = omega (arith, ltb→lt 0 (a + b) (so l), eqb→eq a b (so (left (eqb a b) _ e)), eqb→eq a 0 (so (right (eqb a b) (eqb a 0) e)))
apart true true a b l e = omega (arith, ltb→lt b a (so l), eqb→eq a b (so (left (eqb a b) _ e)))

apart' : (s t : Bool) (a b : ℕ) → below t b s a ≡ true → level s a t b ≡ true → ⊥
apart' false false a b l e = omega (arith, ltb→lt b a (so l), eqb→eq a b (so (left (eqb a b) _ e)))
apart' true false a b l e = true≢false (sym l)
apart' false true a b l e = omega (arith, ltb→lt 0 (b + a) (so l), eqb→eq a b (so (left (eqb a b) _ e)), eqb→eq a 0 (so (right (eqb a b) (eqb a 0) e)))
apart' true true a b l e = omega (arith, ltb→lt a b (so l), eqb→eq a b (so (left (eqb a b) _ e)))

pub lt-apart : (x y : Float) → lt x y ≡ true → eq x y ≡ true → ⊥
unfolding lt eq
lt-apart nan y l e = true≢false (sym l)
lt-apart (inf s) nan l e = true≢false (sym l)
lt-apart (inf true) (inf true) l e = true≢false (sym l)
lt-apart (inf true) (inf false) l e = true≢false (sym e)
lt-apart (inf false) (inf t) l e = true≢false (sym l)
lt-apart (inf s) (fin t n d) l e = true≢false (sym e)
lt-apart (fin s m d) nan l e = true≢false (sym e)
lt-apart (fin s m d) (inf t) l e = true≢false (sym e)
lt-apart (fin s m d) (fin t n f) l e = apart s t (m * up d * down f) (n * up f * down d) l e

pub gt-apart : (x y : Float) → lt y x ≡ true → eq x y ≡ true → ⊥
unfolding lt eq
gt-apart nan y l e = true≢false (sym e)
gt-apart (inf s) nan l e = true≢false (sym e)
gt-apart (inf true) (inf true) l e = true≢false (sym l)
gt-apart (inf true) (inf false) l e = true≢false (sym e)
gt-apart (inf false) (inf true) l e = true≢false (sym e)
gt-apart (inf false) (inf false) l e = true≢false (sym l)
gt-apart (inf s) (fin t n d) l e = true≢false (sym e)
gt-apart (fin s m d) nan l e = true≢false (sym e)
gt-apart (fin s m d) (inf t) l e = true≢false (sym e)
gt-apart (fin s m d) (fin t n f) l e = apart' s t (m * up d * down f) (n * up f * down d) l e

pub below-held : (c : Float) → below_zero c ≡ true → absent c ≡ true → ⊥
unfolding below_zero absent
below-held c l e = lt-apart c zero64 l e

pub above-held : (c : Float) → lt zero64 c ≡ true → absent c ≡ true → ⊥
unfolding absent
above-held c l e = gt-apart c zero64 l e

pub holds-held : (c : Float) → holds c ≡ true → absent c ≡ true → ⊥
unfolding holds
holds-held c l e = true≢false (sym (rw e at l))

level-zero : (s : Bool) (a b : ℕ) → b ≡ 0 → level s a false b ≡ true → level (not s) a false b ≡ true
level-zero true a b z e = ap (λ (t : Bool). t && true) (left (eqb a b) _ e)
level-zero false a b z e = go (left (eqb a b) _ e)
  where
    go : eqb a b ≡ true → (eqb a b && eqb a 0) ≡ true
    go f = ap (λ (t : Bool). t && eqb a 0) f ∙ subst (λ (y : ℕ). eqb a y ≡ true) z f

flip : (s : Bool) (m : ℕ) (d f : ℤ) → eq (fin s m d) (fin false 0 f) ≡ true → eq (fin (not s) m d) (fin false 0 f) ≡ true
unfolding eq
flip s m d f e = level-zero s (m * up d * down f) (0 * up f * down d) (omega arith) e

flip-inf : (s : Bool) (f : ℤ) → eq (inf s) (fin false 0 f) ≡ true → ⊥
unfolding eq
flip-inf s f e = true≢false (sym e)

pub neg-absent : (c : Float) → absent c ≡ true → absent (neg c) ≡ true
unfolding absent neg zero64 of_bits
neg-absent nan e = e
neg-absent (inf s) e = absurd (flip-inf s _ e)
neg-absent (fin s m d) e = flip s m d _ e

pub neg-finite : (c : Float) → is_finite c ≡ true → is_finite (neg c) ≡ true
unfolding is_finite neg
neg-finite nan e = e
neg-finite (inf s) e = e
neg-finite (fin s m d) e = refl

pub stored-absent : (c : Float) → absent c ≡ true → absent (stored c) ≡ true
unfolding stored
stored-absent c e = rw e zero-absent

pub stored-finite : (c : Float) → is_finite c ≡ true → is_finite (stored c) ≡ true
unfolding stored
stored-finite c e = go (absent c)
  where
    go : (t : Bool) → is_finite (cond t zero64 c) ≡ true
    go true = zero-finite
    go false = e

-- ---- marks

abbrev pub Fine : Mark → Type 0
Fine all_whole = Unit
Fine not_whole = Unit
Fine not_finite = ⊥

pub fine-l : (m n : Mark) → Fine (worse m n) → Fine m
unfolding worse
fine-l all_whole n f = tt
fine-l not_whole n f = tt
fine-l not_finite n f = f

pub fine-r : (m n : Mark) → Fine (worse m n) → Fine n
unfolding worse
fine-r all_whole n f = f
fine-r not_whole all_whole f = tt
fine-r not_whole not_whole f = tt
fine-r not_whole not_finite f = f
fine-r not_finite n f = absurd f

pub write-finite : (bound x : Float) → Fine (mark_write bound x) → is_finite x ≡ true
unfolding mark_write
write-finite bound x f = go (is_finite x) f
  where
    go : (t : Bool) → Fine (cond t (whole_if (within bound x)) not_finite) → t ≡ true
    go true f = refl
    go false f = absurd f

-- ---- a cell of the symbol i; B says which symbols are basic, and G that all writes were finite

abbrev pub Ok : (ℕ → Type 0) → Type 0 → ℕ → Float → Type 0
Ok B G i c = (B i → absent c ≡ true) × (G → is_finite c ≡ true)

abbrev pub OkCell : (ℕ → Type 0) → Type 0 → Float → ℕ → Cell → Type 0
OkCell B G bound i c = (B i → absent (cell_value c) ≡ true) × (G → Fine (cell_mark bound c) → is_finite (cell_value c) ≡ true)

pub ok-zero : (B : ℕ → Type 0) (G : Type 0) (i : ℕ) → Ok B G i zero64
ok-zero B G i = ((λ b. zero-absent), λ g. zero-finite)

module _ (B : ℕ → Type 0) (G : Type 0) (bound : Float) (i : ℕ) where
  pub kept-ok : (c : Float) → Ok B G i c → OkCell B G bound i (kept c)
  unfolding cell_value cell_mark
  kept-ok c h = (h.0, λ g f. h.1 g)

  wrote-ok : (c : Float) → (B i → absent c ≡ true) → OkCell B G bound i (wrote c)
  unfolding cell_value cell_mark
  wrote-ok c h = ((λ b. stored-absent c (h b)), λ g f. stored-finite c (write-finite bound c f))

  pub insert-ok : (cut c k : Float) → (B i → ⊥) → Ok B G i c → OkCell B G bound i (insert_cell cut c k)
  unfolding insert_cell
  insert-ok cut c k n h = go (absent c) (near_zero cut k)
    where
      go : (a z : Bool) → OkCell B G bound i (elim a [ true ↦ elim z [ true ↦ kept c | false ↦ wrote k ] | false ↦ wrote (goes_if_near_zero cut (c +₆₄ k)) ])
      go true true = kept-ok c h
      go true false = wrote-ok k (λ b. absurd (n b))
      go false z = wrote-ok (goes_if_near_zero cut (c +₆₄ k)) (λ b. absurd (n b))

  pub times-ok : (cut k o c : Float) → Ok B G i o → Ok B G i c → OkCell B G bound i (insert_times cut k o c)
  unfolding insert_times
  times-ok cut k o c g h = go (absent o) refl
    where
      go : (a : Bool) → absent o ≡ a → OkCell B G bound i (elim a [ true ↦ kept c | false ↦ insert_cell cut c (o *₆₄ k) ])
      go true e = kept-ok c h
      go false e = insert-ok cut c (o *₆₄ k) (λ b. no_both (g.0 b) e) h

  pub scale_ok : (k c : Float) → Ok B G i c → OkCell B G bound i (scale_cell k c)
  unfolding scale_cell
  scale_ok k c h = go (absent c) refl
    where
      go : (a : Bool) → absent c ≡ a → OkCell B G bound i (elim a [ true ↦ kept c | false ↦ wrote (c *₆₄ k) ])
      go true e = kept-ok c h
      go false e = wrote-ok (c *₆₄ k) (λ b. absurd (no_both (h.0 b) e))

pub values-ok : (B : ℕ → Type 0) (G H : Type 0) (bound : Float) → (H → G) → (xs : List Symbol) (cs : List Cell) → (H → Fine (cell_marks bound cs))
    → Along (OkCell B G bound) xs cs → Along (Ok B H) xs (cell_values cs)
unfolding cell_values cell_marks
values-ok B G H bound g [] [] m h = tt
values-ok B G H bound g [] (c ∷ cs) m h = absurd h
values-ok B G H bound g (x ∷ xs) [] m h = absurd h
values-ok B G H bound g (x ∷ xs) (c ∷ cs) m h = (
  (h.0.0, λ p. h.0.1 (g p) (fine-l (cell_mark bound c) (cell_marks bound cs) (m p))),
  values-ok B G H bound g xs cs (λ p. fine-r (cell_mark bound c) (cell_marks bound cs) (m p)) h.1,
)

pub ok-to : (B C : ℕ → Type 0) (G H : Type 0) → ((i : ℕ) → C i → B i) → (H → G) → (xs : List Symbol) (cs : List Float) → Along (Ok B G) xs cs → Along (Ok C H) xs cs
ok-to B C G H b g xs cs h = along-to (Ok B G) (Ok C H) (λ i c o. ((λ d. o.0 (b i d)), λ p. o.1 (g p))) xs cs h
