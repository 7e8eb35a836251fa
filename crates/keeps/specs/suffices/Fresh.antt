-- A live variable is in the changed set, or has the value that was told of it; and what a note does for it. Assumes nothing.
use Rattle.std.specs.Prelude.{◌≡◌, ◌⊎◌, List, [], ◌∷◌, map, Bool, cond, ◌||◌, ℕ, Float}
use Rattle.std.proofs.Math.Path.{refl}
use Rattle.std.proofs.Common.{sym, ap, ◌∙◌, subst, inl, inr, true≢false, eqb→eq}
use Rattle.std.proofs.Math.Bool.{true, false}
use Rattle.std.proofs.Math.Dec.{eqb, eqb_refl}
use Rattle.steps.specs.Number.{zero64}
use Rattle.steps.specs.State.{Basic, Variable, Changes}
use Rattle.steps.specs.Changes.{with_flag, clear_changed, flag_symbol, var_changed, all_changed, member, never_reported, value_of}
use Rattle.keeps.specs.Lists.{All, all-to, truly, so}
use Rattle.keeps.specs.Fits.{all_map}
use Rattle.keeps.specs.suffices.Numbers.{Is}

-- what a reader holds of a live variable: the value last told, 0.0 if none was
abbrev pub held : Variable → Float
held v = cond (never_reported v) zero64 v.old

-- in the changed set, which the next fetch does not clear
abbrev pub Flagged : Bool → Variable → Type 0
Flagged clears v = (clears ≡ false) × (v.changed ≡ true)

abbrev pub Fresh : Bool → List Basic → Variable → Type 0
Fresh clears rows v = Flagged clears v ⊎ Is (value_of v rows) (held v)

abbrev pub Aware : List Basic → Changes → Type 0
Aware rows c = All (Fresh c.should_clear rows) c.variables

-- ---- notes

-- fresh once these symbols are noted
abbrev pub Owing : List ℕ → Bool → List Basic → Variable → Type 0
Owing ns clears rows v = (member v.symbol.id ns ≡ true) ⊎ Fresh clears rows v

eqb-turn : (m n : ℕ) → eqb m n ≡ true → eqb n m ≡ true
eqb-turn m n e = subst (λ (k : ℕ). eqb n k ≡ true) (sym (eqb→eq m n (so e))) (truly (eqb n n) (eqb_refl n))

-- one symbol noted
note-one : (s : ℕ) (ns : List ℕ) (clears : Bool) (rows : List Basic) (v u : Variable) → u.symbol ≡ v.symbol → u.old ≡ v.old → (clears ≡ false → u.changed ≡ v.changed) → Owing (s ∷ ns) clears rows v
    → Owing ns false rows (with_flag (u.changed || eqb s u.symbol.id) u)
unfolding with_flag member value_of never_reported
note-one s ns clears rows v u p q k (inl h) = go (eqb v.symbol.id s) refl h
  where
    or-true : (a b : Bool) → b ≡ true → (a || b) ≡ true
    or-true true b e = refl
    or-true false b e = e

    go : (t : Bool) → eqb v.symbol.id s ≡ t → (t || member v.symbol.id ns) ≡ true → Owing ns false rows (with_flag (u.changed || eqb s u.symbol.id) u)
    go true e h = inr (inl (refl, or-true u.changed (eqb s u.symbol.id) (rw p (eqb-turn v.symbol.id s e))))
    go false e h = inl (rw p h)
note-one s ns clears rows v u p q k (inr (inl h)) = inr (inl (refl, ap (λ (t : Bool). t || eqb s u.symbol.id) (k h.0 ∙ h.1)))
note-one s ns clears rows v u p q k (inr (inr h)) = inr (inr (rw (p, q) h))

pub all_noted : (ns : List ℕ) (rows : List Basic) (c : Changes) → All (Owing ns c.should_clear rows) c.variables → Aware rows (all_changed ns c)
unfolding all_changed member
all_noted [] rows c h = all-to (Owing [] c.should_clear rows) (Fresh c.should_clear rows) (λ v o. elim o [ inl e ↦ absurd (true≢false (sym e)) | inr f ↦ f ]) c.variables h
all_noted (s ∷ ns) rows c h = all_noted ns rows (var_changed s c) (unfold var_changed flag_symbol in go c.should_clear h)
  where
    flag : Variable → Variable
    flag v = with_flag (v.changed || eqb s v.symbol.id) v

    go : (t : Bool) → All (Owing (s ∷ ns) t rows) c.variables → All (Owing ns false rows) (map flag (cond t (clear_changed c.variables) c.variables))
    go true h =
        unfold clear_changed with_flag in
        all_map flag (Owing ns false rows) (map (with_flag false) c.variables)
        (all_map (with_flag false) (λ v. Owing ns false rows (flag v)) c.variables (all-to (Owing (s ∷ ns) true rows) _ (λ v o. note-one s ns true rows v (with_flag false v) refl refl (λ e. absurd (true≢false e)) o) c.variables h))
    go false h = all_map flag (Owing ns false rows) c.variables (all-to (Owing (s ∷ ns) false rows) _ (λ v o. note-one s ns false rows v v refl refl (λ e. refl) o) c.variables h)
