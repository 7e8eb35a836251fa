-- Cells along the live symbols: what each operation on cells does place by place, for any property of a place. Assumes nothing.
use Rattle.std.specs.Prelude.{◌≡◌, refl, ◌⊎◌, ◌≢◌, ℕ, suc, ◌<◌, eqb, length}
use Rattle.std.proofs.Common.{sym, ap, subst, inl, inr, arith}
use mathlib.Core.List.{List, [], ◌∷◌, ◌++◌, map}
use Rattle.std.proofs.Math.Option.{some}
use Rattle.std.proofs.Math.Bool.{Bool, true, false}
use Rattle.std.specs.Float.Ieee.{Float}
use Rattle.steps.specs.Number.{zero64}
use Rattle.steps.specs.Symbol.{Symbol, is_symbol, coefficient_for, clear_cell, delete_cell, delete_symbol, first_symbol}
use Rattle.steps.specs.Row.{Cell, kept, cell_value, cell_values, insert_cell, insert_symbol, insert_times, insert_cells, scale_cell, scale_cells}
use Rattle.keeps.specs.Lists.{Same?, is, isnt, same?, Up, none≢some, some-injective}

abbrev pub Along : {A : Type 0} → (ℕ → A → Type 0) → List Symbol → List A → Type 0
Along Q [] [] = Unit
Along Q [] (c ∷ cs) = ⊥
Along Q (x ∷ xs) [] = ⊥
Along Q (x ∷ xs) (c ∷ cs) = Q x.id c × Along Q xs cs

abbrev pub ids : List Symbol → List ℕ
ids xs = map (λ (x : Symbol). x.id) xs

abbrev pub Mem : Symbol → List Symbol → Type 0
Mem s [] = ⊥
Mem s (x ∷ xs) = (s ≡ x) ⊎ Mem s xs

module _ {A : Type 0} where
  pub along-to : (Q R : ℕ → A → Type 0) → ((i : ℕ) (c : A) → Q i c → R i c) → (xs : List Symbol) (cs : List A) → Along Q xs cs → Along R xs cs
  along-to Q R f [] [] h = tt
  along-to Q R f [] (c ∷ cs) h = absurd h
  along-to Q R f (x ∷ xs) [] h = absurd h
  along-to Q R f (x ∷ xs) (c ∷ cs) h = (f x.id c h.0, along-to Q R f xs cs h.1)

  pub along-length : (Q : ℕ → A → Type 0) (xs : List Symbol) (cs : List A) → Along Q xs cs → length cs ≡ length xs
  along-length Q [] [] h = refl
  along-length Q [] (c ∷ cs) h = absurd h
  along-length Q (x ∷ xs) [] h = absurd h
  along-length Q (x ∷ xs) (c ∷ cs) h = ap suc (along-length Q xs cs h.1)

  pub along-append : (Q : ℕ → A → Type 0) (xs : List Symbol) (cs : List A) (s : Symbol) (c : A) → Along Q xs cs → Q s.id c → Along Q (xs ++ (s ∷ [])) (cs ++ (c ∷ []))
  along-append Q [] [] s c h q = (q, tt)
  along-append Q [] (d ∷ cs) s c h q = absurd h
  along-append Q (x ∷ xs) [] s c h q = absurd h
  along-append Q (x ∷ xs) (d ∷ cs) s c h q = (h.0, along-append Q xs cs s c h.1 q)

  pub along-map : {B : Type 0} (f : A → B) (Q : ℕ → A → Type 0) (R : ℕ → B → Type 0) → ((i : ℕ) (c : A) → Q i c → R i (f c)) → (xs : List Symbol) (cs : List A)
      → Along Q xs cs → Along R xs (map f cs)
  along-map f Q R g [] [] h = tt
  along-map f Q R g [] (c ∷ cs) h = absurd h
  along-map f Q R g (x ∷ xs) [] h = absurd h
  along-map f Q R g (x ∷ xs) (c ∷ cs) h = (g x.id c h.0, along-map f Q R g xs cs h.1)

pub along-values : (Q : ℕ → Cell → Type 0) (R : ℕ → Float → Type 0) → ((i : ℕ) (c : Cell) → Q i c → R i (cell_value c)) → (xs : List Symbol) (cs : List Cell)
    → Along Q xs cs → Along R xs (cell_values cs)
unfolding cell_values
along-values Q R f [] [] h = tt
along-values Q R f [] (c ∷ cs) h = absurd h
along-values Q R f (x ∷ xs) [] h = absurd h
along-values Q R f (x ∷ xs) (c ∷ cs) h = (f x.id c h.0, along-values Q R f xs cs h.1)

pub along-zero : (R : ℕ → Float → Type 0) → ((i : ℕ) → R i zero64) → (xs : List Symbol) → Along R xs (map (λ _. zero64) xs)
along-zero R f [] = tt
along-zero R f (x ∷ xs) = (f x.id, along-zero R f xs)

-- ---- the operations on cells

module _ (O Q : ℕ → Float → Type 0) (R : ℕ → Cell → Type 0) (cut k : Float) (f : (i : ℕ) (o c : Float) → O i o → Q i c → R i (insert_times cut k o c)) where
  pub along-insert_cells : (xs : List Symbol) (os cs : List Float) → Along O xs os → Along Q xs cs → Along R xs (insert_cells cut k os cs)
  unfolding insert_cells
  along-insert_cells [] [] [] g h = tt
  along-insert_cells [] [] (c ∷ cs) g h = absurd h
  along-insert_cells [] (o ∷ os) cs g h = absurd g
  along-insert_cells (x ∷ xs) [] cs g h = absurd g
  along-insert_cells (x ∷ xs) (o ∷ os) [] g h = absurd h
  along-insert_cells (x ∷ xs) (o ∷ os) (c ∷ cs) g h = (f x.id o c g.0 h.0, along-insert_cells xs os cs g.1 h.1)

module _ (Q : ℕ → Float → Type 0) (R : ℕ → Cell → Type 0) (cut : Float) (s : ℕ) (k : Float) (here : (c : Float) → Q s c → R s (insert_cell cut c k)) (there : (i : ℕ) (c : Float) → s ≢ i → Q i c → R i (kept c)) where
  pub along-insert_symbol : (xs : List Symbol) (cs : List Float) → Along Q xs cs → Along R xs (insert_symbol cut s k xs cs)
  unfolding insert_symbol is_symbol
  along-insert_symbol [] [] h = tt
  along-insert_symbol [] (c ∷ cs) h = absurd h
  along-insert_symbol (x ∷ xs) [] h = absurd h
  along-insert_symbol (x ∷ xs) (c ∷ cs) h = (go (same? s x.id) h.0, along-insert_symbol xs cs h.1)
    where
      go : Same? s x.id → Q x.id c → R x.id (elim (eqb s x.id) [ true ↦ insert_cell cut c k | false ↦ kept c ])
      go (is a b d) q = rw a (subst (λ (i : ℕ). R i (insert_cell cut c k)) b (here c (subst (λ (i : ℕ). Q i c) (sym b) q)))
      go (isnt a b d) q = rw a (there x.id c b q)

pub along-scale : (Q : ℕ → Float → Type 0) (R : ℕ → Cell → Type 0) (k : Float) → ((i : ℕ) (c : Float) → Q i c → R i (scale_cell k c))
    → (xs : List Symbol) (cs : List Float) → Along Q xs cs → Along R xs (scale_cells k cs)
unfolding scale_cells
along-scale Q R k f [] [] h = tt
along-scale Q R k f [] (c ∷ cs) h = absurd h
along-scale Q R k f (x ∷ xs) [] h = absurd h
along-scale Q R k f (x ∷ xs) (c ∷ cs) h = (f x.id c h.0, along-scale Q R k f xs cs h.1)

module _ (Q R : ℕ → Float → Type 0) (s : ℕ) (here : R s zero64) (there : (i : ℕ) (c : Float) → s ≢ i → Q i c → R i c) where
  -- all above s
  beyond : (i : ℕ) (xs : List Symbol) (cs : List Float) → s < i → Up i (ids xs) → Along Q xs cs → Along R xs cs
  beyond i [] [] l u h = tt
  beyond i [] (c ∷ cs) l u h = absurd h
  beyond i (x ∷ xs) [] l u h = absurd h
  beyond i (x ∷ xs) (c ∷ cs) l u h = (there x.id c (λ e. omega (arith, u.0)) h.0, beyond (suc x.id) xs cs (omega (arith, u.0)) u.1 h.1)

  pub along-clear : (i : ℕ) (xs : List Symbol) (cs : List Float) → Up i (ids xs) → Along Q xs cs → Along R xs (clear_cell s xs cs)
  unfolding clear_cell is_symbol
  along-clear i [] [] u h = tt
  along-clear i [] (c ∷ cs) u h = absurd h
  along-clear i (x ∷ xs) [] u h = absurd h
  along-clear i (x ∷ xs) (c ∷ cs) u h = go (same? s x.id) (along-clear (suc x.id) xs cs u.1 h.1)
    where
      go : Same? s x.id → Along R xs (clear_cell s xs cs) → Along R (x ∷ xs) (elim (eqb s x.id) [ true ↦ zero64 ∷ cs | false ↦ c ∷ clear_cell s xs cs ])
      go (is a b d) ih = rw a (subst (λ (i : ℕ). R i zero64) b here, beyond (suc x.id) xs cs (omega arith) u.1 h.1)
      go (isnt a b d) ih = rw a (there x.id c b h.0, ih)

-- the cell of s, at s's place and as it is looked up
module _ (Q R : ℕ → Float → Type 0) (s : ℕ) (there : (i : ℕ) (c : Float) → s ≢ i → Q i c → R i c) where
  beyond' : (i : ℕ) (xs : List Symbol) (cs : List Float) → s < i → Up i (ids xs) → Along Q xs cs → Along R xs cs
  beyond' i [] [] l u h = tt
  beyond' i [] (c ∷ cs) l u h = absurd h
  beyond' i (x ∷ xs) [] l u h = absurd h
  beyond' i (x ∷ xs) (c ∷ cs) l u h = (there x.id c (λ e. omega (arith, u.0)) h.0, beyond' (suc x.id) xs cs (omega (arith, u.0)) u.1 h.1)

  pub along-at : (i : ℕ) (xs : List Symbol) (cs : List Float) → Up i (ids xs) → Along Q xs cs → (Q s (coefficient_for s xs cs) → R s (coefficient_for s xs cs))
      → Along R xs cs
  unfolding coefficient_for is_symbol
  along-at i [] [] u h f = tt
  along-at i [] (c ∷ cs) u h f = absurd h
  along-at i (x ∷ xs) [] u h f = absurd h
  along-at i (x ∷ xs) (c ∷ cs) u h f = go (same? s x.id) f (along-at (suc x.id) xs cs u.1 h.1)
    where
      pick : Bool → Float
      pick t = elim t [ true ↦ c | false ↦ coefficient_for s xs cs ]

      go : Same? s x.id → (Q s (pick (eqb s x.id)) → R s (pick (eqb s x.id)))
          → ((Q s (coefficient_for s xs cs) → R s (coefficient_for s xs cs)) → Along R xs cs) → R x.id c × Along R xs cs
      go (is a b d) f ih = (
        subst (λ (i : ℕ). R i c) b (subst (λ (t : Bool). Q s (pick t) → R s (pick t)) a f (subst (λ (i : ℕ). Q i c) (sym b) h.0)),
        beyond' (suc x.id) xs cs (omega arith) u.1 h.1,
      )
      go (isnt a b d) f ih = (there x.id c b h.0, ih (subst (λ (t : Bool). Q s (pick t) → R s (pick t)) a f))

pub at-coefficient : (Q : ℕ → Float → Type 0) (s : ℕ) → Q s zero64 → (xs : List Symbol) (cs : List Float) → Along Q xs cs → Q s (coefficient_for s xs cs)
unfolding coefficient_for is_symbol
at-coefficient Q s z [] [] h = z
at-coefficient Q s z [] (c ∷ cs) h = absurd h
at-coefficient Q s z (x ∷ xs) [] h = absurd h
at-coefficient Q s z (x ∷ xs) (c ∷ cs) h = go (same? s x.id) (at-coefficient Q s z xs cs h.1)
  where
    go : Same? s x.id → Q s (coefficient_for s xs cs) → Q s (elim (eqb s x.id) [ true ↦ c | false ↦ coefficient_for s xs cs ])
    go (is a b d) ih = rw a (subst (λ (i : ℕ). Q i c) (sym b) h.0)
    go (isnt a b d) ih = rw a ih

pub along-delete : (Q : ℕ → Float → Type 0) (s : ℕ) (xs : List Symbol) (cs : List Float) → Along Q xs cs → Along Q (delete_symbol s xs) (delete_cell s xs cs)
unfolding delete_symbol delete_cell is_symbol
along-delete Q s [] [] h = tt
along-delete Q s [] (c ∷ cs) h = absurd h
along-delete Q s (x ∷ xs) [] h = absurd h
along-delete Q s (x ∷ xs) (c ∷ cs) h = go (eqb s x.id) (along-delete Q s xs cs h.1)
  where
    go : (t : Bool) → Along Q (delete_symbol s xs) (delete_cell s xs cs)
        → Along {A = Float} Q (elim t [ true ↦ xs | false ↦ x ∷ delete_symbol s xs ]) (elim t [ true ↦ cs | false ↦ c ∷ delete_cell s xs cs ])
    go true ih = h.1
    go false ih = (h.0, ih)

-- the first symbol of a kind whose cell passes a test: it is live, and passes
pub record Chosen (Q : ℕ → Float → Type 0) (q : Float → Bool) (xs : List Symbol) (s : Symbol) : Type 0 where
  pub live : Mem s xs
  pub cell : Float
  pub holds : Q s.id cell
  pub passes : q cell ≡ true

pub first-chosen : (Q : ℕ → Float → Type 0) (p : Symbol → Bool) (q : Float → Bool) (xs : List Symbol) (cs : List Float) (s : Symbol) → Along Q xs cs
    → first_symbol p q xs cs ≡ some s → Chosen Q q xs s
unfolding first_symbol
first-chosen Q p q [] [] s h e = absurd (none≢some e)
first-chosen Q p q [] (c ∷ cs) s h e = absurd h
first-chosen Q p q (x ∷ xs) [] s h e = absurd h
first-chosen Q p q (x ∷ xs) (c ∷ cs) s h e = go (p x) (q c) refl e (λ e. later (first-chosen Q p q xs cs s h.1 e))
  where
    later : Chosen Q q xs s → Chosen Q q (x ∷ xs) s
    later w = record { live = inr w.live; cell = w.cell; holds = w.holds; passes = w.passes }

    go : (a b : Bool) → q c ≡ b → elim a [ false ↦ first_symbol p q xs cs | true ↦ elim b [ false ↦ first_symbol p q xs cs | true ↦ some x ] ] ≡ some s
        → (first_symbol p q xs cs ≡ some s → Chosen Q q (x ∷ xs) s) → Chosen Q q (x ∷ xs) s
    go false b f e ih = ih e
    go true false f e ih = ih e
    go true true f e ih =
        record { live = inl (sym (some-injective e)); cell = c; holds = subst (λ (s : Symbol). Q s.id c) (some-injective e) h.0; passes = f }
