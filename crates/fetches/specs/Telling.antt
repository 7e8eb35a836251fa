-- The gone ones told among the values: before each value those up to its number, and the rest at the end. That is the one list by ascending number, gone before a value of the same number.
-- Assumes nothing.
use Prim.Native.Nat.{ℕ, zero, suc, ◌+◌, ◌-◌, ◌≤◌, ◌<◌}
use Rattle.std.specs.Prelude.{◌≡◌, Bool, leb, Float, get_or, set}
use Rattle.std.proofs.Math.Path.{refl, sym, ap}
use Rattle.std.proofs.Common.{◌∙◌, add-one, ltb-true, ltb-false, le-leb}
use Rattle.std.proofs.Math.Bool.{true, false, cond}
use mathlib.Core.List.{List, [], ◌∷◌}
use native.Mathlib.Omega.{arith}
use Rattle.std.proofs.Math.Dec.{ltb}
use Rattle.std.proofs.lemmas.Bool.{lt-leb}
use Rattle.laws.specs.Loops.{run, run-next, run-last, seek, first}
use Rattle.laws.specs.Lists.{tab}
use Rattle.steps.specs.Number.{zero64}
use Rattle.layout.specs.Layout.{bit_of}
use Rattle.steps.specs.Changes.{Change, gone_entry, merged}
use Rattle.sparse.specs.Places.{gone_numbers_at}
use Rattle.fetches.specs.Lists.{Lists, lists, append, fill}

abbrev pub gone_at : List ℕ → ℕ → ℕ
gone_at w j = get_or w (gone_numbers_at + j) 0

-- of g gone ones, from the place e on: the first that comes after a value of the number n
unfoldable pub gone_to : List ℕ → ℕ → ℕ → ℕ → ℕ
gone_to w g e n = first (λ j. ltb n (gone_at w j)) (λ j. j) g e g

-- those at the places a, a + 1, .., b - 1
unfoldable pub tell_gone : List ℕ → ℕ → ℕ → Lists → Lists
tell_gone w a b l = run (λ j m. append (gone_entry (gone_at w j)) m) a b l

-- ---- the code's turns

module _ (w : List ℕ) (j b : ℕ) {z : Lists} where
  pub told-next : (n : List ℕ) (v : List Float) (f : List ℕ) (c : ℕ) → j < b → tell_gone w j b (lists n v f c) ≡ z
      → tell_gone w (j + 1) b (lists (set n c (gone_at w j)) (set v c zero64) (set f c 1) (c + 1)) ≡ z
  unfolding tell_gone append gone_entry bit_of
  told-next n v f c h e = run-next _ j b (lists n v f c) h refl e

  pub told-last : (l : Lists) → b ≤ j → tell_gone w j b l ≡ z → l ≡ z
  unfolding tell_gone
  told-last l h e = run-last _ j b l h e

-- ---- what they leave

module _ (w : List ℕ) (g : ℕ) where
  -- those from the place e on
  abbrev pub rest : ℕ → List ℕ
  rest e = tab (gone_at w) e (g - e)

  abbrev after : ℕ → ℕ → ℕ → ℕ
  after n k e = seek (λ j. ltb n (gone_at w j)) (λ j. j) g k e

  after-from : (n k e : ℕ) → e + k ≡ g → (e ≤ after n k e) × (after n k e ≤ g)
  unfolding seek
  after-from n zero e h = (omega (arith, h), omega arith)
  after-from n (suc k) e h = go (ltb n (gone_at w e)) (after-from n k (suc e) (omega (arith, h)))
    where
      go : (b : Bool) → (suc e ≤ after n k (suc e)) × (after n k (suc e) ≤ g) → (e ≤ cond b e (after n k (suc e))) × (cond b e (after n k (suc e)) ≤ g)
      go true p = (omega arith, omega (arith, h))
      go false p = (omega (arith, p.0), p.1)

  pub gone-to-from : (n e : ℕ) → e ≤ g → (e ≤ gone_to w g e n) × (gone_to w g e n ≤ g)
  unfolding gone_to first
  gone-to-from n e h = after-from n (g - e) e (omega (arith, h))

  gone-first : (n : ℕ) (ns : List ℕ) (c : Change) (cs : List Change) → n ≤ c.variable → merged (n ∷ ns) (c ∷ cs) ≡ gone_entry n ∷ merged ns (c ∷ cs)
  unfolding merged
  gone-first n ns c cs h = go (leb n c.variable) (le-leb n c.variable h)
    where
      go : (b : Bool) → b ≡ true → elim b as (λ _. List Change) [ true ↦ gone_entry n ∷ merged ns (c ∷ cs) | false ↦ c ∷ merged (n ∷ ns) cs ] ≡ gone_entry n ∷ merged ns (c ∷ cs)
      go b e = rw e refl

  value-first : (n : ℕ) (ns : List ℕ) (c : Change) (cs : List Change) → c.variable < n → merged (n ∷ ns) (c ∷ cs) ≡ c ∷ merged (n ∷ ns) cs
  unfolding merged
  value-first n ns c cs h = go (leb n c.variable) (lt-leb n c.variable h)
    where
      go : (b : Bool) → b ≡ false → elim b as (λ _. List Change) [ true ↦ gone_entry n ∷ merged ns (c ∷ cs) | false ↦ c ∷ merged (n ∷ ns) cs ] ≡ c ∷ merged (n ∷ ns) cs
      go b e = rw e refl

  told_none : (e : ℕ) (l : Lists) → tell_gone w e e l ≡ l
  unfolding tell_gone
  told_none e l = sym (run-last _ e e l (omega arith) refl)

  told-one : (e b : ℕ) (l : Lists) → e < b → tell_gone w e b l ≡ tell_gone w (suc e) b (append (gone_entry (gone_at w e)) l)
  unfolding tell_gone
  told-one e b l h = sym (rw (add-one e) at (run-next (λ j m. append (gone_entry (gone_at w j)) m) e b l h refl refl))

  -- after the values: the rest
  rest-told : (k e : ℕ) (l : Lists) → e + k ≡ g → fill (merged (tab (gone_at w) e k) []) l ≡ tell_gone w e g l
  unfolding merged tab fill
  rest-told zero e l h =
      let o : g ≡ e = omega (arith, h) in
      rw o (sym (told_none e l))
  rest-told (suc k) e l h = rest-told k (suc e) (append (gone_entry (gone_at w e)) l) (omega (arith, h)) ∙ sym (told-one e g l (omega (arith, h)))

  pub gone-rest : (e : ℕ) (l : Lists) → e ≤ g → fill (merged (rest e) []) l ≡ tell_gone w e g l
  gone-rest e l h = rest-told (g - e) e l (omega (arith, h))

  -- before the value c: those up to its number
  module _ (c : Change) (cs : List Change) where
    abbrev Told : ℕ → ℕ → Lists → ℕ → Type 0
    Told k e l b = fill (merged (tab (gone_at w) e k) (c ∷ cs)) l ≡ fill (merged (rest b) cs) (append c (tell_gone w e b l))

    last-told : (e : ℕ) (l : Lists) → g ≡ e → Told 0 e l g
    unfolding tab fill merged
    last-told e l q =
        let o : g - g ≡ 0 = omega arith in
        rw (o, q, told_none e l) refl

    value-told : (k e : ℕ) (l : Lists) → e + k ≡ g → Told k e l (after c.variable k e)
    unfolding tab fill seek
    value-told zero e l h = last-told e l (omega (arith, h))
    value-told (suc k) e l h = go (ltb c.variable (gone_at w e)) refl (value-told k (suc e) (append (gone_entry (gone_at w e)) l) (omega (arith, h)))
      where
        go : (b : Bool) → ltb c.variable (gone_at w e) ≡ b → Told k (suc e) (append (gone_entry (gone_at w e)) l) (after c.variable k (suc e))
            → Told (suc k) e l (cond b e (after c.variable k (suc e)))
        go true q ih =
            let o : g - e ≡ suc k = omega (arith, h) in
            rw (o, told_none e l) (ap (λ (x : List Change). fill x l) (value-first (gone_at w e) (tab (gone_at w) (suc e) k) c cs (ltb-true _ _ q)))
        go false q ih =
            let b : ℕ = after c.variable k (suc e) in
            let p = after-from c.variable k (suc e) (omega (arith, h)) in
            ap (λ (x : List Change). fill x l) (gone-first (gone_at w e) (tab (gone_at w) (suc e) k) c cs (ltb-false _ _ q))
            ∙ ih
            ∙ ap (λ (m : Lists). fill (merged (rest b) cs) (append c m)) (sym (told-one e b l (omega (arith, p.0))))

    pub gone-before : (e : ℕ) (l : Lists) → e ≤ g → fill (merged (rest e) (c ∷ cs)) l ≡ fill (merged (rest (gone_to w g e c.variable)) cs) (append c (tell_gone w e (gone_to w g e c.variable) l))
    unfolding gone_to first
    gone-before e l h = value-told (g - e) e l (omega (arith, h))
