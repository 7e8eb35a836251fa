-- The constraints themselves: what it means to meet them, the weighted error, and what a tableau is worth. Assumes nothing.
use Rattle.std.specs.Prelude.{◌≡◌, ◌⊎◌, ◌≢◌, ◌↔◌, ℕ, ◌<◌, Bool, true, false, ◌+ℤ◌, ◌-ℤ◌}
use Rattle.std.proofs.Math.Path.{refl, ap}
use Rattle.std.proofs.Common.{sym, ◌∙◌, subst, inl, inr, arith, true≢false}
use mathlib.Core.List.{List, [], ◌∷◌}
use Rattle.std.proofs.Math.IntN.{ℤ, ◌*ℤ◌}
use Rattle.laws.specs.Z.{◌≼◌, ◌≺◌}
use Rattle.laws.specs.Ring.{ring, v, k, ◌⊠◌}
use Rattle.simplex.specs.Ord.{0ℤ, 1ℤ, ≼-of-eq, ≼_trans}
use Rattle.simplex.specs.Lin.{Vec, δ, Same?, same, other, same?, dot, dot-cong, dot-δ}
use Rattle.simplex.specs.At.{at, At, here, there, at?}
use Rattle.simplex.specs.Tab.{Solves}
use Rattle.simplex.specs.Basis.{Mask, Shape, Clear}
use Rattle.simplex.specs.Opt.{Kind, const, external, slack, dummy, slack≢dummy, Feasible, Lowest, no-feasible}
use Rattle.simplex.specs.Choose.{All, all-zip}
use Rattle.simplex.specs.Form.{Form, le!, eq!, ge!, le, eq, ge, soft, resid, cost, viol, Holds, fit-s, fit-t, fit-resid, fit-s-nonneg, fit-t-nonneg}

-- a constraint: its expression (place 0 is the constant), form, strength, marker and other symbol (not used where it is required)
pub record Con : Type 0 where
  pub expr : Vec
  pub form : Form
  pub weight : ℤ
  pub marker : ℕ
  pub other : ℕ

-- ---- in terms of the variables alone; x is an assignment by fractions over x 0
abbrev pub Meets : ℕ → Vec → Con → Type 0
Meets n x c = Holds c.form (dot n c.expr x)

abbrev pub error : ℕ → List Con → Vec → ℤ
error n [] x = 0ℤ
error n (c ∷ cs) x = c.weight *ℤ viol c.form (dot n c.expr x) +ℤ error n cs x

-- ---- with the symbols
abbrev pub Equation : ℕ → Vec → Con → Type 0
Equation n σ c = resid c.form (dot n c.expr σ) (σ c.marker) (σ c.other) ≡ 0ℤ

abbrev pub total : List Con → Vec → ℤ
total [] σ = 0ℤ
total (c ∷ cs) σ = c.weight *ℤ cost c.form (σ c.marker) (σ c.other) +ℤ total cs σ

abbrev pub marker_kind : Form → Kind
marker_kind le! = slack
marker_kind eq! = dummy
marker_kind ge! = slack
marker_kind le = slack
marker_kind eq = slack
marker_kind ge = slack

-- the symbols of a constraint are of the right kinds and its own, its expression holds variables only
pub record Sound (n : ℕ) (kind : ℕ → Kind) (c : Con) : Type 0 where
  pub weighs : 0ℤ ≼ c.weight
  pub marker-in : c.marker < n
  pub marker-kind : kind c.marker ≡ marker_kind c.form
  pub other-in : soft c.form ≡ true → c.other < n
  pub other-kind : soft c.form ≡ true → kind c.other ≡ slack
  pub two : soft c.form ≡ true → c.other ≢ c.marker
  pub plain : (j : ℕ) → (kind j ≡ slack) ⊎ (kind j ≡ dummy) → c.expr j ≡ 0ℤ

-- j is a symbol of c
abbrev pub Tag : ℕ → Con → Type 0
Tag j c = (j ≡ c.marker) ⊎ ((soft c.form ≡ true) × (j ≡ c.other))

abbrev pub Apart : Con → Con → Type 0
Apart c d = (j : ℕ) → Tag j c → Tag j d → ⊥

abbrev pub Sounds : ℕ → (ℕ → Kind) → List Con → Type 0
Sounds n kind [] = Unit
Sounds n kind (c ∷ cs) = Sound n kind c × All (Apart c) cs × Sounds n kind cs

-- ---- an assignment of the variables, with the least values of the symbols
set_if : Bool → ℕ → ℤ → Vec → Vec
set_if true p x τ = at p x τ
set_if false p x τ = τ

bare_at : Kind → ℤ → ℤ
bare_at const z = z
bare_at external z = z
bare_at slack z = 0ℤ
bare_at dummy z = 0ℤ

bare-plain : (t : Kind) (z : ℤ) → ((t ≡ slack) ⊎ (t ≡ dummy) → ⊥) → bare_at t z ≡ z
unfolding bare_at
bare-plain const z h = refl
bare-plain external z h = refl
bare-plain slack z h = absurd (h (inl refl))
bare-plain dummy z h = absurd (h (inr refl))

-- a variable's column, or the constant's
abbrev pub Plain : (ℕ → Kind) → ℕ → Type 0
Plain kind j = (kind j ≡ slack) ⊎ (kind j ≡ dummy) → ⊥

pub const-plain : (kind : ℕ → Kind) (j : ℕ) → kind j ≡ const → Plain kind j
const-plain kind j e (inl p) = let z : ◌≡◌ {A = ℕ} 0 1 = cc in omega arith
const-plain kind j e (inr p) = let z : ◌≡◌ {A = ℕ} 0 1 = cc in omega arith

external-plain : (kind : ℕ → Kind) (j : ℕ) → kind j ≡ external → Plain kind j
external-plain kind j e (inl p) = let z : ◌≡◌ {A = ℕ} 0 1 = cc in omega arith
external-plain kind j e (inr p) = let z : ◌≡◌ {A = ℕ} 0 1 = cc in omega arith

pub sounds-all : (n : ℕ) (kind : ℕ → Kind) (cs : List Con) → Sounds n kind cs → All (Sound n kind) cs
sounds-all n kind [] h = tt
sounds-all n kind (c ∷ cs) h = (h.0, sounds-all n kind cs h.2)

-- a form's marker is restricted; a dummy's fit is 0
pub marker-restricted : (f : Form) → (marker_kind f ≡ slack) ⊎ (marker_kind f ≡ dummy)
marker-restricted le! = inl refl
marker-restricted eq! = inr refl
marker-restricted ge! = inl refl
marker-restricted le = inl refl
marker-restricted eq = inl refl
marker-restricted ge = inl refl

dummy-fit : (f : Form) (e : ℤ) → marker_kind f ≡ dummy → fit-s f e ≡ 0ℤ
dummy-fit le! e p = absurd (slack≢dummy p)
dummy-fit eq! e p = refl
dummy-fit ge! e p = absurd (slack≢dummy p)
dummy-fit le e p = absurd (slack≢dummy p)
dummy-fit eq e p = absurd (slack≢dummy p)
dummy-fit ge e p = absurd (slack≢dummy p)

-- the other symbol counts only where there is one
pub resid-other : (f : Form) (e s t u : ℤ) → (soft f ≡ true → t ≡ u) → resid f e s t ≡ resid f e s u
resid-other le! e s t u h = refl
resid-other eq! e s t u h = refl
resid-other ge! e s t u h = refl
resid-other le e s t u h = ap (λ z. e +ℤ s -ℤ z) (h refl)
resid-other eq e s t u h = ap (λ z. e -ℤ s +ℤ z) (h refl)
resid-other ge e s t u h = ap (λ z. e -ℤ s +ℤ z) (h refl)

pub cost-other : (f : Form) (s t u : ℤ) → (soft f ≡ true → t ≡ u) → cost f s t ≡ cost f s u
cost-other le! s t u h = refl
cost-other eq! s t u h = refl
cost-other ge! s t u h = refl
cost-other le s t u h = h refl
cost-other eq s t u h = ap (λ z. s +ℤ z) (h refl)
cost-other ge s t u h = h refl

module _ (n : ℕ) (kind : ℕ → Kind) (x : Vec) where
  unfoldable pub val : Con → ℤ
  val c = dot n c.expr x

  put : Con → Vec → Vec
  put c τ = at c.marker (fit-s c.form (val c)) (set_if (soft c.form) c.other (fit-t c.form (val c)) τ)

  pub full : List Con → Vec
  full [] = λ j. bare_at (kind j) (x j)
  full (c ∷ cs) = put c (full cs)

  -- what stands at a column after `put`
  data Put (c : Con) (τ : Vec) (j : ℕ) : Type 0 where
    at-marker : j ≡ c.marker → put c τ j ≡ fit-s c.form (val c) → Put c τ j
    at_other : soft c.form ≡ true → j ≡ c.other → put c τ j ≡ fit-t c.form (val c) → Put c τ j
    elsewhere : (Tag j c → ⊥) → put c τ j ≡ τ j → Put c τ j

  put? : (c : Con) (τ : Vec) (j : ℕ) → Put c τ j
  unfolding put set_if
  put? c τ j = go (soft c.form) refl
    where
      s : ℤ
      s = fit-s c.form (val c)

      t : ℤ
      t = fit-t c.form (val c)

      no-tag : soft c.form ≡ false → j ≢ c.marker → Tag j c → ⊥
      no-tag b h (inl e) = h e
      no-tag b h (inr e) = true≢false (sym e.0 ∙ b)

      no-tag' : j ≢ c.other → j ≢ c.marker → Tag j c → ⊥
      no-tag' b h (inl e) = h e
      no-tag' b h (inr e) = b e.1

      fall : soft c.form ≡ false → At c.marker s τ j → Put c τ j
      fall b (here p e) = at-marker p (ap (λ d. at c.marker s (set_if d c.other t τ) j) b ∙ e)
      fall b (there p e) = elsewhere (no-tag b p) (ap (λ d. at c.marker s (set_if d c.other t τ) j) b ∙ e)

      both : soft c.form ≡ true → At c.marker s (at c.other t τ) j → At c.other t τ j → Put c τ j
      both b (here p e) g = at-marker p (ap (λ d. at c.marker s (set_if d c.other t τ) j) b ∙ e)
      both b (there p e) (here q g) = at_other b q (ap (λ d. at c.marker s (set_if d c.other t τ) j) b ∙ e ∙ g)
      both b (there p e) (there q g) = elsewhere (no-tag' q p) (ap (λ d. at c.marker s (set_if d c.other t τ) j) b ∙ e ∙ g)

      go : (b : Bool) → soft c.form ≡ b → Put c τ j
      go false b = fall b (at? c.marker s τ j)
      go true b = both b (at? c.marker s (at c.other t τ) j) (at? c.other t τ j)

  -- the variables keep their values
  pub full-plain : (cs : List Con) → Sounds n kind cs → (j : ℕ) → Plain kind j → full cs j ≡ x j
  unfolding full
  full-plain [] S j h = bare-plain (kind j) (x j) h
  full-plain (c ∷ cs) S j h = go (put? c (full cs) j) (full-plain cs S.2 j h)
    where
      restricted : (marker_kind c.form ≡ slack) ⊎ (marker_kind c.form ≡ dummy) → kind j ≡ marker_kind c.form → ⊥
      restricted (inl e) q = h (inl (q ∙ e))
      restricted (inr e) q = h (inr (q ∙ e))

      go : Put c (full cs) j → full cs j ≡ x j → put c (full cs) j ≡ x j
      go (at-marker p e) ih = absurd (restricted (marker-restricted c.form) (ap kind p ∙ S.0.marker-kind))
      go (at_other b p e) ih = absurd (h (inl (ap kind p ∙ S.0.other-kind b)))
      go (elsewhere p e) ih = e ∙ ih

  full-slack : (cs : List Con) → Sounds n kind cs → All (Meets n x) cs → (j : ℕ) → kind j ≡ slack → 0ℤ ≼ full cs j
  unfolding full bare_at val
  full-slack [] S M j h = ≼-of-eq (sym (ap (λ t. bare_at t (x j)) h))
  full-slack (c ∷ cs) S M j h = go (put? c (full cs) j) (full-slack cs S.2 M.1 j h)
    where
      go : Put c (full cs) j → 0ℤ ≼ full cs j → 0ℤ ≼ put c (full cs) j
      go (at-marker p e) ih = ≼_trans (fit-s-nonneg c.form (val c) M.0) (≼-of-eq (sym e))
      go (at_other b p e) ih = ≼_trans (fit-t-nonneg c.form (val c)) (≼-of-eq (sym e))
      go (elsewhere p e) ih = ≼_trans ih (≼-of-eq (sym e))

  full-dummy : (cs : List Con) → Sounds n kind cs → (j : ℕ) → kind j ≡ dummy → full cs j ≡ 0ℤ
  unfolding full bare_at
  full-dummy [] S j h = ap (λ t. bare_at t (x j)) h
  full-dummy (c ∷ cs) S j h = go (put? c (full cs) j) (full-dummy cs S.2 j h)
    where
      go : Put c (full cs) j → full cs j ≡ 0ℤ → put c (full cs) j ≡ 0ℤ
      go (at-marker p e) ih = e ∙ dummy-fit c.form (val c) (sym S.0.marker-kind ∙ ap kind (sym p) ∙ h)
      go (at_other b p e) ih = absurd (slack≢dummy (sym (S.0.other-kind b) ∙ ap kind (sym p) ∙ h))
      go (elsewhere p e) ih = e ∙ ih

  -- a slack that is no symbol of theirs is 0
  pub full-fresh : (cs : List Con) (t : ℕ) → kind t ≡ slack → All (λ c. Tag t c → ⊥) cs → full cs t ≡ 0ℤ
  unfolding full bare_at
  full-fresh [] t h A = ap (λ u. bare_at u (x t)) h
  full-fresh (c ∷ cs) t h A = go (put? c (full cs) t) (full-fresh cs t h A.1)
    where
      go : Put c (full cs) t → full cs t ≡ 0ℤ → put c (full cs) t ≡ 0ℤ
      go (at-marker p e) ih = absurd (A.0 (inl p))
      go (at_other b p e) ih = absurd (A.0 (inr (b, p)))
      go (elsewhere p e) ih = e ∙ ih

  pub full-feasible : (cs : List Con) → Sounds n kind cs → All (Meets n x) cs → Feasible n kind (full cs)
  full-feasible cs S M = record { slacks = λ j _ h. full-slack cs S M j h; dummies = λ j _ h. full-dummy cs S j h }

  -- each constraint's symbols stand at its fit
  unfoldable pub Fits : Vec → Con → Type 0
  Fits τ c = (τ c.marker ≡ fit-s c.form (val c)) × (soft c.form ≡ true → τ c.other ≡ fit-t c.form (val c))

  pub full-fits : (cs : List Con) → Sounds n kind cs → All (Fits (full cs)) cs
  unfolding full Fits
  full-fits [] S = tt
  full-fits (c ∷ cs) S = (own, all-zip {P = Apart c} {Q = Fits (full cs)} keep cs S.1 (full-fits cs S.2))
    where
      own-marker : Put c (full cs) c.marker → put c (full cs) c.marker ≡ fit-s c.form (val c)
      own-marker (at-marker p e) = e
      own-marker (at_other b p e) = absurd (S.0.two b (sym p))
      own-marker (elsewhere p e) = absurd (p (inl refl))

      own-other : soft c.form ≡ true → Put c (full cs) c.other → put c (full cs) c.other ≡ fit-t c.form (val c)
      own-other b (at-marker p e) = absurd (S.0.two b p)
      own-other b (at_other d p e) = e
      own-other b (elsewhere p e) = absurd (p (inr (b, refl)))

      own : Fits (put c (full cs)) c
      own = (own-marker (put? c (full cs) c.marker), λ b. own-other b (put? c (full cs) c.other))

      kept : (j : ℕ) → (Tag j c → ⊥) → Put c (full cs) j → put c (full cs) j ≡ full cs j
      kept j h (at-marker p e) = absurd (h (inl p))
      kept j h (at_other b p e) = absurd (h (inr (b, p)))
      kept j h (elsewhere p e) = e

      keep : (d : Con) → Apart c d → Fits (full cs) d → Fits (put c (full cs)) d
      keep d a f = (
        kept d.marker (λ t. a d.marker t (inl refl)) (put? c (full cs) d.marker) ∙ f.0,
        λ b. kept d.other (λ t. a d.other t (inr (b, refl))) (put? c (full cs) d.other) ∙ f.1 b,
      )

  -- an expression in the variables has the value that it had
  full-value : (cs : List Con) → Sounds n kind cs → (c : Con) → Sound n kind c → dot n c.expr (full cs) ≡ val c
  unfolding val
  full-value cs S c s = dot-cong n c.expr (full cs) c.expr x (λ j _. go j (kind j) refl)
    where
      gone : (j : ℕ) → (kind j ≡ slack) ⊎ (kind j ≡ dummy) → c.expr j *ℤ full cs j ≡ c.expr j *ℤ x j
      gone j h = ap (λ z. z *ℤ full cs j) (s.plain j h) ∙ ring (full cs j ∷ x j ∷ []) (k 0ℤ ⊠ v 0) (k 0ℤ ⊠ v 1) tt ∙ ap (λ z. z *ℤ x j) (sym (s.plain j h))

      stays : (j : ℕ) → Plain kind j → c.expr j *ℤ full cs j ≡ c.expr j *ℤ x j
      stays j h = ap (λ z. c.expr j *ℤ z) (full-plain cs S j h)

      go : (j : ℕ) (t : Kind) → kind j ≡ t → c.expr j *ℤ full cs j ≡ c.expr j *ℤ x j
      go j slack e = gone j (inl e)
      go j dummy e = gone j (inr e)
      go j const e = stays j (const-plain kind j e)
      go j external e = stays j (external-plain kind j e)

  pub full-equations : (cs : List Con) → Sounds n kind cs → All (Meets n x) cs → All (Equation n (full cs)) cs
  unfolding Fits val
  full-equations cs S M = all-zip one cs (all-zip {P = Sound n kind} {Q = Meets n x} {C = λ c. Sound n kind c × Meets n x c} (λ c a b. (a, b)) cs (sounds-all n kind cs S) M) (full-fits cs S)
    where
      one : (c : Con) → Sound n kind c × Meets n x c → Fits (full cs) c → Equation n (full cs) c
      one c h f =
          ap (λ e. resid c.form e (full cs c.marker) (full cs c.other)) (full-value cs S c h.0)
          ∙ ap (λ s. resid c.form (val c) s (full cs c.other)) f.0
          ∙ resid-other c.form (val c) (fit-s c.form (val c)) (full cs c.other) (fit-t c.form (val c)) f.1
          ∙ fit-resid c.form (val c) h.1

module _ (n : ℕ) (kind : ℕ → Kind) (σ : Vec) (F : Feasible n kind σ) where
  pub marker-nonneg : (c : Con) → Sound n kind c → 0ℤ ≼ σ c.marker
  marker-nonneg c S = go (marker-restricted c.form)
    where
      go : (marker_kind c.form ≡ slack) ⊎ (marker_kind c.form ≡ dummy) → 0ℤ ≼ σ c.marker
      go (inl e) = F.slacks c.marker S.marker-in (S.marker-kind ∙ e)
      go (inr e) = ≼-of-eq (sym (F.dummies c.marker S.marker-in (S.marker-kind ∙ e)))

-- ---- THE TWO THEOREMS OF DEMAND 2: refusal 12, and in proofs/Problem.antt the least error
-- what a tableau is worth: its solutions are the assignments that meet the constraints' equations, and its objective is their total there
pub record Models (n : ℕ) (kind : ℕ → Kind) (B : Mask) (R : ℕ → Vec) (o : Vec) (cs : List Con) : Type 0 where
  pub shape : Shape n B R
  pub clear : Clear B o
  pub sounds : Sounds n kind cs
  pub solves : (σ : Vec) → Solves n R σ ↔ All (Equation n σ) cs
  pub worth : (σ : Vec) → Solves n R σ → dot n o σ ≡ total cs σ

-- REFUSAL 12 IS RIGHT (Add's step 6). The tableau has the constraints' solutions and a temporary slack t, whose value its artificial objective a is; at its lowest a is above 0
pub cannot-be-met : (n : ℕ) (kind : ℕ → Kind) (R : ℕ → Vec) (a : Vec) (t : ℕ) (cs : List Con) → 0 < n → kind 0 ≡ const
    → Sounds n kind cs → kind t ≡ slack → All (λ c. Tag t c → ⊥) cs
    → ((σ : Vec) → All (Equation n σ) cs → σ t ≡ 0ℤ → Solves n R σ) → ((σ : Vec) → Solves n R σ → dot n a σ ≡ σ t)
    → Lowest n kind a → 0ℤ ≺ a 0
    → (x : Vec) → 0ℤ ≺ x 0 → All (Meets n x) cs → ⊥
cannot-be-met n kind R a t cs in-n k0 S kt fresh solves worth L up x d M =
    no-feasible n kind R a t in-n L up worth (full n kind x cs) (solves (full n kind x cs) (full-equations n kind x cs S M) off) (full-feasible n kind x cs S M)
    (subst (λ z. 0ℤ ≺ z) (sym (full-plain n kind x cs S 0 (const-plain kind 0 k0))) d) off
  where
    off : full n kind x cs t ≡ 0ℤ
    off = full-fresh n kind x cs t kt fresh

-- REFUSAL 12 IS RIGHT (Add's step 4). A row of dummies alone is its constant
pub dummies-only : (n : ℕ) (kind : ℕ → Kind) (r σ : Vec) → 0 < n → ((j : ℕ) → j < n → j ≢ 0 → (kind j ≡ dummy) ⊎ (r j ≡ 0ℤ)) → Feasible n kind σ → dot n r σ ≡ r 0 *ℤ σ 0
dummies-only n kind r σ in-n only F = dot-cong n r σ (δ 0) (λ j. r j *ℤ σ j) cell ∙ dot-δ n 0 (λ j. r j *ℤ σ j) in-n
  where
    nil : (j : ℕ) → j < n → (kind j ≡ dummy) ⊎ (r j ≡ 0ℤ) → r j *ℤ σ j ≡ 0ℤ
    nil j h (inl e) = ap (λ z. r j *ℤ z) (F.dummies j h e) ∙ ring (r j ∷ []) (v 0 ⊠ k 0ℤ) (k 0ℤ) tt
    nil j h (inr e) = ap (λ z. z *ℤ σ j) e ∙ ring (σ j ∷ []) (k 0ℤ ⊠ v 0) (k 0ℤ) tt

    go : (j : ℕ) → j < n → Same? 0 j → r j *ℤ σ j ≡ δ 0 j *ℤ (r j *ℤ σ j)
    go j h (same p e) = ring ((r j *ℤ σ j) ∷ []) (v 0) (k 1ℤ ⊠ v 0) tt ∙ ap (λ z. z *ℤ (r j *ℤ σ j)) (sym e)
    go j h (other p e) = nil j h (only j h (λ q. p (sym q))) ∙ ring ((r j *ℤ σ j) ∷ []) (k 0ℤ) (k 0ℤ ⊠ v 0) tt ∙ ap (λ z. z *ℤ (r j *ℤ σ j)) (sym e)

    cell : (j : ℕ) → j < n → r j *ℤ σ j ≡ δ 0 j *ℤ (r j *ℤ σ j)
    cell j h = go j h (same? 0 j)
