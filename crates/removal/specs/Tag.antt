-- A tag's symbols purged from tables that stand: the code's calls are the steps' purge_tag.
-- Assumes nothing.
use Rattle.std.specs.Prelude.{ℕ, ◌-◌, ◌≤◌, ◌<◌, ◌≡◌, refl, Bool, true, cond, eqb}
use Rattle.std.proofs.Math.Path.{sym, ap}
use Rattle.std.proofs.Common.{◌∙◌, subst, arith}
use Rattle.std.proofs.Math.Bool.{false}
use Rattle.std.proofs.Math.Option.{Option, none, some}
use Rattle.std.proofs.lemmas.Bool.{eqb-false}
use Rattle.steps.specs.Number.{Mark}
use Rattle.steps.specs.Symbol.{Symbol, is_external}
use Rattle.steps.specs.State.{Tag}
use Rattle.steps.specs.Work.{Work, purge}
use Rattle.steps.specs.Remove.{purge_tag}
use Rattle.sparse.specs.Sparse.{Sparse, symbol_count, symbol_at, other_at, symbols_of}
use Rattle.waist.specs.Working.{work_of}
use Rattle.waist.specs.Standing.{Owners, Standing, Makes, Unowned}
use Rattle.waist.specs.Tags.{tag_at}
use Rattle.waist.specs.Lowering.{near_place, near_by}
use Rattle.waist.specs.Purging.{Purged}
use Rattle.removal.specs.Reading.{count_same, symbol-same, unowned, makes-to, makes-then}

-- tables on which the steps may work, whatever the mark
abbrev pub Stands : Sparse → Type 0
Stands t = (a : Mark) × Standing false a t

-- a tag's places: live, no variable's, and apart; 0 is no other symbol
pub record TagLives (marker other : ℕ) (t : Sparse) : Type 0 where
  pub low : 1 ≤ marker
  pub high : marker ≤ symbol_count t
  pub inner : is_external (symbol_at t marker) ≡ false
  pub other-high : other ≤ symbol_count t
  pub other-inner : 1 ≤ other → is_external (symbol_at t other) ≡ false
  pub apart : other ≡ marker → ⊥

module _ (marker other : ℕ) (t u : Sparse) (l : TagLives marker other t) where
  -- tables that read as the same symbols have the same tag at the same places
  pub tag-kept : symbols_of u ≡ symbols_of t → TagLives marker other u
  tag-kept e =
      let c = count_same t u e in
      record {
        low = l.low;
        high = rw c l.high;
        inner = rw (symbol-same t u e marker l.low l.high) l.inner;
        other-high = rw c l.other-high;
        other-inner = λ b. rw (symbol-same t u e other b l.other-high) (l.other-inner b);
        apart = l.apart;
      }

  pub tag_same : symbols_of u ≡ symbols_of t → tag_at u marker other ≡ tag_at t marker other
  unfolding tag_at other_at
  tag_same e = rw (symbol-same t u e marker l.low l.high) (go (eqb other 0) refl)
    where
      made : Option Symbol → Tag
      made x = record { marker = symbol_at t marker; other = x }

      go : (b : Bool) → eqb other 0 ≡ b → made (cond b none (some (symbol_at u other))) ≡ made (cond b none (some (symbol_at t other)))
      go true q = refl
      go false q = let d = eqb-false other 0 q in ap (λ (x : Symbol). made (some x)) (symbol-same t u e other (omega (arith, d)) l.other-high)

  -- the marker once the other's place went: no variable names it
  pub near-lives : (q : ℕ) → q ≡ near_place other marker → 1 ≤ other → Purged other t u → Owners u → (1 ≤ q) × (q ≤ symbol_count u) × Unowned q u × (symbol_at u q ≡ symbol_at t marker)
  near-lives q e low g o = subst (λ (x : ℕ). (1 ≤ x) × (x ≤ symbol_count u) × Unowned x u × (symbol_at u x ≡ symbol_at t marker)) (sym e) (near_by (λ (x : ℕ). (1 ≤ x) × (x ≤ symbol_count u) × Unowned x u × (symbol_at u x ≡ symbol_at t marker)) other marker after before)
    where
      f : symbol_count u ≡ symbol_count t - 1
      f = g.symbols

      inner : (x : ℕ) → symbol_at u x ≡ symbol_at t marker → Unowned x u
      inner x z = unowned u x o (rw z l.inner)

      after : other < marker → (1 ≤ marker - 1) × (marker - 1 ≤ symbol_count u) × Unowned (marker - 1) u × (symbol_at u (marker - 1) ≡ symbol_at t marker)
      after d = let h = l.high in let z = g.after marker d h in (omega (arith, d, low), omega (arith, f, h), inner (marker - 1) z, z)

      before : marker ≤ other → (1 ≤ marker) × (marker ≤ symbol_count u) × Unowned marker u × (symbol_at u marker ≡ symbol_at t marker)
      before d =
          let n = l.apart in
          let h = l.other-high in
          let b : marker < other = omega (arith, d, n) in
          let z = g.before marker b in
          (l.low, omega (arith, b, f, h), inner marker z, z)

module _ (marker other : ℕ) (t : Sparse) (l : TagLives marker other t) (o : Owners t) where
  pub marker-unowned : Unowned marker t
  marker-unowned = unowned t marker o l.inner

  pub other-unowned : 1 ≤ other → Unowned other t
  other-unowned low = unowned t other o (l.other-inner low)

module _ (a : Mark) (t u : Sparse) (marker other : ℕ) where
  abbrev cut : Option Symbol → Work → Work
  cut o w = purge (symbol_at t marker).id (elim o [ none ↦ w | some s ↦ purge s.id w ])

  pub purged-one : eqb other 0 ≡ true → Makes false false a a (purge (symbol_at t marker).id) t u → Makes false false a a (purge_tag (tag_at t marker other)) t u
  unfolding purge_tag tag_at other_at
  purged-one e m = makes-to (λ v. sym (ap (λ (c : Bool). cut (cond c none (some (symbol_at t other))) (work_of false a v t)) e)) m

  -- "then remove cells of both tag symbols"
  pub purged-both : (v : Sparse) (q : ℕ) → eqb other 0 ≡ false → symbol_at u q ≡ symbol_at t marker → Makes false false a a (purge (symbol_at t other).id) t u → Makes false false a a (purge (symbol_at u q).id) u v
      → Makes false false a a (purge_tag (tag_at t marker other)) t v
  unfolding purge_tag tag_at other_at
  purged-both v q e s m n =
      makes-to (λ k. ap (λ (x : Symbol). purge x.id (purge (symbol_at t other).id (work_of false a k t))) s ∙ sym (ap (λ (c : Bool). cut (cond c none (some (symbol_at t other))) (work_of false a k t)) e))
      (makes-then m n)
