-- A stored tag's places: live, no variable's, and apart.
-- Assumes nothing.
use Rattle.std.specs.Prelude.{ℕ, ◌≤◌, ◌≡◌, true, false, not, ◌&&◌, [], ◌∷◌, Float}
use Rattle.std.proofs.Math.Path.{refl}
use Rattle.std.proofs.Common.{sym, ap, ◌∙◌, arith, ne_eqb}
use Rattle.std.proofs.lemmas.Bool.{false≢true}
use Rattle.std.proofs.Math.Option.{Option, none, some}
use Rattle.std.specs.Float.Ieee.{lt}
use Rattle.steps.specs.Symbol.{Kind, External, Slack, Error, Dummy, Symbol, is_external, is_error}
use Rattle.steps.specs.Strength.{required}
use Rattle.steps.specs.State.{Tag}
use Rattle.steps.specs.Readable.{code, tag_symbols, tag_kinds}
use Rattle.layout.specs.Rooms.{both}
use Rattle.keeps.specs.Lists.{same, Same?, is, isnt, same?, times}
use Rattle.keeps.specs.Codes.{codes, codes-once}
use Rattle.keeps.specs.Reads.{Reads, tag_code}
use Rattle.sparse.specs.Sparse.{Sparse, symbol_count, symbol_at, other_at, read}
use Rattle.waist.specs.Tags.{tag_at}
use Rattle.removal.specs.Tag.{TagLives}
use Rattle.lending.specs.Entered.{Entered}
use Rattle.solver.specs.Begin.{symbol-kept}

marker-inner : (s : Float) (tag : Tag) → tag_kinds s tag ≡ true → is_external tag.marker ≡ false
unfolding tag_kinds is_external
marker-inner s tag h = go tag.marker.kind h
  where
    go : (k : Kind)
        → elim k [ External ↦ false | Slack ↦ elim tag.other [ none ↦ not (lt s required) | some o ↦ lt s required && is_error o ] | Error ↦ elim tag.other [ none ↦ false | some o ↦ lt s required && is_error o ] | Dummy ↦ elim tag.other [ none ↦ not (lt s required) | some o ↦ false ] ] ≡ true
        → elim k [ External ↦ true | Slack ↦ false | Error ↦ false | Dummy ↦ false ] ≡ false
    go External e = absurd (false≢true e)
    go Slack e = refl
    go Error e = refl
    go Dummy e = refl

error-inner : (o : Symbol) → is_error o ≡ true → is_external o ≡ false
unfolding is_error is_external
error-inner o h = go o.kind h
  where
    go : (k : Kind) → elim k [ External ↦ false | Slack ↦ false | Error ↦ true | Dummy ↦ false ] ≡ true → elim k [ External ↦ true | Slack ↦ false | Error ↦ false | Dummy ↦ false ] ≡ false
    go External e = absurd (false≢true e)
    go Slack e = refl
    go Error e = refl
    go Dummy e = refl

other-inner : (s : Float) (tag : Tag) (o : Symbol) → tag.other ≡ some o → tag_kinds s tag ≡ true → is_external o ≡ false
unfolding tag_kinds
other-inner s tag o e h = go tag.marker.kind tag.other e h
  where
    none-some : {A : Type 0} → none ≡ some o → A
    none-some q = absurd (false≢true (ap (λ (x : Option Symbol). elim x [ none ↦ false | some y ↦ true ]) q))

    inner : (y : Symbol) → some y ≡ some o → lt s required && is_error y ≡ true → is_external o ≡ false
    inner y q k =
        let z : y ≡ o = cc in
        rw z at (error-inner y (both (lt s required) (is_error y) k).1)

    go : (k : Kind) (x : Option Symbol) → x ≡ some o
        → elim k [ External ↦ false | Slack ↦ elim x [ none ↦ not (lt s required) | some o ↦ lt s required && is_error o ] | Error ↦ elim x [ none ↦ false | some o ↦ lt s required && is_error o ] | Dummy ↦ elim x [ none ↦ not (lt s required) | some o ↦ false ] ] ≡ true
        → is_external o ≡ false
    go External x q k = absurd (false≢true k)
    go Slack none q k = none-some q
    go Slack (some y) q k = inner y q k
    go Error none q k = none-some q
    go Error (some y) q k = inner y q k
    go Dummy none q k = none-some q
    go Dummy (some y) q k = absurd (false≢true k)

has-itself : (x : ℕ) → Same? x x → same x x ≡ 1
has-itself x (is a b c) = c
has-itself x (isnt a b c) = absurd (b refl)

-- a tag whose symbols were one would own it twice
twice : (tag : Tag) → tag.other ≡ some tag.marker → 2 ≤ tag_code (code tag.marker) tag
unfolding tag_symbols times
twice tag e = go tag.other e
  where
    go : (x : Option Symbol) → x ≡ some tag.marker → 2 ≤ times (code tag.marker) (codes (tag.marker ∷ elim x [ none ↦ [] | some y ↦ y ∷ [] ]))
    go none q = absurd (false≢true (ap (λ (x : Option Symbol). elim x [ none ↦ false | some y ↦ true ]) q))
    go (some y) q =
        let z : y ≡ tag.marker = cc in
        let h = has-itself (code tag.marker) (same? (code tag.marker) (code tag.marker)) in
        rw z (omega (arith, h))

other-is : (t : Sparse) (o : ℕ) → 1 ≤ o → other_at t o ≡ some (symbol_at t o)
unfolding other_at
other-is t o h = rw (ne_eqb o 0 (λ e. omega (arith, h, e))) refl

module _ (t w : Sparse) (en : Entered t w) (r : Reads (read t)) (m o : ℕ) (low : 1 ≤ m) (high : m ≤ symbol_count w) (near : o ≤ symbol_count w)
    (s : Float) (kinds : tag_kinds s (tag_at t m o) ≡ true) (owned : (n : ℕ) → tag_code n (tag_at t m o) ≤ times n (codes (read t).tableau.symbols)) where
  marker-is : (tag_at t m o).marker ≡ symbol_at t m
  unfolding tag_at
  marker-is = refl

  other-of : 1 ≤ o → (tag_at t m o).other ≡ some (symbol_at t o)
  unfolding tag_at
  other-of h = other-is t o h

  apart : o ≡ m → ⊥
  apart e =
      let q : (tag_at t m o).other ≡ some (tag_at t m o).marker = other-of (omega (arith, e, low)) ∙ ap (λ (p : ℕ). some (symbol_at t p)) e ∙ ap some (sym marker-is) in
      let a = twice (tag_at t m o) q in
      let b = owned (code (tag_at t m o).marker) in
      let c = codes-once 1 (code (tag_at t m o).marker) (read t).tableau.symbols r.fits.up in
      omega (arith, a, b, c)

  pub tag-lives : TagLives m o w
  tag-lives =
      record {
        low = low;
        high = high;
        inner = rw (symbol-kept t w en m low high, ← marker-is) (marker-inner s (tag_at t m o) kinds);
        other-high = near;
        other-inner = λ h. rw (symbol-kept t w en o h near) (other-inner s (tag_at t m o) (symbol_at t o) (other-of h) kinds);
        apart = apart;
      }
