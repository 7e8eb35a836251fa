-- The tag of a new row over the sparse tables, read as the steps' `add_tag`.
-- Assumes nothing.
use Rattle.std.specs.Prelude.{ℕ, ◌+◌, ◌≤◌, ◌≡◌, refl, true, false, List, Float}
use Rattle.std.proofs.Common.{sym, ap, ◌∙◌, arith, ne_eqb}
use Rattle.std.proofs.Math.Option.{none, some}
use Rattle.std.specs.Float.Ieee.{lt, neg}
use Rattle.steps.specs.Number.{one64, minus_one64, Mark}
use Rattle.steps.specs.Strength.{required}
use Rattle.steps.specs.State.{equal}
use Rattle.steps.specs.Work.{new_symbol}
use Rattle.steps.specs.CreateRow.{Building, Created, tagged, add_symbol, add_error, inequality, soft_equality, required_equality, add_tag}
use Rattle.layout.specs.Layout.{kind_of}
use Rattle.rows.specs.declared.number.Wrote.{Wrote}
use Rattle.rows.specs.Marks.{mark_of}
use Rattle.rows.specs.Reading as dense
use Rattle.sparse.specs.Sparse.{Sparse, symbol_count, row_count, symbol_at, other_at}
use Rattle.changes.specs.declared.tags.Relation.{Relation as Given}
use Rattle.changes.specs.declared.tags.Relation.TheVariants.{AtMost, Equal, AtLeast}
use Rattle.changes.specs.tags.Tags.{relation_of}
use Rattle.waist.specs.Working.{work_of}
use Rattle.waist.specs.Dropping.{Free}
use Rattle.waist.specs.Standing.{Standing, Unowned}
use Rattle.waist.specs.Tags.{tag_at}
use Rattle.waist.specs.Growing.{next_id}
use Rattle.addition.specs.declared.creation.tag.Tagged.{Tagged}
use Rattle.addition.specs.creation.Building.{building_of, Builds}
use Rattle.addition.specs.creation.Growth.{Grows, new_is}

-- other 0 is none; no artificial objective stands, and no pivot was made
unfoldable pub created_of : Tagged → Sparse → List Float → Created
created_of r t row = record { work = work_of false (mark_of r.wrote) 0 t; row = dense.row_of (symbol_count t) row; tag = tag_at t r.marker r.other }

abbrev pub tag_of : ℕ → ℕ → Wrote → Tagged
tag_of m o w = record { marker = m; other = o; wrote = w }

pub created-is : (m o : ℕ) (w : Wrote) (t : Sparse) (row : List Float) → created_of (tag_of m o w) t row ≡ tagged (symbol_at t m) (other_at t o) (building_of (mark_of w) t row)
unfolding created_of tagged building_of tag_at
created-is m o w t row = refl

-- the tag's symbols are live; they are not basic, nor a variable's
pub record OwnTag (r : Tagged) (u : Sparse) : Type 0 where
  pub marker-low : 1 ≤ r.marker
  pub marker-high : r.marker ≤ symbol_count u
  pub marker-free : Free r.marker u
  pub marker-unowned : Unowned r.marker u
  pub other-high : r.other ≤ symbol_count u
  pub other-free : 1 ≤ r.other → Free r.other u
  pub other-unowned : 1 ≤ r.other → Unowned r.other u

-- the row gets its tag by f, from the tables t and the row `row` to the tables u and the row `row₁`
pub record Tags (f : Building → Created) (a : Mark) (t u : Sparse) (row row₁ : List Float) (r : Tagged) : Type 0 where
  pub reads : created_of r u row₁ ≡ f (building_of a t row)
  pub stands : Standing false (mark_of r.wrote) u
  pub symbols : symbol_count u ≤ symbol_count t + 2
  pub ids : next_id u ≤ next_id t + 2
  pub rows : row_count u ≡ row_count t
  pub own : OwnTag r u

pub tags-as : {f g : Building → Created} {a : Mark} {t u : Sparse} {row row₁ : List Float} {r : Tagged} → ((b : Building) → f b ≡ g b) → Tags f a t u row row₁ r → Tags g a t u row row₁ r
tags-as {a = a} {t = t} {row = row} e h = record { reads = h.reads ∙ e (building_of a t row); stands = h.stands; symbols = h.symbols; ids = h.ids; rows = h.rows; own = h.own }

none-at : (t : Sparse) → other_at t 0 ≡ none
unfolding other_at
none-at t = refl

some_at : (t : Sparse) (o : ℕ) → 1 ≤ o → other_at t o ≡ some (symbol_at t o)
unfolding other_at
some_at t o h = rw (ne_eqb o 0 (λ e. omega (arith, e, h))) refl

-- ---- one symbol

module _ (kind : ℕ) (step : Building → Building) (f : Building → Created) (a : Mark) (w : Wrote) (t u : Sparse) (row row₁ : List Float) (g : Grows kind t u) (h : Builds a (mark_of w) step t u row row₁)
    (is : f (building_of a t row) ≡ tagged (new_symbol (kind_of kind) (building_of a t row).work) none (step (building_of a t row))) where
  pub one_symbol : Tags f a t u row row₁ (tag_of (1 + symbol_count t) 0 w)
  one_symbol =
      let s = g.symbols in
      let n = g.next in
      record {
        reads = created-is (1 + symbol_count t) 0 w u row₁ ∙ rw (is, g.new, none-at u, h.reads, new_is kind a t row) refl;
        stands = h.stands;
        symbols = omega (arith, s);
        ids = omega (arith, n);
        rows = g.rows;
        own = record { marker-low = omega arith; marker-high = omega (arith, s); marker-free = g.free; marker-unowned = g.unowned; other-high = omega arith; other-free = λ l. absurd (omega (arith, l)); other-unowned = λ l. absurd (omega (arith, l)) };
      }

-- ---- two

module _ (kind kind₁ : ℕ) (step step₁ : Building → Building) (f : Building → Created) (a b : Mark) (w : Wrote) (t t₁ u : Sparse) (row row₁ row₂ : List Float)
    (g : Grows kind t t₁) (h : Builds a b step t t₁ row row₁) (g₁ : Grows kind₁ t₁ u) (h₁ : Builds b (mark_of w) step₁ t₁ u row₁ row₂)
    (is : f (building_of a t row) ≡ tagged (new_symbol (kind_of kind) (building_of a t row).work) (some (new_symbol (kind_of kind₁) (step (building_of a t row)).work)) (step₁ (step (building_of a t row)))) where
  pub two-symbols : (o : ℕ) → o ≡ 1 + symbol_count t₁ → Tags f a t u row row₂ (tag_of (1 + symbol_count t) o w)
  two-symbols o e =
      let s = g.symbols in
      let s₁ = g₁.symbols in
      let n = g.next in
      let n₁ = g₁.next in
      let low : 1 ≤ o = omega (arith, e) in
      let marker : symbol_at u (1 + symbol_count t) ≡ new_symbol (kind_of kind) (building_of a t row).work = g₁.old (1 + symbol_count t) (omega (arith, s)) ∙ g.new ∙ sym (new_is kind a t row) in
      let other : symbol_at u o ≡ new_symbol (kind_of kind₁) (step (building_of a t row)).work = rw e g₁.new ∙ sym (new_is kind₁ b t₁ row₁) ∙ ap (λ (x : Building). new_symbol (kind_of kind₁) x.work) h.reads in
      record {
        reads = created-is (1 + symbol_count t) o w u row₂ ∙ rw (is, marker, some_at u o low, other, h₁.reads, h.reads) refl;
        stands = h₁.stands;
        symbols = omega (arith, s, s₁);
        ids = omega (arith, n, n₁);
        rows = g₁.rows ∙ g.rows;
        own = record {
          marker-low = omega arith;
          marker-high = omega (arith, s, s₁);
          marker-free = g₁.frees (1 + symbol_count t) g.free;
          marker-unowned = g₁.unowneds (1 + symbol_count t) g.unowned;
          other-high = omega (arith, e, s₁);
          other-free = λ l. rw e g₁.free;
          other-unowned = λ l. rw e g₁.unowned;
        };
      }

-- ---- by the relation

module _ (sign strength : Float) (a : Mark) (w : Wrote) (t u : Sparse) (row row₁ : List Float) where
  pub slack-tags : Grows 1 t u → Builds a (mark_of w) (λ b. add_symbol (new_symbol (kind_of 1) b.work) sign b) t u row row₁ → lt strength required ≡ false → Tags (inequality sign strength) a t u row row₁ (tag_of (1 + symbol_count t) 0 w)
  unfolding inequality kind_of
  slack-tags g h e = one_symbol 1 _ (inequality sign strength) a w t u row row₁ g h (rw (e, inequality) refl)

pub pair-tags : (sign strength : Float) (a b : Mark) (w : Wrote) (t t₁ u : Sparse) (row row₁ row₂ : List Float) (o : ℕ) → Grows 1 t t₁ → Builds a b (λ b. add_symbol (new_symbol (kind_of 1) b.work) sign b) t t₁ row row₁
    → Grows 2 t₁ u → Builds b (mark_of w) (λ b. add_error (new_symbol (kind_of 2) b.work) (neg sign) strength b) t₁ u row₁ row₂ → lt strength required ≡ true → o ≡ 1 + symbol_count t₁
    → Tags (inequality sign strength) a t u row row₂ (tag_of (1 + symbol_count t) o w)
unfolding inequality kind_of
pair-tags sign strength a b w t t₁ u row row₁ row₂ o g h g₁ h₁ e q = two-symbols 1 2 _ _ (inequality sign strength) a b w t t₁ u row row₁ row₂ g h g₁ h₁ (rw (e, inequality) refl) o q

pub errors-tags : (strength : Float) (a b : Mark) (w : Wrote) (t t₁ u : Sparse) (row row₁ row₂ : List Float) (o : ℕ) → Grows 2 t t₁ → Builds a b (λ b. add_error (new_symbol (kind_of 2) b.work) minus_one64 strength b) t t₁ row row₁
    → Grows 2 t₁ u → Builds b (mark_of w) (λ b. add_error (new_symbol (kind_of 2) b.work) one64 strength b) t₁ u row₁ row₂ → o ≡ 1 + symbol_count t₁
    → Tags (soft_equality strength) a t u row row₂ (tag_of (1 + symbol_count t) o w)
unfolding soft_equality kind_of
errors-tags strength a b w t t₁ u row row₁ row₂ o g h g₁ h₁ q = two-symbols 2 2 _ _ (soft_equality strength) a b w t t₁ u row row₁ row₂ g h g₁ h₁ refl o q

pub dummy-tags : (a : Mark) (w : Wrote) (t u : Sparse) (row row₁ : List Float) → Grows 3 t u → Builds a (mark_of w) (λ b. add_symbol (new_symbol (kind_of 3) b.work) one64 b) t u row row₁ → Tags required_equality a t u row row₁ (tag_of (1 + symbol_count t) 0 w)
unfolding required_equality kind_of
dummy-tags a w t u row row₁ g h = one_symbol 3 _ required_equality a w t u row row₁ g h refl

module _ {a : Mark} {t u : Sparse} {row row₁ : List Float} {r : Tagged} where
  pub soft-tags : (strength : Float) → lt strength required ≡ true → Tags (soft_equality strength) a t u row row₁ r → Tags (add_tag (equal strength)) a t u row row₁ r
  unfolding add_tag
  soft-tags strength e h = tags-as (λ b. rw (e, add_tag) refl) h

  pub required-tags : (strength : Float) → lt strength required ≡ false → Tags required_equality a t u row row₁ r → Tags (add_tag (equal strength)) a t u row row₁ r
  unfolding add_tag
  required-tags strength e h = tags-as (λ b. rw (e, add_tag) refl) h

  module _ {x : Given} (s : Float) where
    pub at-most-tags : x ≡ AtMost s → Tags (inequality one64 s) a t u row row₁ r → Tags (add_tag (relation_of x)) a t u row row₁ r
    unfolding relation_of add_tag
    at-most-tags q h = tags-as (λ b. rw q refl) h

    pub equal-tags : x ≡ Equal s → Tags (add_tag (equal s)) a t u row row₁ r → Tags (add_tag (relation_of x)) a t u row row₁ r
    unfolding relation_of add_tag
    equal-tags q h = tags-as (λ b. rw q refl) h

    pub at-least-tags : x ≡ AtLeast s → Tags (inequality minus_one64 s) a t u row row₁ r → Tags (add_tag (relation_of x)) a t u row row₁ r
    unfolding relation_of add_tag
    at-least-tags q h = tags-as (λ b. rw q refl) h
