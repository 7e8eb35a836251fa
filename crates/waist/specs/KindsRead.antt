-- What is asked of a kind that was read from a byte of the tables is asked of the byte.
-- Assumes nothing.
use Rattle.std.specs.Prelude.{ℕ, ◌≡◌, refl, true, false}
use Rattle.std.proofs.Math.Path.{ap}
use Rattle.std.proofs.Common.{◌⊎◌, inl, inr}
use Rattle.steps.specs.Symbol.{Symbol, is_external, is_dummy, is_error, is_pivotable}
use Rattle.steps.specs.Symbol as steps
use Rattle.layout.specs.Layout.{kind_of}
use Rattle.waist.specs.declared.kinds.Kind.{Kind}
use Rattle.waist.specs.declared.kinds.Kind.TheVariants.{External, Slack, Error, Dummy}
use Rattle.waist.specs.Kinds.{kind_byte, KindOf}
use Rattle.waist.specs.substituting.Notes.{is_external_kind, external-kind}
use Rattle.waist.specs.Choosing.{is_dummy_kind, dummy-kind}
use Rattle.waist.specs.Looks.{of_kind, pivotable-kind}

abbrev symbol_of : steps.Kind → Symbol
symbol_of k = record { id = 0; kind = k }

module _ (b : ℕ) (k : Kind) (e : KindOf b k) where
  pub symbol-read : of_kind (kind_byte k) ≡ of_kind b
  symbol-read = ap symbol_of e

  pub external-read : is_external_kind (kind_byte k) ≡ is_external_kind b
  unfolding is_external_kind
  external-read = ap is_external symbol-read

  pub dummy-read : is_dummy_kind (kind_byte k) ≡ is_dummy_kind b
  unfolding is_dummy_kind
  dummy-read = ap is_dummy symbol-read

pub external-not : (k : Kind) → (k ≡ External → ⊥) → false ≡ is_external_kind (kind_byte k)
external-not External n = absurd (n refl)
external-not Slack n = rw (external-kind) refl
external-not Error n = rw (external-kind) refl
external-not Dummy n = rw (external-kind) refl

pub dummy-not : (k : Kind) → (k ≡ Dummy → ⊥) → false ≡ is_dummy_kind (kind_byte k)
dummy-not External n = rw (dummy-kind) refl
dummy-not Slack n = rw (dummy-kind) refl
dummy-not Error n = rw (dummy-kind) refl
dummy-not Dummy n = absurd (n refl)

pub pivotable-is : (k : Kind) → (k ≡ Slack) ⊎ (k ≡ Error) → true ≡ is_pivotable (of_kind (kind_byte k))
pivotable-is k (inl e) = rw (e, pivotable-kind) refl
pivotable-is k (inr e) = rw (e, pivotable-kind) refl

pub pivotable-not : (k : Kind) → (k ≡ Slack → ⊥) → (k ≡ Error → ⊥) → false ≡ is_pivotable (of_kind (kind_byte k))
pivotable-not External n m = rw (pivotable-kind) refl
pivotable-not Slack n m = absurd (n refl)
pivotable-not Error n m = absurd (m refl)
pivotable-not Dummy n m = rw (pivotable-kind) refl

pub error-is : (k : Kind) → k ≡ Error → true ≡ is_error (of_kind (kind_byte k))
unfolding is_error kind_of
error-is k e = rw e refl

pub error-not : (k : Kind) → (k ≡ Error → ⊥) → false ≡ is_error (of_kind (kind_byte k))
unfolding is_error kind_of
error-not External n = refl
error-not Slack n = refl
error-not Error n = absurd (n refl)
error-not Dummy n = refl
