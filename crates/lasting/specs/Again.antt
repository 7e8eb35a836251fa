-- The tables that a fetch leaves still read as a state, and a second fetch straight after reports none. Assumes nothing.
use Rattle.std.specs.Prelude.{ℕ, ◌≡◌, refl, true, [], replicate, Float}
use Rattle.std.proofs.Common.{ap, ◌∙◌}
use Rattle.steps.specs.Number.{zero64}
use Rattle.steps.specs.State.{State}
use Rattle.steps.specs.Changes.{fetch_changes}
use Rattle.steps.proofs.Queries.{second-fetch}
use Rattle.layout.specs.Layout.{over}
use Rattle.layout.specs.Laying.{laid_nil}
use Rattle.sparse.specs.Sparse.{Sparse, read}
use Rattle.sparse.specs.Fits.{Lengths}
use Rattle.sparse_test.specs.Reads.{reads}
use Rattle.fetches.specs.Fetch.{places, numbers_of, values_of, flags_of, fetch_in, fetch_of}
use Rattle.sparse_test.specs.narrow.Holds.{Holds}
use Rattle.lasting.specs.Promises.{fetch-holds}

-- accepted, and three lists of zeros
abbrev Nothing : Sparse → Type 0
Nothing t = ((fetch_of t).number ≡ 0) × ((fetch_of t).count ≡ 0) × ((fetch_of t).numbers ≡ replicate places 0) × ((fetch_of t).values ≡ replicate places zero64) × ((fetch_of t).gone ≡ replicate places 0)

none-listed : (t : Sparse) → reads t ≡ true → (fetch_changes (read t)).list ≡ [] → Nothing t
unfolding fetch_of fetch_in over numbers_of values_of flags_of
none-listed t h e = rw (h, e) (refl, refl, laid_nil (λ (x _ : ℕ). x) 0 (replicate places 0), laid_nil (λ (x _ : Float). x) 0 (replicate places zero64), laid_nil (λ (x _ : ℕ). x) 0 (replicate places 0))

module _ (t : Sparse) (l : Lengths t) (h : reads t ≡ true) where
  left : Holds (fetch_changes (read t)).state (fetch_of t).tables
  left = fetch-holds (read t) t (record { lengths = l; reads = h; state = refl })

  pub fetch-leaves : reads (fetch_of t).tables ≡ true
  fetch-leaves = left.reads

  -- "a first fetch reports, a second straight after reports none"
  pub fetched-again : Nothing (fetch_of t).tables
  fetched-again = none-listed (fetch_of t).tables left.reads (ap (λ (s : State). (fetch_changes s).list) left.state ∙ second-fetch (read t))
