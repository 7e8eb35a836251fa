-- The gone numbers that wait, where the words that hold them stay.
-- Assumes nothing.
use Rattle.std.specs.Prelude.{ℕ, ◌+◌, ◌≡◌, get_or}
use Rattle.laws.specs.Lists.{list_of, tab-ext}
use Rattle.sparse.specs.Places.{gone_numbers_at}
use Rattle.sparse.specs.Sparse.{Sparse, gone_count, gone_of}

pub gone-kept : (t u : Sparse) → gone_count u ≡ gone_count t → ((j : ℕ) → get_or u.words (gone_numbers_at + j) 0 ≡ get_or t.words (gone_numbers_at + j) 0) → gone_of u ≡ gone_of t
unfolding gone_of list_of
gone-kept t u e f = rw e (tab-ext (λ j. get_or u.words (gone_numbers_at + j) 0) (λ j. get_or t.words (gone_numbers_at + j) 0) 0 (gone_count t) (λ j a b. f j))
