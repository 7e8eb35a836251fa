-- What a fetch over any tables answers, lists and leaves.
use Rattle.std.specs.Prelude.{ℕ, cond, List, map, length, replicate, Float}
use Rattle.steps.specs.Number.{zero64}
use Rattle.steps.specs.Changes.{Change, Fetched, fetch_changes}
use Rattle.layout.specs.Layout.{bit_of, over}
use Rattle.sparse.specs.Sparse.{Sparse, read}
use Rattle.sparse.specs.Write.{write}
use Rattle.sparse_test.specs.Reads.{reads}
use Rattle.fetches.specs.declared.Fetched as code

-- the answer, 0 or 18; the three lists, and how many of their places are filled; the tables
pub record Fetch : Type 0 where
  pub number : ℕ
  pub count : ℕ
  pub numbers : List ℕ
  pub values : List Float
  pub gone : List ℕ
  pub tables : Sparse

abbrev pub fetch : ℕ → ℕ → List ℕ → List Float → List ℕ → Sparse → Fetch
fetch n c ns vs gs t = record { number = n; count = c; numbers = ns; values = vs; gone = gs; tables = t }

abbrev pub fetch_by : code.Fetched → List ℕ → List Float → List ℕ → Sparse → Fetch
fetch_by r ns vs gs t = fetch r.number r.count ns vs gs t

-- the entries' numbers; their values, 0.0 where the variable is gone; and whether it is gone, 1 or 0
unfoldable pub numbers_of : List Change → List ℕ
numbers_of l = map (λ (c : Change). c.variable) l

unfoldable pub values_of : List Change → List Float
values_of l = map (λ (c : Change). c.new) l

unfoldable pub flags_of : List Change → List ℕ
flags_of l = map (λ (c : Change). bit_of c.gone) l

-- "Fetch fills lists of 64 places, zero past its count": 32 that are gone, and 32 that are live
abbrev pub places : ℕ
places = 64

unfoldable pub fetch_in : Sparse → Fetch
fetch_in t =
    let f : Fetched = fetch_changes (read t) in
    fetch 0 (length f.list) (over 0 (numbers_of f.list) (replicate places 0)) (over 0 (values_of f.list) (replicate places zero64)) (over 0 (flags_of f.list) (replicate places 0)) (write f.state t)

-- "all zero on 18"; the tables are left
unfoldable pub fetch18 : Sparse → Fetch
fetch18 t = fetch 18 0 (replicate places 0) (replicate places zero64) (replicate places 0) t

-- of tables and lists whose types say their lengths: 18 where the tables do not read as a state
unfoldable pub fetch_of : Sparse → Fetch
fetch_of t = cond (reads t) (fetch_in t) (fetch18 t)
