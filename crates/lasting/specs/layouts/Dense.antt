-- The calls over the four dense tables: the test for 18, a changing call, a reset, a fetch. They are older than the choice of a cutoff, than groups and than gone entries: their cutoff is the usual one, their constraints are in group 1, and none waits.
use Rattle.std.specs.Prelude.{ℕ, ◌+◌, Bool, ◌&&◌, cond, List, [], leb, Float, length, get_or, replicate}
use Rattle.laws.specs.Lists.{all_in}
use Rattle.steps.specs.Number.{zero64, usual_cutoff}
use Rattle.steps.specs.State.{State}
use Rattle.steps.specs.Changes.{Fetched, fetch_changes}
use Rattle.steps.specs.Calls.{Answer, Result, reset}
use Rattle.steps.specs.Readable.{readable}
use Rattle.layout.specs.Layout.{Tables, read, write, over, next_id_of, symbol_count, variable_count, constraint_count, clear_flag, whole_flag, constraints_at, number_of, changed_flag, relation_kind}
use Rattle.layout.specs.Rooms.{lengths_right}
use Rattle.layout.specs.cells.Names.{last_place}
use Rattle.lending.specs.Lending.{refused18}
use Rattle.fetches.specs.Fetch.{numbers_of, values_of, places}
use Rattle.sparse_test.specs.narrow.Numbers.{is_u32}

-- What the layout adds to the state's own test: the symbols are within the room, flags are 0 or 1, numbers are u32, relations are one of three.
unfoldable pub codes_fit : Tables → Bool
codes_fit t =
    let h : List ℕ = t.head in
    is_u32 (next_id_of h)
    && leb (symbol_count h) last_place
    && leb (clear_flag h) 1
    && leb (whole_flag h) 1
    && all_in (λ i. is_u32 (number_of (get_or t.names i [])) && leb (changed_flag (get_or t.names i [])) 1) 0 (variable_count h)
    && all_in (λ i. is_u32 (number_of (get_or t.names (constraints_at + i) [])) && leb (relation_kind (get_or t.names (constraints_at + i) [])) 2) 0 (constraint_count h)

-- "18 | a lent table has the wrong length or doesn't read as a state"
unfoldable pub reads : Tables → Bool
reads t = lengths_right t && (codes_fit t && readable (read t))

pub record Called : Type 0 where
  pub answer : Answer
  pub tables : Tables

abbrev pub called : Answer → Tables → Called
called a t = record { answer = a; tables = t }

unfoldable pub call_in : (State → Result) → Tables → Called
call_in f t = called (f (read t)).answer (write (f (read t)).state t)

unfoldable pub call_of : (State → Result) → Tables → Tables → Called
call_of f work t = cond (reads t && lengths_right work) (call_in f t) (called refused18 t)

unfoldable pub reset_of : Tables → Called
reset_of t = cond (lengths_right t) (call_in (reset usual_cutoff) t) (called refused18 t)

-- the answer, 0 or 18; the two lists, and how many of their places are filled; the tables. There is no list of gone flags.
pub record Fetch : Type 0 where
  pub number : ℕ
  pub count : ℕ
  pub numbers : List ℕ
  pub values : List Float
  pub tables : Tables

-- "zero past its count", "all zero on 18"; the lists are the caller's, as long as they are today
unfoldable pub fetch_of : Tables → Fetch
fetch_of t =
    let f : Fetched = fetch_changes (read t) in
    cond
    (reads t)
    (record { number = 0; count = length f.list; numbers = over 0 (numbers_of f.list) (replicate places 0); values = over 0 (values_of f.list) (replicate places zero64); tables = write f.state t })
    (record { number = 18; count = 0; numbers = replicate places 0; values = replicate places zero64; tables = t })

-- a query of tables that read as a state, and what is answered otherwise
unfoldable pub asked : {A : Type 0} → (State → A) → A → Tables → A
asked query otherwise t = cond (reads t) (query (read t)) otherwise
