-- What a call leaves in the places that C lends: an answer of more than one word goes through them. Assumes nothing.
use Rattle.std.specs.Prelude.{◌≡◌, ℕ, List, [], ◌∷◌, Float}
use Rattle.std.proofs.Common.{ap, ◌∙◌}
use Rattle.steps.specs.Calls.{Answer}
use Rattle.layout.specs.Layout.{bit_of}
use Rattle.sparse.specs.Sparse.{Sparse}
use Rattle.lending.specs.Lending.{Called, called}
use Rattle.fetches.specs.Fetch.{Fetch, fetch_by}
use Rattle.fetches.specs.declared.Fetched as code
use Rattle.entry.specs.typed.Adding.{Text, text}

-- an answer's three places: the number, the pivots, the whole mark as 0 or 1
unfoldable pub in_places : Answer → List ℕ
in_places a = a.number ∷ a.pivots ∷ bit_of a.whole ∷ []

-- an answer's places, and the tables
pub record Placed : Type 0 where
  pub answer : List ℕ
  pub tables : Sparse

abbrev pub placed : List ℕ → Sparse → Placed
placed a t = record { answer = a; tables = t }

-- what a call answers and leaves, in its places
abbrev pub placed_by : Called → Placed
placed_by c = placed (in_places c.answer) c.tables

-- the same of a line of text, with the offset in a place of its own
pub record PlacedText : Type 0 where
  pub offset : ℕ
  pub call : Placed

abbrev pub placed_text : ℕ → Placed → PlacedText
placed_text at p = record { offset = at; call = p }

abbrev pub placed_line : Text → PlacedText
placed_line x = placed_text x.offset (placed_by x.call)

-- of a fetch: its answer's two places, the three lists, and the tables
pub record PlacedList : Type 0 where
  pub answer : List ℕ
  pub numbers : List ℕ
  pub values : List Float
  pub gone : List ℕ
  pub tables : Sparse

abbrev pub placed_list : List ℕ → List ℕ → List Float → List ℕ → Sparse → PlacedList
placed_list a ns vs gs t = record { answer = a; numbers = ns; values = vs; gone = gs; tables = t }

abbrev pub placed_fetch : Fetch → PlacedList
placed_fetch f = placed_list (f.number ∷ f.count ∷ []) f.numbers f.values f.gone f.tables

-- ---- from what is called to the places

pub call-placed : {a : Answer} {w : List ℕ} {u : Sparse} {c : Called} → w ≡ in_places a → called a u ≡ c → placed w u ≡ placed_by c
call-placed {u = u} e f = ap (λ (l : List ℕ). placed l u) e ∙ ap placed_by f

pub text-placed : {a : Answer} {at k : ℕ} {w : List ℕ} {u : Sparse} {x : Text} → k ≡ at → w ≡ in_places a → text at (called a u) ≡ x → placed_text k (placed w u) ≡ placed_line x
text-placed {a} {k = k} {u = u} d e f = ap (λ (l : List ℕ). placed_text k (placed l u)) e ∙ ap (λ (y : ℕ). placed_text y (placed (in_places a) u)) d ∙ ap placed_line f

pub fetch-placed : {f : code.Fetched} {w ns gs : List ℕ} {vs : List Float} {u : Sparse} {x : Fetch} → w ≡ f.number ∷ f.count ∷ [] → fetch_by f ns vs gs u ≡ x → placed_list w ns vs gs u ≡ placed_fetch x
fetch-placed {ns = ns} {gs} {vs} {u} e g = ap (λ (l : List ℕ). placed_list l ns vs gs u) e ∙ ap placed_fetch g
