-- What a call is answered as text, and what it leaves of the tables.
use Rattle.std.specs.Prelude.{ℕ, ◌≤◌, ◌≡◌, refl, Bool, true, false, cond, List, length, replicate, Float}
use Rattle.std.proofs.Common.{◌∙◌, arith, length-append}
use Rattle.std.proofs.lemmas.List.{length-replicate}
use Rattle.laws.specs.Lists.{length-laid}
use Rattle.steps.specs.Number.{zero64}
use Rattle.steps.specs.Changes.{Change, fetch_changes}
use Rattle.layout.specs.Layout.{over}
use Rattle.keeps.specs.Tested.{reads_in}
use Rattle.sparse.specs.Sparse.{Sparse, read}
use Rattle.sparse_test.specs.Reads.{reads}
use Rattle.sparse_test.specs.Meaning.{reads-readable}
use Rattle.fetches.specs.Fetch.{numbers_of, values_of, flags_of, places, Fetch, fetch_by, fetch_in, fetch18, fetch_of}
use Rattle.fetches.specs.Few.{fetch-room}
use Rattle.fetches.specs.declared.Fetched as code
use Rattle.text.specs.Answers.{Wrote, number_text, fetch_text, changes_text, listed_in, decimal-short, changes-short, listed-length}

-- the answer's text, and the tables afterwards
pub record Said : Type 0 where
  pub text : List ℕ
  pub tables : Sparse

abbrev pub said : List ℕ → Sparse → Said
said s t = record { text = s; tables = t }

-- the text stands in the buffer from a place on, up to the next place; these are the tables
abbrev pub Spoken : Said → List ℕ → List ℕ → ℕ → ℕ → Sparse → Type 0
Spoken s before after at next t = (Wrote before after at next s.text) × (t ≡ s.tables)

-- "`fetch` then answers `COUNT ENTRY ...`, an entry `V:BITS` or `V:gone`"
unfoldable pub fetch_said : Fetch → Said
fetch_said f = said (fetch_text (listed_in f.count f.numbers f.values f.gone)) f.tables

-- ---- a fetch lists at most as many entries as its lists have places

fetch-few : (t : Sparse) → (fetch_of t).count ≤ places
unfolding fetch_of fetch_in fetch18
fetch-few t = go (reads t) refl
  where
    go : (b : Bool) → reads t ≡ b → (cond b (fetch_in t) (fetch18 t)).count ≤ places
    go true e = fetch-room (read t) (reads_in (read t) (reads-readable t e))
    go false e = omega arith

-- and fills all of them
abbrev Long : Fetch → Type 0
Long f = (length f.numbers ≡ places) × (length f.values ≡ places) × (length f.gone ≡ places)

fetch-long : (t : Sparse) → Long (fetch_of t)
unfolding fetch_of fetch_in fetch18 over
fetch-long t = go (reads t)
  where
    zeros : length {A = ℕ} (replicate places 0) ≡ places
    zeros = length-replicate {A = ℕ} places 0

    cs : List Change
    cs = (fetch_changes (read t)).list

    go : (b : Bool) → Long (cond b (fetch_in t) (fetch18 t))
    go true =
        (length-laid (λ x _. x) 0 (numbers_of cs) (replicate places 0) ∙ zeros, length-laid (λ x _. x) 0 (values_of cs) (replicate places zero64) ∙ length-replicate places zero64, length-laid (λ x _. x) 0 (flags_of cs) (replicate places 0) ∙ zeros)
    go false = (zeros, length-replicate places zero64, zeros)

pub fetch-short : (t : Sparse) → length (fetch_said (fetch_of t)).text ≤ 2452
unfolding fetch_said fetch_text
fetch-short t =
    let f : Fetch = fetch_of t in
    let cs : List Change = listed_in f.count f.numbers f.values f.gone in
    let e = length-append (number_text (length cs)) (changes_text cs) in
    omega (arith, e, decimal-short 20 (length cs), changes-short cs, listed-length f.numbers f.values f.gone f.count, fetch-few t)

-- what the code's fetch counts, and what is said of it
module _ (t : Sparse) (r : code.Fetched) {ns gs : List ℕ} {vs : List Float} {u : Sparse} (e : fetch_by r ns vs gs u ≡ fetch_of t) where
  pub fetched-few : r.count ≤ places
  fetched-few = rw (← e) at (fetch-few t)

  pub fetched-long : (length ns ≡ places) × (length vs ≡ places) × (length gs ≡ places)
  fetched-long = rw (← e) at (fetch-long t)

  pub fetch-said : (a b : List ℕ) (i j : ℕ) → Wrote a b i j (fetch_text (listed_in r.count ns vs gs)) → Spoken (fetch_said (fetch_of t)) a b i j u
  unfolding fetch_said
  fetch-said a b i j w = rw (← e) (w, refl)
