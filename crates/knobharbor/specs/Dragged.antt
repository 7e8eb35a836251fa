-- A suggestion and then a fetch, with one test: what the suggestion left reads as a state, unless it answered 18. Assumes nothing.
use Rattle.std.specs.Prelude.{◌≡◌, ℕ, true, not, List, [], ◌∷◌, ◌==◌, Float}
use Rattle.std.proofs.Common.{ap, ◌∙◌}
use Rattle.std.proofs.lemmas.Bool.{not-true, eqb-false}
use Rattle.laws.specs.Given.{Then, then-of}
use Rattle.steps.specs.Changing.{suggests, made}
use Rattle.sparse.specs.Sparse.{Sparse}
use Rattle.sparse.specs.Fits.{Lengths}
use Rattle.sparse_test.specs.Reads.{reads}
use Rattle.lending.specs.declared.Answer as code
use Rattle.lending.specs.Lending.{Called, answer_of, called, call_of}
use Rattle.fetches.specs.declared.Fetched as fetched
use Rattle.fetches.specs.Fetch.{fetch_by, fetch_of}
use Rattle.solver.specs.Change.{call-reads}
use Rattle.knobharbor.specs.Places.{in_places, placed_list, placed_fetch, fetch-placed}

module _ (v : ℕ) (x : Float) (budget : ℕ) (w t u : Sparse) (a : code.Answer) (done : called (answer_of a) u ≡ call_of (made (suggests v x budget)) w t) where
  pub known-reads : Lengths t → Then (not (a.number == 18)) (reads u ≡ true)
  known-reads len =
      then-of (reads u ≡ true) (not (a.number == 18)) λ e.
      ap (λ (c : Called). reads c.tables) done
      ∙ call-reads (suggests v x budget) w t tt len (λ q. eqb-false a.number 18 (not-true _ e) (ap (λ (c : Called). c.answer.number) done ∙ q))

  pub drag-answers : {p : List ℕ} → p ≡ in_places (answer_of a) → p ≡ in_places (call_of (made (suggests v x budget)) w t).answer
  drag-answers e = e ∙ ap (λ (c : Called). in_places c.answer) done

  pub drag-fetches : {f : fetched.Fetched} {p ns gs : List ℕ} {vs : List Float} {z : Sparse} → p ≡ f.number ∷ f.count ∷ [] → fetch_by f ns vs gs z ≡ fetch_of u
      → placed_list p ns vs gs z ≡ placed_fetch (fetch_of (call_of (made (suggests v x budget)) w t).tables)
  drag-fetches e g = fetch-placed e (g ∙ ap (λ (c : Called). fetch_of c.tables) done)
