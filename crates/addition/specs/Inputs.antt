-- The mark of what a caller hands in, term by term.
-- Assumes nothing.
use Rattle.std.specs.Prelude.{ℕ, zero, suc, ◌-◌, ◌≡◌, Bool, true, ◌&&◌, List, get_or, Float}
use Rattle.std.proofs.Math.Path.{refl}
use Rattle.std.proofs.Common.{ap, ◌∙◌, arith}
use Rattle.std.specs.Float.{nan}
use Rattle.laws.specs.Lists.{tab, list_of, all_from, all_in, all_on}
use Rattle.steps.specs.Number.{cell_bound, worse, whole_if}
use Rattle.steps.specs.Add.{whole_within, whole_terms}
use Rattle.layout.specs.Copy.{most16}
use Rattle.rows.specs.declared.number.Wrote.{Wrote}
use Rattle.rows.specs.Marks.{mark_of, join, mark-join}
use Rattle.changes.specs.declared.terms.Pack.{Pack}
use Rattle.changes.specs.terms.Terms.{term_of, term_in, terms_of}

abbrev pub whole_at : List Float → ℕ → Bool
whole_at coefs i = whole_within cell_bound (get_or coefs i nan)

from : (p : Pack) (n i : ℕ) → all_from (whole_at p.coefs) i n ≡ whole_terms (tab (λ j. term_of (term_in p j)) i n)
unfolding all_from tab whole_terms term_of term_in
from p zero i = refl
from p (suc n) i = ap (λ (b : Bool). whole_at p.coefs i && b) (from p n (suc i))

pub whole-terms : (p : Pack) {n : ℕ} {ok : Bool} → n ≡ most16 p.count → ok ≡ all_on (whole_at p.coefs) 0 n true → ok ≡ whole_terms (terms_of p)
unfolding all_on all_in list_of terms_of
whole-terms p q e =
    let z : most16 p.count - 0 ≡ most16 p.count = omega arith in
    e ∙ rw (q, z) (from p (most16 p.count) 0)

pub marks-are : (past first : Wrote) (whole : Bool) {b : Bool} → whole ≡ b → first ≡ join past (record { finite = true; whole = whole }) → mark_of first ≡ worse (mark_of past) (whole_if b)
marks-are past first whole q e = ap mark_of e ∙ mark-join past (record { finite = true; whole = whole }) ∙ ap (worse (mark_of past)) (finite ∙ ap whole_if q)
  where
    finite : mark_of (record { finite = true; whole = whole }) ≡ whole_if whole
    finite = unfold mark_of in refl
