-- A list of terms, gathered into two rows of sixteen; and what is read from the pack.
use Rattle.std.specs.Prelude.{ℕ, ◌+◌, Bool, true, ◌&&◌, cond, List, [], ◌∷◌, ◌++◌, map, leb, ltb, get_or, set, replicate, Float}
use Rattle.std.specs.Float.{nan}
use Rattle.steps.specs.Number.{zero64, near_zero, is_finite}
use Rattle.steps.specs.State as steps
use Rattle.laws.specs.Loops.{run}
use Rattle.laws.specs.Lists.{list_of}
use Rattle.layout.specs.Copy.{most16}
use Rattle.layout.specs.Layout.{term_room}
use Rattle.changes.specs.declared.terms.Term.{Term}
use Rattle.changes.specs.declared.terms.Pack.{Pack}

-- what stands past the end of a list of terms
abbrev pub no_term : Term
no_term = record { variable = 0; coefficient = nan }

unfoldable pub no_pack : Pack
no_pack = record { count = 0; finite = true; vars = replicate term_room 0; coefs = replicate term_room zero64 }

-- a pack with one term more; where it is full, the count becomes 17 and stays there
unfoldable pub pushed : Pack → Term → Pack
pushed p t =
    let finite : Bool = p.finite && is_finite t.coefficient in
    cond (ltb p.count term_room)
    (record { count = p.count + 1; finite = finite; vars = set p.vars p.count t.variable; coefs = set p.coefs p.count t.coefficient })
    (record { count = 17; finite = finite; vars = p.vars; coefs = p.coefs })

-- all the terms of a list, in order
unfoldable pub pack_from : Pack → List Term → Pack
pack_from p [] = p
pack_from p (t ∷ ts) = pack_from (pushed p t) ts

unfoldable pub pack_of : List Term → Pack
pack_of ts = pack_from no_pack ts

-- ---- as the steps have them

unfoldable pub term_of : Term → steps.Term
term_of t = record { variable = t.variable; coefficient = t.coefficient }

-- the terms of a lent list
unfoldable pub terms_in : List Term → List steps.Term
terms_in ts = map term_of ts

-- the term at place j of a pack
unfoldable pub term_in : Pack → ℕ → Term
term_in p j = record { variable = get_or p.vars j 0; coefficient = get_or p.coefs j nan }

-- the terms of a pack, its first sixteen where there are more
unfoldable pub terms_of : Pack → List steps.Term
terms_of p = list_of (most16 p.count) λ j. term_of (term_in p j)

-- ---- over a pack

-- one term more, if it is "not near zero"
unfoldable pub pushed_kept : Float → Pack → Term → Pack
pushed_kept cutoff p t = cond (near_zero cutoff t.coefficient) p (pushed p t)

-- the terms of a pack that are not near zero
unfoldable pub kept_of : Float → Pack → Pack
kept_of cutoff p = run (λ j q. pushed_kept cutoff q (term_in p j)) 0 (most16 p.count) no_pack

-- ---- the list that any pack stands for, one filled by hand too

-- its terms, the first sixteen where it counts more
unfoldable pub shown_in : Pack → List Term
shown_in p = list_of (most16 p.count) (term_in p)

abbrev pub zero_term : Term
zero_term = record { variable = 0; coefficient = zero64 }

-- past these: where it says that not all are finite, one that is not; where it counts more than sixteen, one more
unfoldable pub past_in : Pack → List Term
past_in p = cond p.finite (cond (leb p.count term_room) [] (zero_term ∷ [])) (no_term ∷ [])

unfoldable pub listed : Pack → List Term
listed p = shown_in p ++ past_in p
