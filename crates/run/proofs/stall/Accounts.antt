-- The passes of Add's, Remove's and Suggest's steps account for all that these answer: the pivots, 14, and the mark. Assumes nothing.
use Prim.Native.Nat.{ℕ, ◌+◌, ◌-◌}
use native.Mathlib.Omega.{arith}
use mathlib.Core.Path.{◌≡◌, refl, sym, ap, ◌∙◌, subst}
use mathlib.Core.Logic.{inl, inr}
use mathlib.Core.Bool.{Bool, true, false}
use mathlib.Core.List.{List, [], ◌∷◌, ◌++◌}
use mathlib.Core.Option.{Option, none, some}
use lib.Ieee.{Float}
use Rattle.simplex.specs.Choose.{All}
use Rattle.steps.specs.Number.{Mark, all_whole, not_whole, not_finite, near_zero, whole_if, constant_bound, ◌-₆₄◌}
use Rattle.steps.specs.Symbol.{Slack, Symbol}
use Rattle.steps.specs.State.{Term, Relation, Tag, Edit}
use Rattle.steps.specs.Work.{Work, Outcome, refused, going, ◌>>=◌, refuse, check_finite, marking, with_artificial, new_symbol}
use Rattle.steps.specs.CreateRow.{Created, create_row, choose_subject, all_dummies}
use Rattle.steps.specs.Optimise.{the_objective, the_artificial, optimise, dual_optimise}
use Rattle.steps.specs.Artificial.{stand_temporary, remove_temporary, artificial_constant_near_zero, add_with_artificial_variable}
use Rattle.steps.specs.Add.{whole_inputs, whole_within, add_with_subject, add_created, Added, add_steps}
use Rattle.steps.specs.Remove.{remove_constraint_effects, drop_marker, purge_tag, drop_uses, remove_steps}
use Rattle.steps.specs.Edit.{shift_constants, suggest_steps}
use Rattle.steps.proofs.After.{After, after-refl, after-trans, marking-after, artificial-after}
use Rattle.steps.proofs.AfterAdd.{create_row-after, stand_temporary-after}
use Rattle.steps.proofs.AfterRemove.{remove_effects-after, purge_tag-after, drop_uses-after, shift-after}
use Rattle.simplex.specs.bridge.Runs.{mark_of}
use Rattle.run.specs.stall.Stall.{optimising, dual, PassStart, outcome_by, outcome_of, pivots_of, pivots_from, all_pivots, objective_pass, artificial_pass, add_passes, remove_passes, suggest_passes, refusal_of, UsedUp, Some, Shares}
use Rattle.run.proofs.stall.Turns.{pivots_at, pass-mark, counts}
use Rattle.run.proofs.stall.Pass.{Unmarred}
use Rattle.run.proofs.stall.Quiet.{Quiet, goes, refuses, checks, then, subject-quiet, temporary-quiet, marker-quiet}

-- steps with the budget b have come to o, by the passes ps
pub record Told (b : ℕ) (ps : List PassStart) (o : Outcome Work) : Type 0 where
  pub shares : Shares b ps
  pub pivots : pivots_at o ≡ all_pivots ps
  pub used-up : refusal_of o ≡ 14 → Some UsedUp ps
  pub unmarred : mark_of o ≡ all_whole → All Unmarred ps

-- no pass yet
pub none_yet : (b : ℕ) (v : Work) (o : Outcome Work) → v.pivots ≡ 0 → Quiet v o → Told b [] o
unfolding all_pivots
none_yet b v o z q = record { shares = tt; pivots = q.pivots ∙ z; used-up = λ e. q.other e; unmarred = λ m. tt }

-- quiet steps add nothing
pub on : (b : ℕ) (ps : List PassStart) (o : Outcome Work) (f : Work → Outcome Work) → Told b ps o → ((v : Work) → Quiet v (f v)) → Told b ps (o >>= f)
unfolding ◌>>=◌ pivots_at refusal_of mark_of
on b ps (refused n p m) f t k = t
on b ps (going v) f t k = let q = k v in record { shares = t.shares; pivots = q.pivots ∙ t.pivots; used-up = λ e. absurd (q.other e); unmarred = λ m. t.unmarred (q.mark m) }

-- ---- a pass more
all_end : (Q : PassStart → Type 0) (p : PassStart) (ps : List PassStart) → All Q ps → Q p → All Q (ps ++ (p ∷ []))
all_end Q p [] a q = (q, tt)
all_end Q p (x ∷ ps) a q = (a.0, all_end Q p ps a.1 q)

some_end : (Q : PassStart → Type 0) (p : PassStart) (ps : List PassStart) → Q p → Some Q (ps ++ (p ∷ []))
some_end Q p [] q = inl q
some_end Q p (x ∷ ps) q = inr (some_end Q p ps q)

pivots-end : (p : PassStart) (ps : List PassStart) → all_pivots (ps ++ (p ∷ [])) ≡ all_pivots ps + pivots_of p
unfolding all_pivots
pivots-end p [] = omega arith
pivots-end p (x ∷ ps) = omega (arith, pivots-end p ps)

shares-end : (b : ℕ) (p : PassStart) (ps : List PassStart) → Shares b ps → p.left ≡ b - all_pivots ps → Shares b (ps ++ (p ∷ []))
unfolding all_pivots
shares-end b p [] s e = (omega (arith, e), tt)
shares-end b p (x ∷ ps) s e = (s.0, shares-end (b - pivots_of x) p ps s.1 (omega (arith, e)))

pub passed : (b : ℕ) (ps : List PassStart) (v : Work) → Told b ps (going v) → (p : PassStart) → p.left ≡ b - v.pivots → After v p.work → Told b (ps ++ (p ∷ [])) (outcome_of p)
unfolding pivots_at refusal_of mark_of outcome_of pivots_of
passed b ps v t p e a = record {
  shares = shares-end b p ps t.shares (e ∙ ap (λ (k : ℕ). b - k) t.pivots);
  pivots = counts p.left p.rule p.work ∙ ap (λ (k : ℕ). k + pivots_from p.left p.rule p.work) (a.pivots ∙ t.pivots) ∙ sym (pivots-end p ps);
  used-up = λ u. some_end UsedUp p ps u;
  unmarred = λ m. all_end Unmarred p ps (t.unmarred (a.mark (pass-mark p.rule p.left p.work m))) m;
}

append-none : {A : Type 0} (l : List A) → l ++ [] ≡ l
append-none [] = refl
append-none (x ∷ l) = ap (λ t. x ∷ t) (append-none l)

-- the pass on the objective, with f before it
pub objective : (b : ℕ) (ps : List PassStart) (f : Work → Work) → ((v : Work) → After v (f v)) → (o : Outcome Work) → Told b ps o → Told b (ps ++ objective_pass b f o) (o >>= λ v. optimise (b - v.pivots) the_objective (f v))
unfolding objective_pass ◌>>=◌ outcome_of outcome_by
objective b ps f a (refused n p m) t = subst (λ (l : List PassStart). Told b l (refused n p m)) (sym (append-none ps)) t
objective b ps f a (going v) t = passed b ps v t (record { rule = optimising the_objective; left = b - v.pivots; work = f v }) refl (a v)

-- ---- Add

-- where step 6's pass starts
abbrev standing : Created → Work
standing c = stand_temporary (new_symbol Slack c.work) (record { work = c.work; row = c.row })

abbrev start : ℕ → Created → PassStart
start b c = record { rule = optimising the_artificial; left = b - (standing c).pivots; work = standing c }

artificial : (b : ℕ) (c : Created) → c.work.pivots ≡ 0 → Told b (start b c ∷ []) (add_with_artificial_variable b c)
unfolding add_with_artificial_variable outcome_of outcome_by
artificial b c z =
    on b (start b c ∷ []) (optimise (start b c).left the_artificial (standing c)) (λ w. elim (artificial_constant_near_zero w) [ false ↦ refuse 12 w | true ↦ remove_temporary (new_symbol Slack c.work) (with_artificial none w) ])
    (passed b [] c.work (none_yet b c.work (going c.work) z (goes (after-refl c.work))) (start b c) (ap (λ (k : ℕ). b - k) a.pivots) a) (λ w. go w (artificial_constant_near_zero w))
  where
    a : After c.work (standing c)
    a = stand_temporary-after (new_symbol Slack c.work) (record { work = c.work; row = c.row })

    go : (w : Work) (n : Bool) → Quiet w (elim n [ false ↦ refuse 12 w | true ↦ remove_temporary (new_symbol Slack c.work) (with_artificial none w) ])
    go w false = refuses 12 w (λ e. omega (arith, e))
    go w true =
        let q = temporary-quiet (new_symbol Slack c.work) (with_artificial none w) in
        let r = artificial-after none w in
        record { pivots = q.pivots ∙ r.pivots; other = q.other; mark = λ m. r.mark (q.mark m) }

created : (b : ℕ) (c : Created) → c.work.pivots ≡ 0 → Told b (artificial_pass b c) (add_created b c)
unfolding artificial_pass add_created
created b c z = go (choose_subject c)
  where
    zeroed : (n : Bool) → Told b [] (elim n [ false ↦ refuse 12 c.work | true ↦ add_with_subject c.tag.marker c ])
    zeroed false = none_yet b c.work (refuse 12 c.work) z (refuses 12 c.work (λ e. omega (arith, e)))
    zeroed true = none_yet b c.work (add_with_subject c.tag.marker c) z (subject-quiet c.tag.marker c)

    without : (n : Bool)
        → Told b (elim n [ true ↦ [] | false ↦ start b c ∷ [] ])
        (elim n [ false ↦ add_with_artificial_variable b c | true ↦ elim (near_zero c.work.tableau.cutoff c.row.constant) [ false ↦ refuse 12 c.work | true ↦ add_with_subject c.tag.marker c ] ])
    without false = artificial b c z
    without true = zeroed (near_zero c.work.tableau.cutoff c.row.constant)

    go : (o : Option Symbol)
        → Told b (elim o [ some s ↦ [] | none ↦ elim (all_dummies c) [ true ↦ [] | false ↦ start b c ∷ [] ] ])
        (elim o [
          | some s ↦ add_with_subject s c
          | none ↦
              elim (all_dummies c)
              [ false ↦ add_with_artificial_variable b c | true ↦ elim (near_zero c.work.tableau.cutoff c.row.constant) [ false ↦ refuse 12 c.work | true ↦ add_with_subject c.tag.marker c ] ]
        ])
    go (some s) = none_yet b c.work (add_with_subject s c) z (subject-quiet s c)
    go none = without (all_dummies c)

-- `check_finite` with the mark m
abbrev checked : Mark → Work → Outcome Work
checked m w = elim m [ all_whole ↦ going w | not_whole ↦ going w | not_finite ↦ refused 13 w.pivots w.mark ]

-- the work of an add that goes on
unfoldable pub work_of : Outcome Added → Outcome Work
work_of (refused n p m) = refused n p m
work_of (going a) = going a.work

pub add-told : (b : ℕ) (ts : List Term) (k : Float) (r : Relation) (w : Work) → w.pivots ≡ 0 → Told b (add_passes b ts k r w) (work_of (add_steps b ts k r w))
unfolding add_passes add_steps check_finite refuse ◌>>=◌ work_of pivots_at refusal_of mark_of all_pivots
add-told b ts k r w z = go c.work.mark
  where
    c : Created
    c = create_row ts k r (marking (whole_if (whole_inputs ts k r)) w)

    a : After w c.work
    a = after-trans (marking-after (whole_if (whole_inputs ts k r)) w) (create_row-after ts k r (marking (whole_if (whole_inputs ts k r)) w))

    only : (o : Outcome Work) → work_of (o >>= λ v. going (record { work = v; tag = c.tag })) ≡ o
    only (refused n p m) = refl
    only (going v) = refl

    started : Told b (artificial_pass b c ++ objective_pass b (λ v. v) (add_created b c)) (add_created b c >>= λ v. optimise (b - v.pivots) the_objective v)
    started = objective b (artificial_pass b c) (λ v. v) after-refl (add_created b c) (created b c (a.pivots ∙ z))

    goes_on : Told b (artificial_pass b c ++ objective_pass b (λ v. v) (add_created b c)) (work_of (going c.work >>= (λ _. add_created b c) >>= (λ v. optimise (b - v.pivots) the_objective v) >>= (λ v. going (record { work = v; tag = c.tag }))))
    goes_on = subst (Told b (artificial_pass b c ++ objective_pass b (λ v. v) (add_created b c))) (sym (only (add_created b c >>= λ v. optimise (b - v.pivots) the_objective v))) started

    go : (m : Mark)
        → Told b (elim (checked m c.work) [
          | refused n p m ↦ []
          | going v ↦ artificial_pass b c ++ objective_pass b (λ v. v) (add_created b c)
        ])
        (work_of ((checked m c.work) >>= (λ _. add_created b c) >>= (λ v. optimise (b - v.pivots) the_objective v) >>= (λ v. going (record { work = v; tag = c.tag }))))
    go all_whole = goes_on
    go not_whole = goes_on
    go not_finite = record { shares = tt; pivots = a.pivots ∙ z; used-up = λ e. omega (arith, e); unmarred = λ m. tt }

-- ---- Remove
pub remove-told : (b : ℕ) (tag : Tag) (k : Float) (ts : List Term) (w : Work) → w.pivots ≡ 0 → Told b (remove_passes b tag k w) (remove_steps b tag k ts w)
unfolding remove_passes remove_steps
remove-told b tag k ts w z =
    on b (objective_pass b (purge_tag tag) dropped) (dropped >>= λ v. optimise (b - v.pivots) the_objective (purge_tag tag v)) (λ v. going (drop_uses ts v))
    (objective b [] (purge_tag tag) (purge_tag-after tag) dropped (none_yet b w dropped z (then (check_finite (remove_constraint_effects tag k w)) (drop_marker tag.marker) (checks (remove_effects-after tag k w)) (marker-quiet tag.marker))))
    (λ v. goes (drop_uses-after ts v))
  where
    dropped : Outcome Work
    dropped = check_finite (remove_constraint_effects tag k w) >>= drop_marker tag.marker

-- ---- Suggest
pub suggest-told : (b : ℕ) (e : Edit) (x : Float) (w : Work) → w.pivots ≡ 0 → Told b (suggest_passes b e x w) (suggest_steps b e x w)
unfolding suggest_passes suggest_steps check_finite refuse ◌>>=◌ outcome_of outcome_by pivots_at refusal_of mark_of
suggest-told b e x w z = go v.mark
  where
    v : Work
    v = shift_constants e.tag (x -₆₄ e.suggestion) (marking (whole_if (whole_within constant_bound x)) w)

    a : After w v
    a = after-trans (marking-after (whole_if (whole_within constant_bound x)) w) (shift-after e.tag (x -₆₄ e.suggestion) (marking (whole_if (whole_within constant_bound x)) w))

    begun : PassStart
    begun = record { rule = dual; left = b; work = v }

    passes : Told b (begun ∷ []) (dual_optimise b v)
    passes = passed b [] v (none_yet b w (going v) z (goes a)) begun (omega (arith, a.pivots, z)) (after-refl v)

    go : (m : Mark) → Told b (elim (checked m v) [ refused n p m ↦ [] | going u ↦ record { rule = dual; left = b; work = u } ∷ [] ]) (checked m v >>= dual_optimise b)
    go all_whole = passes
    go not_whole = passes
    go not_finite = none_yet b w (refused 13 v.pivots v.mark) z (record { pivots = a.pivots; other = λ q. omega (arith, q); mark = a.mark })
