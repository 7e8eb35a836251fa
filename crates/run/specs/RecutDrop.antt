-- A group dropped with another cutoff: the same, if the answer says yes. Assumes nothing.
use Rattle.std.specs.Prelude.{◌≡◌, refl, ℕ, zero, suc, ◌+◌, ◌-◌, T, eqb, Float}
use Rattle.std.proofs.Common.{sym, ap, ◌∙◌, subst}
use mathlib.Core.List.{List, [], ◌∷◌}
use Rattle.std.proofs.Math.Option.{Option, none, some}
use Rattle.std.proofs.Math.Bool.{Bool, true, false}
use Rattle.simplex.specs.Choose.{All}
use Rattle.laws.specs.exact.Unbroken.{Unbroken}
use Rattle.steps.specs.Number.{cutoff_fits, Mark, says_whole}
use Rattle.steps.specs.State.{Constraint, State}
use Rattle.steps.specs.Work.{Work, Outcome}
use Rattle.steps.specs.Remove.{remove_steps}
use Rattle.steps.specs.Tests.{member, first_refusal, drop_tests, group_of, drop_constraint, gone_full}
use Rattle.steps.specs.Calls.{Result, begin, finish, refused_by, accepted_as, conclude, remove_stored, onward, remove_all, all_or_none, drop_group}
use Rattle.steps.proofs.After.{says-whole}
use Rattle.steps.proofs.Ends.{Within, Ends, stops, goes}
use Rattle.steps.proofs.Answered.{limits, starts}
use Rattle.steps.proofs.Steps.{remove_steps-ends}
use Rattle.run.specs.Drop.{onward-refused, onward-whole, onward-state, none-whole}
use Rattle.run.specs.RecutCalls.{recut_s, Sound, Twin, stored-twin}

-- ---- how one removal ends

-- refused, or accepted with the mark that it stores; it says yes only if the stored mark does
pub data Ending (s : State) : Result → Type 0 where
  refuses : {r : Result} (k : ℕ) → r.answer.number ≡ suc k → (r.answer.whole ≡ true → s.whole ≡ true) → Ending s r
  accepts : {r : Result} → r.answer.number ≡ 0 → r.answer.whole ≡ r.state.whole → (r.answer.whole ≡ true → s.whole ≡ true) → Ending s r

pub stored-ending : (n : ℕ) (c : Constraint) (b : ℕ) (s : State) → Ending s (remove_stored n c b s)
unfolding remove_stored conclude refused_by accepted_as finish member
stored-ending n c b s = go (remove_steps b c.tag c.strength c.terms (begin s)) (remove_steps-ends {lim = limits b s} tt tt tt tt c.tag c.strength c.terms (begin s) (starts b s))
  where
    next : Work → State
    next w = finish w (drop_constraint n s.constraints) s.edits

    above : (k p : ℕ) (m : Mark) → T (member k (13 ∷ 14 ∷ 15 ∷ 17 ∷ [])) → (says_whole m ≡ true → s.whole ≡ true) → Ending s (refused_by k p (says_whole m) s)
    above zero p m t h = absurd t
    above (suc k) p m t h = refuses k refl h

    go : (o : Outcome Work) → Ends (limits b s) (Within (limits b s)) o → Ending s (conclude s o next)
    go o (stops {n = k} {p = p} {m = m} h) = above k p m h.listed (λ w. h.mark (says-whole m w))
    go o (goes {a = v} h) = accepts refl refl (λ w. h.mark (says-whole v.mark w))

pub remove_all-yes : (ds : List Constraint) (b : ℕ) (s : State) → (remove_all ds b s).answer.whole ≡ true → s.whole ≡ true
unfolding remove_all
remove_all-yes [] b s w = w
remove_all-yes (d ∷ ds) b s w = go (stored-ending d.number d b s) (remove_all-yes ds (b - one.answer.pivots) one.state)
  where
    one : Result
    one = remove_stored d.number d b s

    rest : Result
    rest = remove_all ds (b - one.answer.pivots) one.state

    go : Ending s one → (rest.answer.whole ≡ true → one.state.whole ≡ true) → s.whole ≡ true
    go (refuses k e h) on = h (sym (ap (λ (r : Result). r.answer.whole) (onward-refused one rest k e)) ∙ w)
    go (accepts e q h) on = h (q ∙ on (sym (onward-whole one rest e) ∙ w))

-- ---- with another cutoff

abbrev recut_r : Float → Result → Result
recut_r z r = record { answer = r.answer; state = recut_s z r.state }

module _ (z : Float) (fz : cutoff_fits z ≡ true) where
  onward-recut : (r q : Result) → onward (recut_r z r) (recut_r z q) ≡ recut_r z (onward r q)
  unfolding onward
  onward-recut r q = go (eqb r.answer.number 0)
    where
      at : Bool → Result → Result → Result
      at b r q = elim b as (λ _. Result) [ false ↦ r | true ↦ record { answer = record { number = q.answer.number; pivots = r.answer.pivots + q.answer.pivots; whole = q.answer.whole }; state = q.state } ]

      go : (b : Bool) → at b (recut_r z r) (recut_r z q) ≡ recut_r z (at b r q)
      go true = refl
      go false = refl

  remove_all-twin : (ds : List Constraint) → All (λ (c : Constraint). Unbroken c.strength) ds → (b : ℕ) (s : State) → Sound s → (remove_all ds b s).answer.whole ≡ true → Twin z (remove_all ds b s) (remove_all ds b (recut_s z s))
  unfolding remove_all
  remove_all-twin [] u b s h w = (refl, h)
  remove_all-twin (d ∷ ds) u b s h w = go (stored-ending d.number d b s) (remove_all-twin ds u.1 (b - one.answer.pivots) one.state)
    where
      one : Result
      one = remove_stored d.number d b s

      other : Result
      other = remove_stored d.number d b (recut_s z s)

      rest : Result
      rest = remove_all ds (b - one.answer.pivots) one.state

      first : one.answer.whole ≡ true → Twin z one other
      first q = stored-twin z fz s h d.number d u.0 b q

      go : Ending s one → (Sound one.state → rest.answer.whole ≡ true → Twin z rest (remove_all ds (b - one.answer.pivots) (recut_s z one.state)))
          → Twin z (onward one rest) (onward other (remove_all ds (b - other.answer.pivots) other.state))
      go (refuses k e _) on =
          let o : onward one rest ≡ one = onward-refused one rest k e in
          let t : Twin z one other = first (sym (ap (λ (r : Result). r.answer.whole) o) ∙ w) in (
            onward-refused other (remove_all ds (b - other.answer.pivots) other.state) k (ap (λ (r : Result). r.answer.number) t.0 ∙ e) ∙ t.0 ∙ ap (recut_r z) (sym o),
            subst (λ (r : Result). Sound r.state) (sym o) t.1,
          )
      go (accepts e q _) on =
          let v : rest.answer.whole ≡ true = sym (onward-whole one rest e) ∙ w in
          let t : Twin z one other = first (q ∙ remove_all-yes ds (b - one.answer.pivots) one.state v) in
          let i = on t.1 v in (
            ap (λ (r : Result). onward r (remove_all ds (b - r.answer.pivots) r.state)) t.0 ∙ ap (onward (recut_r z one)) i.0 ∙ onward-recut one rest,
            subst (λ (s : State). Sound s) (sym (onward-state one rest e)) i.1,
          )

  group-u : (P : Constraint → Type 0) (g : ℕ) (cs : List Constraint) → All P cs → All P (group_of g cs)
  unfolding group_of
  group-u P g [] a = tt
  group-u P g (c ∷ cs) a = go (eqb g c.group) (group-u P g cs a.1)
    where
      go : (t : Bool) → All P (group_of g cs) → All P (elim t as (λ _. List Constraint) [ true ↦ c ∷ group_of g cs | false ↦ group_of g cs ])
      go true ih = (a.0, ih)
      go false ih = ih

  pub drop-twin : (s : State) → Sound s → (g b : ℕ) → (drop_group g b s).answer.whole ≡ true → Twin z (drop_group g b s) (drop_group g b (recut_s z s))
  unfolding drop_group drop_tests gone_full
  drop-twin s h g b = go (first_refusal (drop_tests g s))
    where
      all : State → Result
      all s = remove_all (group_of g s.constraints) b s

      at : Option ℕ → State → Result
      at o s = elim o as (λ _. Result) [ some x ↦ refused_by x 0 s.whole s | none ↦ all_or_none s (all s) ]

      ended : Twin z (all s) (all (recut_s z s)) → Twin z (all_or_none s (all s)) (all_or_none (recut_s z s) (all (recut_s z s)))
      ended t = subst (λ (q : Result). Twin z (all_or_none s (all s)) (all_or_none (recut_s z s) q)) (sym t.0) (unfold all_or_none refused_by in by (eqb (all s).answer.number 0))
        where
          by : (c : Bool) → Twin z (elim c as (λ _. Result) [ true ↦ all s | false ↦ refused_by (all s).answer.number (all s).answer.pivots (all s).answer.whole s ]) (elim c as (λ _. Result) [ true ↦ recut_r z (all s) | false ↦ refused_by (all s).answer.number (all s).answer.pivots (all s).answer.whole (recut_s z s) ])
          by true = (refl, t.1)
          by false = unfold refused_by in (refl, h)

      go : (o : Option ℕ) → (at o s).answer.whole ≡ true → Twin z (at o s) (at o (recut_s z s))
      go (some x) w = unfold refused_by in (refl, h)
      go none w = ended (remove_all-twin (group_of g s.constraints) (group-u (λ (c : Constraint). Unbroken c.strength) g s.constraints h.strengths) b s h (sym (none-whole s (all s)) ∙ w))
