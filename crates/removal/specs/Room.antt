-- Room for the gone entries that the fall of a removed constraint's uses makes: what the test before the steps gives, and what each use that falls leaves.
-- Assumes nothing.
use Rattle.std.specs.Prelude.{ℕ, zero, suc, ◌+◌, ◌≤◌, ◌<◌, ◌≡◌, refl, Bool, true, false, not, cond, ◌&&◌, List, [], ◌∷◌, map, eqb, leb, ltb, length, get_or}
use Rattle.std.proofs.Common.{sym, ap, ap₂, ◌∙◌, subst, arith}
use Rattle.std.proofs.Math.Option.{Option, none, some}
use Rattle.laws.specs.Lists.{tab, map-tab}
use Rattle.steps.specs.Number.{Mark}
use Rattle.steps.specs.State.{Term, Variable, Changes, State}
use Rattle.steps.specs.Work.{Work, with_tableau, with_changes, purge}
use Rattle.steps.specs.Changes.{keep_number, never_reported, tell_gone, member}
use Rattle.steps.specs.CreateRow.{with_variables}
use Rattle.steps.specs.Remove.{use_less, lose, drop_use, drop_uses}
use Rattle.steps.specs.Tests.{uses_in, goes_with, makes_entry, entries_made, gone_full}
use Rattle.steps.specs.Calls.{begin}
use Rattle.keeps.specs.Lists.{Up}
use Rattle.keeps.specs.Frame.{Frame}
use Rattle.keeps.specs.Uses.{var_number}
use Rattle.keeps.specs.Waits.{keep-number-up, gone_after, entries-fall, entries_by, entries-more, not_full}
use Rattle.keeps.specs.Fallen.{drop_uses-entries, entries-frame}
use Rattle.keeps.specs.Reads.{Reads}
use Rattle.sparse.specs.Places.{most_gone, variable_numbers_at}
use Rattle.sparse.specs.Sparse.{Sparse, variable_count, variable_of, read}
use Rattle.waist.specs.Working.{work_of}
use Rattle.waist.specs.Standing.{Owners, Makes}
use Rattle.variables.specs.Found.{variables-are}
use Rattle.removal.specs.Alike.{Alike}

-- the gone numbers ascend, and the fall of these terms' uses makes no more entries than wait at most
pub record Room (terms : List Term) (c : Changes) : Type 0 where
  pub up : Up 0 c.gone
  pub few : entries_by terms c ≤ most_gone

pub work-changes : (art : Bool) (a : Mark) (v : ℕ) (t : Sparse) → (work_of art a v t).changes ≡ (read t).changes
unfolding work_of
work-changes art a v t = refl

-- "25 a removal would make a 33rd gone entry": not so where the test passed
pub room-begins : (terms : List Term) (s : State) (a : Mark) (w : Sparse) → work_of false a 0 w ≡ begin s → Reads s → gone_full terms s ≡ false → Room terms (read w).changes
unfolding begin
room-begins terms s a w e r g = subst (Room terms) (sym (sym (work-changes false a 0 w) ∙ ap (λ (v : Work). v.changes) e)) (record { up = r.waits.up; few = not_full terms s g })

-- changes that differ in flags alone have the same room
pub room-alike : (terms : List Term) (w v : Work) → Alike w v → Room terms w.changes → Room terms v.changes
unfolding with_changes
room-alike terms w v h r = record { up = rw h.gone r.up; few = let e = entries-frame framed terms in omega (arith, e, r.few) }
  where
    framed : Frame w (with_changes v.changes w)
    framed = record { symbols = refl; next = refl; variables = h.variables; plain = λ e. e; cutoff = refl; gone = h.gone }

-- ---- the entries look at the terms' variables alone

uses-same : (m : ℕ) (xs ys : List Term) → map (λ (t : Term). t.variable) xs ≡ map (λ (t : Term). t.variable) ys → uses_in m xs ≡ uses_in m ys
unfolding uses_in
uses-same m [] [] e = refl
uses-same m [] (y ∷ ys) e = absurd (let c : ◌≡◌ {A = ℕ} 0 1 = cc in omega arith)
uses-same m (x ∷ xs) [] e = absurd (let c : ◌≡◌ {A = ℕ} 0 1 = cc in omega arith)
uses-same m (x ∷ xs) (y ∷ ys) e = ap₂ (λ (k l : ℕ). cond (eqb m k) 1 0 + l) (heads e) (uses-same m xs ys (tails e))
  where
    heads : {m n : ℕ} {k l : List ℕ} → m ∷ k ≡ n ∷ l → m ≡ n
    heads q = cc

    tails : {m n : ℕ} {k l : List ℕ} → m ∷ k ≡ n ∷ l → k ≡ l
    tails q = cc

entries-same : (gone : List ℕ) (xs ys : List Term) → map (λ (t : Term). t.variable) xs ≡ map (λ (t : Term). t.variable) ys → (vs : List Variable) → entries_made gone xs vs ≡ entries_made gone ys vs
unfolding entries_made makes_entry goes_with
entries-same gone xs ys e [] = refl
entries-same gone xs ys e (v ∷ vs) =
    ap₂ (λ (k l : ℕ). cond (ltb 0 v.uses && leb v.uses k && not (never_reported v) && not (member v.number gone)) 1 0 + l) (uses-same v.number xs ys e) (entries-same gone xs ys e vs)

pub room_by : (xs ys : List Term) → map (λ (t : Term). t.variable) xs ≡ map (λ (t : Term). t.variable) ys → (c : Changes) → Room xs c → Room ys c
room_by xs ys e c r = record { up = r.up; few = let q = entries-same c.gone xs ys e c.variables in omega (arith, q, r.few) }

-- ---- one use falls

up-tab : (g : ℕ → ℕ) (m i lo : ℕ) → (0 < m → lo ≤ g i) → ((j : ℕ) → suc j < i + m → g j < g (suc j)) → Up lo (tab g i m)
unfolding tab
up-tab g zero i lo l f = tt
up-tab g (suc m) i lo l f = (l (omega arith), up-tab g m (suc i) (suc (g i)) (λ h. f i (omega (arith, h))) (λ j h. f j (omega (arith, h))))

-- the variables stand by ascending number
owners-up : (t : Sparse) → Owners t → Up 0 (map var_number (read t).changes.variables)
unfolding variable_of
owners-up t o =
    rw (variables-are t, map-tab var_number (variable_of t) 0 (variable_count t))
    (up-tab (λ j. get_or t.words (variable_numbers_at + j) 0) (variable_count t) 0 0 (λ h. omega arith) (λ j h. o.up j (suc j) (omega arith) (omega (arith, h))))

module _ (t : Term) (w : Work) where
  drop-gone : (drop_use t w).changes.gone ≡ gone_after (use_less t.variable w.changes.variables).gone w.changes.gone
  unfolding drop_use lose tell_gone with_variables with_changes purge with_tableau
  drop-gone = go (use_less t.variable w.changes.variables).gone
    where
      left : Work
      left = with_variables (use_less t.variable w.changes.variables).variables w

      go : (o : Option Variable) → (elim o as (λ _. Work) [ none ↦ left | some v ↦ lose v left ]).changes.gone ≡ gone_after o w.changes.gone
      go none = refl
      go (some v) = refl

  after-up : (o : Option Variable) (gone : List ℕ) → Up 0 gone → Up 0 (gone_after o gone)
  after-up none gone u = u
  after-up (some v) gone u = go (never_reported v)
    where
      go : (b : Bool) → Up 0 (cond b gone (keep_number v.number gone))
      go true = u
      go false = keep-number-up 0 v.number gone (omega arith) u

  -- the rest have room after it
  drop-room : (ts : List Term) → Up 0 (map var_number w.changes.variables) → Room (t ∷ ts) w.changes → Room ts (drop_use t w).changes
  unfolding drop_uses
  drop-room ts u r =
      let e = drop_uses-entries (t ∷ []) ts w r.up u in
      record { up = rw drop-gone (after-up (use_less t.variable w.changes.variables).gone w.changes.gone r.up); few = omega (arith, e, r.few) }

module _ (t : Term) (ts : List Term) (u : Sparse) (r : Room (t ∷ ts) (read u).changes) where
  -- for the first use alone
  pub room-first : Room (t ∷ []) (read u).changes
  room-first = record { up = r.up; few = let e = entries-more (t ∷ []) ts (read u).changes in omega (arith, e, r.few) }

  pub room_next : (a : Mark) (v : Sparse) → Owners u → Makes false false a a (drop_use t) u v → Room ts (read v).changes
  room_next a v o m =
      let c : (read u).changes ≡ (work_of false a 0 u).changes = sym (work-changes false a 0 u) in
      let d : (drop_use t (work_of false a 0 u)).changes ≡ (read v).changes = ap (λ (w : Work). w.changes) (sym (m.reads 0)) ∙ work-changes false a 0 v in
      subst (Room ts) d (drop-room t (work_of false a 0 u) ts (subst (λ (x : Changes). Up 0 (map var_number x.variables)) c (owners-up u o)) (subst (Room (t ∷ ts)) c r))

  -- the numbers that wait then fit
  pub room-told : Owners u → length (gone_after (use_less t.variable (read u).changes.variables).gone (read u).changes.gone) ≤ most_gone
  room-told o = let e = entries-fall 0 (read u).changes.gone t ts (read u).changes.variables r.up (owners-up u o) in omega (arith, e, r.few)
