-- The uses of a removed constraint's variables fall, one by one: the code's calls are the steps' drop_uses, where there is room for the gone entries that they make.
-- Assumes nothing.
use Rattle.std.specs.Prelude.{ℕ, suc, ◌+◌, ◌-◌, ◌≤◌, ◌<◌, ◌≡◌, Bool, length, get_or, Option, None}
use Rattle.std.proofs.Math.Path.{refl, sym, ap}
use Rattle.std.proofs.Common.{◌∙◌, subst, arith}
use Rattle.std.proofs.Math.Bool.{false}
use mathlib.Core.List.{List, [], ◌∷◌, map}
use Rattle.std.specs.Float.{nan}
use Rattle.laws.specs.Lists.{tab, list_of, map-tab}
use Rattle.steps.specs.Number.{Mark}
use Rattle.steps.specs.Symbol.{Symbol}
use Rattle.steps.specs.State.{Term, Changes}
use Rattle.steps.specs.Work.{Work, with_changes, purge}
use Rattle.steps.specs.CreateRow.{with_variables}
use Rattle.steps.specs.Remove.{use_less, drop_use, drop_uses}
use Rattle.sparse.specs.Places.{most_gone}
use Rattle.sparse.specs.Sparse.{Sparse, symbol_count, symbol_at, gone_of, read}
use Rattle.waist.specs.Working.{sparse, work_of}
use Rattle.waist.specs.Standing.{Standing, Makes, Unowned}
use Rattle.variables.specs.declared.less.Gone.{Gone}
use Rattle.variables.specs.Alone.{with_gone}
use Rattle.variables.specs.Told.{gone_in, told_of, told_words}
use Rattle.variables.specs.TellReads.{gone-in, tell-makes, tell-place}
use Rattle.variables.specs.Less.{Loss, went, leaving}
use Rattle.variables.specs.Falls.{lost_in, Falls}
use Rattle.removal.specs.Reading.{makes-to, makes-then}
use Rattle.removal.specs.Tag.{Stands}
use Rattle.removal.specs.Room.{Room, room_by, room-first, room_next, room-told}

-- a use of the variable n: what falls looks at no coefficient
unfoldable pub use_of : ℕ → Term
use_of n = record { variable = n; coefficient = nan }

-- the uses of the first `count` numbers, from the j-th on
abbrev pub uses_from : List ℕ → ℕ → ℕ → List Term
uses_from numbers count j = tab (λ i. use_of (get_or numbers i 0)) j (count - j)

-- these numbers are the terms' variables
abbrev pub UsedBy : List ℕ → ℕ → List Term → Type 0
UsedBy numbers count terms = map (λ (t : Term). t.variable) terms ≡ list_of count (λ j. get_or numbers j 0)

-- ---- one use

module _ (n : ℕ) (a : Mark) (t : Sparse) (l : Loss) (f : Falls n t l) (s : Standing false a t) where
  abbrev u : Sparse
  u = lost_in l t

  abbrev fell : Work → Work
  fell w = with_variables (use_less n w.changes.variables).variables w

  drop-by : (v : ℕ) {g : Option Gone} → l.gone ≡ g → drop_use (use_of n) (work_of false a v t) ≡ leaving n t g (fell (work_of false a v t))
  unfolding drop_use use_of work_of
  drop-by v e = f.leaves (fell (work_of false a v t)) ∙ ap (λ (x : Option Gone). leaving n t x (fell (work_of false a v t))) e

  pub use-stays : l.gone ≡ None → Makes false false a a (drop_use (use_of n)) t u
  unfolding leaving
  use-stays e = makes-to (λ v. sym (drop-by v e)) (f.makes a s)

  -- "a variable at zero goes with its row and cells": its number told, and its symbol purged
  module _ (p : ℕ) (x : Bool) (e : l.gone ≡ went p x) (room : Room (use_of n ∷ []) (read t).changes) where
    pub told-room : length (told_of x n (gone_in l.words)) ≤ most_gone
    unfolding use_of
    told-room =
        let q : gone_in l.words ≡ (read t).changes.gone = gone-in u ∙ f.waits ∙ gone-read in
        let r = room-told (use_of n) [] t room s.owners in
        rw q (rw (f.told p x e (read t).changes.gone) at r)
      where
        gone-read : gone_of t ≡ (read t).changes.gone
        gone-read = unfold read in refl

    module _ {ws : List ℕ} (q : ws ≡ told_words x n l.words) where
      abbrev u₁ : Sparse
      u₁ = sparse ws t.keys l.bytes l.reals t.values

      fallen : Standing false a u
      fallen = (f.makes a s).stands

      told-makes : Makes false false a a (λ w. with_changes (with_gone (told_of x n) w.changes) w) u u₁
      told-makes = rw q (tell-makes x n u false fallen.sound fallen.owners told-room a fallen)

      pub told-stands : Standing false a u₁
      told-stands = told-makes.stands

      there : (p ≤ symbol_count u₁) × (symbol_at u₁ p ≡ symbol_at u p) × Unowned p u₁
      there = let l = f.place p x e in rw q (tell-place x n u false fallen.sound fallen.owners told-room p l.0 l.1 l.3)

      pub told-lives : (1 ≤ p) × (p ≤ symbol_count u₁) × Unowned p u₁
      told-lives = ((f.place p x e).0, there.0, there.2)

      pub use-goes : (v : Sparse) → Makes false false a a (purge (symbol_at u₁ p).id) u₁ v → Makes false false a a (drop_use (use_of n)) t v
      unfolding leaving
      use-goes v m =
          makes-to (λ k. ap (λ (y : Symbol). purge y.id (with_changes (with_gone (told_of x n) (fell (work_of false a k t)).changes) (fell (work_of false a k t)))) (there.1 ∙ (f.place p x e).2) ∙ sym (drop-by k e))
          (makes-then (f.makes a s) (makes-then told-makes m))

-- ---- all uses

-- after j of them, from the tables t to the tables u
pub record UsesFell (numbers : List ℕ) (count j : ℕ) (t u : Sparse) : Type 0 where
  pub room : Room (uses_from numbers count j) (read u).changes
  pub left : (a : Mark) → Standing false a t → (v : ℕ) → drop_uses (uses_from numbers count j) (work_of false a v u) ≡ drop_uses (uses_from numbers count 0) (work_of false a v t)
  pub stands : (a : Mark) → Standing false a t → Standing false a u

uses-head : (numbers : List ℕ) (count j : ℕ) → j < count → uses_from numbers count j ≡ use_of (get_or numbers j 0) ∷ uses_from numbers count (j + 1)
unfolding tab
uses-head numbers count j h =
    let q : count - j ≡ suc (count - (j + 1)) = omega (arith, h) in
    let z : suc j ≡ j + 1 = omega arith in
    rw q (rw z refl)

uses-turn : (numbers : List ℕ) (count j : ℕ) → j < count → (w : Work) → drop_uses (uses_from numbers count j) w ≡ drop_uses (uses_from numbers count (j + 1)) (drop_use (use_of (get_or numbers j 0)) w)
unfolding drop_uses
uses-turn numbers count j h w = ap (λ (ts : List Term). drop_uses ts w) (uses-head numbers count j h)

module _ (numbers : List ℕ) (count : ℕ) (t : Sparse) where
  pub uses-start : Room (uses_from numbers count 0) (read t).changes → UsesFell numbers count 0 t t
  uses-start r = record { room = r; left = λ a s v. refl; stands = λ a s. s }

  module _ (j n : ℕ) (u : Sparse) (h : j < count) (e : n ≡ get_or numbers j 0) (f : UsesFell numbers count j t u) where
    turn-room : Room (use_of n ∷ uses_from numbers count (j + 1)) (read u).changes
    turn-room = subst (λ (ts : List Term). Room ts (read u).changes) (uses-head numbers count j h ∙ ap (λ (x : ℕ). use_of x ∷ uses_from numbers count (j + 1)) (sym e)) f.room

    pub use-room : Room (use_of n ∷ []) (read u).changes
    use-room = room-first (use_of n) (uses_from numbers count (j + 1)) u turn-room

    pub uses-next : (v : Sparse) → Stands u → ((a : Mark) → Standing false a u → Makes false false a a (drop_use (use_of n)) u v) → UsesFell numbers count (j + 1) t v
    uses-next v st m =
        record {
          room = room_next (use_of n) (uses_from numbers count (j + 1)) u turn-room st.0 v st.1.owners (m st.0 st.1);
          left = λ a s k. ap (drop_uses (uses_from numbers count (j + 1))) ((made a s).reads k) ∙ sym (uses-turn numbers count j h (work_of false a k u)) ∙ f.left a s k;
          stands = λ a s. (made a s).stands;
        }
      where
        made : (a : Mark) → Standing false a t → Makes false false a a (drop_use (use_of (get_or numbers j 0))) u v
        made a s = rw (← e) (m a (f.stands a s))

  pub uses-last : (j : ℕ) (u : Sparse) → count ≤ j → UsesFell numbers count j t u → (a : Mark) → Standing false a t → Makes false false a a (drop_uses (uses_from numbers count 0)) t u
  unfolding drop_uses tab
  uses-last j u h f a s = let q : count - j ≡ 0 = omega (arith, h) in record { reads = λ v. rw q at (f.left a s v); stands = f.stands a s }

-- ---- the steps look at the terms' variables alone

uses-by : (xs ys : List Term) → map (λ (t : Term). t.variable) xs ≡ map (λ (t : Term). t.variable) ys → (w : Work) → drop_uses xs w ≡ drop_uses ys w
unfolding drop_uses
uses-by [] [] e w = refl
uses-by [] (y ∷ ys) e w = absurd (let c : ◌≡◌ {A = ℕ} 0 1 = cc in omega arith)
uses-by (x ∷ xs) [] e w = absurd (let c : ◌≡◌ {A = ℕ} 0 1 = cc in omega arith)
uses-by (x ∷ xs) (y ∷ ys) e w = uses-by xs ys (tails e) (drop_use x w) ∙ ap (drop_uses ys) (unfold drop_use in (rw (heads e) refl))
  where
    heads : {m n : ℕ} {k l : List ℕ} → m ∷ k ≡ n ∷ l → m ≡ n
    heads q = cc

    tails : {m n : ℕ} {k l : List ℕ} → m ∷ k ≡ n ∷ l → k ≡ l
    tails q = cc

-- and so does the room for the entries
pub room_of : (numbers : List ℕ) (count : ℕ) (terms : List Term) (c : Changes) → UsedBy numbers count terms → Room terms c → Room (uses_from numbers count 0) c
unfolding list_of use_of
room_of numbers count terms c e r =
    let q : count - 0 ≡ count = omega arith in
    room_by terms (uses_from numbers count 0) (e ∙ rw q (sym (map-tab (λ (t : Term). t.variable) (λ i. use_of (get_or numbers i 0)) 0 count))) c r

pub uses-of : (numbers : List ℕ) (count : ℕ) (terms : List Term) → UsedBy numbers count terms → (w : Work) → drop_uses (uses_from numbers count 0) w ≡ drop_uses terms w
unfolding list_of use_of
uses-of numbers count terms e w =
    let q : count - 0 ≡ count = omega arith in
    uses-by (uses_from numbers count 0) terms (rw q (map-tab (λ (t : Term). t.variable) (λ i. use_of (get_or numbers i 0)) 0 count) ∙ sym e) w
