-- Shares that are taken one by one: none is left in the end exactly if each place had as many as it was asked for.
-- Assumes nothing.
use Rattle.std.specs.Prelude.{◌≡◌, ℕ, zero, suc, ◌+◌, ◌-◌, ◌<◌, ◌≤◌, Bool, true, false, cond, ltb, List, [], ◌∷◌, ◌++◌, length, ◌==◌, ◌≢◌, nat_lt, slice_index, slice_index_or, slice_set}
use Rattle.std.proofs.Math.Path.{refl, sym, ap, subst}
use Rattle.std.proofs.Common.{◌∙◌, zero-add, arith, length-set, get_or-set_same, get_or-set_other}
use Rattle.std.proofs.Math.Nat.{sub-zero}
use borrow.Author.Tests.{eqb-true, eqb-false, eq-eqb, ne_eqb, ltb-true, ltb-false, lt-ltb}
use Rattle.steps.specs.Readable as steps
use Rattle.laws.specs.Loops.{run, turns}
use Rattle.laws.specs.Lists.{tab, list_of}
use Rattle.layout.specs.Rooms.{and_left, and_right}
use Rattle.rows.specs.places.Finding.{place_in, Apart, place-le, place_is, place_at, never}
use Rattle.rows.specs.places.Listed.{join}
use Rattle.rows.specs.places.Shares.{Shares, shares, take}

-- how often x stands in a list
unfoldable pub count_of : ℕ → List ℕ → ℕ
count_of x [] = 0
count_of x (y ∷ ys) = cond (x == y) 1 0 + count_of x ys

count_none : (x : ℕ) → count_of x [] ≡ 0
unfolding count_of
count_none x = refl

-- a share for each x of a list, at its place
unfoldable pub take_each : (ℕ → ℕ) → List ℕ → Shares → Shares
take_each place [] s = s
take_each place (x ∷ xs) s = take_each place xs (take (place x) s)

module _ (place : ℕ → ℕ) where
  pub each_append : (l m : List ℕ) (s : Shares) → take_each place (l ++ m) s ≡ take_each place m (take_each place l s)
  unfolding take_each
  each_append [] m s = refl
  each_append (x ∷ l) m s = each_append l m (take (place x) s)

  turns-each : (g : ℕ → ℕ) (n i : ℕ) (s : Shares) → turns (λ j z. take (place (g j)) z) n i s ≡ take_each place (tab g i n) s
  unfolding turns take_each tab
  turns-each g zero i s = refl
  turns-each g (suc n) i s = turns-each g n (suc i) (take (place (g i)) s)

  -- a loop that takes one for each element
  pub run-each : (g : ℕ → ℕ) (n : ℕ) (s : Shares) → run (λ j z. take (place (g j)) z) 0 n s ≡ take_each place (list_of n g) s
  unfolding run list_of
  run-each g n s = rw (sub-zero n) (turns-each g n 0 s)

  turns-lists : (step : ℕ → Shares → Shares) (f : ℕ → List ℕ) (n i : ℕ) (s : Shares) → ((j : ℕ) → i ≤ j → j < i + n → (z : Shares) → step j z ≡ take_each place (f j) z) → turns step n i s ≡ take_each place (steps.concat (tab f i n)) s
  unfolding turns take_each tab steps.concat
  turns-lists step f zero i s q = refl
  turns-lists step f (suc n) i s q =
      turns-lists step f n (suc i) (step i s) (λ j a b z. q j (omega arith) (omega arith) z)
      ∙ (rw (q i (omega arith) (omega arith) s) refl)
      ∙ sym (each_append (f i) (steps.concat (tab f (suc i) n)) s)

  -- a loop that takes several at each turn
  pub run-lists : (step : ℕ → Shares → Shares) (f : ℕ → List ℕ) (n : ℕ) (s : Shares) → ((j : ℕ) → j < n → (z : Shares) → step j z ≡ take_each place (f j) z) → run step 0 n s ≡ take_each place (steps.concat (list_of n f)) s
  unfolding run list_of
  run-lists step f n s q = rw (sub-zero n) (turns-lists step f n 0 s λ j a b z. q j (omega arith) z)

  ok-before : (l : List ℕ) (s : Shares) → (take_each place l s).ok ≡ true → s.ok ≡ true
  unfolding take_each take
  ok-before [] s h = h
  ok-before (x ∷ l) s h = and_left s.ok _ (ok-before l (take (place x) s) h)

abbrev less : List ℕ → ℕ → List ℕ
less left p = slice_set left p (slice_index left p - 1)

take-one : (left : List ℕ) (p : ℕ) → 0 < slice_index left p → take p (shares left true) ≡ shares (less left p) true
unfolding take
take-one left p h = rw (lt-ltb 0 (slice_index left p) h) refl

took_one : (left : List ℕ) (p : ℕ) → (take p (shares left true)).ok ≡ true → 0 < slice_index left p
unfolding take
took_one left p h = ltb-true 0 (slice_index left p) h

-- ---- none is left, and each was there

module _ (g : ℕ → ℕ) (n : ℕ) (apart : Apart g n) where
  abbrev at : ℕ → ℕ
  at x = place_in g n x

  abbrev pub Done : List ℕ → Shares → Type 0
  Done l s = ((take_each (place_in g n) l s).ok ≡ true) × ((j : ℕ) → j < n → slice_index (take_each (place_in g n) l s).left j ≡ 0)

  -- each place has as many shares as its element is asked for
  abbrev pub Enough : List ℕ → List ℕ → Type 0
  Enough l left = (j : ℕ) → j < n → slice_index left j ≡ count_of (g j) l

  -- one more x is asked for: its own place counts one more, the others do not
  count-here : (x : ℕ) (xs : List ℕ) → at x < n → count_of (g (at x)) (x ∷ xs) ≡ suc (count_of (g (at x)) xs)
  unfolding count_of
  count-here x xs h = rw (eq-eqb (g (at x)) x (place_is g n x h)) (omega arith)

  count-there : (x : ℕ) (xs : List ℕ) (j : ℕ) → j < n → (j ≢ at x) → count_of (g j) (x ∷ xs) ≡ count_of (g j) xs
  unfolding count_of
  count-there x xs j k q = rw (ne_eqb (g j) x (λ e. q (sym (place_at g n j apart k) ∙ ap at e))) (zero-add _)

  enough-more : (x : ℕ) (xs left : List ℕ) → at x < n → n < length left → 0 < slice_index left (at x) → Enough xs (less left (at x)) → Enough (x ∷ xs) left
  enough-more x xs left live w more r j k = go (j == at x) refl
    where
      go : (b : Bool) → (j == at x) ≡ b → slice_index left j ≡ count_of (g j) (x ∷ xs)
      go true q =
          let e : j ≡ at x = eqb-true j (at x) q in
          let a : slice_index_or (less left (at x)) (at x) 0 ≡ slice_index left (at x) - 1 = get_or-set_same left (at x) (slice_index left (at x) - 1) 0 (omega arith) in
          let b = r (at x) live in
          rw e (rw (count-here x xs live) (omega arith))
      go false q =
          let d : j ≡ at x → ⊥ = eqb-false j (at x) q in
          sym (get_or-set_other left (at x) j (slice_index left (at x) - 1) 0 d) ∙ r j k ∙ sym (count-there x xs j k d)

  enough-less : (x : ℕ) (xs left : List ℕ) → at x < n → n < length left → Enough (x ∷ xs) left → (0 < slice_index left (at x)) × Enough xs (less left (at x))
  enough-less x xs left live w r =
      let here : slice_index_or left (at x) 0 ≡ suc (count_of (g (at x)) xs) = r (at x) live ∙ count-here x xs live in
      (omega arith, λ j k. go here j k (j == at x) refl)
    where
      go : slice_index_or left (at x) 0 ≡ suc (count_of (g (at x)) xs) → (j : ℕ) → j < n → (b : Bool) → (j == at x) ≡ b → slice_index (less left (at x)) j ≡ count_of (g j) xs
      go here j k true q =
          let e : j ≡ at x = eqb-true j (at x) q in
          let a : slice_index_or (less left (at x)) (at x) 0 ≡ slice_index left (at x) - 1 = get_or-set_same left (at x) (slice_index left (at x) - 1) 0 (omega arith) in
          rw e (omega arith)
      go here j k false q =
          let d : j ≡ at x → ⊥ = eqb-false j (at x) q in
          get_or-set_other left (at x) j (slice_index left (at x) - 1) 0 d ∙ r j k ∙ count-there x xs j k d

  -- a place past the elements has no share, so a share was taken at one of them
  live-place : (left : List ℕ) (x : ℕ) → slice_index left n ≡ 0 → 0 < slice_index left (at x) → at x < n
  live-place left x z h = go (nat_lt (at x) n) refl
    where
      go : (b : Bool) → nat_lt (at x) n ≡ b → at x < n
      go true q = ltb-true (at x) n q
      go false q =
          let m = place-le g n x in
          let e : at x ≡ n = (let l = ltb-false (at x) n q in omega arith) in
          let y : slice_index_or left (at x) 0 ≡ 0 = rw e z in
          never 0 (omega arith)

  stays-zero : (left : List ℕ) (x : ℕ) → at x < n → slice_index left n ≡ 0 → slice_index (less left (at x)) n ≡ 0
  stays-zero left x live z = get_or-set_other left (at x) n (slice_index left (at x) - 1) 0 (λ q. never n (omega arith)) ∙ z

  pub spent-enough : (l left : List ℕ) → n < length left → slice_index left n ≡ 0 → Done l (shares left true) → Enough l left × (steps.all (λ x. ltb (place_in g n x) n) l ≡ true)
  unfolding take_each steps.all
  spent-enough [] left w z d = (λ j k. d.1 j k ∙ sym (count_none (g j)), refl)
  spent-enough (x ∷ xs) left w z d =
      let more : 0 < slice_index_or left (at x) 0 = took_one left (at x) (ok-before (place_in g n) xs (take (at x) (shares left true)) d.0) in
      let live : at x < n = live-place left x z more in
      let long : n < length (less left (at x)) = rw (length-set left (at x) (slice_index left (at x) - 1)) w in
      let r = spent-enough xs (less left (at x)) long (stays-zero left x live z) (subst (λ (s : Shares). Done xs s) (take-one left (at x) more) d) in
      (enough-more x xs left live w more r.0, join (lt-ltb (at x) n live) r.1)

  pub enough-spent : (l left : List ℕ) → n < length left → slice_index left n ≡ 0 → Enough l left → steps.all (λ x. ltb (place_in g n x) n) l ≡ true → Done l (shares left true)
  unfolding take_each steps.all
  enough-spent [] left w z r q = (refl, λ j k. r j k ∙ count_none (g j))
  enough-spent (x ∷ xs) left w z r q =
      let live : at x < n = ltb-true (at x) n (and_left (nat_lt (at x) n) _ q) in
      let long : n < length (less left (at x)) = rw (length-set left (at x) (slice_index left (at x) - 1)) w in
      let s = enough-less x xs left live w r in
      subst (λ (s : Shares). Done xs s) (sym (take-one left (at x) s.0)) (enough-spent xs (less left (at x)) long (stays-zero left x live z) s.1 (and_right (nat_lt (at x) n) _ q))
