-- What a fetch's list promises, on a state that reads: it ascends by number, each number once as gone and once with a value at most, and 64 entries hold it. Assumes nothing.
use Rattle.std.specs.Prelude.{◌≡◌, Bool, not, cond, T, leb}
use Rattle.std.proofs.Math.Path.{refl}
use Rattle.std.proofs.Common.{sym, ◌∙◌, leb→le}
use mathlib.Core.List.{List, [], ◌∷◌, map}
use Rattle.std.proofs.Math.Bool.{true, false}
use Prim.Native.Nat.{ℕ, suc, ◌+◌, ◌*◌, ◌≤◌}
use native.Mathlib.Omega.{arith}
use Rattle.std.proofs.Math.Dec.{nleb→lt}
use Rattle.std.proofs.Math.ListN.{length}
use Rattle.std.proofs.lemmas.List.{length-map}
use Rattle.steps.specs.State.{Basic, Variable, State}
use Rattle.steps.specs.Changes.{with_flag, clear_changed, value_of, Change, is_listed, news_of, gone_entry, merged, fetch_changes}
use Rattle.steps.specs.Readable.{ascend, readable}
use Rattle.keeps.specs.Lists.{All, Up, up_from, ascend-out}
use Rattle.keeps.specs.Uses.{var_number}
use Rattle.keeps.specs.Reads.{Reads}
use Rattle.keeps.specs.Tested.{reads_in}
use Rattle.keeps.specs.Good.{numbers-map}

abbrev pub entry_number : Change → ℕ
entry_number c = c.variable

-- an entry's place in the order: by number, and gone before a value of the same number
unfoldable pub place_of : Change → ℕ
place_of c = 2 * c.variable + cond c.gone 0 1

-- ---- the values

module _ (gone : List ℕ) (rows : List Basic) where
  listed : Bool → Variable → List Change → List Change
  listed t v cs = elim t [ true ↦ record { variable = v.number; new = value_of v rows; gone = false } ∷ cs | false ↦ cs ]

  pub news-up : (i : ℕ) (vs : List Variable) → Up i (map var_number vs) → Up i (map entry_number (news_of gone rows vs))
  unfolding news_of listed
  news-up i [] u = tt
  news-up i (v ∷ vs) u = go (is_listed gone rows v) (news-up (suc v.number) vs u.1)
    where
      go : (t : Bool) → Up (suc v.number) (map entry_number (news_of gone rows vs)) → Up i (map entry_number (listed t v (news_of gone rows vs)))
      go true ih = (u.0, ih)
      go false ih = up_from i (suc v.number) (map entry_number (news_of gone rows vs)) (omega (arith, u.0)) ih

  pub news-values : (vs : List Variable) → All (λ (c : Change). c.gone ≡ false) (news_of gone rows vs)
  unfolding news_of listed
  news-values [] = tt
  news-values (v ∷ vs) = go (is_listed gone rows v) (news-values vs)
    where
      go : (t : Bool) → All (λ (c : Change). c.gone ≡ false) (news_of gone rows vs) → All (λ (c : Change). c.gone ≡ false) (listed t v (news_of gone rows vs))
      go true ih = (refl, ih)
      go false ih = ih

  news-length : (vs : List Variable) → length (news_of gone rows vs) ≤ length vs
  unfolding news_of listed
  news-length [] = omega arith
  news-length (v ∷ vs) = go (is_listed gone rows v) (news-length vs)
    where
      go : (t : Bool) → length (news_of gone rows vs) ≤ length vs → length (listed t v (news_of gone rows vs)) ≤ suc (length vs)
      go true ih = omega (arith, ih)
      go false ih = omega (arith, ih)

-- ---- the gone among them

merged-up : (j a b : ℕ) (ns : List ℕ) (cs : List Change) → j ≤ 2 * a → j ≤ 2 * b + 1 → Up a ns → Up b (map entry_number cs) → All (λ (c : Change). c.gone ≡ false) cs
    → Up j (map place_of (merged ns cs))
unfolding merged gone_entry place_of
merged-up j a b [] [] l k u v g = tt
merged-up j a b [] (c ∷ cs) l k u v g = rw g.0 (omega (arith, v.0, k), merged-up (suc (2 * c.variable + 1)) (suc c.variable) (suc c.variable) [] cs (omega arith) (omega arith) tt v.1 g.1)
merged-up j a b (n ∷ ns) [] l k u v g = (omega (arith, u.0, l), merged-up (suc (2 * n + 0)) (suc n) n ns [] (omega arith) (omega arith) u.1 tt tt)
merged-up j a b (n ∷ ns) (c ∷ cs) l k u v g =
    go (leb n c.variable) (leb→le n c.variable) (nleb→lt n c.variable)
    (λ h. merged-up (suc (2 * n + 0)) (suc n) n ns (c ∷ cs) (omega arith) (omega arith) u.1 (h, v.1) g)
    (λ h. merged-up (suc (2 * c.variable + 1)) (suc c.variable) (suc c.variable) (n ∷ ns) cs (omega arith) (omega arith) (h, u.1) v.1 g.1)
  where
    go : (t : Bool) → (T t → n ≤ c.variable) → (T (not t) → suc c.variable ≤ n)
        → (n ≤ c.variable → Up (suc (2 * n + 0)) (map place_of (merged ns (c ∷ cs)))) → (suc c.variable ≤ n → Up (suc (2 * c.variable + 1)) (map place_of (merged (n ∷ ns) cs)))
        → Up j (map place_of (elim t [ true ↦ gone_entry n ∷ merged ns (c ∷ cs) | false ↦ c ∷ merged (n ∷ ns) cs ]))
    go true p q x y = (omega (arith, u.0, l), x (p tt))
    go false p q x y = rw g.0 (omega (arith, v.0, k), y (q tt))

merged-length : (ns : List ℕ) (cs : List Change) → length (merged ns cs) ≡ length ns + length cs
unfolding merged
merged-length [] cs = omega arith
merged-length (n ∷ ns) [] = omega (arith, merged-length ns [])
merged-length (n ∷ ns) (c ∷ cs) = go (leb n c.variable) (merged-length ns (c ∷ cs)) (merged-length (n ∷ ns) cs)
  where
    go : (t : Bool) → length (merged ns (c ∷ cs)) ≡ length ns + suc (length cs) → length (merged (n ∷ ns) cs) ≡ suc (length ns) + length cs
        → length {A = Change} (elim t [ true ↦ gone_entry n ∷ merged ns (c ∷ cs) | false ↦ c ∷ merged (n ∷ ns) cs ]) ≡ suc (length ns) + suc (length cs)
    go true x y = omega (arith, x)
    go false x y = omega (arith, y)

-- ---- a fetch

module _ (s : State) (reads : readable s ≡ true) where
  vs : List Variable
  vs = cond s.changes.should_clear (clear_changed s.changes.variables) s.changes.variables

  numbers : map var_number vs ≡ map var_number s.changes.variables
  unfolding vs clear_changed with_flag
  numbers = go s.changes.should_clear
    where
      go : (b : Bool) → map var_number (cond b (clear_changed s.changes.variables) s.changes.variables) ≡ map var_number s.changes.variables
      go true = numbers-map (with_flag false) (λ v. refl) s.changes.variables
      go false = refl

  size : length vs ≡ length s.changes.variables
  size = sym (length-map vs var_number) ∙ rw numbers (length-map s.changes.variables var_number)

  r : Reads s
  r = reads_in s reads

  -- ascending by place: each number at most once as gone and once with a value, gone first
  pub list-ascends : ascend (map place_of (fetch_changes s).list) ≡ true
  unfolding fetch_changes vs
  list-ascends =
      ascend-out (map place_of (merged s.changes.gone (news_of s.changes.gone s.tableau.rows vs)))
      (merged-up 0 0 0 s.changes.gone (news_of s.changes.gone s.tableau.rows vs) (omega arith) (omega arith) r.waits.up
      (news-up s.changes.gone s.tableau.rows 0 vs (rw numbers r.variables-up)) (news-values s.changes.gone s.tableau.rows vs))

  -- "the size of the list (64)"
  pub list-fits : length (fetch_changes s).list ≤ 64
  unfolding fetch_changes vs
  list-fits =
      omega (arith, merged-length s.changes.gone (news_of s.changes.gone s.tableau.rows vs), news-length s.changes.gone s.tableau.rows vs, size, r.few-variables, r.waits.few)
