-- What a reader makes of a fetch's list, number by number: the value if one is listed, nothing if it is listed gone alone, else what it held. Assumes nothing.
use Rattle.std.specs.Prelude.{◌≡◌, Bool, not, cond, ◌&&◌, ◌||◌, T, eqb, leb, Float}
use Rattle.std.proofs.Math.Path.{refl}
use Rattle.std.proofs.Common.{sym, ◌∙◌, subst, arith, leb→le}
use mathlib.Core.List.{List, [], ◌∷◌, map}
use Rattle.std.proofs.Math.Option.{Option, none, some}
use Rattle.std.proofs.Math.Bool.{true, false}
use Prim.Native.Nat.{ℕ, suc, ◌≤◌, ◌<◌}
use Rattle.std.proofs.Math.Dec.{nleb→lt}
use Rattle.steps.specs.State.{Basic, Variable}
use Rattle.steps.specs.Changes.{member, never_reported, find_variable, value_of, Change, is_listed, news_of, gone_entry, merged}
use Rattle.steps.proofs.Told.{told_as}
use Rattle.keeps.specs.Lists.{Same?, is, isnt, same?, Up, up_none, member-in}
use Rattle.keeps.specs.Uses.{var_number}
use Rattle.keeps.specs.Listed.{entry_number, news-up}
use Rattle.keeps.specs.suffices.Reader.{Reader, takes, takes_all}
use Rattle.keeps.specs.suffices.Listing.{listed, outcome, Values, news_at, told_by, mapped}

-- ---- a list of entries, as one number sees it

none_below : (n i : ℕ) (cs : List Change) → n < i → Up i (map entry_number cs) → listed n cs ≡ none
unfolding listed
none_below n i [] l u = refl
none_below n i (c ∷ cs) l u = go (same? n c.variable) (none_below n (suc c.variable) cs (omega (arith, l, u.0)) u.1)
  where
    go : Same? n c.variable → listed n cs ≡ none → ◌≡◌ {A = Option Float} (elim (eqb n c.variable) [ true ↦ some c.new | false ↦ listed n cs ]) none
    go (is a b d) ih = absurd (omega (arith, l, u.0, b))
    go (isnt a b d) ih = rw a ih

no_member : (n i : ℕ) (ns : List ℕ) → n < i → Up i ns → member n ns ≡ false
no_member n i ns l u = go (member n ns) refl
  where
    go : (b : Bool) → member n ns ≡ b → b ≡ false
    go false e = refl
    go true e = absurd (omega (arith, member-in n ns e, up_none i n ns l u))

-- a value taken first, that no later one of the list follows
take-value : (n : ℕ) (c : Change) (cs : List Change) (r : Reader) (gone : Bool) → c.gone ≡ false → (n ≡ c.variable → (listed n cs ≡ none) × (gone ≡ false)) → outcome (listed n cs) gone (takes c r n) ≡ outcome (listed n (c ∷ cs)) gone (r n)
unfolding outcome listed takes
take-value n c cs r gone v h = go (same? n c.variable)
  where
    go : Same? n c.variable → outcome (listed n cs) gone (elim (eqb n c.variable) [ true ↦ cond c.gone none (some c.new) | false ↦ r n ]) ≡ outcome (elim (eqb n c.variable) [ true ↦ some c.new | false ↦ listed n cs ]) gone (r n)
    go (is a b d) = rw (a, (h b).0, (h b).1, v) refl
    go (isnt a b d) = rw a refl

-- a number forgotten first
take-gone : (n g : ℕ) (o : Option Float) (r : Reader) (gone : Bool) → outcome o gone (takes (gone_entry g) r n) ≡ outcome o (eqb n g || gone) (r n)
unfolding outcome takes gone_entry
take-gone n g (some x) r gone = refl
take-gone n g none r gone = go (eqb n g) gone
  where
    go : (a b : Bool) → ◌≡◌ {A = Option Float} (cond b none (elim a as (λ _. Option Float) [ true ↦ none | false ↦ r n ])) (cond (a || b) none (r n))
    go true true = refl
    go true false = refl
    go false b = refl

pub takes-merged : (n a b : ℕ) (ns : List ℕ) (cs : List Change) (r : Reader) → Up a ns → Up b (map entry_number cs) → Values cs → takes_all (merged ns cs) r n ≡ outcome (listed n cs) (member n ns) (r n)
unfolding takes_all merged member
takes-merged n a b [] [] r u v g = unfold outcome listed in refl
takes-merged n a b [] (c ∷ cs) r u v g =
    takes-merged n 0 (suc c.variable) [] cs (takes c r) tt v.1 g.1
    ∙ take-value n c cs r false g.0 (λ e. (none_below n (suc c.variable) cs (omega (arith, e)) v.1, refl))
takes-merged n a b (m ∷ ns) [] r u v g = takes-merged n (suc m) 0 ns [] (takes (gone_entry m) r) u.1 tt tt ∙ take-gone n m (listed n []) r (member n ns)
takes-merged n a b (m ∷ ns) (c ∷ cs) r u v g =
    go (leb m c.variable) (leb→le m c.variable) (nleb→lt m c.variable)
    (λ h. takes-merged n (suc m) b ns (c ∷ cs) (takes (gone_entry m) r) u.1 v g)
    (λ h. takes-merged n (suc c.variable) (suc c.variable) (m ∷ ns) cs (takes c r) (h, u.1) v.1 g.1)
  where
    go : (t : Bool) → (T t → m ≤ c.variable) → (T (not t) → c.variable < m)
        → (m ≤ c.variable → takes_all (merged ns (c ∷ cs)) (takes (gone_entry m) r) n ≡ outcome (listed n (c ∷ cs)) (member n ns) (takes (gone_entry m) r n))
        → (c.variable < m → takes_all (merged (m ∷ ns) cs) (takes c r) n ≡ outcome (listed n cs) (member n (m ∷ ns)) (takes c r n))
        → takes_all (elim t [ true ↦ gone_entry m ∷ merged ns (c ∷ cs) | false ↦ c ∷ merged (m ∷ ns) cs ]) r n ≡ outcome (listed n (c ∷ cs)) (member n (m ∷ ns)) (r n)
    go true p q x y = x (p tt) ∙ take-gone n m (listed n (c ∷ cs)) r (member n ns)
    go false p q x y =
        y (q tt) ∙ take-value n c cs r (member n (m ∷ ns)) g.0 (λ e. (none_below n (suc c.variable) cs (omega (arith, e)) v.1, no_member n (suc c.variable) (m ∷ ns) (omega (arith, e)) (q tt, u.1)))

-- ---- the values that are listed, by the variable that is found

module _ (gone : List ℕ) (rows : List Basic) where
  news : Bool → Variable → List Change → List Change
  news t v cs = elim t [ true ↦ record { variable = v.number; new = value_of v rows; gone = false } ∷ cs | false ↦ cs ]

  pub listed-news : (n i : ℕ) (vs : List Variable) → Up i (map var_number vs) → listed n (news_of gone rows vs) ≡ news_at gone rows (find_variable n vs)
  unfolding news_of find_variable listed news
  listed-news n i [] u = refl
  listed-news n i (v ∷ vs) u = go (same? n v.number) (is_listed gone rows v) refl (listed-news n (suc v.number) vs u.1) (none_below n (suc v.number) (news_of gone rows vs))
    where
      go : Same? n v.number → (t : Bool) → is_listed gone rows v ≡ t → listed n (news_of gone rows vs) ≡ news_at gone rows (find_variable n vs) → (n < suc v.number → Up (suc v.number) (map entry_number (news_of gone rows vs)) → listed n (news_of gone rows vs) ≡ none)
          → listed n (news t v (news_of gone rows vs)) ≡ news_at gone rows (elim (eqb n v.number) [ true ↦ some v | false ↦ find_variable n vs ])
      go (is a b c) true e ih nothing = rw (a, e, listed) refl
      go (is a b c) false e ih nothing = rw (a, e) (nothing (omega (arith, b)) (news-up gone rows (suc v.number) vs u.1))
      go (isnt a b c) true e ih nothing = rw (a, listed) ih
      go (isnt a b c) false e ih nothing = rw a ih

-- ---- what was told, by the variable that is found

pub told-found : (n i : ℕ) (vs : List Variable) → Up i (map var_number vs) → told_as n vs ≡ told_by (find_variable n vs)
unfolding told_as find_variable
told-found n i [] u = refl
told-found n i (v ∷ vs) u = go (same? n v.number) (never_reported v) refl (told-found n (suc v.number) vs u.1) (none_told n (suc v.number) vs)
  where
    none_told : (n i : ℕ) (vs : List Variable) → n < i → Up i (map var_number vs) → told_as n vs ≡ none
    none_told n i [] l u = refl
    none_told n i (v ∷ vs) l u = by (same? n v.number) (none_told n (suc v.number) vs (omega (arith, l, u.0)) u.1)
      where
        by : Same? n v.number → told_as n vs ≡ none → ◌≡◌ {A = Option Float} (elim (eqb n v.number && not (never_reported v)) [ true ↦ some v.old | false ↦ told_as n vs ]) none
        by (is a b c) ih = absurd (omega (arith, l, u.0, b))
        by (isnt a b c) ih = rw a ih

    go : Same? n v.number → (t : Bool) → never_reported v ≡ t → told_as n vs ≡ told_by (find_variable n vs) → (n < suc v.number → Up (suc v.number) (map var_number vs) → told_as n vs ≡ none)
        → ◌≡◌ {A = Option Float} (elim (eqb n v.number && not t) [ true ↦ some v.old | false ↦ told_as n vs ]) (told_by (elim (eqb n v.number) [ true ↦ some v | false ↦ find_variable n vs ]))
    go (isnt a b c) t e ih nothing = rw a ih
    go (is a b c) true e ih nothing = rw (a, e) (nothing (omega (arith, b)) u.1)
    go (is a b c) false e ih nothing = rw (a, e) refl

pub find-map : (f : Variable → Variable) → ((v : Variable) → (f v).number ≡ v.number) → (n : ℕ) (vs : List Variable) → find_variable n (map f vs) ≡ mapped f (find_variable n vs)
unfolding find_variable
find-map f same n [] = refl
find-map f same n (v ∷ vs) = subst (λ (k : ℕ). ◌≡◌ {A = Option Variable} (elim (eqb n k) [ true ↦ some (f v) | false ↦ find_variable n (map f vs) ]) (mapped f (elim (eqb n v.number) [ true ↦ some v | false ↦ find_variable n vs ]))) (sym (same v)) (go (eqb n v.number) (find-map f same n vs))
  where
    go : (t : Bool) → find_variable n (map f vs) ≡ mapped f (find_variable n vs) → ◌≡◌ {A = Option Variable} (elim t [ true ↦ some (f v) | false ↦ find_variable n (map f vs) ]) (mapped f (elim t [ true ↦ some v | false ↦ find_variable n vs ]))
    go true ih = refl
    go false ih = ih
