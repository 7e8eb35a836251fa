-- The gone numbers that wait for a fetch: they ascend, at most 32, and a variable that is live again has not been reported. What one use less makes of them, and how many it adds. Assumes nothing.
use Rattle.std.specs.Prelude.{◌≡◌, ◌≢◌, List, [], ◌∷◌, ◌++◌, map, Bool, true, cond, ◌&&◌, ◌||◌, T, eqb, length}
use Rattle.std.proofs.Math.Path.{refl, sym, ap}
use Rattle.std.proofs.Common.{ap₂, ◌∙◌, subst, inl, inr, true≢false, arith, eq-or-lt_of_le, ltb→lt, lt→ltb, nltb→le, leb→le, le→leb, eqb→eq}
use Rattle.std.proofs.Math.Option.{Option, none, some}
use Rattle.std.proofs.Math.Bool.{false, not}
use Prim.Native.Nat.{ℕ, suc, ◌+◌, ◌-◌, ◌≤◌, ◌<◌}
use Rattle.std.proofs.Math.Dec.{leb, ltb, eqb_refl}
use Rattle.steps.specs.State.{Term, Variable, Changes, State}
use Rattle.steps.specs.Changes.{with_flag, clear_changed, member, keep_number, never_reported}
use Rattle.steps.specs.Remove.{Fallen, use_less}
use Rattle.steps.specs.Tests.{uses_in, goes_with, makes_entry, entries_made, gone_full}
use Rattle.keeps.specs.Lists.{All, Same?, is, isnt, same?, times, Up, up_none, member-in, truly, so, so-not, none≢some, some-injective, no_both, both, left, right}
use Rattle.keeps.specs.Uses.{var_number, uses-append}

-- ---- a number kept in its place

pub keep-number-up : (i n : ℕ) (ns : List ℕ) → i ≤ n → Up i ns → Up i (keep_number n ns)
unfolding keep_number
keep-number-up i n [] l u = (l, tt)
keep-number-up i n (x ∷ ns) l u = go (ltb n x) (ltb→lt n x) (nltb→le n x) (same? n x) (λ m. keep-number-up (suc x) n ns m u.1)
  where
    go : (t : Bool) → (T t → n < x) → (T (not t) → x ≤ n) → Same? n x → (suc x ≤ n → Up (suc x) (keep_number n ns))
        → Up i (elim t [ true ↦ n ∷ x ∷ ns | false ↦ elim (eqb n x) [ true ↦ x ∷ ns | false ↦ x ∷ keep_number n ns ] ])
    go true a b w ih = (l, (a tt, u.1))
    go false a b (is p q r) ih = rw p u
    go false a b (isnt p q r) ih = rw p (u.0, ih (elim (eq-or-lt_of_le (b tt)) [ inl e ↦ absurd (q (sym e)) | inr h ↦ h ]))

pub keep-number-other : (m n : ℕ) (ns : List ℕ) → m ≢ n → member m (keep_number n ns) ≡ member m ns
unfolding keep_number member
keep-number-other m n [] d = go (same? m n)
  where
    go : Same? m n → (eqb m n || false) ≡ false
    go (is a b c) = absurd (d b)
    go (isnt a b c) = rw a refl
keep-number-other m n (x ∷ ns) d = go (ltb n x) (eqb n x) (same? m n) (keep-number-other m n ns d)
  where
    go : (t r : Bool) → Same? m n → member m (keep_number n ns) ≡ member m ns
        → member m (elim t [ true ↦ n ∷ x ∷ ns | false ↦ elim r [ true ↦ x ∷ ns | false ↦ x ∷ keep_number n ns ] ]) ≡ (eqb m x || member m ns)
    go t r (is a b c) ih = absurd (d b)
    go true r (isnt a b c) ih = rw a refl
    go false true (isnt a b c) ih = refl
    go false false (isnt a b c) ih = ap (λ (y : Bool). eqb m x || y) ih

-- ascending numbers have none below their first
below-first : (n i : ℕ) (ns : List ℕ) → n < i → Up i ns → member n ns ≡ false
below-first n i ns l u = go (member n ns) refl
  where
    go : (b : Bool) → member n ns ≡ b → b ≡ false
    go false e = refl
    go true e = absurd (omega (arith, up_none i n ns l u, member-in n ns e))

-- one more, unless it is there
pub keep-number-length : (i n : ℕ) (ns : List ℕ) → Up i ns → length (keep_number n ns) ≡ cond (member n ns) 0 1 + length ns
unfolding keep_number member
keep-number-length i n [] u = refl
keep-number-length i n (x ∷ ns) u = go (ltb n x) (ltb→lt n x) (same? n x) (keep-number-length (suc x) n ns u.1)
  where
    go : (t : Bool) → (T t → n < x) → Same? n x → length (keep_number n ns) ≡ cond (member n ns) 0 1 + length ns
        → length {A = ℕ} (elim t [ true ↦ n ∷ x ∷ ns | false ↦ elim (eqb n x) [ true ↦ x ∷ ns | false ↦ x ∷ keep_number n ns ] ]) ≡ cond (eqb n x || member n ns) 0 1 + suc (length ns)
    go true a (is p q r) ih = absurd (omega (arith, a tt, q))
    go true a (isnt p q r) ih = rw (p, below-first n (suc x) ns (omega (arith, a tt)) u.1) (omega arith)
    go false a (is p q r) ih = rw p (omega arith)
    go false a (isnt p q r) ih = rw p (omega (arith, ih))

-- ---- what waits

-- "a variable whose number is among them has NaN for its old value"
abbrev pub Returned : List ℕ → Variable → Type 0
Returned gone v = (not (member v.number gone) || never_reported v) ≡ true

pub record Waits (gone : List ℕ) (vs : List Variable) : Type 0 where
  pub few : length gone ≤ 32
  pub up : Up 0 gone
  pub returned : All (Returned gone) vs

-- nothing waits after a fetch, nor at a reset
pub none-waits : (vs : List Variable) → Waits [] vs
unfolding member
none-waits vs = record { few = omega arith; up = tt; returned = go vs }
  where
    go : (vs : List Variable) → All (Returned []) vs
    go [] = tt
    go (v ∷ vs) = (refl, go vs)

pub waits-to : (gone : List ℕ) (vs us : List Variable) → (All (Returned gone) vs → All (Returned gone) us) → Waits gone vs → Waits gone us
waits-to gone vs us f w = record { few = w.few; up = w.up; returned = f w.returned }

pub waits-flags : (gone : List ℕ) (vs us : List Variable) → clear_changed us ≡ clear_changed vs → Waits gone vs → Waits gone us
unfolding clear_changed with_flag never_reported
waits-flags gone vs us e w = waits-to gone vs us (λ h. flagged us (subst (All (Returned gone)) (sym e) (close vs h))) w
  where
    close : (vs : List Variable) → All (Returned gone) vs → All (Returned gone) (clear_changed vs)
    close [] h = tt
    close (v ∷ vs) h = (h.0, close vs h.1)

    flagged : (vs : List Variable) → All (Returned gone) (clear_changed vs) → All (Returned gone) vs
    flagged [] h = tt
    flagged (v ∷ vs) h = (h.0, flagged vs h.1)

-- a variable that goes is told: no other of its number is live
pub waits-told : (n : ℕ) (gone : List ℕ) (vs : List Variable) → times n (map var_number vs) ≡ 0 → length (keep_number n gone) ≤ 32 → Waits gone vs → Waits (keep_number n gone) vs
unfolding times
waits-told n gone vs z l w = record { few = l; up = keep-number-up 0 n gone (omega arith) w.up; returned = go vs z w.returned }
  where
    go : (vs : List Variable) → times n (map var_number vs) ≡ 0 → All (Returned gone) vs → All (Returned (keep_number n gone)) vs
    go [] z h = tt
    go (v ∷ vs) z h = (one (same? n v.number), go vs (omega arith) h.1)
      where
        one : Same? n v.number → Returned (keep_number n gone) v
        one (is a b c) = absurd (omega arith)
        one (isnt a b c) = ap (λ (t : Bool). not t || never_reported v) (keep-number-other v.number n gone (λ e. b (sym e))) ∙ h.0

-- ---- one use less, and the entries that it makes

-- the gone numbers after the variable o went
abbrev pub gone_after : Option Variable → List ℕ → List ℕ
gone_after none gone = gone
gone_after (some v) gone = cond (never_reported v) gone (keep_number v.number gone)

-- the one that goes has the number
pub gone-number : (n : ℕ) (vs : List Variable) (v : Variable) → (use_less n vs).gone ≡ some v → n ≡ v.number
unfolding use_less
gone-number n [] v e = absurd (none≢some e)
gone-number n (x ∷ vs) v e = go (same? n x.number) (eqb x.uses 1) e (gone-number n vs v)
  where
    go : Same? n x.number → (r : Bool)
        → (elim (eqb n x.number) as (λ _. Fallen) [ false ↦ record { variables = x ∷ (use_less n vs).variables; gone = (use_less n vs).gone } | true ↦ elim r [ true ↦ record { variables = vs; gone = some x } | false ↦ record { variables = record { number = x.number; symbol = x.symbol; old = x.old; uses = x.uses - 1; changed = x.changed } ∷ vs; gone = none } ] ]).gone ≡ some v
        → ((use_less n vs).gone ≡ some v → n ≡ v.number) → n ≡ v.number
    go (isnt a b c) r e ih = ih (rw a at e)
    go (is a b c) true e ih = b ∙ ap var_number (some-injective (rw a at e))
    go (is a b c) false e ih = absurd (none≢some (rw a at e))

-- ---- how many entries these terms make

-- another number told changes nothing of this one's entry
told-entry : (n : ℕ) (gone : List ℕ) (ts : List Term) (v : Variable) → v.number ≢ n → makes_entry (keep_number n gone) ts v ≡ makes_entry gone ts v
unfolding makes_entry
told-entry n gone ts v d = ap (λ (t : Bool). goes_with ts v && not (never_reported v) && not t) (keep-number-other v.number n gone d)

-- nor does a term of another variable
other-entry : (gone : List ℕ) (t : Term) (ts : List Term) (v : Variable) → t.variable ≢ v.number → makes_entry gone (t ∷ ts) v ≡ makes_entry gone ts v
unfolding makes_entry goes_with uses_in
other-entry gone t ts v d = ap (λ (k : ℕ). ltb 0 v.uses && leb v.uses k && not (never_reported v) && not (member v.number gone)) (go (same? v.number t.variable))
  where
    go : Same? v.number t.variable → cond (eqb v.number t.variable) 1 0 + uses_in v.number ts ≡ uses_in v.number ts
    go (is a b c) = absurd (d (sym b))
    go (isnt a b c) = rw a (omega arith)

told_entries : (n : ℕ) (gone : List ℕ) (ts : List Term) (vs : List Variable) → times n (map var_number vs) ≡ 0 → entries_made (keep_number n gone) ts vs ≡ entries_made gone ts vs
unfolding entries_made times
told_entries n gone ts [] z = refl
told_entries n gone ts (v ∷ vs) z = go (same? n v.number) (told_entries n gone ts vs (omega arith))
  where
    go : Same? n v.number → entries_made (keep_number n gone) ts vs ≡ entries_made gone ts vs → entries_made (keep_number n gone) ts (v ∷ vs) ≡ entries_made gone ts (v ∷ vs)
    go (is a b c) ih = absurd (omega arith)
    go (isnt a b c) ih = ap₂ (λ (t : Bool) (k : ℕ). cond t 1 0 + k) (told-entry n gone ts v (λ e. b (sym e))) ih

other_entries : (gone : List ℕ) (t : Term) (ts : List Term) (vs : List Variable) → times t.variable (map var_number vs) ≡ 0 → entries_made gone (t ∷ ts) vs ≡ entries_made gone ts vs
unfolding entries_made times
other_entries gone t ts [] z = refl
other_entries gone t ts (v ∷ vs) z = go (same? t.variable v.number) (other_entries gone t ts vs (omega arith))
  where
    go : Same? t.variable v.number → entries_made gone (t ∷ ts) vs ≡ entries_made gone ts vs → entries_made gone (t ∷ ts) (v ∷ vs) ≡ entries_made gone ts (v ∷ vs)
    go (is a b c) ih = absurd (omega arith)
    go (isnt a b c) ih = ap₂ (λ (t : Bool) (k : ℕ). cond t 1 0 + k) (other-entry gone t ts v b) ih

-- two tests that say the same
same_bool : (a b : Bool) → (a ≡ true → b ≡ true) → (b ≡ true → a ≡ true) → a ≡ b
same_bool true true f g = refl
same_bool true false f g = sym (f refl)
same_bool false true f g = g refl
same_bool false false f g = refl

goes_in : (k u : ℕ) → (ltb 0 k && leb k u) ≡ true → (1 ≤ k) × (k ≤ u)
goes_in k u e = (ltb→lt 0 k (so (left (ltb 0 k) (leb k u) e)), leb→le k u (so (right (ltb 0 k) (leb k u) e)))

goes-out : (k u : ℕ) → 1 ≤ k → k ≤ u → (ltb 0 k && leb k u) ≡ true
goes-out k u a b = both (truly (ltb 0 k) (lt→ltb 0 k a)) (truly (leb k u) (le→leb k u b))

-- a use less on either side
fewer-goes : (k u : ℕ) → k ≢ 1 → (ltb 0 k && leb k (1 + u)) ≡ (ltb 0 (k - 1) && leb (k - 1) u)
fewer-goes k u d =
    same_bool _ _ (λ h. let g = goes_in k (1 + u) h in goes-out (k - 1) u (more k d g.0) (omega (arith, g.1)))
    (λ h. let g = goes_in (k - 1) u h in goes-out k (1 + u) (omega (arith, g.0)) (omega (arith, g.1)))
  where
    more : (k : ℕ) → k ≢ 1 → 1 ≤ k → 1 ≤ k - 1
    more k d l = elim (eq-or-lt_of_le l) [ inl e ↦ absurd (d (sym e)) | inr h ↦ omega (arith, h) ]

-- whichever variable went, if it was another
told-any : (o : Option Variable) (gone : List ℕ) (ts : List Term) (v : Variable) → ((u : Variable) → o ≡ some u → v.number ≢ u.number) → makes_entry (gone_after o gone) ts v ≡ makes_entry gone ts v
told-any none gone ts v d = refl
told-any (some u) gone ts v d = go (never_reported u)
  where
    go : (b : Bool) → makes_entry (cond b gone (keep_number u.number gone)) ts v ≡ makes_entry gone ts v
    go true = refl
    go false = told-entry u.number gone ts v (d u refl)

-- "25 a removal would make a 33rd gone entry": the count that the test makes before the steps is that of the entries after them, use by use
pub entries-fall : (i : ℕ) (gone : List ℕ) (t : Term) (ts : List Term) (vs : List Variable) → Up 0 gone → Up i (map var_number vs)
    → length (gone_after (use_less t.variable vs).gone gone) + entries_made (gone_after (use_less t.variable vs).gone gone) ts (use_less t.variable vs).variables
    ≡ length gone + entries_made gone (t ∷ ts) vs
unfolding use_less entries_made
entries-fall i gone t ts [] g u = refl
entries-fall i gone t ts (v ∷ vs) g u = go (same? n v.number) (eqb v.uses 1) refl (entries-fall (suc v.number) gone t ts vs g u.1)
  where
    n : ℕ
    n = t.variable

    less : Variable
    less = record { number = v.number; symbol = v.symbol; old = v.old; uses = v.uses - 1; changed = v.changed }

    after : Bool → Bool → Fallen
    after e r =
        elim e [
          | false ↦ record { variables = v ∷ (use_less n vs).variables; gone = (use_less n vs).gone }
          | true ↦ elim r [ true ↦ record { variables = vs; gone = some v } | false ↦ record { variables = less ∷ vs; gone = none } ]
        ]

    Falls : Fallen → Type 0
    Falls f = length (gone_after f.gone gone) + entries_made (gone_after f.gone gone) ts f.variables ≡ length gone + (cond (makes_entry gone (t ∷ ts) v) 1 0 + entries_made gone (t ∷ ts) vs)

    Rest : Type 0
    Rest = length (gone_after (use_less n vs).gone gone) + entries_made (gone_after (use_less n vs).gone gone) ts (use_less n vs).variables ≡ length gone + entries_made gone (t ∷ ts) vs

    -- the rest have other numbers
    rest : n ≡ v.number → times n (map var_number vs) ≡ 0
    rest e = up_none (suc v.number) n (map var_number vs) (omega (arith, e)) u.1

    used : (e : n ≡ v.number) → uses_in v.number (t ∷ ts) ≡ 1 + uses_in v.number ts
    used e = unfold uses_in in ap {B = ℕ} (λ (b : Bool). cond b 1 0 + uses_in v.number ts) (subst (λ (k : ℕ). eqb k n ≡ true) e (truly (eqb n n) (eqb_refl n)))

    entry : (e : n ≡ v.number) → v.uses ≡ 1 → goes_with (t ∷ ts) v ≡ true
    entry e q = unfold goes_with in goes-out v.uses (uses_in v.number (t ∷ ts)) (omega (arith, q)) (omega (arith, q, used e))

    goes : (e : n ≡ v.number) → v.uses ≡ 1 → (b : Bool) → never_reported v ≡ b → (m : Bool) → member v.number gone ≡ m → Falls (after true true)
    goes e q true p m r = unfold makes_entry in rw (entry e q, p) (omega (arith, other_entries gone t ts vs (rest e)))
    goes e q false p m r =
        unfold makes_entry in
        rw (entry e q, p) (count m r (omega (arith, told_entries v.number gone ts vs (subst (λ (k : ℕ). times k (map var_number vs) ≡ 0) e (rest e)), other_entries gone t ts vs (rest e))) (keep-number-length 0 v.number gone g))
      where
        made : ℕ
        made = entries_made (keep_number v.number gone) ts vs

        count : (m : Bool) → member v.number gone ≡ m → made ≡ entries_made gone (t ∷ ts) vs → length (keep_number v.number gone) ≡ cond (member v.number gone) 0 1 + length gone
            → length (keep_number v.number gone) + made ≡ length gone + (cond (not (member v.number gone)) 1 0 + entries_made gone (t ∷ ts) vs)
        count true f a b = rw f (omega (arith, a, rw f at b))
        count false f a b = rw f (omega (arith, a, rw f at b))

    stays : (e : n ≡ v.number) → v.uses ≢ 1 → makes_entry gone ts less ≡ makes_entry gone (t ∷ ts) v
    stays e d =
        unfold makes_entry goes_with never_reported in
        ap (λ (y : Bool). y && not (never_reported v) && not (member v.number gone)) (sym (ap (λ (k : ℕ). ltb 0 v.uses && leb v.uses k) (used e) ∙ fewer-goes v.uses (uses_in v.number ts) d))

    go : Same? n v.number → (r : Bool) → eqb v.uses 1 ≡ r → Rest → Falls (after (eqb n v.number) r)
    go (isnt a b c) r q ih =
        rw a (omega (arith, ih, ap {B = ℕ} (λ (y : Bool). cond y 1 0) (told-any (use_less n vs).gone gone ts v (λ w e f. b (gone-number n vs w e ∙ sym f)) ∙ sym (other-entry gone t ts v b))))
    go (is a b c) true q ih = rw a (goes b (eqb→eq v.uses 1 (so q)) (never_reported v) refl (member v.number gone) refl)
    go (is a b c) false q ih = rw a (omega (arith, ap {B = ℕ} (λ (y : Bool). cond y 1 0) (stays b (λ e. no_both (rw e refl) q)), other_entries gone t ts vs (rest b)))

-- with more terms there are no fewer
more-entries : (gone : List ℕ) (ts us : List Term) (vs : List Variable) → entries_made gone ts vs ≤ entries_made gone (ts ++ us) vs
unfolding entries_made
more-entries gone ts us [] = omega arith
more-entries gone ts us (v ∷ vs) = omega (arith, go, more-entries gone ts us vs)
  where
    goes : (a b : Bool) → goes_with ts v ≡ a → goes_with (ts ++ us) v ≡ b → (a ≡ true → b ≡ true)
    goes a b e f h =
        unfold goes_with in
        let g = goes_in v.uses (uses_in v.number ts) (e ∙ h) in
        sym f ∙ goes-out v.uses (uses_in v.number (ts ++ us)) g.0 (omega (arith, g.1, uses-append v.number ts us))

    by : (a b c d : Bool) → (a ≡ true → b ≡ true) → cond (a && c && d) 1 0 ≤ cond (b && c && d) 1 0
    by true true c d h = omega arith
    by true false c d h = absurd (true≢false (sym (h refl)))
    by false b c d h = omega arith

    go : cond (makes_entry gone ts v) 1 0 ≤ cond (makes_entry gone (ts ++ us) v) 1 0
    go = unfold makes_entry in by (goes_with ts v) (goes_with (ts ++ us) v) (not (never_reported v)) (not (member v.number gone)) (goes (goes_with ts v) (goes_with (ts ++ us) v) refl refl)

-- how many gone entries there are once these terms' uses have fallen too
abbrev pub entries_by : List Term → Changes → ℕ
entries_by ts c = length c.gone + entries_made c.gone ts c.variables

pub entries-more : (ts us : List Term) (c : Changes) → entries_by ts c ≤ entries_by (ts ++ us) c
entries-more ts us c = omega (arith, more-entries c.gone ts us c.variables)

-- 25 is given exactly if there would be more than 32
pub not_full : (ts : List Term) (s : State) → gone_full ts s ≡ false → entries_by ts s.changes ≤ 32
unfolding gone_full
not_full ts s e = nltb→le 32 (entries_by ts s.changes) (so-not e)

pub has_room : (ts : List Term) (s : State) → entries_by ts s.changes ≤ 32 → gone_full ts s ≡ false
unfolding gone_full
has_room ts s l = go (ltb 32 (entries_by ts s.changes)) (ltb→lt 32 (entries_by ts s.changes))
  where
    go : (b : Bool) → (T b → 32 < entries_by ts s.changes) → b ≡ false
    go true h = absurd (omega (arith, h tt, l))
    go false h = refl
