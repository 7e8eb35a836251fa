-- What has been told of the variables: each one's old value, until it goes and waits among the gone. No step but a fetch's tells anything, and none forgets. Assumes nothing.
use Prim.Native.Nat.{ℕ, suc, ◌+◌, ◌-◌, ◌≤◌}
use native.Mathlib.Omega.{arith}
use mathlib.Core.Path.{◌≡◌, refl, sym, ap, ap₂, ◌∙◌, subst}
use mathlib.Core.Bool.{Bool, true, false, not, ◌&&◌, ◌||◌, cond, true≢false}
use mathlib.Core.List.{List, [], ◌∷◌, map}
use mathlib.Core.Option.{Option, none, some}
use lib.Dec.{T, eqb, ltb, eqb→eq, eqb_refl}
use lib.ListN.{length}
use lib.Ieee.{Float, ne}
use Rattle.steps.specs.State.{Variable, Changes}
use Rattle.steps.specs.Changes.{with_flag, clear_changed, flag_symbol, var_changed, all_changed, member, keep_number, never_reported, tell_gone}
use Rattle.steps.specs.CreateRow.{keep_variable}
use Rattle.steps.specs.Remove.{Fallen, use_less}

-- the value last told of the number n, if it is live and was reported
unfoldable pub told_as : ℕ → List Variable → Option Float
told_as n [] = none
told_as n (v ∷ vs) = elim (eqb n v.number && not (never_reported v)) [ true ↦ some v.old | false ↦ told_as n vs ]

-- how many live variables were reported
unfoldable pub reported_count : List Variable → ℕ
reported_count [] = 0
reported_count (v ∷ vs) = cond (never_reported v) 0 1 + reported_count vs

-- from c the calls came to d without a fetch: gone entries and reported variables together are no more, and what was told of a number stands unless it waits among the gone
pub record Shed (c d : Changes) : Type 0 where
  pub count : length d.gone + reported_count d.variables ≤ length c.gone + reported_count c.variables
  pub told : (n : ℕ) → member n d.gone ≡ false → (member n c.gone ≡ false) × (told_as n d.variables ≡ told_as n c.variables)

pub shed-refl : (c : Changes) → Shed c c
shed-refl c = record { count = omega arith; told = λ n e. (e, refl) }

pub shed-trans : {c d e : Changes} → Shed c d → Shed d e → Shed c e
shed-trans f g =
    record { count = omega (arith, f.count, g.count); told = λ n m. let b = g.told n m in let a = f.told n b.0 in (a.0, b.1 ∙ a.1) }

-- one variable's part, before the others'
tell : ℕ → ℕ → Float → Option Float → Option Float
tell n number old rest = elim (eqb n number && not (ne old old)) [ true ↦ some old | false ↦ rest ]

skip : (b : Bool) (old : Float) (rest : Option Float) → ◌≡◌ {A = Option Float} (elim (b && false) as (λ _. Option Float) [ true ↦ some old | false ↦ rest ]) rest
skip true old rest = refl
skip false old rest = refl

-- of one that was not reported there is none
passed : (n : ℕ) (v : Variable) (rest : Option Float) → never_reported v ≡ true → tell n v.number v.old rest ≡ rest
unfolding tell never_reported
passed n v rest e =
    ap (λ (b : Bool). elim (eqb n v.number && not b) as (λ _. Option Float) [ true ↦ some v.old | false ↦ rest ]) e ∙ skip (eqb n v.number) v.old rest

-- ---- variables that change in neither number nor old value, and those that come

module _ (g : Variable → Variable) (number : (v : Variable) → (g v).number ≡ v.number) (old : (v : Variable) → (g v).old ≡ v.old) where
  pub told-map : (n : ℕ) (vs : List Variable) → told_as n (map g vs) ≡ told_as n vs
  unfolding told_as never_reported tell
  told-map n [] = refl
  told-map n (v ∷ vs) = ap₂ (λ (m : ℕ) (x : Float). tell n m x (told_as n (map g vs))) (number v) (old v) ∙ ap (tell n v.number v.old) (told-map n vs)

  pub count_map : (vs : List Variable) → reported_count (map g vs) ≡ reported_count vs
  unfolding reported_count never_reported
  count_map [] = refl
  count_map (v ∷ vs) = rw (old v, count_map vs) refl

pub told-keep : (n : ℕ) (v : Variable) (vs : List Variable) → never_reported v ≡ true → told_as n (keep_variable v vs) ≡ told_as n vs
unfolding keep_variable told_as never_reported tell
told-keep n v [] e = passed n v none e
told-keep n v (x ∷ vs) e = go (ltb v.number x.number) (told-keep n v vs e)
  where
    go : (t : Bool) → told_as n (keep_variable v vs) ≡ told_as n vs → told_as n (elim t [ true ↦ v ∷ x ∷ vs | false ↦ x ∷ keep_variable v vs ]) ≡ told_as n (x ∷ vs)
    go true ih = passed n v (told_as n (x ∷ vs)) e
    go false ih = ap (tell n x.number x.old) ih

pub count-keep : (v : Variable) (vs : List Variable) → never_reported v ≡ true → reported_count (keep_variable v vs) ≡ reported_count vs
unfolding keep_variable reported_count
count-keep v [] e = rw e refl
count-keep v (x ∷ vs) e = go (ltb v.number x.number) (count-keep v vs e)
  where
    go : (t : Bool) → reported_count (keep_variable v vs) ≡ reported_count vs → reported_count (elim t [ true ↦ v ∷ x ∷ vs | false ↦ x ∷ keep_variable v vs ]) ≡ reported_count (x ∷ vs)
    go true ih = rw e (omega arith)
    go false ih = rw ih refl

-- other variables of which the same was told, and as many
pub same-shed : (c : Changes) (vs : List Variable) (b : Bool) → ((n : ℕ) → told_as n vs ≡ told_as n c.variables) → reported_count vs ≡ reported_count c.variables
    → Shed c (record { variables = vs; gone = c.gone; should_clear = b })
same-shed c vs b t k = record { count = omega (arith, k); told = λ n e. (e, t n) }

-- ---- notes

pub changed-shed : (s : ℕ) (c : Changes) → Shed c (var_changed s c)
unfolding var_changed flag_symbol clear_changed with_flag
changed-shed s c = same-shed c _ false (λ n. told-map _ (λ v. refl) (λ v. refl) n (before c.should_clear) ∙ told n c.should_clear) (count_map _ (λ v. refl) (λ v. refl) (before c.should_clear) ∙ count c.should_clear)
  where
    before : Bool → List Variable
    before b = cond b (clear_changed c.variables) c.variables

    told : (n : ℕ) (b : Bool) → told_as n (before b) ≡ told_as n c.variables
    told n true = told-map (with_flag false) (λ v. refl) (λ v. refl) n c.variables
    told n false = refl

    count : (b : Bool) → reported_count (before b) ≡ reported_count c.variables
    count true = count_map (with_flag false) (λ v. refl) (λ v. refl) c.variables
    count false = refl

pub all-shed : (ss : List ℕ) (c : Changes) → Shed c (all_changed ss c)
unfolding all_changed
all-shed [] c = shed-refl c
all-shed (s ∷ ss) c = shed-trans (changed-shed s c) (all-shed ss (var_changed s c))

-- ---- a number told as gone

pub keep-has : (n : ℕ) (ns : List ℕ) → member n (keep_number n ns) ≡ true
unfolding member keep_number
keep-has n [] = rw (is_same n) refl
  where
    is_same : (n : ℕ) → eqb n n ≡ true
    is_same n = go (eqb n n) (eqb_refl n)
      where
        go : (b : Bool) → T b → b ≡ true
        go true t = refl
        go false t = absurd t
keep-has n (x ∷ ns) = go (ltb n x) (eqb n x) refl (eqb n n) (eqb_refl n) refl (keep-has n ns)
  where
    go : (t r : Bool) → eqb n x ≡ r → (b : Bool) → T (eqb n n) → eqb n n ≡ b → member n (keep_number n ns) ≡ true
        → member n (elim t [ true ↦ n ∷ x ∷ ns | false ↦ elim r [ true ↦ x ∷ ns | false ↦ x ∷ keep_number n ns ] ]) ≡ true
    go t r e false h q ih = absurd (subst T q h)
    go true r e true h q ih = rw q refl
    go false true e true h q ih = rw e refl
    go false false e true h q ih = rw e ih

pub keep-keeps : (m n : ℕ) (ns : List ℕ) → member m (keep_number n ns) ≡ false → member m ns ≡ false
unfolding member keep_number
keep-keeps m n [] e = refl
keep-keeps m n (x ∷ ns) e = go (ltb n x) (eqb n x) e (keep-keeps m n ns)
  where
    right : (a b : Bool) → (a || b) ≡ false → b ≡ false
    right true b e = absurd (true≢false e)
    right false b e = e

    both : (a b c : Bool) → (b ≡ false → c ≡ false) → (a || b) ≡ false → (a || c) ≡ false
    both true b c f e = e
    both false b c f e = f e

    go : (t r : Bool) → member m (elim t [ true ↦ n ∷ x ∷ ns | false ↦ elim r [ true ↦ x ∷ ns | false ↦ x ∷ keep_number n ns ] ]) ≡ false
        → (member m (keep_number n ns) ≡ false → member m ns ≡ false) → (eqb m x || member m ns) ≡ false
    go true r e ih = right (eqb m n) _ e
    go false true e ih = e
    go false false e ih = both (eqb m x) _ _ ih e

keep-size : (n : ℕ) (ns : List ℕ) → length (keep_number n ns) ≤ suc (length ns)
unfolding keep_number
keep-size n [] = omega arith
keep-size n (x ∷ ns) = go (ltb n x) (eqb n x) (keep-size n ns)
  where
    go : (t r : Bool) → length (keep_number n ns) ≤ suc (length ns)
        → length {A = ℕ} (elim t [ true ↦ n ∷ x ∷ ns | false ↦ elim r [ true ↦ x ∷ ns | false ↦ x ∷ keep_number n ns ] ]) ≤ suc (suc (length ns))
    go true r ih = omega arith
    go false true ih = omega arith
    go false false ih = omega (arith, ih)

-- ---- one use less

less : Variable → Variable
less x = record { number = x.number; symbol = x.symbol; old = x.old; uses = x.uses - 1; changed = x.changed }

after : ℕ → Variable → List Variable → Bool → Bool → Fallen
after n x vs t r =
    elim t [
      | false ↦ record { variables = x ∷ (use_less n vs).variables; gone = (use_less n vs).gone }
      | true ↦ elim r [ true ↦ record { variables = vs; gone = some x } | false ↦ record { variables = less x ∷ vs; gone = none } ]
    ]

-- nothing was told of m by the one that goes
abbrev Untold : ℕ → Option Variable → Type 0
Untold m none = Unit
Untold m (some v) = (eqb m v.number && not (never_reported v)) ≡ false

less-told : (n m : ℕ) (vs : List Variable) → Untold m (use_less n vs).gone → told_as m (use_less n vs).variables ≡ told_as m vs
unfolding use_less told_as less after never_reported tell
less-told n m [] u = refl
less-told n m (x ∷ vs) u = go (eqb n x.number) (eqb x.uses 1) u (less-told n m vs)
  where
    go : (t r : Bool) → Untold m (after n x vs t r).gone → (Untold m (use_less n vs).gone → told_as m (use_less n vs).variables ≡ told_as m vs) → told_as m (after n x vs t r).variables ≡ told_as m (x ∷ vs)
    go false r u ih = ap (tell m x.number x.old) (ih u)
    go true true u ih = sym (ap (λ (b : Bool). elim b as (λ _. Option Float) [ true ↦ some x.old | false ↦ told_as m vs ]) u)
    go true false u ih = refl

count_of : Option Variable → ℕ
count_of o = elim o [ none ↦ 0 | some v ↦ cond (never_reported v) 0 1 ]

less-count : (n : ℕ) (vs : List Variable) → count_of (use_less n vs).gone + reported_count (use_less n vs).variables ≡ reported_count vs
unfolding use_less reported_count less after count_of never_reported
less-count n [] = refl
less-count n (x ∷ vs) = go (eqb n x.number) (eqb x.uses 1) (less-count n vs)
  where
    go : (t r : Bool) → count_of (use_less n vs).gone + reported_count (use_less n vs).variables ≡ reported_count vs
        → count_of (after n x vs t r).gone + reported_count (after n x vs t r).variables ≡ reported_count (x ∷ vs)
    go false r ih = omega (arith, ih)
    go true true ih = refl
    go true false ih = omega arith

-- a variable stays with a use less
pub stays-shed : (n : ℕ) (c : Changes) (b : Bool) → (use_less n c.variables).gone ≡ none → Shed c (record { variables = (use_less n c.variables).variables; gone = c.gone; should_clear = b })
unfolding count_of
stays-shed n c b e =
    same-shed c _ b (λ m. less-told n m c.variables (subst (Untold m) (sym e) tt)) (omega (arith, less-count n c.variables, ap count_of e))

-- or goes, and is told as gone if it was reported
pub goes-shed : (n : ℕ) (c : Changes) (b : Bool) (v : Variable) → (use_less n c.variables).gone ≡ some v
    → Shed c (tell_gone v (record { variables = (use_less n c.variables).variables; gone = c.gone; should_clear = b }))
unfolding tell_gone
goes-shed n c b v e = go (never_reported v) refl
  where
    vs : List Variable
    vs = (use_less n c.variables).variables

    now : Bool → List ℕ
    now t = cond t c.gone (keep_number v.number c.gone)

    count : cond (never_reported v) 0 1 + reported_count vs ≡ reported_count c.variables
    count = unfold count_of in subst (λ (o : Option Variable). count_of o + reported_count vs ≡ reported_count c.variables) e (less-count n c.variables)

    told : (m : ℕ) → (eqb m v.number && not (never_reported v)) ≡ false → told_as m vs ≡ told_as m c.variables
    told m u = less-told n m c.variables (subst (Untold m) (sym e) u)

    never : (a : Bool) → (a && false) ≡ false
    never true = refl
    never false = refl

    other : (m : ℕ) (q : Bool) → eqb m v.number ≡ q → member m (keep_number v.number c.gone) ≡ false → q ≡ false
    other m false q h = refl
    other m true q h = absurd (true≢false (sym (subst (λ (k : ℕ). member k (keep_number v.number c.gone) ≡ true) (sym (eqb→eq m v.number (subst T (sym q) tt))) (keep-has v.number c.gone)) ∙ h))

    go : (t : Bool) → never_reported v ≡ t → Shed c (record { variables = vs; gone = now t; should_clear = b })
    go true q = record { count = omega (arith, count); told = λ m h. (h, told m (rw q (never (eqb m v.number)))) }
    go false q =
        record {
          count = omega (arith, rw q at count, keep-size v.number c.gone);
          told = λ m h. (keep-keeps m v.number c.gone h, told m (rw (other m (eqb m v.number) refl h) refl));
        }
