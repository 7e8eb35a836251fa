-- The variables' table while a row is built: a new variable is put in its place, a use is counted, and no variable's symbol changes. Assumes nothing.
use Rattle.std.specs.Prelude.{ℕ, ◌≡◌, refl, ◌≢◌, List, [], ◌∷◌, map, Bool, true, false, T, eqb}
use Rattle.std.proofs.Common.{sym, ap, ◌∙◌, subst, eqb→eq}
use Rattle.std.proofs.Math.Option.{Option, none, some}
use Rattle.std.proofs.Math.Dec.{eqb_refl}
use Rattle.simplex.specs.Opt.{Kind as KindZ, external}
use Rattle.steps.specs.Symbol.{External, Symbol}
use Rattle.steps.specs.State.{Variable}
use Rattle.steps.specs.Changes.{find_variable}
use Rattle.steps.specs.CreateRow.{keep_variable, use_once}
use Rattle.keeps.specs.Keys.{find_by, keep_by, find_variable-is, keep_variable-is}
use Rattle.simplex.specs.bridge.Rows.{In}
use Rattle.keeps.specs.Lookup.{find-keep-same, find-keep-other}

-- ---- lookups
kept-is : (n : ℕ) (v : Variable) (vs : List Variable) → find_variable n (keep_variable v vs) ≡ find_by (λ (x : Variable). x.number) n (keep_by (λ (x : Variable). x.number) v vs)
kept-is n v vs = ap (find_variable n) (keep_variable-is v vs) ∙ find_variable-is n (keep_by (λ (x : Variable). x.number) v vs)

pub find-kept : (v : Variable) (vs : List Variable) → find_variable v.number vs ≡ none → find_variable v.number (keep_variable v vs) ≡ some v
find-kept v vs e = kept-is v.number v vs ∙ find-keep-same (λ (x : Variable). x.number) v.number v vs refl (sym (find_variable-is v.number vs) ∙ e)

pub find-kept-other : (n : ℕ) (v : Variable) (vs : List Variable) → n ≢ v.number → find_variable n (keep_variable v vs) ≡ find_variable n vs
find-kept-other n v vs ne = kept-is n v vs ∙ find-keep-other (λ (x : Variable). x.number) n v vs ne ∙ sym (find_variable-is n vs)

abbrev pub used_at : ℕ → Option Variable → Option Variable
used_at n none = none
used_at n (some v) = some (use_once n v)

pub find-used : (m n : ℕ) (vs : List Variable) → find_variable m (map (use_once n) vs) ≡ used_at n (find_variable m vs)
unfolding find_variable use_once
find-used m n [] = refl
find-used m n (v ∷ vs) = go (eqb m v.number) (find-used m n vs)
  where
    go : (b : Bool) → find_variable m (map (use_once n) vs) ≡ used_at n (find_variable m vs)
        → ◌≡◌ {A = Option Variable} (elim b [ true ↦ some (use_once n v) | false ↦ find_variable m (map (use_once n) vs) ]) (used_at n (elim b [ true ↦ some v | false ↦ find_variable m vs ]))
    go true ih = refl
    go false ih = ih

-- ---- no variable's symbol changes
abbrev pub Stays : Option Variable → Option Variable → Type 0
Stays none t = Unit
Stays (some u) none = ⊥
Stays (some u) (some v) = u.symbol ≡ v.symbol

abbrev pub StaysAll : List Variable → List Variable → Type 0
StaysAll vs us = (n : ℕ) → Stays (find_variable n vs) (find_variable n us)

stays-refl' : (t : Option Variable) → Stays t t
stays-refl' none = tt
stays-refl' (some v) = refl

pub stays-refl : (vs : List Variable) → StaysAll vs vs
stays-refl vs n = stays-refl' (find_variable n vs)

pub stays-eq : (s t : Option Variable) → s ≡ t → Stays s t
stays-eq s t e = subst (Stays s) e (stays-refl' s)

stays-trans' : (s t u : Option Variable) → Stays s t → Stays t u → Stays s u
stays-trans' none t u a b = tt
stays-trans' (some x) none u a b = absurd a
stays-trans' (some x) (some y) none a b = absurd b
stays-trans' (some x) (some y) (some z) a b = a ∙ b

pub stays-trans : (us vs ws : List Variable) → StaysAll us vs → StaysAll vs ws → StaysAll us ws
stays-trans us vs ws a b n = stays-trans' (find_variable n us) (find_variable n vs) (find_variable n ws) (a n) (b n)

pub stays-used : (n : ℕ) (vs : List Variable) → StaysAll vs (map (use_once n) vs)
unfolding use_once
stays-used n vs m = subst (Stays (find_variable m vs)) (sym (find-used m n vs)) (go (find_variable m vs))
  where
    go : (t : Option Variable) → Stays t (used_at n t)
    go none = tt
    go (some v) = refl

pub stays-kept : (v : Variable) (vs : List Variable) → find_variable v.number vs ≡ none → StaysAll vs (keep_variable v vs)
stays-kept v vs e n = go (eqb n v.number) refl
  where
    go : (b : Bool) → eqb n v.number ≡ b → Stays (find_variable n vs) (find_variable n (keep_variable v vs))
    go true q = subst (λ (t : Option Variable). Stays t (find_variable n (keep_variable v vs))) (sym (ap (λ (i : ℕ). find_variable i vs) (eqb→eq n v.number (subst T (sym q) tt)) ∙ e)) tt
    go false q = stays-eq (find_variable n vs) (find_variable n (keep_variable v vs)) (sym (find-kept-other n v vs (λ p. subst T q (subst (λ (y : ℕ). T (eqb n y)) p (eqb_refl n)))))

-- ---- a variable's symbol is External, live, and named by the variable
abbrev pub LiveAt : (ℕ → KindZ) → List Symbol → (ℕ → ℕ) → ℕ → Option Variable → Type 0
LiveAt kind xs name n none = Unit
LiveAt kind xs name n (some v) = (v.symbol.kind ≡ External) × In v.symbol.id xs × (kind v.symbol.id ≡ external) × (name v.symbol.id ≡ n)

-- the column of a variable, as the table has it
unfoldable pub column_at : Option Variable → ℕ
column_at none = 0
column_at (some v) = v.symbol.id

unfoldable pub column_in : List Variable → ℕ → ℕ
column_in vs n = column_at (find_variable n vs)

-- columns that agree with a table
abbrev pub AgreesAt : Option Variable → ℕ → Type 0
AgreesAt none c = Unit
AgreesAt (some v) c = v.symbol.id ≡ c

abbrev pub Agrees : (ℕ → ℕ) → List Variable → Type 0
Agrees column vs = (n : ℕ) → AgreesAt (find_variable n vs) (column n)

pub own-columns : (vs : List Variable) → Agrees (column_in vs) vs
unfolding column_in column_at
own-columns vs n = go (find_variable n vs)
  where
    go : (t : Option Variable) → AgreesAt t (column_at t)
    go none = tt
    go (some v) = refl

pub agrees_back : (column : ℕ → ℕ) (vs us : List Variable) → StaysAll vs us → Agrees column us → Agrees column vs
agrees_back column vs us s a n = go (find_variable n vs) (find_variable n us) (s n) (a n)
  where
    go : (t u : Option Variable) → Stays t u → AgreesAt u (column n) → AgreesAt t (column n)
    go none u s a = tt
    go (some v) none s a = absurd s
    go (some v) (some x) s a = ap (λ (y : Symbol). y.id) s ∙ a

-- a known variable stays known
pub stays-known : (vs us : List Variable) → StaysAll vs us → (n : ℕ) → find_variable n vs ≢ none → find_variable n us ≢ none
stays-known vs us s n h e = go (find_variable n vs) refl (subst (Stays (find_variable n vs)) e (s n))
  where
    go : (t : Option Variable) → find_variable n vs ≡ t → Stays t none → ⊥
    go none q x = h q
    go (some v) q x = x
