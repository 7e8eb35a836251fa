-- What is read from a pack: the terms that went into it, whether all are finite, and that there were more than sixteen.
-- Assumes nothing.
use Rattle.std.specs.Prelude.{ℕ, zero, suc, ◌+◌, ◌≤◌, ◌<◌, ◌≡◌, Bool, true, false, ◌&&◌, List, [], ◌∷◌, ◌++◌, eqb, ltb, length, set}
use Rattle.std.proofs.Math.Path.{refl}
use Rattle.std.proofs.Common.{sym, ap, ◌∙◌, append_assoc, append-nil, add-zero, zero-add, arith, length-set, get_or-set_same, get_or-set_other, lt-ltb, le-ltb, le-leb, ltb-true, ltb-false, eq-eqb, ne_eqb}
use Rattle.std.specs.Float.{nan}
use Rattle.steps.specs.Number.{is_finite}
use Rattle.steps.specs.State as steps
use Rattle.steps.specs.Tests.{finite_terms}
use Rattle.laws.specs.Lists.{tab, list_of, tab-ext}
use Rattle.layout.specs.Copy.{most16}
use Rattle.layout.specs.Layout.{term_room}
use Rattle.changes.specs.declared.terms.Term.{Term}
use Rattle.changes.specs.declared.terms.Pack.{Pack}
use Rattle.changes.specs.terms.Terms.{no_pack, pushed, pack_from, pack_of, term_of, terms_in, term_in, terms_of}

-- what the arrays' type says
abbrev pub Sized : Pack → Type 0
Sized p = (length p.vars ≡ term_room) × (length p.coefs ≡ term_room)

-- ---- one term more

module _ (p : Pack) (t : Term) where
  abbrev with : Pack
  with = record { count = p.count + 1; finite = p.finite && is_finite t.coefficient; vars = set p.vars p.count t.variable; coefs = set p.coefs p.count t.coefficient }

  pub pushed_room : p.count < term_room → pushed p t ≡ with
  unfolding pushed
  pushed_room h = rw (lt-ltb p.count term_room h) refl

  pub pushed-full : term_room ≤ p.count → pushed p t ≡ record { count = 17; finite = p.finite && is_finite t.coefficient; vars = p.vars; coefs = p.coefs }
  unfolding pushed
  pushed-full h = rw (le-ltb p.count term_room h) refl

  pub pushed-finite : (pushed p t).finite ≡ p.finite && is_finite t.coefficient
  pushed-finite = go (ltb p.count term_room) refl
    where
      go : (b : Bool) → ltb p.count term_room ≡ b → (pushed p t).finite ≡ p.finite && is_finite t.coefficient
      go true e = ap (λ (q : Pack). q.finite) (pushed_room (ltb-true _ _ e))
      go false e = ap (λ (q : Pack). q.finite) (pushed-full (ltb-false _ _ e))

  pub pushed-sized : Sized p → Sized (pushed p t)
  pushed-sized s = go (ltb p.count term_room) refl
    where
      go : (b : Bool) → ltb p.count term_room ≡ b → Sized (pushed p t)
      go true e = rw (pushed_room (ltb-true _ _ e)) (length-set p.vars p.count t.variable ∙ s.0, length-set p.coefs p.count t.coefficient ∙ s.1)
      go false e = rw (pushed-full (ltb-false _ _ e)) s

pub none-sized : Sized no_pack
unfolding no_pack
none-sized = (refl, refl)

-- ---- finite

pub and-true : (a : Bool) → a && true ≡ a
and-true true = refl
and-true false = refl

and_assoc : (a b c : Bool) → (a && b) && c ≡ a && (b && c)
and_assoc true b c = refl
and_assoc false b c = refl

finite-from : (p : Pack) (ts : List Term) → (pack_from p ts).finite ≡ p.finite && finite_terms (terms_in ts)
unfolding pack_from terms_in term_of finite_terms
finite-from p [] = sym (and-true p.finite)
finite-from p (t ∷ ts) = finite-from (pushed p t) ts ∙ ap (λ (b : Bool). b && finite_terms (terms_in ts)) (pushed-finite p t) ∙ and_assoc p.finite (is_finite t.coefficient) (finite_terms (terms_in ts))

-- refusal 1 looks at every coefficient
pub pack-finite : (ts : List Term) → (pack_of ts).finite ≡ finite_terms (terms_in ts)
unfolding pack_of no_pack
pack-finite ts = finite-from no_pack ts

-- ---- how many

count-few : (p : Pack) (ts : List Term) → p.count + length ts ≤ term_room → (pack_from p ts).count ≡ p.count + length ts
unfolding pack_from
count-few p [] h = sym (add-zero p.count)
count-few p (t ∷ ts) h =
    let e : (pushed p t).count ≡ p.count + 1 = ap (λ (q : Pack). q.count) (pushed_room p t (omega arith)) in
    let r = count-few (pushed p t) ts (rw e (omega arith)) in
    omega (arith, e, r)

count-many : (p : Pack) (ts : List Term) → p.count ≤ 17 → term_room < p.count + length ts → (pack_from p ts).count ≡ 17
unfolding pack_from
count-many p [] h k = omega arith
count-many p (t ∷ ts) h k = go (ltb p.count term_room) refl (count-many (pushed p t) ts)
  where
    go : (b : Bool) → ltb p.count term_room ≡ b → ((pushed p t).count ≤ 17 → term_room < (pushed p t).count + length ts → (pack_from (pushed p t) ts).count ≡ 17) → (pack_from (pushed p t) ts).count ≡ 17
    go true e next =
        let l = ltb-true p.count term_room e in
        let c : (pushed p t).count ≡ p.count + 1 = ap (λ (q : Pack). q.count) (pushed_room p t l) in
        next (omega (arith, c)) (omega (arith, c))
    go false e next =
        let l = ltb-false p.count term_room e in
        let c : (pushed p t).count ≡ 17 = ap (λ (q : Pack). q.count) (pushed-full p t l) in
        next (omega (arith, c)) (omega (arith, c))

pub length-terms : (ts : List Term) → length (terms_in ts) ≡ length ts
unfolding terms_in
length-terms [] = refl
length-terms (t ∷ ts) = ap suc (length-terms ts)

pub pack-few : (ts : List Term) → length ts ≤ term_room → (pack_of ts).count ≡ length ts
unfolding pack_of no_pack
pack-few ts h = count-few no_pack ts (omega arith) ∙ zero-add (length ts)

-- 3: "more than 16 terms"
pub pack-many : (ts : List Term) → ltb term_room (length (terms_in ts)) ≡ eqb (pack_of ts).count 17
unfolding pack_of no_pack
pack-many ts = rw (length-terms ts) (go (ltb term_room (length ts)) refl)
  where
    go : (b : Bool) → ltb term_room (length ts) ≡ b → b ≡ eqb (pack_of ts).count 17
    go true e = sym (eq-eqb _ 17 (count-many no_pack ts (omega arith) (let l = ltb-true term_room (length ts) e in omega arith)))
    go false e =
        let l = ltb-false term_room (length ts) e in
        let c = pack-few ts l in
        sym (ne_eqb (pack_of ts).count 17 λ q. absurd (omega (arith, c, q, l)))

-- ---- which

pub most-few : (n : ℕ) → n ≤ term_room → most16 n ≡ n
unfolding most16
most-few n h = rw (le-leb n term_room h) refl

tab-snoc : (g : ℕ → steps.Term) (i n : ℕ) → tab g i (suc n) ≡ tab g i n ++ (g (i + n) ∷ [])
unfolding tab
tab-snoc g i zero = rw (add-zero i) refl
tab-snoc g i (suc n) =
    let e : suc i + n ≡ i + suc n = omega arith in
    ap (λ (r : List steps.Term). g i ∷ r) (tab-snoc g (suc i) n ∙ ap (λ (j : ℕ). tab g (suc i) n ++ (g j ∷ [])) e)

terms-with : (p : Pack) (t : Term) → p.count < term_room → Sized p → terms_of (with p t) ≡ terms_of p ++ (term_of t ∷ [])
unfolding terms_of list_of term_in term_of
terms-with p t h s =
    let n : ℕ = p.count in
    let e : n + 1 ≡ suc n = omega arith in
    let z : 0 + n ≡ n = zero-add n in
    let g : ℕ → steps.Term = λ j. term_of (term_in (with p t) j) in
    let before : tab g 0 n ≡ tab (λ j. term_of (term_in p j)) 0 n = tab-ext g (λ j. term_of (term_in p j)) 0 n λ j a b.
    let apart : j ≡ n → ⊥ = λ q. absurd (omega arith) in
    rw (get_or-set_other p.vars n j t.variable 0 apart, get_or-set_other p.coefs n j t.coefficient nan apart) refl in
    let here : g n ≡ term_of t = rw (get_or-set_same p.vars n t.variable 0 (omega arith), get_or-set_same p.coefs n t.coefficient nan (omega arith)) refl in
    rw (most-few (n + 1) (omega arith), most-few n (omega arith), e)
    (tab-snoc g 0 n ∙ rw z (ap (λ (l : List steps.Term). l ++ (g n ∷ [])) before ∙ ap (λ (x : steps.Term). tab (λ j. term_of (term_in p j)) 0 n ++ (x ∷ [])) here))

pub terms-pushed : (p : Pack) (t : Term) → p.count < term_room → Sized p → terms_of (pushed p t) ≡ terms_of p ++ (term_of t ∷ [])
terms-pushed p t h s = rw (pushed_room p t h) (terms-with p t h s)

terms-from : (p : Pack) (ts : List Term) → p.count + length ts ≤ term_room → Sized p → terms_of (pack_from p ts) ≡ terms_of p ++ terms_in ts
unfolding pack_from terms_in
terms-from p [] h s = sym (append-nil (terms_of p))
terms-from p (t ∷ ts) h s =
    let e : (pushed p t).count ≡ p.count + 1 = ap (λ (q : Pack). q.count) (pushed_room p t (omega arith)) in
    terms-from (pushed p t) ts (omega (arith, e)) (pushed-sized p t s)
    ∙ ap (λ (l : List steps.Term). l ++ terms_in ts) (terms-pushed p t (omega arith) s)
    ∙ append_assoc (terms_of p) (term_of t ∷ []) (terms_in ts)

pub few-none : (n : ℕ) → n ≤ term_room → no_pack.count + n ≤ term_room
unfolding no_pack
few-none n h = omega arith

pub none-terms : terms_of no_pack ≡ []
unfolding terms_of no_pack list_of tab
none-terms = rw (most-few 0 (omega arith)) refl

-- a list of at most 16 terms is what its pack reads as
pub pack-terms : (ts : List Term) → length ts ≤ term_room → terms_of (pack_of ts) ≡ terms_in ts
unfolding pack_of
pack-terms ts h = terms-from no_pack ts (few-none (length ts) h) none-sized ∙ ap (λ (l : List steps.Term). l ++ terms_in ts) none-terms
