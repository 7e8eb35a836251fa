-- The list that any pack stands for, one filled by hand too: the pack of it, and that of a list's pack it is the list again.
-- Assumes nothing.
use Rattle.std.specs.Prelude.{ℕ, zero, suc, ◌≤◌, ◌<◌, ◌≡◌, Bool, ◌&&◌, ltb}
use Rattle.std.proofs.Math.Path.{refl, sym, ap}
use Rattle.std.proofs.Common.{◌∙◌, arith}
use Rattle.std.proofs.Math.Bool.{true, false, cond}
use mathlib.Core.List.{List, [], ◌∷◌, ◌++◌, append-nil, map-append}
use Rattle.std.proofs.Math.Nat.{sub-zero}
use Rattle.std.proofs.Math.Dec.{leb}
use Rattle.std.proofs.Math.ListN.{length, length-append}
use Rattle.std.specs.Float.Ieee.{of_bits}
use borrow.Author.Tests.{le-leb, lt-leb, leb-true, leb-false, lt-ltb, ltb-true, ltb-false, eqb-true}
use Rattle.steps.specs.Number.{zero64, is_finite}
use Rattle.steps.specs.State as steps
use Rattle.steps.specs.Tests.{finite_terms}
use Rattle.laws.specs.Loops.{turns, run}
use Rattle.laws.specs.Lists.{tab, list_of, map-tab, length-tab}
use Rattle.layout.specs.Copy.{most16}
use Rattle.layout.specs.Rooms.{both}
use Rattle.layout.specs.Layout.{term_room}
use Rattle.changes.specs.declared.terms.Term.{Term}
use Rattle.changes.specs.declared.terms.Pack.{Pack}
use Rattle.changes.specs.terms.Terms.{no_term, no_pack, pushed, pack_from, pack_of, term_of, terms_in, term_in, terms_of, zero_term, shown_in, past_in, listed}
use Rattle.changes.specs.terms.Packed.{Sized, pushed-full, pushed-finite, pushed-sized, none-sized, none-terms, terms-pushed, and-true, pack-finite, length-terms, pack-few, pack-many, pack-terms}

-- ---- a loop that pushes one term a turn

pub gathered : (g : ℕ → Term) (n i : ℕ) (p : Pack) → turns (λ j q. pushed q (g j)) n i p ≡ pack_from p (tab g i n)
unfolding turns pack_from tab
gathered g zero i p = refl
gathered g (suc n) i p = gathered g n (suc i) (pushed p (g i))

pub shown-again : (p : Pack) {n : ℕ} {q : Pack} → n ≡ most16 p.count → q ≡ no_pack → run (λ j r. pushed r (term_in p j)) 0 n q ≡ pack_of (shown_in p)
unfolding run pack_of shown_in list_of
shown-again p e f = rw (e, f, sub-zero (most16 p.count)) (gathered (term_in p) (most16 p.count) 0 no_pack)

-- ---- the pack of the list: of its terms, and then one term more if need be

pack-more : (p : Pack) (ts : List Term) (t : Term) → pack_from p (ts ++ (t ∷ [])) ≡ pushed (pack_from p ts) t
unfolding pack_from
pack-more p [] t = refl
pack-more p (x ∷ ts) t = pack-more (pushed p x) ts t

module _ (p : Pack) where
  past-none : p.finite ≡ true → p.count ≤ term_room → listed p ≡ shown_in p
  unfolding listed past_in
  past-none f c =
      ap (λ (b : Bool). shown_in p ++ cond b (cond (leb p.count term_room) [] (zero_term ∷ [])) (no_term ∷ [])) f
      ∙ ap (λ (b : Bool). shown_in p ++ cond b [] (zero_term ∷ [])) (le-leb p.count term_room c)
      ∙ append-nil (shown_in p)

  past-zero : p.finite ≡ true → term_room < p.count → listed p ≡ shown_in p ++ (zero_term ∷ [])
  unfolding listed past_in
  past-zero f c = rw (f, lt-leb p.count term_room c) refl

  past-nan : p.finite ≡ false → listed p ≡ shown_in p ++ (no_term ∷ [])
  unfolding listed past_in
  past-nan f = rw f refl

  module _ {q : Pack} (e : q ≡ pack_of (shown_in p)) where
    pub proper-none : p.finite ≡ true → p.count ≤ term_room → q ≡ pack_of (listed p)
    proper-none f c = e ∙ ap pack_of (sym (past-none f c))

    pub proper-zero : p.finite ≡ true → term_room < p.count → pushed q zero_term ≡ pack_of (listed p)
    unfolding pack_of
    proper-zero f c = ap (λ (r : Pack). pushed r zero_term) e ∙ sym (pack-more no_pack (shown_in p) zero_term) ∙ ap pack_of (sym (past-zero f c))

    pub proper-nan : p.finite ≡ false → pushed q no_term ≡ pack_of (listed p)
    unfolding pack_of
    proper-nan f = ap (λ (r : Pack). pushed r no_term) e ∙ sym (pack-more no_pack (shown_in p) no_term) ∙ ap pack_of (sym (past-nan f))

-- ---- as the steps have them

and-false : (a : Bool) → a && false ≡ false
and-false true = refl
and-false false = refl

shown-terms : (p : Pack) → terms_in (shown_in p) ≡ terms_of p
unfolding terms_in shown_in terms_of list_of
shown-terms p = map-tab term_of (term_in p) 0 (most16 p.count)

finite-append : (xs ys : List steps.Term) → finite_terms (xs ++ ys) ≡ finite_terms xs && finite_terms ys
unfolding finite_terms
finite-append [] ys = refl
finite-append (x ∷ xs) ys = go (is_finite x.coefficient) (finite-append xs ys)
  where
    go : (b : Bool) → finite_terms (xs ++ ys) ≡ finite_terms xs && finite_terms ys → b && finite_terms (xs ++ ys) ≡ (b && finite_terms xs) && finite_terms ys
    go true e = e
    go false e = refl

-- ---- the pack of a list that says finite shows finite terms alone

abbrev Sound : Pack → Type 0
Sound p = p.finite ≡ true → finite_terms (terms_of p) ≡ true

most-full : (n : ℕ) → term_room ≤ n → most16 n ≡ term_room
unfolding most16
most-full n h = go (leb n term_room) refl
  where
    go : (b : Bool) → leb n term_room ≡ b → cond b n term_room ≡ term_room
    go true e = let k = leb-true n term_room e in omega (arith, h, k)
    go false e = refl

terms-full : (p : Pack) (t : Term) → term_room ≤ p.count → terms_of (pushed p t) ≡ terms_of p
unfolding terms_of term_in
terms-full p t h = rw (pushed-full p t h, most-full p.count h, most-full 17 (omega arith)) refl

pushed-sound : (p : Pack) (t : Term) → Sized p → Sound p → Sound (pushed p t)
unfolding finite_terms term_of
pushed-sound p t z s f = go (ltb p.count term_room) refl
  where
    finite : (p.finite ≡ true) × (is_finite t.coefficient ≡ true)
    finite = both p.finite (is_finite t.coefficient) (sym (pushed-finite p t) ∙ f)

    go : (b : Bool) → ltb p.count term_room ≡ b → finite_terms (terms_of (pushed p t)) ≡ true
    go true e = rw (terms-pushed p t (ltb-true _ _ e) z, finite-append (terms_of p) (term_of t ∷ []), s finite.0, finite.1) refl
    go false e = rw (terms-full p t (ltb-false _ _ e)) (s finite.0)

sound-from : (p : Pack) (ts : List Term) → Sized p → Sound p → Sound (pack_from p ts)
unfolding pack_from
sound-from p [] z s = s
sound-from p (t ∷ ts) z s = sound-from (pushed p t) ts (pushed-sized p t z) (pushed-sound p t z s)

pack-sound : (ts : List Term) → Sound (pack_of ts)
unfolding pack_of finite_terms
pack-sound ts = sound-from no_pack ts none-sized (λ _. rw none-terms refl)

-- ---- the list of a list's pack

module _ (ts : List Term) where
  abbrev p : Pack
  p = pack_of ts

  with-one : (t : Term) → finite_terms (terms_in (shown_in p ++ (t ∷ []))) ≡ finite_terms (terms_of p) && is_finite t.coefficient
  unfolding terms_in term_of finite_terms
  with-one t =
      ap finite_terms (map-append term_of (shown_in p) (t ∷ []))
      ∙ finite-append (terms_in (shown_in p)) (term_of t ∷ [])
      ∙ ap (λ (l : List steps.Term). finite_terms l && (is_finite t.coefficient && true)) (shown-terms p)
      ∙ ap (λ (b : Bool). finite_terms (terms_of p) && b) (and-true (is_finite t.coefficient))

  listed-is : (b : Bool) → p.finite ≡ b → finite_terms (terms_in (listed p)) ≡ b
  unfolding is_finite zero64 of_bits
  listed-is false f = ap (λ (l : List Term). finite_terms (terms_in l)) (past-nan p f) ∙ with-one no_term ∙ and-false (finite_terms (terms_of p))
  listed-is true f = go (leb p.count term_room) refl
    where
      go : (b : Bool) → leb p.count term_room ≡ b → finite_terms (terms_in (listed p)) ≡ true
      go true e = ap (λ (l : List Term). finite_terms (terms_in l)) (past-none p f (leb-true _ _ e)) ∙ ap finite_terms (shown-terms p) ∙ pack-sound ts f
      go false e = ap (λ (l : List Term). finite_terms (terms_in l)) (past-zero p f (leb-false _ _ e)) ∙ with-one zero_term ∙ rw (pack-sound ts f) refl

  -- all finite or not, as the list
  pub listed-finite : finite_terms (terms_in (listed p)) ≡ finite_terms (terms_in ts)
  listed-finite = listed-is p.finite refl ∙ pack-finite ts

  -- the list itself, where all are finite and there are at most sixteen
  pub listed-few : finite_terms (terms_in ts) ≡ true → length ts ≤ term_room → terms_in (listed p) ≡ terms_in ts
  listed-few f h = ap terms_in (past-none p (pack-finite ts ∙ f) (rw (pack-few ts h) h)) ∙ shown-terms p ∙ pack-terms ts h

  -- more than sixteen, where all are finite and the list has more
  pub listed-many : finite_terms (terms_in ts) ≡ true → term_room < length ts → term_room < length (terms_in (listed p))
  unfolding shown_in list_of
  listed-many f h =
      let c : p.count ≡ 17 = eqb-true p.count 17 (sym (pack-many ts) ∙ lt-ltb term_room (length (terms_in ts)) (rw (length-terms ts) h)) in
      let e = past-zero p (pack-finite ts ∙ f) (rw c (omega arith)) in
      omega (arith, c, length-terms (listed p), ap length e, length-append (shown_in p) (zero_term ∷ []), length-tab (term_in p) 0 (most16 p.count), most-full p.count (rw c (omega arith)))
