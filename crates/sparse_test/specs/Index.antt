-- The table that tells which variable's symbol stands at a place.
-- Assumes nothing.
use Rattle.std.specs.Prelude.{ℕ, zero, suc, ◌+◌, ◌-◌, ◌≤◌, ◌<◌, ◌≡◌, Bool, true, false, cond, List, ltb, length, get_or, set, replicate}
use Rattle.std.proofs.Math.Path.{refl}
use Rattle.std.proofs.Common.{sym, ap, ◌∙◌, arith, length-set, get_or-set_same, get_or-set_other, eqb-true, eq-eqb, ne_eqb, lt-ltb, le-ltb}
use Rattle.std.proofs.Math.Dec.{eqb}
use Rattle.std.proofs.lemmas.Bool.{eqb-false}
use Rattle.laws.specs.Loops.{seek, first}
use Rattle.layout.specs.cells.Seek.{first-none}
use Rattle.layout.specs.cells.Names.{place_room}
use Rattle.rows.specs.places.Finding.{place_in}
use Rattle.sparse.specs.Places.{variable_places_at, most_variables}
use Rattle.sparse_test.specs.Tested.{index_in}

-- what a table's entry means: one of v, or v
unfoldable pub near : ℕ → ℕ → ℕ
near v x = cond (ltb x v) x v

-- the first variable from i up to v whose symbol stands at place p, or v
unfoldable pub index_from : List ℕ → ℕ → ℕ → ℕ → ℕ
index_from b v i p = first (λ j. eqb p (get_or b (variable_places_at + j) 0)) (λ j. j) v i v

pub record IndexedFrom (index b : List ℕ) (v i : ℕ) : Type 0 where
  pub long : length index ≡ place_room
  pub tells : (p : ℕ) → p ≤ 255 → near v (get_or index p 0) ≡ index_from b v i p

abbrev pub Indexed : List ℕ → List ℕ → ℕ → Type 0
Indexed index b v = IndexedFrom index b v 0

filled : (n p x : ℕ) → p < n → ◌≡◌ {A = ℕ} (get_or (replicate n x) p 0) x
filled zero p x h = absurd (omega (arith, h))
filled (suc n) zero x h = refl
filled (suc n) (suc p) x h = filled n p x (omega (arith, h))

pub index-none : (b : List ℕ) (v : ℕ) {l : List ℕ} → v ≤ most_variables → l ≡ replicate place_room 255 → IndexedFrom l b v v
index-none b v {l} h e = record { long = ap length e; tells = λ p q. ap (λ (m : List ℕ). near v (get_or m p 0)) e ∙ rw (filled place_room p 255 (omega (arith, q))) (none p) }
  where
    none : (p : ℕ) → near v 255 ≡ index_from b v v p
    none p = unfold near index_from in rw (le-ltb 255 v (omega (arith, h))) (sym (first-none (λ j. eqb p (get_or b (variable_places_at + j) 0)) (λ j. j) v v v (omega arith) λ j x y. absurd (omega (arith, x, y))))

-- what is found from i on: i, or what is found after it
index-next : (b : List ℕ) (v i p : ℕ) → i < v → index_from b v i p ≡ cond (eqb p (get_or b (variable_places_at + i) 0)) i (index_from b v (suc i) p)
unfolding index_from first
index-next b v i p h =
    let o : v - i ≡ suc (v - suc i) = omega (arith, h) in
    unfold seek in rw o refl

pub index-more : (b : List ℕ) (v i : ℕ) {l : List ℕ} {w : ℕ} → i < v → IndexedFrom l b v (suc i) → w ≡ get_or b (variable_places_at + i) 0 → w ≤ 255 → IndexedFrom (set l w i) b v i
index-more b v i {l} {w} h f e g = record { long = length-set l w i ∙ f.long; tells = λ p q. go p q (eqb p w) refl ∙ sym (index-next b v i p h) }
  where
    own : near v i ≡ i
    own = unfold near in rw (lt-ltb i v h) refl

    go : (p : ℕ) → p ≤ 255 → (c : Bool) → eqb p w ≡ c → near v (get_or (set l w i) p 0) ≡ cond (eqb p (get_or b (variable_places_at + i) 0)) i (index_from b v (suc i) p)
    go p q true c =
        let o : p ≡ w = eqb-true p w c in
        let x : get_or (set l w i) p 0 ≡ i = rw o (get_or-set_same l w i 0 (omega (arith, f.long, g))) in
        let y : eqb p (get_or b (variable_places_at + i) 0) ≡ true = eq-eqb p (get_or b (variable_places_at + i) 0) (o ∙ e) in
        rw (x, y) own
    go p q false c =
        let d : p ≡ w → ⊥ = eqb-false p w c in
        let x : get_or (set l w i) p 0 ≡ get_or l p 0 = get_or-set_other l w p i 0 d in
        let y : eqb p (get_or b (variable_places_at + i) 0) ≡ false = ne_eqb p (get_or b (variable_places_at + i) 0) (λ r. d (r ∙ sym e)) in
        rw (x, y) (f.tells p q)

pub index-tells : (index b : List ℕ) (v : ℕ) → Indexed index b v → (p : ℕ) → p ≤ 255 → near v (get_or index p 0) ≡ index_in b v p
unfolding index_in place_in index_from
index-tells index b v f p h = f.tells p h
