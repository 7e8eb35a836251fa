-- The table of codes: filled, and then what tells at which places a cell may stand.
-- Assumes nothing.
use Rattle.std.specs.Prelude.{ℕ, zero, suc, ◌+◌, ◌%◌, ◌≤◌, ◌<◌, ◌≡◌, Bool, not, ◌&&◌, ◌||◌, List, eqb, length, get_or, set, replicate}
use Rattle.std.proofs.Math.Path.{refl}
use Rattle.std.proofs.Common.{sym, ap, ◌∙◌, add-zero, arith, length-set, get_or-set_same, get_or-set_other, ext_get_or, eqb-true, eq-eqb, ne_eqb, leb-true, le-leb}
use Rattle.std.proofs.Math.Bool.{true, false}
use Rattle.std.proofs.Math.Dec.{leb}
use Rattle.std.proofs.lemmas.List.{get_or-replicate}
use Rattle.std.proofs.lemmas.Bool.{eqb-false}
use Rattle.laws.specs.Lists.{tab, list_of, all_in}
use Rattle.layout.proofs.Copied.{length-list_of, get_or-list_of}
use Rattle.steps.specs.Tests.{member}
use Rattle.layout.specs.cells.Names.{row_span, last_place, place_room}
use Rattle.rows.specs.places.Listed.{same}
use Rattle.sparse.specs.Places.{row_places_at}
use Rattle.sparse.specs.Sparse.{Sparse, symbol_count, variable_count, constraint_count, edit_count}
use Rattle.sparse_test.specs.Tested.{kind_at, code_of, code_at, codes, claimed, owned_fit, open_at, open_in}
use Rattle.sparse_test.specs.Records.{all-ext}
use Rattle.sparse_test.specs.Kept.{claimed-at, claimed-long}

-- the places 1 to k are open, which is code 0, but for those of the first r rows
pub record Opened (table b : List ℕ) (k r : ℕ) : Type 0 where
  pub long : length table ≡ place_room
  pub tells : (p : ℕ) → p ≤ 255 → eqb (get_or table p 0) 0 ≡ open_at b k r p

unfoldable pub open_by : List ℕ → List ℕ → ℕ → Bool
open_by keys table n = all_in (λ j. eqb (get_or table (get_or keys j 0 % row_span) 0) 0) 0 n

pub open_by_lem : (keys table b : List ℕ) (n k r : ℕ) → Opened table b k r → open_by keys table n ≡ open_in keys b n k r
unfolding open_by open_in
open_by_lem keys table b n k r f = all-ext _ _ 0 n λ j u v. f.tells (get_or keys j 0 % row_span) (omega arith)

-- ---- filling

pub record CodedTo (table b : List ℕ) (q : ℕ) : Type 0 where
  pub long : length table ≡ place_room
  pub tells : (p : ℕ) → p ≤ 255 → get_or table p 0 ≡ code_at b q p

within : (p q : ℕ) → (1 ≤ p → p ≤ q → ⊥) → (leb 1 p && leb p q) ≡ false
within p q f = go (leb 1 p) refl (leb p q) refl
  where
    go : (x : Bool) → leb 1 p ≡ x → (y : Bool) → leb p q ≡ y → (x && y) ≡ false
    go true a true b = absurd (f (leb-true 1 p a) (leb-true p q b))
    go true a false b = refl
    go false a y b = refl

pub none-coded : (b : List ℕ) {l : List ℕ} → l ≡ replicate place_room 9 → CodedTo l b 0
none-coded b {l} e = record { long = ap length e; tells = λ p h. ap (λ (m : List ℕ). get_or m p 0) e ∙ get_or-replicate place_room p 9 0 (omega (arith, h)) ∙ none p }
  where
    none : (p : ℕ) → 9 ≡ code_at b 0 p
    none p = unfold code_at in rw (within p 0 (λ x y. omega (arith, x, y))) refl

own_code : (b : List ℕ) (q : ℕ) → code_of (kind_at b (q + 1)) ≡ code_at b (q + 1) (q + 1)
unfolding code_at
own_code b q = rw (le-leb 1 (q + 1) (omega arith), le-leb (q + 1) (q + 1) (omega arith)) refl

next-code : (b : List ℕ) (q p : ℕ) → (p ≡ q + 1 → ⊥) → code_at b q p ≡ code_at b (q + 1) p
unfolding code_at
next-code b q p d = rw (same (leb p q) (leb p (q + 1)) (λ e. le-leb p (q + 1) (let x = leb-true p q e in omega (arith, x))) (λ e. le-leb p q (let x = leb-true p (q + 1) e in omega (arith, x, d)))) refl

pub one-coded : (b : List ℕ) (q : ℕ) {l : List ℕ} {x : ℕ} → q < 255 → x ≡ code_of (kind_at b (q + 1)) → CodedTo l b q → CodedTo (set l (q + 1) x) b (q + 1)
one-coded b q {l} {x} h e f = record { long = length-set l (q + 1) x ∙ f.long; tells = λ p k. go p k (eqb p (q + 1)) refl }
  where
    go : (p : ℕ) → p ≤ 255 → (c : Bool) → eqb p (q + 1) ≡ c → get_or (set l (q + 1) x) p 0 ≡ code_at b (q + 1) p
    go p k true c =
        let o : p ≡ q + 1 = eqb-true p (q + 1) c in
        let y : get_or (set l (q + 1) x) p 0 ≡ x = rw o (get_or-set_same l (q + 1) x 0 (omega (arith, f.long, h))) in
        y ∙ e ∙ own_code b q ∙ sym (ap (code_at b (q + 1)) o)
    go p k false c =
        let d : p ≡ q + 1 → ⊥ = eqb-false p (q + 1) c in
        get_or-set_other l (q + 1) p x 0 d ∙ f.tells p k ∙ next-code b q p d

pub all_coded : (b : List ℕ) (k q : ℕ) {l : List ℕ} → k ≤ q → q ≤ k → CodedTo l b q → l ≡ codes b k
unfolding codes
all_coded b k q {l} h i f =
    let o : q ≡ k = omega (arith, h, i) in
    ext_get_or 0 l (list_of place_room (code_at b k)) (f.long ∙ sym (length-list_of place_room (code_at b k))) λ p u. let m = f.long in f.tells p (omega (arith, u, m)) ∙ (rw o (sym (get_or-list_of place_room (code_at b k) p 0 (omega (arith, u, m)))))

-- ---- what is left of the codes is open

pub all-open : (t : Sparse) → symbol_count t ≤ last_place → {x : Bool} → x ≡ owned_fit t.bytes t.reals (symbol_count t) (variable_count t) (constraint_count t) (edit_count t) → x ≡ true → {l : List ℕ} → l ≡ claimed t.bytes (symbol_count t) (variable_count t) (constraint_count t) (edit_count t) → Opened l t.bytes (symbol_count t) 0
all-open t few e h {l} q = record { long = ap length q ∙ claimed-long t; tells = λ p u. ap (λ (l : List ℕ). eqb (get_or l p 0) 0) q ∙ claimed-at t few (sym e ∙ h) p u ∙ last p }
  where
    last : (p : ℕ) → (leb 1 p && leb p (symbol_count t)) ≡ open_at t.bytes (symbol_count t) 0 p
    last p = unfold open_at list_of tab member in shut (leb 1 p && leb p (symbol_count t))
      where
        shut : (x : Bool) → x ≡ x && true
        shut true = refl
        shut false = refl

-- ---- shutting

member-more : (g : ℕ → ℕ) (x i n : ℕ) → member x (tab g i (suc n)) ≡ member x (tab g i n) || eqb x (g (i + n))
unfolding member tab
member-more g x i zero = rw (add-zero i) (swap (eqb x (g i)))
  where
    swap : (b : Bool) → b || false ≡ false || b
    swap true = refl
    swap false = refl
member-more g x i (suc n) =
    let o : suc i + n ≡ i + suc n = omega arith in
    let r : member x (tab g (suc i) (suc n)) ≡ member x (tab g (suc i) n) || eqb x (g (i + suc n)) = rw o at (member-more g x (suc i) n) in
    ap (λ (b : Bool). eqb x (g i) || b) r ∙ assoc (eqb x (g i)) (member x (tab g (suc i) n)) (eqb x (g (i + suc n)))
  where
    assoc : (a b c : Bool) → a || (b || c) ≡ (a || b) || c
    assoc true b c = refl
    assoc false b c = refl

open_next : (b : List ℕ) (k i p : ℕ) → open_at b k (i + 1) p ≡ (open_at b k i p && not (eqb p (get_or b (row_places_at + 1 + i) 0)))
unfolding open_at list_of
open_next b k i p =
    let o : i + 1 ≡ suc i = omega arith in
    let z : 0 + i ≡ i = omega arith in
    let m : member p (tab (λ j. get_or b (row_places_at + 1 + j) 0) 0 (suc i)) ≡ member p (tab (λ j. get_or b (row_places_at + 1 + j) 0) 0 i) || eqb p (get_or b (row_places_at + 1 + i) 0) = rw z at (member-more (λ j. get_or b (row_places_at + 1 + j) 0) p 0 i) in
    rw (o, m) (split (leb 1 p && leb p k) (member p (tab (λ j. get_or b (row_places_at + 1 + j) 0) 0 i)) (eqb p (get_or b (row_places_at + 1 + i) 0)))
  where
    split : (a x y : Bool) → a && not (x || y) ≡ (a && not x) && not y
    split true true y = refl
    split true false y = refl
    split false x y = refl

pub one-shut : (b : List ℕ) (k i : ℕ) {l : List ℕ} {w : ℕ} → Opened l b k i → w ≡ get_or b (row_places_at + 1 + i) 0 → w ≤ 255 → Opened (set l w 9) b k (i + 1)
one-shut b k i {l} {w} f e h = record { long = length-set l w 9 ∙ f.long; tells = λ p q. go p q (eqb p w) refl ∙ sym (open_next b k i p) }
  where
    off : (x : Bool) → false ≡ x && false
    off true = refl
    off false = refl

    stay : (x : Bool) → x ≡ x && true
    stay true = refl
    stay false = refl

    go : (p : ℕ) → p ≤ 255 → (c : Bool) → eqb p w ≡ c → eqb (get_or (set l w 9) p 0) 0 ≡ (open_at b k i p && not (eqb p (get_or b (row_places_at + 1 + i) 0)))
    go p q true c =
        let o : p ≡ w = eqb-true p w c in
        let x : get_or (set l w 9) p 0 ≡ 9 = rw o (get_or-set_same l w 9 0 (omega (arith, f.long, h))) in
        rw (x, eq-eqb p (get_or b (row_places_at + 1 + i) 0) (o ∙ e)) (off (open_at b k i p))
    go p q false c =
        let d : p ≡ w → ⊥ = eqb-false p w c in
        let y : eqb p (get_or b (row_places_at + 1 + i) 0) ≡ false = ne_eqb p (get_or b (row_places_at + 1 + i) 0) (λ r. d (r ∙ sym e)) in
        ap (λ (z : ℕ). eqb z 0) (get_or-set_other l w p 9 0 d) ∙ f.tells p q ∙ rw y (stay (open_at b k i p))
