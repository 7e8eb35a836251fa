-- The shape of a tableau that reads: live symbols ascend below the next id, rows are of live symbols and ascend, no row holds a basic symbol, numbers are finite while every write was. Small changes keep it. Assumes nothing.
use Rattle.std.specs.Prelude.{◌≡◌, refl, ◌≢◌, List, [], ◌∷◌, ◌++◌, map, Bool, true, false, ℕ, suc, ◌+◌, ◌≤◌, ◌<◌, eqb, Float}
use Rattle.std.proofs.Common.{sym, ap, ◌∙◌, subst, inl, inr, arith}
use Rattle.std.proofs.Math.Option.{Option, none, some}
use Rattle.steps.specs.Number.{zero64, Mark, worse}
use Rattle.steps.specs.Symbol.{Symbol, is_symbol, delete_cell, delete_symbol}
use Rattle.steps.specs.Row.{Row, append_cell}
use Rattle.steps.specs.State.{Basic}
use Rattle.steps.specs.Work.{Work, drop_row, keep_row}
use Rattle.keeps.specs.Lists.{All, all-to, all-zip, all_append, Same?, is, isnt, same, same?, times, Up, up_from}
use Rattle.keeps.specs.Keys.{row_id, drop_by, drop_all, drop-up, drop-times, drop-gone, drop_row-is, keep_by, keep_all, keep-up, keep-times, keep_row-is, none_has}
use Rattle.keeps.specs.Along.{Along, ids, Mem, along-append, along-delete}
use Rattle.keeps.specs.Cells.{Ok, Fine, fine-l, ok-zero, ok-to}
use Rattle.keeps.specs.RowOps.{RowOk, row-to, append-ok}

abbrev pub bids : List Basic → List ℕ
bids bs = map row_id bs

-- i is basic
abbrev pub IsBasic : List Basic → ℕ → Type 0
IsBasic bs i = 1 ≤ times i (bids bs)

abbrev pub ArtOk : (ℕ → Type 0) → Type 0 → List Symbol → Option Row → Type 0
ArtOk B G xs none = Unit
ArtOk B G xs (some r) = RowOk B G xs r

pub art-to : (B C : ℕ → Type 0) (G H : Type 0) → ((i : ℕ) → C i → B i) → (H → G) → (xs : List Symbol) (a : Option Row) → ArtOk B G xs a → ArtOk C H xs a
art-to B C G H b g xs none h = tt
art-to B C G H b g xs (some r) h = row-to B C G H b g xs r h

pub record Fits (xs : List Symbol) (next : ℕ) (bs : List Basic) (os : List Float) (a : Option Row) (m : Mark) : Type 0 where
  pub up : Up 1 (ids xs)
  pub pos : 1 ≤ next
  pub under : All (λ (x : Symbol). x.id < next) xs
  pub rows-up : Up 0 (bids bs)
  pub live : All (λ (b : Basic). Mem b.symbol xs) bs
  pub rows : All (λ (b : Basic). RowOk (IsBasic bs) (Fine m) xs b.row) bs
  pub objective : Along (Ok (IsBasic bs) (Fine m)) xs os
  pub artificial : ArtOk (IsBasic bs) (Fine m) xs a

abbrev pub FitsW : Work → Type 0
FitsW w = Fits w.tableau.symbols w.tableau.next_id w.tableau.rows w.tableau.objective w.artificial w.mark

-- ---- fewer basic symbols, a worse mark, no artificial objective

module _ {xs : List Symbol} {next : ℕ} {bs : List Basic} {os : List Float} {a : Option Row} {m : Mark} (f : Fits xs next bs os a m) where
  pub fits-mark : (n : Mark) → (Fine n → Fine m) → Fits xs next bs os a n
  fits-mark n g =
      record {
        up = f.up;
        pos = f.pos;
        under = f.under;
        rows-up = f.rows-up;
        live = f.live;
        rows = all-to _ _ (λ b h. row-to (IsBasic bs) (IsBasic bs) (Fine m) (Fine n) (λ i p. p) g xs b.row h) bs f.rows;
        objective = ok-to (IsBasic bs) (IsBasic bs) (Fine m) (Fine n) (λ i p. p) g xs os f.objective;
        artificial = art-to (IsBasic bs) (IsBasic bs) (Fine m) (Fine n) (λ i p. p) g xs a f.artificial;
      }

  pub fits-worse : (n : Mark) → Fits xs next bs os a (worse m n)
  fits-worse n = fits-mark (worse m n) (fine-l m n)

  pub fits-plain : Fits xs next bs os none m
  fits-plain =
      record { up = f.up; pos = f.pos; under = f.under; rows-up = f.rows-up; live = f.live; rows = f.rows; objective = f.objective; artificial = tt }

  pub fits-drop : (l : ℕ) → Fits xs next (drop_row l bs) os a m
  fits-drop l =
      rw drop_row-is (record {
        up = f.up;
        pos = f.pos;
        under = f.under;
        rows-up = drop-up row_id 0 l bs f.rows-up;
        live = drop_all row_id _ l bs f.live;
        rows = drop_all row_id _ l bs (all-to _ _ (λ b h. row-to (IsBasic bs) fewer (Fine m) (Fine m) less (λ p. p) xs b.row h) bs f.rows);
        objective = ok-to (IsBasic bs) fewer (Fine m) (Fine m) less (λ p. p) xs os f.objective;
        artificial = art-to (IsBasic bs) fewer (Fine m) (Fine m) less (λ p. p) xs a f.artificial;
      })
    where
      fewer : ℕ → Type 0
      fewer = IsBasic (drop_by row_id l bs)

      less : (i : ℕ) → fewer i → IsBasic bs i
      less i p = omega (arith, p, drop-times row_id i l bs)

-- ---- rows changed in place

pub all_map : {A B : Type 0} (g : A → B) (P : B → Type 0) (xs : List A) → All (λ (x : A). P (g x)) xs → All P (map g xs)
all_map g P [] h = tt
all_map g P (x ∷ xs) h = (h.0, all_map g P xs h.1)

abbrev pub rerow : (Row → Row) → List Basic → List Basic
rerow g bs = map (λ (b : Basic). record { symbol = b.symbol; row = g b.row }) bs

pub bids-rerow : (g : Row → Row) (bs : List Basic) → bids (rerow g bs) ≡ bids bs
bids-rerow g [] = refl
bids-rerow g (b ∷ bs) = ap (λ (z : List ℕ). row_id b ∷ z) (bids-rerow g bs)

-- ---- a symbol more

pub under_up : (i n : ℕ) (xs : List Symbol) (s : Symbol) → All (λ (x : Symbol). x.id < n) xs → i ≤ n → n ≤ s.id → Up i (ids xs) → Up i (ids (xs ++ (s ∷ [])))
under_up i n [] s h l k u = (omega arith, tt)
under_up i n (x ∷ xs) s h l k u = (u.0, under_up (suc x.id) n xs s h.1 h.0 k u.1)

pub mem-append : (s : Symbol) (xs ys : List Symbol) → Mem s xs → Mem s (xs ++ ys)
mem-append s [] ys h = absurd h
mem-append s (x ∷ xs) ys (inl e) = inl e
mem-append s (x ∷ xs) ys (inr h) = inr (mem-append s xs ys h)

pub mem-last : (s : Symbol) (xs : List Symbol) → Mem s (xs ++ (s ∷ []))
mem-last s [] = inl refl
mem-last s (x ∷ xs) = inr (mem-last s xs)

pub fits-append : (s : Symbol) (xs : List Symbol) (next : ℕ) (bs : List Basic) (os : List Float) (m : Mark) → s.id ≡ next → Fits xs next bs os none m
    → Fits (xs ++ (s ∷ [])) (suc next) (rerow append_cell bs) (os ++ (zero64 ∷ [])) none m
fits-append s xs next bs os m e f =
    record {
      up = under_up 1 next xs s f.under f.pos (omega arith) f.up;
      pos = omega arith;
      under = all_append (λ (x : Symbol). x.id < suc next) xs (s ∷ []) (all-to _ _ (λ x h. omega (arith, h)) xs f.under) (omega arith, tt);
      rows-up = rw bids-rerow f.rows-up;
      live = all_map _ _ bs (all-to _ _ (λ b h. mem-append b.symbol xs (s ∷ []) h) bs f.live);
      rows =
          all_map _ _ bs
          (all-to _ _ (λ b h. append-ok now (Fine m) xs s b.row (row-to (IsBasic bs) now (Fine m) (Fine m) before (λ p. p) xs b.row h)) bs f.rows);
      objective =
          along-append (Ok now (Fine m)) xs os s zero64 (ok-to (IsBasic bs) now (Fine m) (Fine m) before (λ p. p) xs os f.objective)
          (ok-zero now (Fine m) s.id);
      artificial = tt;
    }
  where
    now : ℕ → Type 0
    now = IsBasic (rerow append_cell bs)

    before : (i : ℕ) → now i → IsBasic bs i
    before i p = rw bids-rerow at p

-- a symbol that isn't yet there isn't basic
pub fresh-row : (xs : List Symbol) (next : ℕ) → All (λ (x : Symbol). x.id < next) xs → (bs : List Basic) → All (λ (b : Basic). Mem b.symbol xs) bs
    → times next (bids bs) ≡ 0
unfolding times
fresh-row xs next u [] h = refl
fresh-row xs next u (b ∷ bs) h = go (same? next (row_id b)) (fresh-row xs next u bs h.1)
  where
    small : (xs : List Symbol) → All (λ (x : Symbol). x.id < next) xs → Mem b.symbol xs → row_id b < next
    small [] u m = absurd m
    small (x ∷ xs) u (inl e) = subst (λ (s : Symbol). s.id < next) (sym e) u.0
    small (x ∷ xs) u (inr m) = small xs u.1 m

    go : Same? next (row_id b) → times next (bids bs) ≡ 0 → same next (row_id b) + times next (bids bs) ≡ 0
    go (is p q r) ih = absurd (omega (arith, small xs u h.0))
    go (isnt p q r) ih = omega arith

-- ---- a symbol less

pub delete-all : (P : Symbol → Type 0) (s : ℕ) (xs : List Symbol) → All P xs → All P (delete_symbol s xs)
unfolding delete_symbol
delete-all P s [] h = tt
delete-all P s (x ∷ xs) h = go (is_symbol s x) (delete-all P s xs h.1)
  where
    go : (t : Bool) → All P (delete_symbol s xs) → All P (elim t [ true ↦ xs | false ↦ x ∷ delete_symbol s xs ])
    go true ih = h.1
    go false ih = (h.0, ih)

delete-up : (s i : ℕ) (xs : List Symbol) → Up i (ids xs) → Up i (ids (delete_symbol s xs))
unfolding delete_symbol
delete-up s i [] u = tt
delete-up s i (x ∷ xs) u = go (is_symbol s x) (delete-up s (suc x.id) xs u.1)
  where
    go : (t : Bool) → Up (suc x.id) (ids (delete_symbol s xs)) → Up i (ids (elim t [ true ↦ xs | false ↦ x ∷ delete_symbol s xs ]))
    go true ih = up_from i (suc x.id) (ids xs) (omega (arith, u.0)) u.1
    go false ih = (u.0, ih)

pub delete-mem : (s : ℕ) (x : Symbol) (xs : List Symbol) → s ≢ x.id → Mem x xs → Mem x (delete_symbol s xs)
unfolding delete_symbol is_symbol
delete-mem s x [] n h = absurd h
delete-mem s x (y ∷ xs) n h = go (same? s y.id) h (delete-mem s x xs n)
  where
    go : Same? s y.id → Mem x (y ∷ xs) → (Mem x xs → Mem x (delete_symbol s xs)) → Mem x (elim (eqb s y.id) [ true ↦ xs | false ↦ y ∷ delete_symbol s xs ])
    go (is a b c) (inl e) ih = absurd (n (b ∙ ap (λ (z : Symbol). z.id) (sym e)))
    go (is a b c) (inr h) ih = rw a h
    go (isnt a b c) (inl e) ih = rw a (inl e)
    go (isnt a b c) (inr h) ih = rw a (inr (ih h))

pub fits-purge : (s : ℕ) (xs : List Symbol) (next : ℕ) (bs : List Basic) (os : List Float) (m : Mark) → Fits xs next bs os none m
    → Fits (delete_symbol s xs) next (rerow (λ r. record { constant = r.constant; cells = delete_cell s xs r.cells }) (drop_row s bs)) (delete_cell s xs os) none m
fits-purge s xs next bs os m f =
    record {
      up = delete-up s 1 xs f.up;
      pos = f.pos;
      under = delete-all _ s xs f.under;
      rows-up = rw bids-rerow g.rows-up;
      live =
          all_map _ _ left (all-zip (λ (b : Basic). Mem b.symbol xs) (λ (b : Basic). s ≢ row_id b) _ (λ b h n. delete-mem s b.symbol xs n h) left
          g.live others);
      rows =
          all_map _ _ left
          (all-to _ _ (λ b h. (
            h.0,
            along-delete (Ok now (Fine m)) s xs b.row.cells
                (ok-to (IsBasic left) now (Fine m) (Fine m) before (λ p. p) xs b.row.cells h.1),
          )) left g.rows);
      objective = along-delete (Ok now (Fine m)) s xs os (ok-to (IsBasic left) now (Fine m) (Fine m) before (λ p. p) xs os g.objective);
      artificial = tt;
    }
  where
    left : List Basic
    left = drop_row s bs

    g : Fits xs next left os none m
    g = fits-drop f s

    now : ℕ → Type 0
    now = IsBasic (rerow (λ r. record { constant = r.constant; cells = delete_cell s xs r.cells }) left)

    before : (i : ℕ) → now i → IsBasic left i
    before i p = rw bids-rerow at p

    others : All (λ (b : Basic). s ≢ row_id b) left
    others = none_has row_id s left (rw drop_row-is (drop-gone row_id 0 s bs f.rows-up))

-- ---- a row more
pub fits-keep : (s : Symbol) (r : Row) (xs : List Symbol) (next : ℕ) (bs : List Basic) (os : List Float) (a : Option Row) (m : Mark) → Mem s xs
    → times s.id (bids bs) ≡ 0
    → Up 1 (ids xs) → 1 ≤ next → All (λ (x : Symbol). x.id < next) xs → Up 0 (bids bs) → All (λ (b : Basic). Mem b.symbol xs) bs
    → (C : ℕ → Type 0) → ((i : ℕ) → 1 ≤ same i s.id + times i (bids bs) → C i)
    → RowOk C (Fine m) xs r → All (λ (b : Basic). RowOk C (Fine m) xs b.row) bs → Along (Ok C (Fine m)) xs os → ArtOk C (Fine m) xs a
    → Fits xs next (keep_row (record { symbol = s; row = r }) bs) os a m
fits-keep s r xs next bs os a m l z u p n v w C c mine h o t =
    rw keep_row-is (record {
      up = u;
      pos = p;
      under = n;
      rows-up = keep-up row_id 0 new bs (omega arith) z v;
      live = keep_all row_id _ new bs l w;
      rows =
          keep_all row_id _ new bs (row-to C now (Fine m) (Fine m) to (λ p. p) xs r mine)
          (all-to _ _ (λ b h. row-to C now (Fine m) (Fine m) to (λ p. p) xs b.row h) bs h);
      objective = ok-to C now (Fine m) (Fine m) to (λ p. p) xs os o;
      artificial = art-to C now (Fine m) (Fine m) to (λ p. p) xs a t;
    })
  where
    new : Basic
    new = record { symbol = s; row = r }

    now : ℕ → Type 0
    now = IsBasic (keep_by row_id new bs)

    to : (i : ℕ) → now i → C i
    to i p = c i (rw keep-times at p)
