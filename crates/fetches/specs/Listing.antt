-- The loop of a fetch over the variables: what it lists is put on the three lists behind the gone ones that come before it, and becomes the old value.
-- Assumes nothing.
use Prim.Native.Nat.{ℕ, zero, suc, ◌+◌, ◌≤◌, ◌<◌}
use Rattle.std.specs.Prelude.{◌≡◌, Bool, ◌&&◌, ◌||◌, eqb, Float, set}
use Rattle.std.proofs.Math.Path.{refl, sym, ap}
use Rattle.std.proofs.Common.{◌∙◌, true≢false, arith}
use Rattle.std.proofs.Math.Bool.{true, false, cond}
use mathlib.Core.List.{List, ◌∷◌, map}
use Rattle.std.proofs.Math.Nat.{sub-zero}
use Rattle.std.proofs.Math.Dec.{ltb}
use Rattle.std.specs.Float.Ieee.{nan, ne}
use Rattle.std.proofs.Math.ListN.{get_or}
use Rattle.std.proofs.Math.Seq.{get_or-set_other}
use borrow.Author.Tests.{ltb-true}
use Rattle.laws.specs.Loops.{turns, run}
use Rattle.laws.specs.Lists.{tab, list_of, tab-ext}
use Rattle.steps.specs.Number.{zero64}
use Rattle.steps.specs.State.{Basic, Variable}
use Rattle.steps.specs.Changes.{Change, member, value_of, is_news, is_listed, news_of, merged, reported}
use Rattle.layout.specs.Layout.{bit_of, over}
use Rattle.layout.specs.Laying.{laid_nil, laid_cons, set_same}
use Rattle.rows.specs.places.Listed.{member-list}
use Rattle.sparse.specs.Places.{most_rows, row_count_at, variable_numbers_at, gone_numbers_at, row_places_at, variable_places_at, changed_at, constants_at, old_values_at}
use Rattle.sparse.specs.Lookup.{place_from}
use Rattle.sparse.specs.Sparse.{Sparse, row_count, variable_count, gone_count, symbol_at, variable_of, gone_of}
use Rattle.sparse_test.specs.Asked.{constant_of}
use Rattle.fetches.specs.declared.listing.Listed as code
use Rattle.fetches.specs.Lists.{Lists, lists, append, fill}
use Rattle.fetches.specs.Telling.{gone_to, tell_gone, rest, gone-to-from, gone-rest, gone-before}

-- the reals, the three lists, and how many of the gone ones are told
pub record Listing : Type 0 where
  pub reals : List Float
  pub lists : Lists
  pub told : ℕ

abbrev pub listing : List Float → Lists → ℕ → Listing
listing r l e = record { reals = r; lists = l; told = e }

-- .. as the code has them
abbrev pub entries : code.Listed → Lists
entries l = lists l.numbers.now l.moved.now l.gone.now l.count

-- no list stands in another's place: what is written through the one is read through the other
abbrev pub SameLists : code.Listed → code.Listed → Type 0
SameLists l m = (l.numbers.ghost_name ≡ m.numbers.ghost_name) × (l.moved.ghost_name ≡ m.moved.ghost_name) × (l.gone.ghost_name ≡ m.gone.ghost_name)

-- what three references lend ends as what the same three lists hold
pub given-back : (P : Lists → Type 0) {n g : List ℕ} {v : List Float} (l : code.Listed) → n ≡ l.numbers.now → v ≡ l.moved.now → g ≡ l.gone.now → P (entries l) → P (lists n v g l.count)
given-back P l e₁ e₂ e₃ p = rw (e₁, e₂, e₃) p

-- the reals and the lists at the end
pub record Ended : Type 0 where
  pub reals : List Float
  pub lists : Lists

abbrev pub ended : List Float → Lists → Ended
ended r l = record { reals = r; lists = l }

-- the number n is among the g gone ones: one that is live as well has returned
unfoldable pub returned : List ℕ → ℕ → ℕ → Bool
returned w g n = ltb (place_from w gone_numbers_at g n) g

abbrev entry : List ℕ → ℕ → Float → Change
entry w i x = record { variable = get_or w (variable_numbers_at + i) 0; new = x; gone = false }

-- variable i, whose value is x, and the gone ones that come before it
abbrev tell : List ℕ → ℕ → ℕ → Float → Listing → Listing
tell w g i x s =
    let e : ℕ = gone_to w g s.told (get_or w (variable_numbers_at + i) 0) in
    listing (set s.reals (old_values_at + i) x) (append (entry w i x) (tell_gone w s.told e s.lists)) e

unfoldable pub note_news : List ℕ → List ℕ → ℕ → ℕ → Float → Listing → Listing
note_news w b g i x s =
    cond ((eqb (get_or b (changed_at + i) 0) 1 && ne (get_or s.reals (old_values_at + i) nan) x) || returned w g (get_or w (variable_numbers_at + i) 0)) (tell w g i x s) s

unfoldable pub list_news : List ℕ → List ℕ → ℕ → ℕ → Listing → Listing
list_news w b g i s = note_news w b g i (constant_of b s.reals (get_or w row_count_at 0) (get_or b (variable_places_at + i) 0)) s

-- when all variables are noted, the rest of the gone ones are told
abbrev finish : List ℕ → ℕ → Listing → Ended
finish w g s = ended s.reals (tell_gone w s.told g s.lists)

unfoldable pub list_all : List ℕ → List ℕ → ℕ → ℕ → Listing → Ended
list_all w b g k s = finish w g (run (list_news w b g) 0 k s)

-- ---- the code's turn, over variables

module _ (w b : List ℕ) (g i : ℕ) (s : Listing) {r : Bool} (back : r ≡ returned w g (get_or w (variable_numbers_at + i) 0)) where
  abbrev number : ℕ
  number = get_or w (variable_numbers_at + i) 0

  abbrev changed : Bool
  changed = eqb (get_or b (changed_at + i) 0) 1

  -- one that has neither changed nor returned
  pub news-same : changed || r ≡ false → s ≡ list_news w b g i s
  unfolding list_news note_news
  news-same f = rw (← back, go changed _ r f) refl
    where
      go : (a d r : Bool) → a || r ≡ false → (a && d) || r ≡ false
      go true d r p = absurd (true≢false p)
      go false d r p = p

  module _ {x : Float} (value : x ≡ constant_of b s.reals (get_or w row_count_at 0) (get_or b (variable_places_at + i) 0)) where
    abbrev differs : Bool
    differs = ne (get_or s.reals (old_values_at + i) nan) x

    -- one that has the value that was last told
    pub news-none : differs || r ≡ false → s ≡ list_news w b g i s
    unfolding list_news note_news
    news-none f = rw (← value, ← back, go changed differs r f) refl
      where
        go : (a d r : Bool) → d || r ≡ false → (a && d) || r ≡ false
        go true d r p = p
        go false true r p = absurd (true≢false p)
        go false false r p = p

    pub news-listed : {e : ℕ} (n : List ℕ) (v : List Float) (f : List ℕ) (c : ℕ) → changed || r ≡ true → differs || r ≡ true → e ≡ gone_to w g s.told number → lists n v f c ≡ tell_gone w s.told e s.lists
        → listing (set s.reals (old_values_at + i) x) (lists (set n c number) (set v c x) (set f c 0) (c + 1)) e ≡ list_news w b g i s
    unfolding list_news note_news append bit_of
    news-listed {e} n v f c y z to l = rw (← value, ← back, go changed differs r y z, ← to) (ap (λ (m : Lists). listing (set s.reals (old_values_at + i) x) (append (entry w i x) m) e) l)
      where
        go : (a d r : Bool) → a || r ≡ true → d || r ≡ true → (a && d) || r ≡ true
        go true d r p q = q
        go false d r p q = p

-- all variables noted, and the rest told
pub all_told : (w b : List ℕ) (g k : ℕ) (s z : Listing) {l : Lists} → z ≡ run (list_news w b g) 0 k s → l ≡ tell_gone w z.told g z.lists → ended z.reals l ≡ list_all w b g k s
unfolding list_all
all_told w b g k s z e h = ap (ended z.reals) h ∙ ap (finish w g) e

-- ---- what the loop leaves

module _ (t : Sparse) (rows : List Basic) (few : row_count t ≤ most_rows) where
  abbrev under : List Float → Sparse
  under f = record { words = t.words; keys = t.keys; bytes = t.bytes; reals = f; values = t.values }

  abbrev gone : List ℕ
  gone = gone_of t

  abbrev g : ℕ
  g = gone_count t

  abbrev turn : ℕ → Listing → Listing
  turn i s = list_news t.words t.bytes g i s

  -- the value of the variable i
  abbrev constant : List Float → ℕ → Float
  constant f i = constant_of t.bytes f (row_count t) (get_or t.bytes (variable_places_at + i) 0)

  -- whether it is listed, by the tables
  abbrev test : ℕ → Listing → Bool
  test i s = (eqb (get_or t.bytes (changed_at + i) 0) 1 && ne (get_or s.reals (old_values_at + i) nan) (constant s.reals i)) || returned t.words g (get_or t.words (variable_numbers_at + i) 0)

  -- the constants stay while old values are made anew
  abbrev Same : List Float → Type 0
  Same f = (i : ℕ) → constant f i ≡ constant t.reals i

  constant-kept : (f : List Float) (i : ℕ) (x : Float) (j : ℕ) → constant (set f (old_values_at + i) x) j ≡ constant f j
  unfolding constant_of
  constant-kept f i x j = go (ltb (place_from t.bytes (row_places_at + 1) (row_count t) (get_or t.bytes (variable_places_at + j) 0)) (row_count t)) refl
    where
      go : (c : Bool) → ltb (place_from t.bytes (row_places_at + 1) (row_count t) (get_or t.bytes (variable_places_at + j) 0)) (row_count t) ≡ c
          → cond c (get_or (set f (old_values_at + i) x) (constants_at + 1 + place_from t.bytes (row_places_at + 1) (row_count t) (get_or t.bytes (variable_places_at + j) 0)) nan) zero64 ≡ cond c (get_or f (constants_at + 1 + place_from t.bytes (row_places_at + 1) (row_count t) (get_or t.bytes (variable_places_at + j) 0)) nan) zero64
      go true h =
          let l = ltb-true (place_from t.bytes (row_places_at + 1) (row_count t) (get_or t.bytes (variable_places_at + j) 0)) (row_count t) h in
          get_or-set_other f (old_values_at + i) (constants_at + 1 + place_from t.bytes (row_places_at + 1) (row_count t) (get_or t.bytes (variable_places_at + j) 0)) x nan (λ q. omega (arith, q, l, few))
      go false h = refl

  -- a turn sets no real but the old value of i, if it sets any
  turn-reals : (P : List Float → Type 0) (i : ℕ) (s : Listing) → P (set s.reals (old_values_at + i) (constant s.reals i)) → P s.reals → P (turn i s).reals
  unfolding list_news note_news
  turn-reals P i s h k = go (test i s)
    where
      go : (c : Bool) → P (cond c (tell t.words g i (constant s.reals i) s) s).reals
      go true = h
      go false = k

  turn-same : (i : ℕ) (s : Listing) → Same s.reals → Same (turn i s).reals
  turn-same i s h = turn-reals Same i s (λ j. constant-kept s.reals i (constant s.reals i) j ∙ h j) h

  -- a turn leaves the old values of the other variables
  kept : (i j : ℕ) (s : Listing) → suc i ≤ j → get_or (turn i s).reals (old_values_at + j) nan ≡ get_or s.reals (old_values_at + j) nan
  kept i j s a =
      turn-reals (λ f. get_or f (old_values_at + j) nan ≡ get_or s.reals (old_values_at + j) nan) i s
      (get_or-set_other s.reals (old_values_at + i) (old_values_at + j) (constant s.reals i) nan (λ q. omega (arith, q, a))) refl

  -- no more are told than there are
  turn-told-few : (i : ℕ) (s : Listing) → s.told ≤ g → (turn i s).told ≤ g
  unfolding list_news note_news
  turn-told-few i s h = go (test i s)
    where
      go : (c : Bool) → (cond c (tell t.words g i (constant s.reals i) s) s).told ≤ g
      go true = (gone-to-from t.words g (get_or t.words (variable_numbers_at + i) 0) s.told h).1
      go false = h

  -- the variables vs, whose old values stand from place i on, and the gone ones that are not told
  abbrev left : ℕ → List Variable → Listing → Ended
  left i vs s =
      ended (over (old_values_at + i) (map (λ (v : Variable). v.old) (map (reported gone rows) vs)) s.reals) (fill (merged (rest t.words g s.told) (news_of gone rows vs)) s.lists)

  abbrev value_entry : Variable → Change
  value_entry v = record { variable = v.number; new = value_of v rows; gone = false }

  news_cons : (v : Variable) (vs : List Variable) → news_of gone rows (v ∷ vs) ≡ cond (is_listed gone rows v) (value_entry v ∷ news_of gone rows vs) (news_of gone rows vs)
  unfolding news_of
  news_cons v vs = go (is_listed gone rows v)
    where
      go : (b : Bool) → elim b [ true ↦ value_entry v ∷ news_of gone rows vs | false ↦ news_of gone rows vs ] ≡ cond b (value_entry v ∷ news_of gone rows vs) (news_of gone rows vs)
      go true = refl
      go false = refl

  abbrev Valued : ℕ → List Float → Type 0
  Valued i f = constant f i ≡ value_of (variable_of (under f) i) rows

  gone-is : (n : ℕ) → returned t.words g n ≡ member n gone
  unfolding returned place_from gone_of
  gone-is n = sym (member-list g (λ j. get_or t.words (gone_numbers_at + j) 0) n)

  -- the turn of the variable i, as the step says it
  abbrev done : ℕ → Listing → Bool → Listing
  done i s c = cond c (tell t.words g i (value_of (variable_of (under s.reals) i) rows) s) s

  turn_is : (i : ℕ) (s : Listing) → Valued i s.reals → turn i s ≡ done i s (is_listed gone rows (variable_of (under s.reals) i))
  unfolding list_news note_news is_news is_listed
  turn_is i s e = ap (λ (y : Float). note_news t.words t.bytes g i y s) e ∙ changed-is
    where
      changed-is : note_news t.words t.bytes g i (value_of (variable_of (under s.reals) i) rows) s ≡ done i s (is_listed gone rows (variable_of (under s.reals) i))
      changed-is = unfold variable_of in rw (gone-is (get_or t.words (variable_numbers_at + i) 0)) refl

  -- the list with variable i before it is the rest's after the turn of i
  turn-left : (i : ℕ) (vs : List Variable) (s : Listing) → Valued i s.reals → s.told ≤ g → left (suc i) vs (turn i s) ≡ left i (variable_of (under s.reals) i ∷ vs) s
  unfolding reported over
  turn-left i vs s e h = rw (turn_is i s e, news_cons (variable_of (under s.reals) i) vs) (go (is_listed gone rows (variable_of (under s.reals) i)))
    where
      v : Variable
      v = variable_of (under s.reals) i

      x : Float
      x = value_of (variable_of (under s.reals) i) rows

      olds : List Float
      olds = map (λ (v : Variable). v.old) (map (reported gone rows) vs)

      ns : List Change
      ns = news_of gone rows vs

      fresh : Bool → List Change
      fresh c = cond c (value_entry v ∷ news_of gone rows vs) (news_of gone rows vs)

      next : old_values_at + suc i ≡ suc (old_values_at + i)
      next = omega arith

      go : (c : Bool) → left (suc i) vs (done i s c) ≡ ended (over (old_values_at + i) (cond c x v.old ∷ olds) s.reals) (fill (merged (rest t.words g s.told) (fresh c)) s.lists)
      go true =
          unfold variable_of in
          rw (next, laid_cons (λ y _. y) (old_values_at + i) x olds s.reals nan, gone-before t.words g (value_entry v) ns s.told s.lists h) refl
      go false = unfold variable_of in rw (next, laid_cons (λ y _. y) (old_values_at + i) v.old olds s.reals nan, set_same nan s.reals (old_values_at + i)) refl

  under_same : (f h : List Float) (j : ℕ) → get_or f (old_values_at + j) nan ≡ get_or h (old_values_at + j) nan → variable_of (under f) j ≡ variable_of (under h) j
  unfolding variable_of symbol_at
  under_same f h j q = rw q refl

  value-under : (f : List Float) (j : ℕ) → value_of (variable_of (under f) j) rows ≡ value_of (variable_of t j) rows
  unfolding value_of variable_of symbol_at
  value-under f j = refl

  abbrev AllTold : ℕ → ℕ → Listing → Type 0
  AllTold n i s = finish t.words g (turns turn n i s) ≡ left i (tab (variable_of (under s.reals)) i n) s

  module _ (values : (i : ℕ) → i < variable_count t → value_of (variable_of t i) rows ≡ constant t.reals i) where
    turn-told : (n i : ℕ) (s : Listing) → i < variable_count t → Same s.reals → s.told ≤ g → AllTold n (suc i) (turn i s) → AllTold (suc n) i s
    unfolding turns tab
    turn-told n i s h same few-told all =
        let rest : tab (variable_of (under (turn i s).reals)) (suc i) n ≡ tab (variable_of (under s.reals)) (suc i) n = tab-ext _ _ (suc i) n λ j a b. under_same (turn i s).reals s.reals j (kept i j s a) in
        all ∙ rw rest (turn-left i (tab (variable_of (under s.reals)) (suc i) n) s (same i ∙ sym (values i h) ∙ sym (value-under s.reals i)) few-told)

    turns-told : (n i : ℕ) (s : Listing) → i + n ≤ variable_count t → Same s.reals → s.told ≤ g → AllTold n i s
    unfolding turns tab over news_of
    turns-told zero i s h same few-told = rw (laid_nil (λ (y _ : Float). y) (old_values_at + i) s.reals, gone-rest t.words g s.told s.lists few-told) refl
    turns-told (suc n) i s h same few-told = turn-told n i s (omega (arith, h)) same few-told (turns-told n (suc i) (turn i s) (omega (arith, h)) (turn-same i s same) (turn-told-few i s few-told))

    -- from the first of each on: all variables, and all that are gone
    pub listed : (l : Lists) → list_all t.words t.bytes g (variable_count t) (listing t.reals l 0)
        ≡ ended (over (old_values_at + 0) (map (λ (v : Variable). v.old) (map (reported gone rows) (list_of (variable_count t) (variable_of t)))) t.reals) (fill (merged gone (news_of gone rows (list_of (variable_count t) (variable_of t)))) l)
    unfolding list_all run list_of
    listed l = rw (sub-zero (variable_count t)) (turns-told (variable_count t) 0 (listing t.reals l 0) (omega arith) (λ i. refl) (omega arith) ∙ from_first)
      where
        vs : List Variable
        vs = list_of (variable_count t) (variable_of t)

        olds : List Float
        olds = over (old_values_at + 0) (map (λ (v : Variable). v.old) (map (reported gone rows) vs)) t.reals

        all-gone : rest t.words g 0 ≡ gone
        all-gone = unfold gone_of in rw (sub-zero g) refl

        from_first : ended olds (fill (merged (rest t.words g 0) (news_of gone rows vs)) l) ≡ ended olds (fill (merged gone (news_of gone rows vs)) l)
        from_first = ap (λ (ns : List ℕ). ended olds (fill (merged ns (news_of gone rows vs)) l)) all-gone
