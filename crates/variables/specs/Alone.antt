-- Tables in which variables came, went, were counted or were told gone, and nothing else: the tableau reads as before.
-- Assumes nothing.
use Rattle.std.specs.Prelude.{ℕ, ◌+◌, ◌≤◌, ◌<◌, ◌≡◌, Bool, List, length}
use Rattle.std.proofs.Math.Path.{refl, sym, ap}
use Rattle.std.proofs.Common.{◌∙◌, subst, arith}
use Rattle.std.specs.Float.{nan}
use Rattle.std.proofs.Math.ListN.{get_or}
use Rattle.laws.specs.Lists.{tab-ext}
use Rattle.steps.specs.Number.{Mark}
use Rattle.steps.specs.State.{Variable, Changes}
use Rattle.steps.specs.Work.{Work, with_changes}
use Rattle.steps.specs.CreateRow.{with_variables}
use Rattle.keeps.specs.Fits.{FitsW}
use Rattle.sparse.specs.Places.{most_rows, most_variables, next_id_at, symbol_count_at, row_count_at, cell_count_at, variable_count_at, should_clear_at, gone_count_at, ids_at, variable_numbers_at, kinds_at, row_places_at, variable_places_at, constants_at, old_values_at, objective_at, cutoff_at}
use Rattle.sparse.specs.Sparse.{Sparse, symbol_count, row_count, cell_count, variable_count, symbol_at, basic_of, symbols_of, basics_of, objective_of, gone_of, read}
use Rattle.layout.specs.cells.Names.{last_place}
use Rattle.waist.specs.substituting.Named.{Named}
use Rattle.waist.specs.Working.{artificial_of, work_of, work-parts, lines_same, Sound}
use Rattle.waist.specs.Dropping.{basic-by}
use Rattle.waist.specs.Standing.{Owners, Standing, Makes}

pub record VariablesAlone (t u : Sparse) : Type 0 where
  pub words : (q : ℕ) → q < variable_numbers_at → (q ≡ variable_count_at → ⊥) → (q ≡ gone_count_at → ⊥) → get_or u.words q 0 ≡ get_or t.words q 0
  pub long : length u.words ≡ length t.words
  pub bytes : (q : ℕ) → q < variable_places_at → get_or u.bytes q 0 ≡ get_or t.bytes q 0
  pub wide : length u.bytes ≡ length t.bytes
  pub low : (q : ℕ) → q < old_values_at → get_or u.reals q nan ≡ get_or t.reals q nan
  pub high : (q : ℕ) → objective_at < q → get_or u.reals q nan ≡ get_or t.reals q nan
  pub deep : length u.reals ≡ length t.reals
  pub keys : u.keys ≡ t.keys
  pub values : u.values ≡ t.values

-- the variables of the tables after: each names a live symbol, and there are not too many
pub record Live (u : Sparse) : Type 0 where
  pub few : variable_count u ≤ most_variables
  pub places : (v : ℕ) → v < variable_count u → (1 ≤ get_or u.bytes (variable_places_at + v) 0) × (get_or u.bytes (variable_places_at + v) 0 ≤ symbol_count u)

-- the changes with other gone numbers
unfoldable pub with_gone : (List ℕ → List ℕ) → Changes → Changes
with_gone f c = record { variables = c.variables; gone = f c.gone; should_clear = c.should_clear }

gone-read : (t : Sparse) → (read t).changes.gone ≡ gone_of t
unfolding read
gone-read t = refl

changes-by : (c d : Changes) {vs : List Variable} {ns : List ℕ} → c.variables ≡ vs → c.gone ≡ ns → c.should_clear ≡ d.should_clear → c ≡ record { variables = vs; gone = ns; should_clear = d.should_clear }
changes-by c d e g f = rw (← e, ← g, ← f) refl

module _ (t u : Sparse) (k : VariablesAlone t u) where
  pub symbols-count : symbol_count u ≡ symbol_count t
  symbols-count = k.words symbol_count_at (omega arith) (λ e. omega (arith, e)) (λ e. omega (arith, e))

  pub rows-count : row_count u ≡ row_count t
  rows-count = k.words row_count_at (omega arith) (λ e. omega (arith, e)) (λ e. omega (arith, e))

  cells_count : cell_count u ≡ cell_count t
  cells_count = k.words cell_count_at (omega arith) (λ e. omega (arith, e)) (λ e. omega (arith, e))

  pub symbol-same : (p : ℕ) → p ≤ last_place → symbol_at u p ≡ symbol_at t p
  unfolding symbol_at
  symbol-same p h = rw (k.words (ids_at + p) (omega (arith, h)) (λ e. omega (arith, e)) (λ e. omega (arith, e)), k.bytes (kinds_at + p) (omega (arith, h))) refl

  row_same : (i : ℕ) → i ≤ most_rows → (basic_of u i).row ≡ (basic_of t i).row
  unfolding basic_of
  row_same i h = rw (k.low (constants_at + i) (omega (arith, h)), k.keys, k.values, cells_count, symbols-count) refl

  module _ (art : Bool) (so : Sound art t) where
    symbols-same : symbols_of u ≡ symbols_of t
    unfolding symbols_of
    symbols-same = let f = so.named.few-symbols in rw symbols-count (tab-ext (symbol_at u) (symbol_at t) 1 (symbol_count t) λ p a b. symbol-same p (omega (arith, b, f)))

    symbol-of : (i : ℕ) → 1 ≤ i → i ≤ row_count t → (basic_of u i).symbol ≡ (basic_of t i).symbol
    unfolding basic_of
    symbol-of i a b =
        let f = so.few in
        let s = so.named.few-symbols in
        let l = so.rows i a b in
        rw (k.bytes (row_places_at + i) (omega (arith, b, f))) (symbol-same (get_or t.bytes (row_places_at + i) 0) (omega (arith, l, s)))

    basics-same : basics_of u ≡ basics_of t
    unfolding basics_of
    basics-same =
        let f = so.few in
        rw rows-count (tab-ext (basic_of u) (basic_of t) 1 (row_count t) λ i a b. basic-by (symbol-of i a (omega (arith, b))) (row_same i (omega (arith, b, f))))

    objective-same : objective_of u ≡ objective_of t
    unfolding objective_of
    objective-same = rw symbols-count (tab-ext _ (λ p. get_or t.reals (objective_at + p) nan) 1 (symbol_count t) λ p a b. k.high (objective_at + p) (omega (arith, a)))

    artificial-same : artificial_of art u ≡ artificial_of art t
    unfolding artificial_of
    artificial-same = let f = so.few in rw (rows-count, row_same (1 + row_count t) (omega (arith, f))) refl

    -- only the changes are others
    pub work-alone : (a : Mark) (v : ℕ) → work_of art a v u ≡ with_changes (read u).changes (work_of art a v t)
    unfolding with_changes
    work-alone a v =
        work-parts art a v u
        ∙ rw (k.high cutoff_at (omega arith), symbols-same, k.words next_id_at (omega arith) (λ e. omega (arith, e)) (λ e. omega (arith, e)), basics-same, objective-same, artificial-same) refl
        ∙ sym (ap (with_changes (read u).changes) (work-parts art a v t))

    named-after : Live u → Named u.words u.bytes
    named-after l =
        let n = so.named in
        record {
          long = k.long ∙ n.long;
          wide = k.wide ∙ n.wide;
          few-symbols = rw symbols-count n.few-symbols;
          few-variables = l.few;
          up = λ p q a b d.
              let f = n.few-symbols in
              let e : q ≤ symbol_count t = rw symbols-count at d in
              rw (k.words (ids_at + p) (omega (arith, b, e, f)) (λ z. omega (arith, z)) (λ z. omega (arith, z)), k.words (ids_at + q) (omega (arith, e, f)) (λ z. omega (arith, z)) (λ z. omega (arith, z))) (n.up p q a b e);
          variables = l.places;
        }

    sound-after : Live u → Sound art u
    sound-after l =
        let f = so.few in
        record {
          named = named-after l;
          held = rw (lines_same art t u rows-count, cells_count, k.keys, k.values) so.held;
          few = rw rows-count f;
          rows = λ i a b. let e : i ≤ row_count t = rw rows-count at b in rw (k.bytes (row_places_at + i) (omega (arith, e, f)), symbols-count) (so.rows i a e);
          up = λ i q a b d.
              let e : q ≤ row_count t = rw rows-count at d in
              rw (k.bytes (row_places_at + i) (omega (arith, b, e, f)), k.bytes (row_places_at + q) (omega (arith, e, f))) (so.up i q a b e);
          long = k.deep ∙ so.long;
        }

  pub stands_after : (art : Bool) (a : Mark) → Standing art a t → Live u → Owners u → Standing art a u
  stands_after art a s l o =
      record {
        sound = sound-after art s.sound l;
        inside = λ j h. rw (k.keys, symbols-count) (s.inside j (rw cells_count at h));
        owners = o;
        fits = subst FitsW (sym (work-alone art s.sound a 0)) (kept (work_of art a 0 t) s.fits);
      }
    where
      kept : (w : Work) → FitsW w → FitsW (with_changes (read u).changes w)
      kept w f = unfold with_changes in f

  -- a step that changes the changes alone
  makes-changes : (art : Bool) (a : Mark) (f : Changes → Changes) → Standing art a t → Live u → Owners u → (read u).changes ≡ f (read t).changes → Makes art art a a (λ w. with_changes (f w.changes) w) t u
  makes-changes art a f s l o e = record { reads = λ v. work-alone art s.sound a v ∙ ap (λ (c : Changes). with_changes c (work_of art a v t)) (e ∙ ap f (sym (in-work v))); stands = stands_after art a s l o }
    where
      in-work : (v : ℕ) → (work_of art a v t).changes ≡ (read t).changes
      in-work v = unfold work_of in refl

  clear-is : get_or u.words should_clear_at 0 ≡ get_or t.words should_clear_at 0 → (read u).changes.should_clear ≡ (read t).changes.should_clear
  unfolding read
  clear-is c = rw c refl

  -- the variables alone
  pub makes-variables : (art : Bool) (a : Mark) (f : List Variable → List Variable) → Standing art a t → Live u → Owners u
      → (read u).changes.variables ≡ f (read t).changes.variables → gone_of u ≡ gone_of t → get_or u.words should_clear_at 0 ≡ get_or t.words should_clear_at 0
      → Makes art art a a (λ w. with_variables (f w.changes.variables) w) t u
  unfolding with_variables
  makes-variables art a f s l o e g c =
      makes-changes art a (λ d. record { variables = f d.variables; gone = d.gone; should_clear = d.should_clear }) s l o (changes-by (read u).changes (read t).changes e (gone-read u ∙ g ∙ sym (gone-read t)) (clear-is c))

  -- the gone numbers alone
  pub makes-gone : (art : Bool) (a : Mark) (f : List ℕ → List ℕ) → Standing art a t → Live u → Owners u
      → (read u).changes.variables ≡ (read t).changes.variables → gone_of u ≡ f (gone_of t) → get_or u.words should_clear_at 0 ≡ get_or t.words should_clear_at 0
      → Makes art art a a (λ w. with_changes (with_gone f w.changes) w) t u
  unfolding with_gone
  makes-gone art a f s l o e g c = makes-changes art a (with_gone f) s l o (changes-by (read u).changes (read t).changes e (gone-read u ∙ g ∙ ap f (sym (gone-read t))) (clear-is c))
