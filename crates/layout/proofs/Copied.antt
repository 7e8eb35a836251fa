-- The live part of tables copied over others: the copy reads as the same state, and fits as well.
-- Assumes nothing.
use Rattle.std.specs.Prelude.{ℕ, zero, suc, ◌+◌, ◌≤◌, ◌<◌, ◌≡◌, Bool, true, false, []}
use Rattle.std.proofs.Math.Path.{refl, sym}
use Rattle.std.proofs.Common.{ap, ◌∙◌, zero-add, suc-ne-zero, arith, ne_eqb}
use Rattle.std.proofs.Math.ListN.{length, get_or, length-map}
use Rattle.steps.specs.State.{Comparison, no_more, exactly, no_less, Variable, Constraint, Term, State}
use Rattle.laws.specs.Lists.{list_of, length-tab, get_or-tab, length-laid}
use Rattle.layout.specs.Layout.{Tables, symbols_at, rows_at, heading_end, record_counts_at, basics_at, constraints_at, edits_at, changed_flag, term_count, relation_kind, symbol_count, constraint_count, other_of, bit_of, comparison_code, tag_of, constraint_of, edit_of, cells_of, basic_of, symbols_of, basics_of, variables_of, constraints_of, edits_of, read, over, variable_names, constraint_names, edit_names, heading, record_counts, write_head, write_names, write_reals, write_rows, write}
use Rattle.layout.specs.Rooms.{Lengths, Wide, Named, Counts, Coded, Fits}
use Rattle.layout.specs.Copy.{put_over}
use Rattle.layout.proofs.Written.{written_is, code_read}
use Rattle.layout.proofs.Back.{first-at}
use Rattle.layout.specs.ReadBack.{no_variable, no_constraint}
use Rattle.layout.proofs.ReadBack.{count-back, record-back, variable-written, constraint-written, read-write}

module _ {A : Type 0} where
  pub length-list_of : (n : ℕ) (g : ℕ → A) → length (list_of n g) ≡ n
  unfolding list_of
  length-list_of n g = length-tab g 0 n

  pub get_or-list_of : (n : ℕ) (g : ℕ → A) (j : ℕ) (d : A) → j < n → get_or (list_of n g) j d ≡ g j
  unfolding list_of
  get_or-list_of n g j d h = rw (zero-add j) at (get_or-tab g 0 n j d h)

-- ---- what was read fits

named : (c : ℕ) → Named (other_of c)
unfolding other_of
named zero = tt
named (suc c) = rw (ne_eqb (suc c) 0 (suc-ne-zero c)) (rw (code_read (suc c)) (omega arith))

module _ (t : Tables) (q : Coded t) where
  row-cells : (i : ℕ) → length (basic_of (symbol_count t.head) (get_or t.head (rows_at + i) 0) (get_or t.rows (basics_at + i) [])).row.cells ≡ symbol_count t.head
  unfolding basic_of cells_of
  row-cells i = length-list_of _ _

  few-terms : (j : ℕ) → j < constraint_count t.head → length (constraint_of (get_or t.names (constraints_at + j) []) (get_or t.reals (constraints_at + j) [])).terms ≤ 16
  unfolding constraint_of
  few-terms j k = rw (length-list_of _ _) (q.3 j k)

  other-named : (j : ℕ) → Named (constraint_of (get_or t.names (constraints_at + j) []) (get_or t.reals (constraints_at + j) [])).tag.other
  unfolding constraint_of tag_of
  other-named j = named _

  one-group : (j : ℕ) → (constraint_of (get_or t.names (constraints_at + j) []) (get_or t.reals (constraints_at + j) [])).group ≡ 1
  unfolding constraint_of
  one-group j = refl

  minus-named : (j : ℕ) → Named (edit_of (get_or t.names (edits_at + j) []) (get_or t.reals (edits_at + j) [])).tag.other
  unfolding edit_of tag_of
  minus-named j = named _

  pub read_fits : Counts t.head → Fits (read t)
  unfolding read symbols_of basics_of variables_of constraints_of edits_of cells_of
  read_fits c =
      record {
        usual = refl;
        symbols = rw (length-list_of _ _) c.0;
        rows = rw (length-list_of _ _) c.1;
        variables = rw (length-list_of _ _) c.2;
        gone = refl;
        constraints = rw (length-list_of _ _) c.3;
        edits = rw (length-list_of _ _) c.4;
        objective = length-list_of _ _ ∙ sym (length-list_of _ _);
        cells = λ d j k. rw (get_or-list_of _ _ j d (rw (length-list_of _ _) at k)) (row-cells j ∙ sym (length-list_of _ _));
        terms = λ d j k. rw (get_or-list_of _ _ j d (rw (length-list_of _ _) at k)) (few-terms j (rw (length-list_of _ _) at k));
        groups = λ d j k. rw (get_or-list_of _ _ j d (rw (length-list_of _ _) at k)) (one-group j);
        others = λ d j k. rw (get_or-list_of _ _ j d (rw (length-list_of _ _) at k)) (other-named j);
        minuses = λ d j k. rw (get_or-list_of _ _ j d (rw (length-list_of _ _) at k)) (minus-named j);
      }

-- ---- what was written is within the room, and coded

pub bit-small : (b : Bool) → bit_of b ≤ 1
unfolding bit_of
bit-small true = omega arith
bit-small false = omega arith

pub comparison-small : (c : Comparison) → comparison_code c ≤ 2
unfolding comparison_code
comparison-small no_more = omega arith
comparison-small exactly = omega arith
comparison-small no_less = omega arith

module _ (s : State) (t : Tables) (fits : Fits s) (l : Lengths t) (w : Wide t) where
  pub write-counts : Counts (write s t).head
  unfolding write heading record_counts
  write-counts =
      let e : (i : ℕ) → i < heading_end → get_or (write_head s t.head) i 0 ≡ get_or (heading s) i 0 = count-back s t.head l.0 in
      let g : (i : ℕ) → i < 5 → get_or (write_head s t.head) (record_counts_at + i) 0 ≡ get_or (record_counts s) i 0 = record-back s t.head l.0 in (
        rw (e 1 (omega arith)) fits.symbols,
        rw (e 2 (omega arith)) fits.rows,
        rw (g 0 (omega arith)) fits.variables,
        rw (g 1 (omega arith)) fits.constraints,
        rw (g 2 (omega arith)) fits.edits,
      )

  flag-written : (j : ℕ) → j < length s.changes.variables → changed_flag (get_or (write_names s t.names) j []) ≤ 1
  unfolding write_names variable_names
  flag-written j k =
      let v : Variable = get_or s.changes.variables j no_variable in
      let r = fits.variables in
      let wide : length (get_or t.names j []) ≡ 21 = w.0 j (omega arith) in
      rw (
        variable-written (λ v m. over 0 (variable_names v) m) (λ c m. over 0 (constraint_names c) m) (λ e m. over 0 (edit_names e) m) s t.names l.1 fits j k,
        first-at (variable_names v) (get_or t.names j []) 3 0 (omega arith) (omega arith),
      ) (bit-small v.changed)

  count-written : (j : ℕ) → j < length s.constraints → term_count (get_or (write_names s t.names) (constraints_at + j) []) ≤ 16
  unfolding write_names constraint_names
  count-written j k =
      let c : Constraint = get_or s.constraints j no_constraint in
      let r = fits.constraints in
      let few : length c.terms ≤ 16 = fits.terms no_constraint j k in
      let wide : length (get_or t.names (constraints_at + j) []) ≡ 21 = w.0 (constraints_at + j) (omega arith) in
      let n = length-map c.terms (λ (x : Term). x.variable) in
      rw (
        constraint-written (λ v m. over 0 (variable_names v) m) (λ c m. over 0 (constraint_names c) m) (λ e m. over 0 (edit_names e) m) s t.names l.1 fits j k,
        first-at (constraint_names c) (get_or t.names (constraints_at + j) []) 3 0 (omega arith) (omega arith),
      ) few

  kind-written : (j : ℕ) → j < length s.constraints → relation_kind (get_or (write_names s t.names) (constraints_at + j) []) ≤ 2
  unfolding write_names constraint_names
  kind-written j k =
      let c : Constraint = get_or s.constraints j no_constraint in
      let r = fits.constraints in
      let few : length c.terms ≤ 16 = fits.terms no_constraint j k in
      let wide : length (get_or t.names (constraints_at + j) []) ≡ 21 = w.0 (constraints_at + j) (omega arith) in
      let n = length-map c.terms (λ (x : Term). x.variable) in
      rw (
        constraint-written (λ v m. over 0 (variable_names v) m) (λ c m. over 0 (constraint_names c) m) (λ e m. over 0 (edit_names e) m) s t.names l.1 fits j k,
        first-at (constraint_names c) (get_or t.names (constraints_at + j) []) 4 0 (omega arith) (omega arith),
      ) (comparison-small c.comparison)

  pub write-coded : Coded (write s t)
  unfolding write record_counts
  write-coded =
      let g : (i : ℕ) → i < 5 → get_or (write_head s t.head) (record_counts_at + i) 0 ≡ get_or (record_counts s) i 0 = record-back s t.head l.0 in (
        rw (g 3 (omega arith)) (bit-small s.changes.should_clear),
        rw (g 4 (omega arith)) (bit-small s.whole),
        λ j k. flag-written j (rw (g 0 (omega arith)) at k),
        λ j k. count-written j (rw (g 1 (omega arith)) at k),
        λ j k. kind-written j (rw (g 1 (omega arith)) at k),
      )

pub write-lengths : (s : State) (t : Tables) → Lengths t → Lengths (write s t)
unfolding write write_head write_names write_reals write_rows over
write-lengths s t l = (
  length-laid _ rows_at _ _ ∙ length-laid _ symbols_at _ _ ∙ length-laid _ record_counts_at _ _ ∙ length-laid _ 0 _ t.head ∙ l.0,
  length-laid _ edits_at _ _ ∙ length-laid _ constraints_at _ _ ∙ length-laid _ 0 _ t.names ∙ l.1,
  length-laid _ edits_at _ _ ∙ length-laid _ constraints_at _ _ ∙ length-laid _ 0 _ t.reals ∙ l.2,
  length-laid _ basics_at _ _ ∙ length-laid _ 0 _ t.rows ∙ l.3,
)

-- ---- the copy

module _ (t w : Tables) (c : Counts t.head) (q : Coded t) (l : Lengths w) (v : Wide w) where
  pub copy-reads : read (put_over t w) ≡ read t
  copy-reads = ap read (written_is t q w) ∙ read-write (read t) w (read_fits t q c) l v

  pub copy-lengths : Lengths (put_over t w)
  copy-lengths = rw (written_is t q w) (write-lengths (read t) w l)

  pub copy-counts : Counts (put_over t w).head
  copy-counts = rw (written_is t q w) (write-counts (read t) w (read_fits t q c) l v)

  pub copy-coded : Coded (put_over t w)
  copy-coded = rw (written_is t q w) (write-coded (read t) w (read_fits t q c) l v)
