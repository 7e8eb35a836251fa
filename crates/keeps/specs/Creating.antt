-- Add's steps 2 to 4: the tag's symbols, the signs, and the subject, beside a tableau that reads. Assumes nothing.
use Rattle.std.specs.Prelude.{◌≡◌, List, [], map, Bool, ℕ, ◌+◌, Float}
use Rattle.std.proofs.Math.Path.{refl, ap, subst}
use Rattle.std.proofs.Common.{◌∙◌, arith}
use Rattle.std.proofs.Math.Option.{Option, none, some}
use Rattle.std.proofs.Math.Bool.{true, false, not}
use Rattle.std.proofs.Math.ListN.{length}
use Rattle.std.specs.Float.Ieee.{lt, neg}
use Rattle.steps.specs.Number.{zero64, one64, minus_one64, below_zero, is_finite}
use Rattle.steps.specs.Strength.{required}
use Rattle.steps.specs.Symbol.{Slack, Error, Dummy, Symbol, is_external, is_error, holds, first_symbol}
use Rattle.steps.specs.Row.{reverse_sign}
use Rattle.steps.specs.State.{Term, Relation, at_most, equal, at_least, strength_of, comparison_of, exactly}
use Rattle.steps.specs.Work.{Work, with_tableau, with_objective, marking, new_symbol, append_symbol}
use Rattle.steps.specs.CreateRow.{Building, written, append_to, insert_into, insert_terms, Created, tagged, add_symbol, insert_in_objective, add_error, inequality, soft_equality, required_equality, add_tag, create_row, negative_tag, choose_subject}
use Rattle.steps.specs.Tests.{kept_terms, new_variables}
use Rattle.steps.specs.Readable.{code, uses_in, tag_symbols, tag_kinds, is_equality, marker_fits}
use Rattle.keeps.specs.Lists.{same, times, both, none≢some, some-injective}
use Rattle.keeps.specs.Along.{first-chosen}
use Rattle.keeps.specs.Cells.{Fine, fine-l, holds-held}
use Rattle.keeps.specs.RowOps.{RowOk, row-to, reverse-ok, bare-ok}
use Rattle.keeps.specs.Fits.{IsBasic}
use Rattle.keeps.specs.Frame.{Frame}
use Rattle.keeps.specs.Reads.{tag_code}
use Rattle.keeps.specs.Good.{Good, good-frame, good-to}
use Rattle.keeps.specs.Passes.{Free, held-free}
use Rattle.keeps.specs.Leaving.{symbol-objective}
use Rattle.keeps.specs.Building.{Built, append-built, append-new, append-free, insert_into-built}
use Rattle.keeps.specs.Terms.{insert_terms-built, insert_terms-length}

-- ---- a symbol of the tag comes in

record Step (K U : ℕ → ℕ) (N : ℕ) (b c : Building) (s : Symbol) : Type 0 where
  built : Built (λ n. same n (code s) + K n) U N c
  new : Free c.work s
  old : (x : Symbol) → Free b.work x → Free c.work x
  vars : c.work.changes.variables ≡ b.work.changes.variables

add_symbol-step : (K U : ℕ → ℕ) (N : ℕ) (b : Building) (s : Symbol) (k : Float) → s.id ≡ b.work.tableau.next_id → Built K U N b → Step K U N b (add_symbol s k b) s
unfolding add_symbol
add_symbol-step K U N b s k e h =
    record {
      built =
          insert_into-built (λ n. same n (code s) + K n) U N (append_to s b) (append-built K U N b s e h) s.id k
          (unfold append_to in (append-new s b.work h.good.fits e).free);
      new =
          unfold insert_into written marking append_to in record {
            live = (append-new s b.work h.good.fits e).live;
            free = (append-new s b.work h.good.fits e).free;
          };
      old = λ x f. unfold insert_into written marking append_to in record { live = (append-free s x b.work f).live; free = (append-free s x b.work f).free };
      vars = unfold insert_into written marking append_to append_symbol with_tableau in refl;
    }

add_error-step : (K U : ℕ → ℕ) (N : ℕ) (b : Building) (s : Symbol) (k strength : Float) → s.id ≡ b.work.tableau.next_id → Built K U N b
    → Step K U N b (add_error s k strength b) s
unfolding add_error
add_error-step K U N b s k strength e h =
    record {
      built =
          record {
            good =
                good-frame (λ n. same n (code s) + K n) U added.work goal one.built.good
                (symbol-objective s.id strength added.work one.built.good.fits one.new.free) only;
            row =
                unfold insert_in_objective marking with_objective with_tableau in row-to (IsBasic added.work.tableau.rows) (IsBasic added.work.tableau.rows)
                (Fine added.work.mark) _ (λ i p. p) (fine-l added.work.mark _) added.work.tableau.symbols added.row one.built.row;
            plain = unfold insert_in_objective marking with_objective with_tableau in one.built.plain;
            count = unfold insert_in_objective marking with_objective with_tableau in one.built.count;
          };
      new = unfold insert_in_objective marking with_objective with_tableau in record { live = one.new.live; free = one.new.free };
      old = λ x f. unfold insert_in_objective marking with_objective with_tableau in record { live = (one.old x f).live; free = (one.old x f).free };
      vars = unfold insert_in_objective marking with_objective with_tableau in one.vars;
    }
  where
    added : Building
    added = add_symbol s k b

    goal : Work
    goal = insert_in_objective s.id strength added.work

    one : Step K U N b added s
    one = add_symbol-step K U N b s k e h

    only : Frame added.work goal
    only = unfold insert_in_objective marking with_objective with_tableau in record { symbols = refl; next = refl; variables = refl; plain = λ e. e; cutoff = refl; gone = refl }

-- ---- a row with its tag; L is the number of variables

pub record Tagged (K U : ℕ → ℕ) (N L : ℕ) (c : Created) : Type 0 where
  pub good : Good (λ n. tag_code n c.tag + K n) U c.work
  pub row : RowOk (IsBasic c.work.tableau.rows) (Fine c.work.mark) c.work.tableau.symbols c.row
  pub plain : c.work.artificial ≡ none
  pub count : length c.work.tableau.rows ≡ N
  pub size : length c.work.changes.variables ≡ L
  pub marker : Free c.work c.tag.marker
  pub other : (o : Symbol) → c.tag.other ≡ some o → Free c.work o

module _ (K U : ℕ → ℕ) (N : ℕ) (b : Building) where
  one_symbol : (s : Symbol) (c : Building) → Step K U N b c s → Tagged K U N (length b.work.changes.variables) (tagged s none c)
  unfolding tagged tag_symbols times
  one_symbol s c h =
      record {
        good = good-to (λ n. same n (code s) + K n) _ U U c.work (λ n. omega arith) (λ n. refl) h.built.good;
        row = h.built.row;
        plain = h.built.plain;
        count = h.built.count;
        size = ap length h.vars;
        marker = h.new;
        other = λ o e. absurd (none≢some e);
      }

  two-symbols : (s o : Symbol) (c d : Building) → Step K U N b c s → Step (λ n. same n (code s) + K n) U N c d o
      → Tagged K U N (length b.work.changes.variables) (tagged s (some o) d)
  unfolding tagged tag_symbols times
  two-symbols s o c d h k =
      record {
        good = good-to (λ n. same n (code o) + (same n (code s) + K n)) _ U U d.work (λ n. omega arith) (λ n. refl) k.built.good;
        row = k.built.row;
        plain = k.built.plain;
        count = k.built.count;
        size = ap length (k.vars ∙ h.vars);
        marker = k.old s h.new;
        other = λ x e. subst (Free d.work) (some-injective e) k.new;
      }

  inequality-tagged : (sign strength : Float) → Built K U N b → Tagged K U N (length b.work.changes.variables) (inequality sign strength b)
  unfolding inequality new_symbol
  inequality-tagged sign strength h = go (lt strength required)
    where
      slack : Symbol
      slack = new_symbol Slack b.work

      b₁ : Building
      b₁ = add_symbol slack sign b

      error : Symbol
      error = new_symbol Error b₁.work

      one : Step K U N b b₁ slack
      one = add_symbol-step K U N b slack sign refl h

      go : (t : Bool)
          → Tagged K U N (length b.work.changes.variables) (elim t [ true ↦ tagged slack (some error) (add_error error (neg sign) strength b₁) | false ↦ tagged slack none b₁ ])
      go true =
          two-symbols slack error b₁ (add_error error (neg sign) strength b₁) one
          (add_error-step (λ n. same n (code slack) + K n) U N b₁ error (neg sign) strength refl one.built)
      go false = one_symbol slack b₁ one

  equality-tagged : (strength : Float) → Built K U N b → Tagged K U N (length b.work.changes.variables) (soft_equality strength b)
  unfolding soft_equality new_symbol
  equality-tagged strength h =
      two-symbols plus minus b₁ (add_error minus one64 strength b₁) one (add_error-step (λ n. same n (code plus) + K n) U N b₁ minus one64 strength refl one.built)
    where
      plus : Symbol
      plus = new_symbol Error b.work

      b₁ : Building
      b₁ = add_error plus minus_one64 strength b

      minus : Symbol
      minus = new_symbol Error b₁.work

      one : Step K U N b b₁ plus
      one = add_error-step K U N b plus minus_one64 strength refl h

  required-tagged : Built K U N b → Tagged K U N (length b.work.changes.variables) (required_equality b)
  unfolding required_equality new_symbol
  required-tagged h =
      one_symbol (new_symbol Dummy b.work) (add_symbol (new_symbol Dummy b.work) one64 b) (add_symbol-step K U N b (new_symbol Dummy b.work) one64 refl h)

  add_tag-tagged : (r : Relation) → Built K U N b → Tagged K U N (length b.work.changes.variables) (add_tag r b)
  unfolding add_tag
  add_tag-tagged (at_most s) h = inequality-tagged one64 s h
  add_tag-tagged (at_least s) h = inequality-tagged minus_one64 s h
  add_tag-tagged (equal s) h = go (lt s required)
    where
      go : (t : Bool) → Tagged K U N (length b.work.changes.variables) (elim t [ true ↦ soft_equality s b | false ↦ required_equality b ])
      go true = equality-tagged s h
      go false = required-tagged h

-- ---- "each tag's kinds are those Add gives"

inequality-kinds : (sign s : Float) (b : Building) → tag_kinds s (inequality sign s b).tag ≡ true
unfolding inequality tagged new_symbol tag_kinds is_error
inequality-kinds sign s b = go (lt s required) refl
  where
    made : Bool → Created
    made t =
        elim t [
          | true ↦ tagged (new_symbol Slack b.work) (some (new_symbol Error (add_symbol (new_symbol Slack b.work) sign b).work))
              (add_error (new_symbol Error (add_symbol (new_symbol Slack b.work) sign b).work) (neg sign) s
              (add_symbol (new_symbol Slack b.work) sign b))
          | false ↦ tagged (new_symbol Slack b.work) none (add_symbol (new_symbol Slack b.work) sign b)
        ]

    go : (t : Bool) → lt s required ≡ t → tag_kinds s (made t).tag ≡ true
    go true e = both e refl
    go false e = ap not e

pub add_tag-kinds : (r : Relation) (b : Building) → tag_kinds (strength_of r) (add_tag r b).tag ≡ true
unfolding add_tag strength_of
add_tag-kinds (at_most s) b = inequality-kinds one64 s b
add_tag-kinds (at_least s) b = inequality-kinds minus_one64 s b
add_tag-kinds (equal s) b = go (lt s required) refl
  where
    made : Bool → Created
    made t = elim t [ true ↦ soft_equality s b | false ↦ required_equality b ]

    go : (t : Bool) → lt s required ≡ t → tag_kinds s (made t).tag ≡ true
    go true e = unfold soft_equality tagged new_symbol tag_kinds is_error in both e refl
    go false e = unfold required_equality tagged new_symbol tag_kinds is_error in ap not e

-- "Marker is the slack" of an inequality, and of none else

inequality-marker : (sign s : Float) (b : Building) → (inequality sign s b).tag.marker.kind ≡ Slack
unfolding inequality tagged new_symbol
inequality-marker sign s b = go (lt s required)
  where
    made : Bool → Created
    made t =
        elim t [
          | true ↦ tagged (new_symbol Slack b.work) (some (new_symbol Error (add_symbol (new_symbol Slack b.work) sign b).work))
              (add_error (new_symbol Error (add_symbol (new_symbol Slack b.work) sign b).work) (neg sign) s
              (add_symbol (new_symbol Slack b.work) sign b))
          | false ↦ tagged (new_symbol Slack b.work) none (add_symbol (new_symbol Slack b.work) sign b)
        ]

    go : (t : Bool) → (made t).tag.marker.kind ≡ Slack
    go true = refl
    go false = refl

add_tag-marker : (r : Relation) (b : Building) → marker_fits (comparison_of r) (add_tag r b).tag.marker ≡ true
unfolding add_tag comparison_of marker_fits is_equality
add_tag-marker (at_most s) b = rw (inequality-marker one64 s b, marker_fits) refl
add_tag-marker (at_least s) b = rw (inequality-marker minus_one64 s b, marker_fits) refl
add_tag-marker (equal s) b = go (lt s required)
  where
    made : Bool → Created
    made t = elim t [ true ↦ soft_equality s b | false ↦ required_equality b ]

    go : (t : Bool) → marker_fits exactly (made t).tag.marker ≡ true
    go true = unfold soft_equality tagged new_symbol in refl
    go false = unfold required_equality tagged new_symbol in refl

-- ---- steps 1 to 3

pub create_row-tagged : (K U : ℕ → ℕ) (terms : List Term) (constant : Float) (r : Relation) (w : Work) → Good K U w → w.artificial ≡ none → is_finite constant ≡ true
    → Tagged K (λ m. uses_in m (kept_terms w.tableau.cutoff terms) + U m) (length w.tableau.rows)
    (length w.changes.variables + length (new_variables w.changes.variables [] (kept_terms w.tableau.cutoff terms))) (create_row terms constant r w)
unfolding create_row
create_row-tagged K U terms constant r w g plain fin = go (below_zero c.row.constant)
  where
    start : Building
    start = record { work = w; row = record { constant = constant; cells = map (λ _. zero64) w.tableau.symbols } }

    c : Created
    c = add_tag r (insert_terms w.tableau.cutoff terms start)

    L : ℕ
    L = length w.changes.variables + length (new_variables w.changes.variables [] (kept_terms w.tableau.cutoff terms))

    built : Tagged K (λ m. uses_in m (kept_terms w.tableau.cutoff terms) + U m) (length w.tableau.rows) L c
    built = subst (λ (l : ℕ). Tagged K (λ m. uses_in m (kept_terms w.tableau.cutoff terms) + U m) (length w.tableau.rows) l c) (insert_terms-length w.tableau.cutoff terms start)
        (add_tag-tagged K (λ m. uses_in m (kept_terms w.tableau.cutoff terms) + U m) (length w.tableau.rows) (insert_terms w.tableau.cutoff terms start) r
        (insert_terms-built w.tableau.cutoff K U (length w.tableau.rows) terms start
        (record { good = g; row = bare-ok (IsBasic w.tableau.rows) (Fine w.mark) w.tableau.symbols constant fin; plain = plain; count = refl })))

    go : (t : Bool)
        → Tagged K (λ m. uses_in m (kept_terms w.tableau.cutoff terms) + U m) (length w.tableau.rows) L (elim t [ false ↦ c | true ↦ record { work = c.work; row = reverse_sign c.row; tag = c.tag } ])
    go false = built
    go true =
        record {
          good = built.good;
          row = reverse-ok (IsBasic c.work.tableau.rows) (Fine c.work.mark) c.work.tableau.symbols c.row built.row;
          plain = built.plain;
          count = built.count;
          size = built.size;
          marker = built.marker;
          other = built.other;
        }

pub create_row-kinds : (terms : List Term) (constant : Float) (r : Relation) (w : Work) → tag_kinds (strength_of r) (create_row terms constant r w).tag ≡ true
unfolding create_row
create_row-kinds terms constant r w = go (below_zero c.row.constant)
  where
    c : Created
    c = add_tag r (insert_terms w.tableau.cutoff terms (record { work = w; row = record { constant = constant; cells = map (λ _. zero64) w.tableau.symbols } }))

    made : Bool → Created
    made t = elim t [ false ↦ c | true ↦ record { work = c.work; row = reverse_sign c.row; tag = c.tag } ]

    go : (t : Bool) → tag_kinds (strength_of r) (made t).tag ≡ true
    go false = add_tag-kinds r _
    go true = add_tag-kinds r _

pub create_row-marker : (terms : List Term) (constant : Float) (r : Relation) (w : Work) → marker_fits (comparison_of r) (create_row terms constant r w).tag.marker ≡ true
unfolding create_row
create_row-marker terms constant r w = go (below_zero c.row.constant)
  where
    c : Created
    c = add_tag r (insert_terms w.tableau.cutoff terms (record { work = w; row = record { constant = constant; cells = map (λ _. zero64) w.tableau.symbols } }))

    made : Bool → Created
    made t = elim t [ false ↦ c | true ↦ record { work = c.work; row = reverse_sign c.row; tag = c.tag } ]

    go : (t : Bool) → marker_fits (comparison_of r) (made t).tag.marker ≡ true
    go false = add_tag-marker r _
    go true = add_tag-marker r _

-- ---- step 4

pub subject-free : (K U : ℕ → ℕ) (N L : ℕ) (c : Created) → Tagged K U N L c → (s : Symbol) → choose_subject c ≡ some s → Free c.work s
unfolding choose_subject
subject-free K U N L c h s e = first (first_symbol is_external holds c.work.tableau.symbols c.row.cells) refl e
  where
    third : Option Symbol → Option Symbol
    third o = elim o [ none ↦ none | some x ↦ elim (negative_tag c x) [ true ↦ some x | false ↦ none ] ]

    other : (o : Option Symbol) → c.tag.other ≡ o → third o ≡ some s → Free c.work s
    other none q e = absurd (none≢some e)
    other (some x) q e = by (negative_tag c x) e
      where
        by : (t : Bool) → elim t [ true ↦ some x | false ↦ none ] ≡ some s → Free c.work s
        by true e = subst (Free c.work) (some-injective e) (h.other x q)
        by false e = absurd (none≢some e)

    second : (t : Bool) → elim t [ true ↦ some c.tag.marker | false ↦ third c.tag.other ] ≡ some s → Free c.work s
    second true e = subst (Free c.work) (some-injective e) h.marker
    second false e = other c.tag.other refl e

    first : (o : Option Symbol) → first_symbol is_external holds c.work.tableau.symbols c.row.cells ≡ o
        → elim o [ some x ↦ some x | none ↦ elim (negative_tag c c.tag.marker) [ true ↦ some c.tag.marker | false ↦ third c.tag.other ] ] ≡ some s → Free
        c.work s
    first (some x) q e =
        held-free c.work (Fine c.work.mark) holds holds-held s
        (first-chosen _ is_external holds c.work.tableau.symbols c.row.cells s h.row.1 (q ∙ e))
    first none q e = second (negative_tag c c.tag.marker) e
