-- How a call's records end: what the room reads as, and that it has the form of tables; for any plans.
-- Assumes nothing.
use Rattle.std.specs.Prelude.{ℕ, zero, suc, ◌+◌, ◌≤◌, ◌<◌, ◌≡◌, List, Float, get_or}
use Rattle.std.proofs.Math.Path.{refl, sym}
use Rattle.std.proofs.Common.{◌∙◌, add-zero, arith}
use Rattle.laws.specs.Lists.{tab, list_of, sum_in}
use Rattle.steps.specs.State.{Constraint, Edit}
use Rattle.keeps.specs.Lists.{All}
use Rattle.sparse.specs.Places.{most_constraints, most_terms, whole_at, constraint_markers_at, constraint_others_at, edit_variables_at, edit_markers_at, edit_others_at, terms_at, relations_at}
use Rattle.sparse.specs.Sparse.{Sparse, symbol_count, variable_count, constraint_count, edit_count, terms_from, constraint_of, edit_of, read}
use Rattle.sparse.specs.Fits.{Lengths}
use Rattle.sparse.specs.Form.{index_at, At, Form}
use Rattle.stored.specs.declared.parts.Plan.{Plan}
use Rattle.stored.specs.Parts.{source, size, source_size, target_size}
use Rattle.stored.specs.Maps.{Apart, counts_in}
use Rattle.stored.specs.Moved.{terms_plan, terms-target, Moved}
use Rattle.stored.specs.Beside.{Beside, Own, beside-join, tableau-beside, changes-beside, whole-beside, own-beside}
use Rattle.stored.specs.Holds.{HoldsC, HoldsE}
use Rattle.stored.specs.Reading.{terms-total, markers-form, others-form, relations-form, terms-form, edited-form, pluses-form, minuses-form}

-- the lent tables and the room
pub record Ready (t w : Sparse) : Type 0 where
  pub lent : Form t
  pub room : Form w
  pub apart : Apart t
  pub own : Apart w
  pub lengths : Lengths w

-- the room with other words, bytes and reals
abbrev pub room_of : Sparse → List ℕ → List ℕ → List Float → Sparse
room_of w uw ub ur = record { words = uw; keys = w.keys; bytes = ub; reals = ur; values = w.values }

-- the room w became u: it reads as it did, with these records; m terms in all
pub record Kept (w u : Sparse) (cs : List Constraint) (es : List Edit) (m : ℕ) : Type 0 where
  pub constraints : (read u).constraints ≡ cs
  pub edits : (read u).edits ≡ es
  pub tableau : (read u).tableau ≡ (read w).tableau
  pub changes : (read u).changes ≡ (read w).changes
  pub whole : get_or u.words whole_at 0 ≡ get_or w.words whole_at 0
  pub form : Form u
  pub apart : Apart u
  pub terms : m ≡ terms_from u (constraint_count u)
  pub lengths : Lengths u

-- what is let in has the form
pub record GapForm (c s e : Plan) (u : Sparse) : Type 0 where
  pub markers : (k : ℕ) → k < c.free → At u (get_or u.bytes (constraint_markers_at + (c.at + k)) 0)
  pub others : (k : ℕ) → k < c.free → get_or u.bytes (constraint_others_at + (c.at + k)) 0 ≤ symbol_count u
  pub relations : (k : ℕ) → k < c.free → get_or u.bytes (relations_at + (c.at + k)) 0 ≤ 2
  pub terms : (k : ℕ) → k < s.free → index_at u (get_or u.bytes (terms_at + (s.at + k)) 0) < variable_count u
  pub edited : (k : ℕ) → k < e.free → index_at u (get_or u.bytes (edit_variables_at + (e.at + k)) 0) < variable_count u
  pub pluses : (k : ℕ) → k < e.free → At u (get_or u.bytes (edit_markers_at + (e.at + k)) 0)
  pub minuses : (k : ℕ) → k < e.free → get_or u.bytes (edit_others_at + (e.at + k)) 0 ≤ symbol_count u

all-from : {A : Type 0} (Q : A → Type 0) (f : ℕ → A) (i n : ℕ) → All Q (tab f i n) → (k : ℕ) → k < n → Q (f (i + k))
unfolding tab
all-from Q f i zero h k l = absurd (omega (arith, l))
all-from Q f i (suc n) h zero l = let o : i + 0 ≡ i = add-zero i in rw o h.0
all-from Q f i (suc n) h (suc k) l = let o : i + suc k ≡ suc i + k = omega arith in rw o (all-from Q f (suc i) n h.1 k (omega (arith, l)))

pub all-at : {A : Type 0} (Q : A → Type 0) (f : ℕ → A) (n : ℕ) → All Q (list_of n f) → (k : ℕ) → k < n → Q (f k)
unfolding list_of
all-at Q f n h k l = let o : 0 + k ≡ k = omega arith in rw o at (all-from Q f 0 n h k l)

pub moved-beside : (t v u : Sparse) (c e : Plan) (n r : ℕ) → Moved c e n t.words t.bytes t.reals v.words v.bytes v.reals u.words u.bytes u.reals r → u.keys ≡ v.keys → u.values ≡ v.values → Beside v u
moved-beside t v u c e n r m p q =
    record {
      words = m.carried.words.before;
      gone = m.carried.words.after;
      bytes = m.carried.bytes.before;
      reals = m.carried.reals.before;
      keys = p;
      values = q;
    }

-- v is the room with what is let in, w the room before
module _ (t w v u : Sparse) (lent : Form t) (o : Own w) (b : Beside w v) (d : Beside v u) (c e : Plan) (n r : ℕ) (m : Moved c e n t.words t.bytes t.reals v.words v.bytes v.reals u.words u.bytes u.reals r) where
  abbrev s : Plan
  s = terms_plan (counts_in t.bytes) c n

  pub ended : source_size c ≡ constraint_count t → source_size e ≡ edit_count t → target_size c ≤ most_constraints → target_size e ≤ most_constraints → terms_from t (constraint_count t) + n ≤ most_terms
      → sum_in (counts_in u.bytes) c.at (c.at + c.free) ≡ n
      → ((k : ℕ) → k < size c → HoldsC v (constraint_of t (source c k))) → ((k : ℕ) → k < size e → HoldsE v (edit_of t (source e k)))
      → GapForm c s e u → (cs : List Constraint) (es : List Edit) → list_of (target_size c) (constraint_of u) ≡ cs → list_of (target_size e) (edit_of u) ≡ es → Lengths u → Kept w u cs es r
  ended ac ae fc fe fs gapped hc he g cs es qc qe l =
      record {
        constraints = unfold read in rw cc qc;
        edits = unfold read in rw ec qe;
        tableau = tableau-beside w u o bu;
        changes = changes-beside w u o bu;
        whole = whole-beside w u o bu;
        form = formed;
        apart = ou.apart;
        terms = rw cc (m.total ∙ sym total);
        lengths = l;
      }
    where
      bu : Beside w u
      bu = beside-join w v u b d

      ov : Own v
      ov = own-beside w v o b

      ou : Own u
      ou = own-beside w u o bu

      cc : constraint_count u ≡ target_size c
      cc = m.carried.words.constraints

      ec : edit_count u ≡ target_size e
      ec = m.carried.words.edits

      total : terms_from u (target_size c) ≡ target_size s
      total = terms-total t v u lent ov d c e n r m ac gapped

      few : target_size s ≤ most_terms
      few =
          let a = terms-target (counts_in t.bytes) c n in
          let f : sum_in (counts_in t.bytes) 0 (source_size c) ≡ terms_from t (constraint_count t) = unfold terms_from in rw ac refl in
          omega (arith, a, f, fs)

      formed : Form u
      formed =
          record {
            counts =
                record {
                  symbols = ou.symbols;
                  rows = ou.rows;
                  cells = ou.few-cells;
                  variables = ou.variables;
                  constraints = rw cc fc;
                  edits = rw ec fe;
                  terms = rw (cc, total) few;
                  gone = ou.gone;
                };
            clear = ou.clear;
            whole = ou.whole;
            ids = ou.ids;
            kinds = ou.kinds;
            rows = ou.basics;
            cells = ou.cells;
            numbers = ou.numbers;
            owners = ou.owners;
            changed = ou.changed;
            markers = λ i a. markers-form t v u lent ov d c e n r m ac gapped hc g.markers i (rw cc at a);
            others = λ i a. others-form t v u lent ov d c e n r m ac gapped hc g.others i (rw cc at a);
            relations = λ i a. relations-form t v u lent ov d c e n r m ac gapped hc g.relations i (rw cc at a);
            edited = λ i a. edited-form t v u lent ov d c e n r m ae he g.edited i (rw ec at a);
            pluses = λ i a. pluses-form t v u lent ov d c e n r m ae he g.pluses i (rw ec at a);
            minuses = λ i a. minuses-form t v u lent ov d c e n r m ae he g.minuses i (rw ec at a);
            named = λ j a. terms-form t v u lent ov d c e n r m ac gapped hc g.terms j (rw (cc, total) at a);
          }
