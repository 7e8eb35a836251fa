-- A room that holds a whole state: all records of the lent tables brought over, a removal made in it as if its own tables had been lent, and an accepted call's state left in it.
-- Assumes nothing.
use Rattle.std.specs.Prelude.{ℕ, ◌≡◌, refl, Bool, true, false, List, Float, length, set}
use Rattle.std.proofs.Math.Path.{ap}
use Rattle.std.proofs.Common.{◌∙◌, arith, length-set}
use Rattle.std.proofs.Math.Dec.{eqb}
use Rattle.std.proofs.Math.Seq.{get_or-set_other}
use Rattle.laws.specs.Given.{Then}
use Rattle.steps.specs.Changing.{Changing, made}
use Rattle.steps.specs.Readable.{readable}
use Rattle.sparse.specs.Places.{constraint_count_at, edit_count_at, whole_at, words_size}
use Rattle.sparse.specs.Sparse.{Sparse, constraint_count, edit_count, read}
use Rattle.sparse.specs.Fits.{Lengths}
use Rattle.sparse.specs.Form.{Form}
use Rattle.sparse.specs.Agree.{Agree}
use Rattle.sparse_test.specs.Reads.{reads}
use Rattle.sparse_test.specs.Meaning.{reads-form, reads-readable}
use Rattle.sparse_test.specs.narrow.Narrow.{Typed}
use Rattle.sparse_test.specs.narrow.Tabled.{narrow-of}
use Rattle.sparse_test.specs.narrow.Holds.{left-reads, made-left}
use Rattle.stored.specs.Parts.{all_of}
use Rattle.stored.specs.Maps.{Stores}
use Rattle.stored.specs.Moved.{Moved}
use Rattle.stored.specs.Ended.{room_of}
use Rattle.lending.specs.declared.Answer as code
use Rattle.lending.specs.Entered.{bare, bare_words, Entered, bare-form, bare-tableau, bare-changes}
use Rattle.solver.specs.Bringing.{brought, Comes, Ends}
use Rattle.solver.specs.Begin.{apart-at-start}
use Rattle.solver.specs.Brings.{stores_both, records-come}
use Rattle.solver.specs.Concluding.{Done}

-- ---- the records come over, all of them

module _ (t w : Sparse) (en : Entered t w) where
  comes : Comes t w
  comes = record { lent = en.reads; form = en.form; lengths = en.lengths; apart = apart-at-start t w en }

  pub all-stored : (Stores t.words t.bytes) × (Stores w.words w.bytes)
  all-stored = stores_both t w comes

  mark : (read w).whole ≡ (read t).whole
  unfolding read bare_words
  mark = ap (λ (k : ℕ). eqb k 1) (en.agrees.heading whole_at (omega arith) ∙ get_or-set_other (set t.words constraint_count_at 0) edit_count_at whole_at 0 0 (omega arith) ∙ get_or-set_other t.words constraint_count_at whole_at 0 0 (omega arith))

  brought-is : brought (read t).constraints (read t).edits w ≡ read t
  brought-is = λ i. record { tableau = en.tableau i; changes = en.changes i; constraints = (read t).constraints; edits = (read t).edits; whole = mark i }

  module _ (uw ub : List ℕ) (ur : List Float) (m : ℕ)
      (raw : Moved (all_of (constraint_count t)) (all_of (edit_count t)) 0 t.words t.bytes t.reals w.words w.bytes w.reals uw ub ur m) where
    good : readable (read t) ≡ true
    good = reads-readable t en.reads

    ends : Ends w (read t).constraints (read t).edits (room_of w uw ub ur)
    ends = records-come t w comes uw ub ur m (ap readable brought-is ∙ good) raw

    pub all-brought : read (room_of w uw ub ur) ≡ read t
    all-brought = ends.0 ∙ brought-is

    pub all_read : Lengths (room_of w uw ub ur) → reads (room_of w uw ub ur) ≡ true
    all_read len = left-reads (room_of w uw ub ur) all-brought ends.1 len good (narrow-of t en.reads)

-- ---- the room as lent tables, its records left out

agree-self : (t : Sparse) → Agree t t
agree-self t =
    record {
      heading = λ j a. refl;
      ids = λ p a b. refl;
      numbers = λ j a. refl;
      uses = λ j a. refl;
      constraint_numbers = λ j a. refl;
      constraint_groups = λ j a. refl;
      gone = λ j a. refl;
      kinds = λ p a b. refl;
      row_places = λ p a b. refl;
      owners = λ j a. refl;
      changed = λ j a. refl;
      markers = λ j a. refl;
      others = λ j a. refl;
      term_counts = λ j a. refl;
      edited = λ j a. refl;
      pluses = λ j a. refl;
      minuses = λ j a. refl;
      terms = λ j a. refl;
      relations = λ j a. refl;
      constants = λ p a b. refl;
      olds = λ j a. refl;
      objective = λ p a b. refl;
      cutoff = refl;
      strengths = λ j a. refl;
      edit_strengths = λ j a. refl;
      suggestions = λ j a. refl;
      coefficients = λ j a. refl;
      constraint_constants = λ j a. refl;
      keys = λ j a. refl;
      values = λ j a. refl;
    }

bare-long : (w : List ℕ) → length w ≡ words_size → length (bare_words w) ≡ words_size
unfolding bare_words
bare-long w e = length-set (set w constraint_count_at 0) edit_count_at 0 ∙ length-set w constraint_count_at 0 ∙ e

pub entered-bare : (t : Sparse) → reads t ≡ true → Lengths t → {h : List ℕ} → h ≡ bare_words t.words → Entered t (record { words = h; keys = t.keys; bytes = t.bytes; reals = t.reals; values = t.values })
entered-bare t good len e =
    let form = reads-form t good in
    rw e (record {
      reads = good;
      long = len.0;
      form = bare-form t len.0 form;
      lengths = (bare-long t.words len.0, len.1, len.2, len.3, len.4);
      agrees = agree-self (bare t);
      tableau = bare-tableau t len.0;
      changes = bare-changes t len.0;
    })

-- where the call is accepted the room holds a whole state again
pub made_again : (c : Changing) (t u : Sparse) (r : code.Answer) → Typed c → reads t ≡ true → Lengths u → Done (made c) r t u → Then (eqb r.number 0) (reads u ≡ true)
made_again c t u r typed good len d = go (eqb r.number 0) d.1 d.2
  where
    go : (b : Bool) → Then b (read u ≡ (made c (read t)).state) → Then b (Form u) → Then b (reads u ≡ true)
    go true e form = made-left c t u typed good e form len
    go false e form = tt
