-- A state that reads, with numbers that a u32 holds and no cell -0.0, has its place in the tables, and the tables that it is written into read as it. Assumes nothing.
use Rattle.std.specs.Prelude.{ℕ, zero, suc, ◌≤◌, ◌<◌, ◌≡◌, true, List, [], ◌∷◌, length, get_or}
use Rattle.std.proofs.Common.{sym, ap, ◌∙◌, subst, not-suc-le-zero, le_of_suc-le-suc, leb-true}
use Rattle.steps.specs.State.{Variable, Constraint, State}
use Rattle.steps.specs.Readable.{readable}
use Rattle.keeps.specs.Lists.{All}
use Rattle.keeps.specs.Tested.{reads_in}
use Rattle.sparse_test.specs.zeros.PlainCalls.{PlainState}
use Rattle.sparse.specs.Sparse.{Sparse, read}
use Rattle.sparse.specs.Write.{no_variable, no_constraint, write}
use Rattle.sparse.specs.Fits.{Lengths, Fits}
use Rattle.sparse.specs.Form.{Form}
use Rattle.sparse.proofs.ReadBack.{read-write}
use Rattle.sparse.proofs.Written.{written_is, write_read}
use Rattle.sparse.proofs.Copied.{copy-lengths}
use Rattle.sparse_test.specs.Reads.{greatest_u32, reads}
use Rattle.sparse_test.specs.Meaning.{reads-form}
use Rattle.sparse_test.specs.WrittenReads as written
use Rattle.sparse_test.specs.zeros.Fitting.{fits-of}
use Rattle.sparse_test.specs.narrow.Numbers.{is_u32}
use Rattle.sparse_test.specs.narrow.Narrow.{Narrow}
use Rattle.sparse_test.specs.narrow.Tabled.{form-plain}

all-place : {A : Type 0} (P : A → Type 0) (xs : List A) (d : A) (j : ℕ) → j < length xs → All P xs → P (get_or xs j d)
all-place P [] d j k h = absurd (not-suc-le-zero k)
all-place P (x ∷ xs) d zero k h = h.0
all-place P (x ∷ xs) d (suc j) k h = all-place P xs d j (le_of_suc-le-suc k) h.1

u32-le : (n : ℕ) → is_u32 n ≡ true → n ≤ greatest_u32
unfolding is_u32
u32-le n e = leb-true n greatest_u32 e

narrow-by : (s : State) → Narrow s → written.Narrow s
narrow-by s n =
    record {
      next = u32-le s.tableau.next_id n.next;
      variables = λ j h. u32-le _ (all-place (λ (v : Variable). is_u32 v.number ≡ true) s.changes.variables no_variable j h n.variables);
      constraints = λ j h. u32-le _ (all-place (λ (c : Constraint). is_u32 c.number ≡ true) s.constraints no_constraint j h n.constraints);
      gone = λ j h. u32-le _ (all-place (λ (m : ℕ). is_u32 m ≡ true) s.changes.gone 0 j h n.gone);
    }

module _ (s : State) (t : Sparse) (r : readable s ≡ true) (n : Narrow s) (plain : PlainState s) (len : Lengths t) where
  fits : Fits s
  fits = fits-of s (reads_in s r) plain

  pub written_read : reads (write s t) ≡ true
  written_read = written.written-reads s t fits len (narrow-by s n) r

  pub written-state : read (write s t) ≡ s
  written-state = read-write s t fits len

  -- what is past the counts stays, so tables keep their lengths
  pub written-lengths : Lengths (write s t)
  written-lengths =
      let form : Form (write s t) = reads-form (write s t) written_read in
      subst Lengths (written_is (write s t) form t ∙ ap (λ (x : State). write x t) written-state) (copy-lengths (write s t) t form.counts len)

-- tables of the form whose state reads are those that it is written into, so they read as it
pub form-reads : (t : Sparse) → Form t → Lengths t → readable (read t) ≡ true → Narrow (read t) → reads t ≡ true
form-reads t f len r n = ap reads (sym (write_read t f)) ∙ written_read (read t) t r n (form-plain t f) len
