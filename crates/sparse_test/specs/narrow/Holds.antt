-- Tables that hold a state: what a changing call makes of it is held again, written into tables or left in others of the form. Assumes nothing.
use Rattle.std.specs.Prelude.{◌≡◌, true}
use Rattle.std.proofs.Common.{ap, ◌∙◌}
use Rattle.steps.specs.State.{State}
use Rattle.steps.specs.Changing.{Changing, adds, removes, drops, adds_edit, removes_edit, suggests, made}
use Rattle.steps.specs.Readable.{readable}
use Rattle.keeps.specs.Keeps.{add_reads, remove-reads, drop-reads, add_edit-reads, remove_edit-reads, suggest-reads}
use Rattle.sparse_test.specs.zeros.PlainCalls.{PlainState, add-plain, remove-plain, drop_group-plain, add_edit-plain, remove_edit-plain, suggest-plain}
use Rattle.sparse.specs.Sparse.{Sparse, read}
use Rattle.sparse.specs.Fits.{Lengths}
use Rattle.sparse.specs.Form.{Form}
use Rattle.sparse.specs.Write.{write}
use Rattle.sparse_test.specs.Reads.{reads}
use Rattle.sparse_test.specs.Meaning.{reads-readable}
use Rattle.sparse_test.specs.narrow.Narrow.{Narrow, Typed, made-narrow}
use Rattle.sparse_test.specs.narrow.Tabled.{narrow-of, plain_of}
use Rattle.sparse_test.specs.narrow.Written.{written_read, written-state, written-lengths, form-reads}

pub made_reads : (c : Changing) (s : State) → readable s ≡ true → readable (made c s).state ≡ true
made_reads (adds g n ts k r b) s h = add_reads g n ts k r b s h
made_reads (removes n b) s h = remove-reads n b s h
made_reads (drops g b) s h = drop-reads g b s h
made_reads (adds_edit v k b) s h = add_edit-reads v k b s h
made_reads (removes_edit v b) s h = remove_edit-reads v b s h
made_reads (suggests v x b) s h = suggest-reads v x b s h

pub made_plain : (c : Changing) (s : State) → PlainState s → PlainState (made c s).state
made_plain (adds g n ts k r b) s h = add-plain g n ts k r b s h
made_plain (removes n b) s h = remove-plain n b s h
made_plain (drops g b) s h = drop_group-plain g b s h
made_plain (adds_edit v k b) s h = add_edit-plain v k b s h
made_plain (removes_edit v b) s h = remove_edit-plain v b s h
made_plain (suggests v x b) s h = suggest-plain v x b s h

-- tables as an array's type has them, that read as the state s
pub record Holds (s : State) (t : Sparse) : Type 0 where
  pub lengths : Lengths t
  pub reads : reads t ≡ true
  pub state : read t ≡ s

pub written-holds : (s : State) (t : Sparse) → readable s ≡ true → Narrow s → PlainState s → Lengths t → Holds s (write s t)
written-holds s t r n p l = record { lengths = written-lengths s t r n p l; reads = written_read s t r n p l; state = written-state s t r n p l }

-- a call with numbers of its types: its state, written into the tables
pub made-written : (c : Changing) (t : Sparse) → Typed c → reads t ≡ true → Lengths t → Holds (made c (read t)).state (write (made c (read t)).state t)
made-written c t typed good len = written-holds (made c (read t)).state t (made_reads c (read t) (reads-readable t good)) (made-narrow (read t) (narrow-of t good) c typed) (made_plain c (read t) (plain_of t good)) len

-- what the tables read as is left in others of the form
pub left-reads : (u : Sparse) {s : State} → read u ≡ s → Form u → Lengths u → readable s ≡ true → Narrow s → reads u ≡ true
left-reads u e form len good narrow = form-reads u form len (ap readable e ∙ good) (rw e narrow)

-- the same of a call's state
pub made-left : (c : Changing) (t u : Sparse) → Typed c → reads t ≡ true → read u ≡ (made c (read t)).state → Form u → Lengths u → reads u ≡ true
made-left c t u typed good e form len = left-reads u e form len (made_reads c (read t) (reads-readable t good)) (made-narrow (read t) (narrow-of t good) c typed)
