-- The five tables together, and that they are the same five arrays.
use Rattle.std.specs.Prelude.{◌≡◌, ℕ, List, Float}
use Rattle.sparse.specs.Sparse.{Sparse}
use Rattle.sparse.specs.declared.tables.Tables.{Tables}
use Rattle.sparse.specs.declared.tables.TablesMut.{TablesMut}

abbrev pub lent : Tables → Sparse
lent t = record { words = t.words.now; keys = t.keys.now; bytes = t.bytes.now; reals = t.reals.now; values = t.values.now }

abbrev pub held : TablesMut → Sparse
held t = record { words = t.words.now; keys = t.keys.now; bytes = t.bytes.now; reals = t.reals.now; values = t.values.now }

-- no table stands in another's place: what is written through the one is read through the other
abbrev pub Same : TablesMut → TablesMut → Type 0
Same t u = (t.words.ghost_name ≡ u.words.ghost_name) × (t.keys.ghost_name ≡ u.keys.ghost_name) × (t.bytes.ghost_name ≡ u.bytes.ghost_name) × (t.reals.ghost_name ≡ u.reals.ghost_name) × (t.values.ghost_name ≡ u.values.ghost_name)

-- what five references lend ends as what the same five arrays hold
pub given-back : (P : Sparse → Type 0) {w k b : List ℕ} {r v : List Float} (t : TablesMut) → w ≡ t.words.now → k ≡ t.keys.now → b ≡ t.bytes.now → r ≡ t.reals.now → v ≡ t.values.now → P (held t) → P (record { words = w; keys = k; bytes = b; reals = r; values = v })
given-back P t e₁ e₂ e₃ e₄ e₅ p = rw (e₁, e₂, e₃, e₄, e₅) p
