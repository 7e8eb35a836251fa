-- The reader over the bytes of a line of the second edition: it meets the first fault of its T-01 line, or it ends with all that the line says.
use Rattle.std.specs.Prelude.{ℕ, ◌+◌, ◌≡◌, Bool, true, false, cond, T}
use Rattle.std.proofs.Math.Path.{refl, ap}
use Rattle.std.proofs.Common.{sym, ◌∙◌, arith}
use mathlib.Core.List.{[], ◌++◌, append-nil}
use Rattle.std.proofs.Math.Option.{Option, none, some}
use Rattle.std.proofs.Math.ListN.{length}
use Rattle.grammar.specs.Sums.{Relation, Sums, nothing}
use Rattle.grammar.specs.Reader.{Mode, first, spaced, wanted, lettered, number, numbered, named, closed, apart, half, Around, part, sum, inside, left, right, read, halted, whole, finished, flushed, is_read, is_bare, run}
use Rattle.grammar.specs.Trees.{Line, Fault, line_fault, line_bytes}
use Rattle.grammar.specs.Pieces.{met as blamed}
use Rattle.grammar.specs.LineWalk.{sums_of}
use Rattle.grammar.proofs.LineWalk.{walk-line}
use Rattle.grammar.proofs.Facts.{fault-above, never}
use Rattle.grammar.specs.edition.Endings.{Ending, ending_bytes, strength_of, group_of}
use Rattle.grammar.specs.edition.Steps.{head, Found, met, found, unended, pass, start}
use Rattle.grammar.specs.edition.Follow.{Along, passed, stopped, along}
use Rattle.grammar.specs.edition.Tails.{walk-ending}
use Rattle.grammar.specs.edition.Free.{free-line}
use Rattle.grammar.specs.edition.Walks.{met-in}

bare-read : (m : Mode) → T (is_bare m) → T (is_read m)
bare-read first h = absurd h
bare-read spaced h = absurd h
bare-read (wanted f) h = absurd h
bare-read (lettered f) h = absurd h
bare-read (number f n) h = tt
bare-read (numbered f n) h = absurd h
bare-read (named f v) h = tt
bare-read closed h = tt
bare-read apart h = absurd h
bare-read (half r) h = absurd h

abbrev Ends : Relation → Sums → Bool → Around → Sums → Type 0
Ends r u t a s = (a ≡ right r) × T t × (s ≡ u)

if-read : (t : Bool) (i : ℕ) (b : Bool) (s u : Sums) (r : Relation) → cond t (read i b s) (halted 20 i) ≡ whole r u → ⊥
if-read true i b s u r e = never (cc)
if-read false i b s u r e = never (cc)

-- where a whole line ended
ends-whole : (r : Relation) (u : Sums) (at : ℕ) (q t : Bool) (a : Around) (s : Sums) → finished at q t a s ≡ whole r u → Ends r u t a s
ends-whole r u at q t (part n) s e = absurd (if-read q at t s u r e)
ends-whole r u at q t (sum n f) s e = absurd (if-read q at t s u r e)
ends-whole r u at q t (inside f a) s e = never (cc)
ends-whole r u at q t left s e = never (cc)
ends-whole r u at q true (right x) s e = (ap right (let z : x ≡ r = cc in z), tt, let z : s ≡ u = cc in z)
ends-whole r u at q false (right x) s e = never (cc)

-- at a line's end the only refusal is 20
twenty-at-end : (at : ℕ) (q t : Bool) (a : Around) (s : Sums) {n i : ℕ} → finished at q t a s ≡ halted n i → n ≡ 20
twenty-at-end at true t (part k) s e = never (cc)
twenty-at-end at false t (part k) s e = cc
twenty-at-end at true t (sum k f) s e = never (cc)
twenty-at-end at false t (sum k f) s e = cc
twenty-at-end at q t (inside f a) s e = cc
twenty-at-end at q t left s e = cc
twenty-at-end at q true (right x) s e = never (cc)
twenty-at-end at q false (right x) s e = cc

module _ (l : Line) (z : Option Ending) where
  abbrev said : Found
  said = found l.relation (sums_of l) (strength_of z) (group_of z)

  walked : unended (run (line_bytes l ++ []) 0 first left nothing) ≡ unended (blamed (line_fault l) (whole l.relation (sums_of l)))
  walked = rw append-nil (ap unended (walk-line l))

  ending-from : (at : ℕ) (m : Mode) (a : Around) (s : Sums) → finished at (is_read m) (is_bare m) a (flushed m s) ≡ whole l.relation (sums_of l) → pass (ending_bytes z) at (head m a s) ≡ said
  unfolding pass
  ending-from at m a s e = by z
    where
      by : (z : Option Ending) → pass (ending_bytes z) at (head m a s) ≡ found l.relation (sums_of l) (strength_of z) (group_of z)
      by none = ap unended e
      by (some g) =
          let h = ends-whole l.relation (sums_of l) at (is_read m) (is_bare m) a (flushed m s) e in
          rw (h.0, ← h.2) (walk-ending l.relation g at m s (bare-read m h.1))

  met-same : (x : Option Fault) (n i : ℕ) → unended (blamed x (whole l.relation (sums_of l))) ≡ met n i → met n i ≡ met-in x said
  met-same none n i e = never (cc)
  met-same (some x) n i e = sym e

  from_end : (x : Option Fault) → line_fault l ≡ x → (at : ℕ) (m : Mode) (a : Around) (s : Sums) → finished at (is_read m) (is_bare m) a (flushed m s) ≡ blamed x (whole l.relation (sums_of l)) → pass (ending_bytes z) at (head m a s) ≡ met-in x said
  from_end none q at m a s e = ending-from at m a s e
  from_end (some x) q at m a s e =
      let n = twenty-at-end at (is_read m) (is_bare m) a (flushed m s) e in
      let h = fault-above l q in
      absurd (omega arith)

  pub walk-second : pass (line_bytes l ++ ending_bytes z) 0 start ≡ met-in (line_fault l) said
  unfolding run
  walk-second = by (along (line_bytes l) 0 first left nothing (free-line l))
    where
      by : Along (line_bytes l) 0 first left nothing → pass (line_bytes l ++ ending_bytes z) 0 start ≡ met-in (line_fault l) said
      by (passed m a s f g) = g (ending_bytes z) ∙ from_end (line_fault l) refl (0 + length (line_bytes l)) m a s (sym (f []) ∙ rw append-nil (walk-line l))
      by (stopped n i h f g) = g (ending_bytes z) ∙ met-same (line_fault l) n i (sym walked ∙ f [])
