-- "Units with T-01's reader stay in the field: such a reader refuses every line that holds `@`, with 20 where all before the `@` reads, and reads every other line as the new one does."
use Rattle.std.specs.Prelude.{ℕ, suc, ◌≤◌, ◌≡◌, refl, Bool, true, false, cond, List, [], ◌∷◌, ◌++◌, T, leb, eqb, length, take}
use Rattle.std.proofs.Common.{sym, ap, ◌∙◌, subst, append_assoc, append-nil, arith, length-append, take_at}
use Rattle.std.proofs.Math.Option.{none}
use Rattle.grammar.specs.Sums.{Reading, reads, outside, refused, nothing}
use Rattle.grammar.specs.Reader.{first, left, Outcome, read, halted, whole, answered, run, read_line}
use Rattle.grammar.specs.Trees.{Line, line_bytes, line_fault}
use Rattle.grammar.specs.Says.{astray, Begins, NotBefore}
use Rattle.grammar.proofs.Theorems.{only, accepts}
use Rattle.grammar.specs.edition.Endings.{Reply, denied}
use Rattle.grammar.specs.edition.Steps.{unended, pass, start, replied, read_second}
use Rattle.grammar.specs.edition.Follow.{free, unmarked}
use Rattle.grammar.specs.edition.Free.{free-line, not_free}
use Rattle.grammar.specs.edition.OldReaders.{renewed}

-- ---- "reads every other line as the new one does", refusals and offsets too

same_answer : (x : Outcome) → replied (unended x) ≡ renewed (answered x)
same_answer (read i t s) = refl
same_answer (halted n i) = by (eqb n 20)
  where
    by : (t : Bool) → cond t (Reply.astray i) (denied n) ≡ renewed (cond t (outside i) (refused n))
    by true = refl
    by false = refl
same_answer (whole r s) = refl

pub as-old : (w : List ℕ) → T (free w) → read_second w ≡ renewed (read_line w)
unfolding read_second read_line
as-old w h = by (leb (length w) 4096)
  where
    by : (t : Bool) → cond t (replied (pass w 0 start)) (denied 19) ≡ renewed (cond t (answered (run w 0 first left nothing)) (refused 19))
    by true = ap replied (unmarked w 0 first left nothing h) ∙ same_answer (run w 0 first left nothing)
    by false = refl

-- ---- "refuses every line that holds `@`"

no_line : (p z : List ℕ) (l : Line) → line_bytes l ≡ p ++ (64 ∷ z) → ⊥
no_line p z l e = not_free p z (subst (λ (w : List ℕ). T (free w)) e (free-line l))

pub old-refuses : (p z : List ℕ) (r : Reading) → read_line (p ++ (64 ∷ z)) ≡ reads r → ⊥
old-refuses p z r e =
    let a = (accepts (p ++ (64 ∷ z)) r).0 e in
    no_line p z a.0 a.2

-- ---- "with 20 where all before the `@` reads"

module _ (p z : List ℕ) (short : length (p ++ (64 ∷ z)) ≤ 4096) where
  abbrev line : List ℕ
  line = p ++ (64 ∷ z)

  place : length (p ++ (64 ∷ [])) ≡ suc (length p)
  place = rw length-append (omega arith)

  with-mark : take (suc (length p)) line ≡ p ++ (64 ∷ [])
  with-mark = ap (λ (w : List ℕ). take (suc (length p)) w) (sym (append_assoc p (64 ∷ []) z)) ∙ take_at (p ++ (64 ∷ [])) z (suc (length p)) place

  no-further : (l : Line) → (line_bytes l ≡ line → ⊥) × (Begins l line (suc (length p)) → ⊥)
  no-further l = (no_line p z l, λ (h, (more, e)). no_line p more l (sym e ∙ (ap (λ (w : List ℕ). w ++ more) with-mark ∙ append_assoc p (64 ∷ []) more)))

  -- at the `@`, wherever what stands before it begins a line and nothing is met in it
  pub old-stops : (l : Line) (more : List ℕ) → p ++ more ≡ line_bytes l → NotBefore (length p) (line_fault l) → read_line line ≡ outside (length p)
  old-stops l more e f =
      let inside : length p ≤ length line = rw length-append (omega arith) in
      sym (only line (outside (length p)) (astray (length p) l short (inside, (more, ap (λ (w : List ℕ). w ++ more) (take_at p (64 ∷ z) (length p) refl) ∙ e)) f no-further))

  -- so where it is a line of the grammar, also one that is refused for its sums alone
  pub old-stops-behind : (l : Line) → line_bytes l ≡ p → line_fault l ≡ none → read_line line ≡ outside (length p)
  old-stops-behind l e f = old-stops l [] (append-nil p ∙ sym e) (rw f tt)

  -- and where it reads
  pub old-stops-read : (r : Reading) → read_line p ≡ reads r → read_line line ≡ outside (length p)
  old-stops-read r e = let a = (accepts p r).0 e in old-stops-behind a.0 a.2 a.3
