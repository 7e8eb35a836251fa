-- The reader over the bytes of a whole line: it meets the line's first fault, or it ends with the line's relation and sums.
use Prim.Native.Nat.{ℕ, zero, suc, ◌+◌}
use Rattle.std.specs.Prelude.{◌≡◌, Bool, true, false, length}
use Rattle.std.proofs.Math.Path.{refl}
use Rattle.std.proofs.Common.{sym, ap, ◌∙◌, zero-add, arith}
use mathlib.Core.List.{List, [], ◌∷◌, ◌++◌, append_assoc, append-nil}
use Rattle.std.proofs.Math.Dec.{T}
use Rattle.grammar.specs.Bytes.{is_digit, kind_of}
use Rattle.grammar.specs.Sums.{Relation, at_most, equal, at_least, Sums, one, turned, nothing}
use Rattle.grammar.specs.Reader.{Mode, first, spaced, wanted, Around, left, right, half, room_of, opened, follow, finished, flushed, Outcome, whole, is_bare, is_read, run}
use Rattle.grammar.specs.Trees.{Digits, Gap, Sort, Tree, amount, variable, multiple, negated, bracketed, single, added, subtracted, Line, fault_of, line_fault, all_digits, are_digits, spaces, around, bytes_of, mark_of, line_bytes}
use Rattle.grammar.specs.Pieces.{met, both, kind-digit}
use Rattle.grammar.proofs.Pieces.{met-else, walk-spaces, walk-joint}
use Rattle.grammar.specs.Walk.{settled, arrived}
use Rattle.grammar.proofs.Walk.{arrived-bare, marked-assoc, walk}
use Rattle.grammar.specs.LineWalk.{sums_of}

-- ---- a line's first part begins as any other

module _ (a : Around) (s : Sums) where
  lead-digits : (n : Digits) (w : List ℕ) (at : ℕ) → run (n.bytes ++ w) at first a s ≡ run (n.bytes ++ w) at (wanted one) a s
  unfolding run
  lead-digits n w at = by n.bytes n.are-digits
    where
      by : (bs : List ℕ) → T (are_digits bs) → run (bs ++ w) at first a s ≡ run (bs ++ w) at (wanted one) a s
      by [] h = absurd h
      by (b ∷ bs) h = rw (kind-digit b (both (is_digit b) (all_digits bs) h).0)

  -- `-` and `(`, also behind spaces
  module _ (c : ℕ) (by-spaced : (w : List ℕ) (at : ℕ) → run (c ∷ w) at spaced a s ≡ run (c ∷ w) at (wanted one) a s) (by_first : (w : List ℕ) (at : ℕ) → run (c ∷ w) at first a s ≡ run (c ∷ w) at (wanted one) a s) where
    lead-spaced : (n : ℕ) (w : List ℕ) (at : ℕ) → run (spaces n ++ (c ∷ w)) at spaced a s ≡ run (spaces n ++ (c ∷ w)) at (wanted one) a s
    unfolding run kind_of
    lead-spaced zero w at = by-spaced w at
    lead-spaced (suc n) w at = lead-spaced n w (suc at)

    lead-mark : (n : ℕ) (w : List ℕ) (at : ℕ) → run (spaces n ++ (c ∷ w)) at first a s ≡ run (spaces n ++ (c ∷ w)) at (wanted one) a s
    unfolding run kind_of
    lead-mark zero w at = by_first w at
    lead-mark (suc n) w at = lead-spaced n w (suc at)

  same-opened : (at : ℕ) (m m' : Mode) (r : ℕ) (k : Mode → Around → Sums → Outcome) → follow at m s (opened one a s r) k ≡ follow at m' s (opened one a s r) k
  same-opened at m m' zero k = refl
  same-opened at m m' (suc r) k = refl

  lead-minus : (n : ℕ) (w : List ℕ) (at : ℕ) → run (spaces n ++ (45 ∷ w)) at first a s ≡ run (spaces n ++ (45 ∷ w)) at (wanted one) a s
  unfolding run kind_of
  lead-minus = lead-mark 45 (λ w at. refl) (λ w at. refl)

  lead-opening : (n : ℕ) (w : List ℕ) (at : ℕ) → run (spaces n ++ (40 ∷ w)) at first a s ≡ run (spaces n ++ (40 ∷ w)) at (wanted one) a s
  unfolding run kind_of
  lead-opening = lead-mark 40 (λ w at. same-opened at spaced (wanted one) (room_of a) (run w (suc at))) (λ w at. same-opened at first (wanted one) (room_of a) (run w (suc at)))

  lead : {k : Sort} (t : Tree k) (w : List ℕ) (at : ℕ) → run (bytes_of t ++ w) at first a s ≡ run (bytes_of t ++ w) at (wanted one) a s
  unfolding bytes_of run kind_of
  lead (amount n) w at = lead-digits n w at
  lead (variable n) w at = refl
  lead (multiple n g t) w at = rw (append_assoc n.bytes (around g (42 ∷ []) ++ bytes_of t) w) (lead-digits n ((around g (42 ∷ []) ++ bytes_of t) ++ w) at)
  lead (negated g t) w at = rw (marked-assoc g (45 ∷ []) (bytes_of t) w) (lead-minus g.before (spaces g.after ++ (bytes_of t ++ w)) at)
  lead (bracketed g t h) w at = rw (marked-assoc g (40 ∷ []) (bytes_of t ++ around h (41 ∷ [])) w) (lead-opening g.before (spaces g.after ++ ((bytes_of t ++ around h (41 ∷ [])) ++ w)) at)
  lead (single t) w at = lead t w at
  lead (added t g u) w at = rw (append_assoc (bytes_of t) (around g (43 ∷ []) ++ bytes_of u) w) (lead t ((around g (43 ∷ []) ++ bytes_of u) ++ w) at)
  lead (subtracted t g u) w at = rw (append_assoc (bytes_of t) (around g (45 ∷ []) ++ bytes_of u) w) (lead t ((around g (45 ∷ []) ++ bytes_of u) ++ w) at)

-- ---- the relation

abbrev over : ℕ → Gap → Relation → ℕ
over at g r = at + g.before + length (mark_of r) + g.after

walk-relation : (r : Relation) (g : Gap) (v : List ℕ) (at : ℕ) (m : Mode) (s : Sums) → T (is_read m) → run (around g (mark_of r) ++ v) at m left s ≡ run v (over at g r) (wanted (turned one)) (right r) (flushed m s)
unfolding run kind_of
walk-relation r g v at m s h = ap (λ (l : List ℕ). run l at m left s) (simple g (mark_of r)) ∙ (by r ∙ walk-spaces g.after v (at + g.before + length (mark_of r)) (turned one) (right r) (flushed m s))
  where
    simple : (g : Gap) (m : List ℕ) → around g m ++ v ≡ spaces g.before ++ (m ++ (spaces g.after ++ v))
    simple g m = simp append_assoc

    tail : List ℕ
    tail = spaces g.after ++ v

    two : (r : Relation) (p : ℕ) → run (61 ∷ tail) p (half r) left (flushed m s) ≡ run tail (p + 1) (wanted (turned one)) (right r) (flushed m s)
    two r p = ap (λ (n : ℕ). run tail n (wanted (turned one)) (right r) (flushed m s)) (omega arith)

    by : (r : Relation) → run (spaces g.before ++ (mark_of r ++ tail)) at m left s ≡ run tail (at + g.before + length (mark_of r)) (wanted (turned one)) (right r) (flushed m s)
    by at_most = walk-joint g.before 60 (61 ∷ tail) at m left s h tt refl ∙ (two at_most (at + g.before + 1) ∙ ap (λ (p : ℕ). run tail p (wanted (turned one)) (right at_most) (flushed m s)) (omega arith))
    by equal = walk-joint g.before 61 tail at m left s h tt refl
    by at_least = walk-joint g.before 62 (61 ∷ tail) at m left s h tt refl ∙ (two at_least (at + g.before + 1) ∙ ap (λ (p : ℕ). run tail p (wanted (turned one)) (right at_least) (flushed m s)) (omega arith))

-- ---- a line

pub walk-line : (l : Line) → run (line_bytes l) 0 first left nothing ≡ met (line_fault l) (whole l.relation (sums_of l))
unfolding line_bytes line_fault sums_of room_of run
walk-line l =
    let t = l.left_side in
    let u = l.right_side in
    let g = l.gap in
    let r = l.relation in
    let p = length (bytes_of t) in
    let m = arrived one t nothing in
    let n = arrived (turned one) u (settled m) in
    let x = fault_of 16 1 0 t in
    let y = fault_of 16 1 (over p g r) u in
    lead left nothing t (around g (mark_of r) ++ bytes_of u) 0
    ∙ (walk t (around g (mark_of r) ++ bytes_of u) 0 one left nothing (λ q s. refl)
    ∙ (ap (met x)
    (ap (λ (q : ℕ). run (around g (mark_of r) ++ bytes_of u) q m.mode left m.sums) (zero-add p)
    ∙ (walk-relation r g (bytes_of u) p m.mode m.sums (arrived-bare one t nothing).1
    ∙ (ap (λ (v : List ℕ). run v (over p g r) (wanted (turned one)) (right r) (settled m)) (sym (append-nil (bytes_of u)))
    ∙ (walk u [] (over p g r) (turned one) (right r) (settled m) (λ q s. refl) ∙ ap (met y) (done r (over p g r + length (bytes_of u)) n.mode n.sums (arrived-bare (turned one) u (settled m)).0)))))
    ∙ sym (met-else x y (whole r (sums_of l)))))
  where
    done : (r : Relation) (at : ℕ) (m : Mode) (s : Sums) → T (is_bare m) → finished at (is_read m) (is_bare m) (right r) (flushed m s) ≡ whole r (flushed m s)
    done r at m s h = by (is_bare m) h
      where
        by : (t : Bool) → T t → finished at (is_read m) t (right r) (flushed m s) ≡ whole r (flushed m s)
        by true h = refl
        by false h = absurd h
