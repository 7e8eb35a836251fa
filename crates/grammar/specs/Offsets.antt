-- "first met from the left": the fault of a tree lies in the tree's own bytes, so one met earlier in the tree stands further left.
use Rattle.std.specs.Prelude.{ℕ, zero, suc, pred, ◌+◌, ◌-◌, ◌*◌, ◌≤◌, ◌<◌, ◌≡◌, Bool, true, false, cond, List, [], ◌∷◌, ◌++◌, leb, length}
use Rattle.std.proofs.Math.Option.{Option, none, some}
use Rattle.std.proofs.Common.{arith, length-append}
use Rattle.std.proofs.lemmas.List.{length-replicate}
use Rattle.grammar.specs.Sums.{most, most_name}
use Rattle.grammar.specs.Trees.{Sort, Tree, amount, variable, multiple, negated, bracketed, single, added, subtracted, Line, Fault, else, passes, depth_fault, past, fault_of, line_fault, worth, around, bytes_of, mark_of, line_bytes}
use Rattle.grammar.specs.Walk.{marked-length}

-- at a byte from one offset up to another
pub data Inside (from to : ℕ) : Option Fault → Type 0 where
  nowhere : Inside from to none
  somewhere : {x : Fault} → from ≤ x.offset → x.offset < to → Inside from to (some x)

wider : {from to from' to' : ℕ} {x : Option Fault} → from' ≤ from → to ≤ to' → Inside from to x → Inside from' to' x
wider h k nowhere = nowhere
wider h k (somewhere {x = e} i j) = somewhere {x = e} (omega arith) (omega arith)

in-else : {from to : ℕ} {x y : Option Fault} → Inside from to x → Inside from to y → Inside from to (else x y)
in-else nowhere j = j
in-else (somewhere h k) j = somewhere h k

in-if : {from to : ℕ} (t : Bool) {x y : Option Fault} → Inside from to x → Inside from to y → Inside from to (cond t x y)
in-if true i j = i
in-if false i j = j

in-digits : (top v at : ℕ) (w : List ℕ) → Inside at (at + length w) (passes top v at w)
unfolding passes
in-digits top v at [] = nowhere
in-digits top v at (b ∷ w) =
    let n = v * 10 + (b - 48) in
    in-if (leb n top) (wider (omega arith) (omega arith) (in-digits top n (suc at) w)) (somewhere (omega arith) (omega arith))

in-depth : {from to : ℕ} (room at : ℕ) → from ≤ at → at < to → Inside from to (depth_fault room at)
in-depth zero at h k = somewhere h k
in-depth (suc n) at h k = nowhere

pub in_tree : (room product at : ℕ) {k : Sort} (t : Tree k) → Inside at (at + length (bytes_of t)) (fault_of room product at t)
unfolding fault_of bytes_of
in_tree room product at (amount n) = in-digits most 0 at n.bytes
in_tree room product at (variable n) = wider (omega arith) (omega arith) (in-digits most_name 0 (at + 1) n.bytes)
in_tree room product at (multiple n g t) =
    let p = product * worth n in
    let q = at + length n.bytes in
    let l = length-append n.bytes (around g (42 ∷ []) ++ bytes_of t) in
    let m = marked-length g 42 (bytes_of t) in
    in-else (wider (omega arith) (omega arith) (in-digits most 0 at n.bytes))
    (in-else (in-if (leb p most) nowhere (somewhere (omega arith) (omega arith))) (wider (omega arith) (omega arith) (in_tree room p (past q g) t)))
in_tree room product at (negated g t) =
    let m = marked-length g 45 (bytes_of t) in
    wider (omega arith) (omega arith) (in_tree room product (past at g) t)
in_tree room product at (bracketed g t h) =
    let m = marked-length g 40 (bytes_of t ++ around h (41 ∷ [])) in
    let l = length-append (bytes_of t) (around h (41 ∷ [])) in
    in-else (in-depth room (at + g.before) (omega arith) (omega arith)) (wider (omega arith) (omega arith) (in_tree (pred room) product (past at g) t))
in_tree room product at (single t) = in_tree room product at t
in_tree room product at (added s g t) =
    let q = past (at + length (bytes_of s)) g in
    let l = length-append (bytes_of s) (around g (43 ∷ []) ++ bytes_of t) in
    let m = marked-length g 43 (bytes_of t) in
    in-else (wider (omega arith) (omega arith) (in_tree room product at s)) (wider (omega arith) (omega arith) (in_tree room product q t))
in_tree room product at (subtracted s g t) =
    let q = past (at + length (bytes_of s)) g in
    let l = length-append (bytes_of s) (around g (45 ∷ []) ++ bytes_of t) in
    let m = marked-length g 45 (bytes_of t) in
    in-else (wider (omega arith) (omega arith) (in_tree room product at s)) (wider (omega arith) (omega arith) (in_tree room product q t))

pub in-line : (l : Line) → Inside 0 (length (line_bytes l)) (line_fault l)
unfolding line_fault line_bytes
in-line l =
    let t = l.left_side in
    let u = l.right_side in
    let m = mark_of l.relation in
    let p = length (bytes_of t) + l.gap.before + length m + l.gap.after in
    let a = length-append (bytes_of t) (around l.gap m ++ bytes_of u) in
    let b : length (around l.gap m ++ bytes_of u) ≡ l.gap.before + length m + l.gap.after + length (bytes_of u) = simp (length-append, length-replicate) (omega arith) in
    in-else (wider (omega arith) (omega arith) (in_tree 16 1 0 t)) (wider (omega arith) (omega arith) (in_tree 16 1 p u))
