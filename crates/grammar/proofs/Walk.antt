-- The reader over the bytes of a tree: it meets the tree's first fault, or it arrives behind the tree with the tree's sums.
use Rattle.std.specs.Prelude.{ℕ, zero, suc, pred, ◌+◌, ◌*◌, ◌≡◌, refl, List, [], ◌∷◌, ◌++◌, T, length}
use Rattle.std.proofs.Common.{sym, ap, ◌∙◌, append_assoc, add-zero, add-one, arith, length-append}
use Rattle.std.proofs.Math.Option.{Option}
use Rattle.std.proofs.lemmas.List.{length-replicate}
use Rattle.grammar.specs.Bytes.{kind_of}
use Rattle.grammar.specs.Sums.{Sums, most, most_name, Factor, turned, multiplied}
use Rattle.grammar.specs.Reader.{Mode, wanted, named, closed, Around, inside, room_of, go, opened, unturned, follow, step, Outcome, flushed, is_bare, is_read, run}
use Rattle.grammar.specs.Trees.{Gap, Sort, Tree, amount, variable, multiple, negated, bracketed, single, added, subtracted, Fault, else, passes, multiplier_fault, depth_fault, past, fault_of, worth, spaces, around, bytes_of}
use Rattle.grammar.specs.Pieces.{met, Joint}
use Rattle.grammar.proofs.Pieces.{met-else, walk-number, walk-name, walk-spaces, walk-star, walk-joint}
use Rattle.grammar.specs.Walk.{settled, arrived, Bears, marked-length}

-- a part was read, and the line may end behind it
pub arrived-bare : (f : Factor) {k : Sort} (t : Tree k) (s : Sums) → T (is_bare (arrived f t s).mode) × T (is_read (arrived f t s).mode)
unfolding arrived
arrived-bare f (amount n) s = (tt, tt)
arrived-bare f (variable n) s = (tt, tt)
arrived-bare f (multiple n g t) s = arrived-bare (multiplied f (worth n)) t s
arrived-bare f (negated g t) s = arrived-bare (turned f) t s
arrived-bare f (bracketed g t h) s = (tt, tt)
arrived-bare f (single t) s = arrived-bare f t s
arrived-bare f (added t g u) s = arrived-bare f u (settled (arrived f t s))
arrived-bare f (subtracted t g u) s = arrived-bare (turned f) u (settled (arrived f t s))

-- a mark and its spaces
pub marked-assoc : (g : Gap) (m v w : List ℕ) → (around g m ++ v) ++ w ≡ spaces g.before ++ (m ++ (spaces g.after ++ (v ++ w)))
marked-assoc g m v w = simp append_assoc

close-assoc : (g : Gap) (w : List ℕ) → around g (41 ∷ []) ++ w ≡ spaces g.before ++ (41 ∷ (spaces g.after ++ w))
close-assoc g w = simp append_assoc

close-length : (g : Gap) → length (around g (41 ∷ [])) ≡ g.before + 1 + g.after
close-length g = simp (length-append, length-replicate) (omega arith)

walk-closed : (n : ℕ) (w : List ℕ) (at : ℕ) (a : Around) (s : Sums) → run (spaces n ++ w) at closed a s ≡ run w (at + n) closed a s
unfolding run kind_of
walk-closed zero w at a s = rw add-zero
walk-closed (suc n) w at a s = walk-closed n w (suc at) a s ∙ ap (λ (p : ℕ). run w p closed a s) (omega arith)

-- the bracket that opens
walk-opening : (n : ℕ) (w : List ℕ) (at : ℕ) (f : Factor) (a : Around) (s : Sums) → run (spaces n ++ (40 ∷ w)) at (wanted f) a s ≡ met (depth_fault (room_of a) (at + n)) (run w (at + n + 1) (wanted f) (inside f a) s)
unfolding run kind_of
walk-opening n w at f a s = walk-spaces n (40 ∷ w) at f a s ∙ by (room_of a)
  where
    by : (r : ℕ) → follow (at + n) (wanted f) s (opened f a s r) (run w (suc (at + n))) ≡ met (depth_fault r (at + n)) (run w (at + n + 1) (wanted f) (inside f a) s)
    by zero = refl
    by (suc r) = ap (λ (p : ℕ). run w p (wanted f) (inside f a) s) (omega arith)

-- the `-` before a part
walk-minus : (n : ℕ) (w : List ℕ) (at : ℕ) (f : Factor) (a : Around) (s : Sums) → run (spaces n ++ (45 ∷ w)) at (wanted f) a s ≡ run w (at + n + 1) (wanted (turned f)) a s
unfolding run kind_of
walk-minus n w at f a s = walk-spaces n (45 ∷ w) at f a s ∙ ap (λ (p : ℕ). run w p (wanted (turned f)) a s) (omega arith)

met-both : (x y z : Option Fault) (o : Outcome) → met x (met y (met z o)) ≡ met (else x (else y z)) o
met-both x y z o = sym (met-else x (else y z) o ∙ ap (met x) (met-else y z o))

-- behind a mark and its spaces
abbrev later : ℕ → Gap → ℕ → ℕ
later at g n = past at g + n

-- the `+`, the `-` or the relation behind a part, and its spaces
walk-joining : (c : ℕ) (g : Gap) (v w : List ℕ) (at : ℕ) (m : Mode) (a : Around) (s : Sums) {f : Factor} {s' : Sums} → T (is_read m) → Joint (kind_of c) → step closed a (flushed m s) (kind_of c) ≡ go (wanted f) a s'
    → run ((around g (c ∷ []) ++ v) ++ w) at m a s ≡ run (v ++ w) (past at g) (wanted f) a s'
walk-joining c g v w at m a s {f} {s'} r j q =
    ap (λ (l : List ℕ). run l at m a s) (marked-assoc g (c ∷ []) v w)
    ∙ (walk-joint g.before c (spaces g.after ++ (v ++ w)) at m a s r j q ∙ walk-spaces g.after (v ++ w) (at + g.before + 1) f a s')

pub walk : {k : Sort} (t : Tree k) (w : List ℕ) (at : ℕ) (f : Factor) (a : Around) (s : Sums) → Bears k a f
    → run (bytes_of t ++ w) at (wanted f) a s ≡ met (fault_of (room_of a) f.times at t) (run w (at + length (bytes_of t)) (arrived f t s).mode a (arrived f t s).sums)
unfolding bytes_of fault_of arrived run kind_of room_of
walk (amount n) w at f a s h = walk-number f n w at a s
walk (variable n) w at f a s h =
    rw (add-one at) (walk-name f n w (suc at) a s ∙ ap (λ (p : ℕ). met (passes most_name 0 (suc at) n.bytes) (run w p (named f (worth n)) a s)) (omega arith))
walk (multiple n g t) w at f a s h =
    let l = length n.bytes in
    let x = passes most 0 at n.bytes in
    let y = multiplier_fault (f.times * worth n) (at + l + g.before) in
    let z = fault_of (room_of a) (f.times * worth n) (past (at + l) g) t in
    let m = arrived (multiplied f (worth n)) t s in
    ap (λ (v : List ℕ). run v at (wanted f) a s) (append_assoc n.bytes (around g (42 ∷ []) ++ bytes_of t) w ∙ ap (λ (v : List ℕ). n.bytes ++ v) (marked-assoc g (42 ∷ []) (bytes_of t) w))
    ∙ (walk-number f n (spaces g.before ++ (42 ∷ (spaces g.after ++ (bytes_of t ++ w)))) at a s
    ∙ (ap (met x)
    (walk-star g.before (spaces g.after ++ (bytes_of t ++ w)) (at + l) (worth n) f a s
    ∙ ap (met y) (walk-spaces g.after (bytes_of t ++ w) (at + l + g.before + 1) (multiplied f (worth n)) a s ∙ walk t w (past (at + l) g) (multiplied f (worth n)) a s tt))
    ∙ (met-both x y z (run w (later (at + l) g (length (bytes_of t))) m.mode a m.sums)
    ∙ ap (λ (p : ℕ). met (else x (else y z)) (run w p m.mode a m.sums))
    (omega (arith, length-append n.bytes (around g (42 ∷ []) ++ bytes_of t), marked-length g 42 (bytes_of t))))))
walk (negated g t) w at f a s h =
    let m = arrived (turned f) t s in
    ap (λ (v : List ℕ). run v at (wanted f) a s) (marked-assoc g (45 ∷ []) (bytes_of t) w)
    ∙ (walk-minus g.before (spaces g.after ++ (bytes_of t ++ w)) at f a s
    ∙ (walk-spaces g.after (bytes_of t ++ w) (at + g.before + 1) (turned f) a s
    ∙ (walk t w (past at g) (turned f) a s tt
    ∙ ap (λ (p : ℕ). met (fault_of (room_of a) f.times (past at g) t) (run w p m.mode a m.sums)) (omega (arith, marked-length g 45 (bytes_of t))))))
walk (bracketed g t h) w at f a s b =
    let x = depth_fault (room_of a) (at + g.before) in
    let y = fault_of (pred (room_of a)) f.times (past at g) t in
    let m = arrived f t s in
    let p = past at g + length (bytes_of t) in
    let v = around h (41 ∷ []) ++ w in
    ap (λ (l : List ℕ). run l at (wanted f) a s)
    (marked-assoc g (40 ∷ []) (bytes_of t ++ around h (41 ∷ [])) w ∙ ap (λ (l : List ℕ). spaces g.before ++ (40 ∷ (spaces g.after ++ l))) (append_assoc (bytes_of t) (around h (41 ∷ [])) w))
    ∙ (walk-opening g.before (spaces g.after ++ (bytes_of t ++ v)) at f a s
    ∙ (ap (met x)
    (walk-spaces g.after (bytes_of t ++ v) (at + g.before + 1) f (inside f a) s
    ∙ (walk t v (past at g) f (inside f a) s (λ q u. refl)
    ∙ ap (met y)
    (ap (λ (l : List ℕ). run l p m.mode (inside f a) m.sums) (close-assoc h w)
    ∙ (walk-joint h.before 41 (spaces h.after ++ w) p m.mode (inside f a) m.sums (arrived-bare f t s).1 tt refl ∙ walk-closed h.after w (p + h.before + 1) a (settled m)))))
    ∙ (sym (met-else x y (run w (past p h) closed a (settled m)))
    ∙ ap (λ (q : ℕ). met (else x y) (run w q closed a (settled m)))
    (omega (arith, marked-length g 40 (bytes_of t ++ around h (41 ∷ [])), length-append (bytes_of t) (around h (41 ∷ [])), close-length h)))))
walk (single t) w at f a s h = walk t w at f a s tt
walk (added t g u) w at f a s h =
    let l = length (bytes_of t) in
    let x = fault_of (room_of a) f.times at t in
    let y = fault_of (room_of a) f.times (past (at + l) g) u in
    let m = arrived f t s in
    let n = arrived f u (settled m) in
    ap (λ (v : List ℕ). run v at (wanted f) a s) (append_assoc (bytes_of t) (around g (43 ∷ []) ++ bytes_of u) w)
    ∙ (walk t ((around g (43 ∷ []) ++ bytes_of u) ++ w) at f a s h
    ∙ (ap (met x)
    (walk-joining 43 g (bytes_of u) w (at + l) m.mode a m.sums (arrived-bare f t s).1 tt (h unturned (settled m)) ∙ walk u w (past (at + l) g) f a (settled m) tt)
    ∙ (sym (met-else x y (run w (later (at + l) g (length (bytes_of u))) n.mode a n.sums))
    ∙ ap (λ (p : ℕ). met (else x y) (run w p n.mode a n.sums)) (omega (arith, length-append (bytes_of t) (around g (43 ∷ []) ++ bytes_of u), marked-length g 43 (bytes_of u))))))
walk (subtracted t g u) w at f a s h =
    let l = length (bytes_of t) in
    let x = fault_of (room_of a) f.times at t in
    let y = fault_of (room_of a) f.times (past (at + l) g) u in
    let m = arrived f t s in
    let n = arrived (turned f) u (settled m) in
    ap (λ (v : List ℕ). run v at (wanted f) a s) (append_assoc (bytes_of t) (around g (45 ∷ []) ++ bytes_of u) w)
    ∙ (walk t ((around g (45 ∷ []) ++ bytes_of u) ++ w) at f a s h
    ∙ (ap (met x)
    (walk-joining 45 g (bytes_of u) w (at + l) m.mode a m.sums (arrived-bare f t s).1 tt (h turned (settled m)) ∙ walk u w (past (at + l) g) (turned f) a (settled m) tt)
    ∙ (sym (met-else x y (run w (later (at + l) g (length (bytes_of u))) n.mode a n.sums))
    ∙ ap (λ (p : ℕ). met (else x y) (run w p n.mode a n.sums)) (omega (arith, length-append (bytes_of t) (around g (45 ∷ []) ++ bytes_of u), marked-length g 45 (bytes_of u))))))
