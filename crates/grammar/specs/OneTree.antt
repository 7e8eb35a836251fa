-- "show the reading is the only one": no line has two trees. A builder goes over the bytes once, forgets the spaces, and comes out with the tree.
use Rattle.std.specs.Prelude.{ℕ, zero, suc, ◌≡◌, refl, T}
use Rattle.std.proofs.Common.{sym, ◌∙◌}
use Rattle.std.proofs.Math.Path.{ap}
use mathlib.Core.List.{List, [], ◌∷◌, ◌++◌, append_assoc, append-nil}
use Rattle.grammar.specs.Bytes.{Kind, digit, letter, space, plus, minus, star, opening, closing, less, equals, more, strange, is_digit, kind_of}
use Rattle.grammar.specs.Sums.{Relation, at_most, equal, at_least}
use Rattle.grammar.specs.Trees.{Digits, Gap, Sort, a_part, a_sum, Tree, amount, variable, multiple, negated, bracketed, single, added, subtracted, Line, all_digits, are_digits, spaces, around, bytes_of, mark_of, line_bytes}
use Rattle.grammar.specs.Pieces.{both, kind-digit}

-- ---- a tree without its spaces

pub data Bare : Type 0 where
  num var : (digits : List ℕ) → Bare
  times : (digits : List ℕ) → Bare → Bare
  neg brackets : Bare → Bare
  add sub : Bare → Bare → Bare

unfoldable pub bare : {k : Sort} → Tree k → Bare
bare (amount n) = num n.bytes
bare (variable n) = var n.bytes
bare (multiple n g t) = times n.bytes (bare t)
bare (negated g t) = neg (bare t)
bare (bracketed g t h) = brackets (bare t)
bare (single t) = bare t
bare (added s g t) = add (bare s) (bare t)
bare (subtracted s g t) = sub (bare s) (bare t)

-- ---- the builder

-- a part is to come, and f makes a sum of it; digits of a number; of a variable; a sum that ended in `)`
data Work : Type 0 where
  want : (f : Bare → Bare) → Work
  number : (f : Bare → Bare) (ds : List ℕ) → Work
  name : (f : Bare → Bare) (ds : List ℕ) → Work
  have : (t : Bare) → Work

-- with what is to be made of the sum in each open bracket, the relation, and the left side once it is over
record Site : Type 0 where
  work : Work
  stack : List (Bare → Bare)
  relation : Relation
  sides : List Bare

abbrev at : Work → Site → Site
at w s = record { work = w; stack = s.stack; relation = s.relation; sides = s.sides }

-- the sum so far
abbrev done : Work → Bare
done (want f) = f (num [])
done (number f ds) = f (num ds)
done (name f ds) = f (var ds)
done (have t) = t

abbrev digit_on : ℕ → Work → Work
digit_on b (want f) = number f (b ∷ [])
digit_on b (number f ds) = number f (ds ++ (b ∷ []))
digit_on b (name f ds) = name f (ds ++ (b ∷ []))
digit_on b (have t) = have t

abbrev letter_on : Work → Work
letter_on (want f) = name f []
letter_on (number f ds) = number f ds
letter_on (name f ds) = name f ds
letter_on (have t) = have t

abbrev minus_on : Work → Work
minus_on (want f) = want (λ t. f (neg t))
minus_on (number f ds) = want (λ t. sub (f (num ds)) t)
minus_on (name f ds) = want (λ t. sub (f (var ds)) t)
minus_on (have u) = want (λ t. sub u t)

abbrev star_on : Work → Work
star_on (want f) = want f
star_on (number f ds) = want (λ t. f (times ds t))
star_on (name f ds) = name f ds
star_on (have t) = have t

abbrev opens_on : Work → List (Bare → Bare) → List (Bare → Bare)
opens_on (want f) fs = f ∷ fs
opens_on (number f ds) fs = fs
opens_on (name f ds) fs = fs
opens_on (have t) fs = fs

abbrev closes_on : Bare → Site → List (Bare → Bare) → Site
closes_on t s [] = s
closes_on t s (f ∷ fs) = record { work = have (f (brackets t)); stack = fs; relation = s.relation; sides = s.sides }

abbrev put : ℕ → Kind → Site → Site
put b (digit d) s = at (digit_on b s.work) s
put b letter s = at (letter_on s.work) s
put b space s = s
put b plus s = at (want (λ t. add (done s.work) t)) s
put b minus s = at (minus_on s.work) s
put b star s = at (star_on s.work) s
put b opening s = record { work = want (λ t. t); stack = opens_on s.work s.stack; relation = s.relation; sides = s.sides }
put b closing s = closes_on (done s.work) s s.stack
put b less s = record { work = s.work; stack = s.stack; relation = at_most; sides = s.sides }
put b equals s = record { work = want (λ t. t); stack = s.stack; relation = s.relation; sides = done s.work ∷ s.sides }
put b more s = record { work = s.work; stack = s.stack; relation = at_least; sides = s.sides }
put b strange s = s

build : List ℕ → Site → Site
build [] s = s
build (b ∷ w) s = build w (put b (kind_of b) s)

build-append : (v w : List ℕ) (s : Site) → build (v ++ w) s ≡ build w (build v s)
unfolding build
build-append [] w s = refl
build-append (b ∷ v) w s = build-append v w (put b (kind_of b) s)

build-spaces : (n : ℕ) (s : Site) → build (spaces n) s ≡ s
unfolding build kind_of
build-spaces zero s = refl
build-spaces (suc n) s = build-spaces n s

-- a mark of one byte, with spaces around it
build-mark : (g : Gap) (c : ℕ) (s : Site) → build (around g (c ∷ [])) s ≡ put c (kind_of c) s
unfolding build
build-mark g c s =
    build-append (spaces g.before) (c ∷ spaces g.after) s
    ∙ (ap (λ (x : Site). build (c ∷ spaces g.after) x) (build-spaces g.before s) ∙ build-spaces g.after (put c (kind_of c) s))

-- ---- digits

module _ (f : Bare → Bare) (make : List ℕ → Work) (grows : (b : ℕ) (ds : List ℕ) → digit_on b (make ds) ≡ make (ds ++ (b ∷ []))) where
  build-digits : (bs ds : List ℕ) (s : Site) → T (all_digits bs) → build bs (at (make ds) s) ≡ at (make (ds ++ bs)) s
  unfolding build all_digits
  build-digits [] ds s h = ap (λ (l : List ℕ). at (make l) s) (sym (append-nil ds))
  build-digits (b ∷ bs) ds s h =
      let d = both (is_digit b) (all_digits bs) h in
      rw (kind-digit b d.0, grows b ds) (build-digits bs (ds ++ (b ∷ [])) s d.1 ∙ ap (λ (l : List ℕ). at (make l) s) (append_assoc ds (b ∷ []) bs))

build-number : (f : Bare → Bare) (n : Digits) (s : Site) → build n.bytes (at (want f) s) ≡ at (number f n.bytes) s
unfolding build all_digits
build-number f n s = by n.bytes n.are-digits
  where
    by : (bs : List ℕ) → T (are_digits bs) → build bs (at (want f) s) ≡ at (number f bs) s
    by [] h = absurd h
    by (b ∷ bs) h =
        let d = both (is_digit b) (all_digits bs) h in
        rw (kind-digit b d.0) (build-digits f (number f) (λ c ds. refl) bs (b ∷ []) s d.1)

build-name : (f : Bare → Bare) (n : Digits) (s : Site) → build n.bytes (at (name f []) s) ≡ at (name f n.bytes) s
unfolding all_digits
build-name f n s = by n.bytes n.are-digits
  where
    by : (bs : List ℕ) → T (are_digits bs) → build bs (at (name f []) s) ≡ at (name f bs) s
    by [] h = absurd h
    by (b ∷ bs) h = build-digits f (name f) (λ c ds. refl) (b ∷ bs) [] s h

-- ---- trees

-- the work behind a tree
built : {k : Sort} → Tree k → (Bare → Bare) → Work
built (amount n) f = number f n.bytes
built (variable n) f = name f n.bytes
built (multiple n g t) f = built t (λ u. f (times n.bytes u))
built (negated g t) f = built t (λ u. f (neg u))
built (bracketed g t h) f = have (f (brackets (done (built t (λ u. u)))))
built (single t) f = built t f
built (added s g t) f = built t (λ u. add (done (built s f)) u)
built (subtracted s g t) f = built t (λ u. sub (done (built s f)) u)

-- a sum begins afresh
abbrev Fresh : Sort → (Bare → Bare) → Type 0
Fresh a_part f = Unit {0}
Fresh a_sum f = (t : Bare) → f t ≡ t

built-is : {k : Sort} (t : Tree k) (f : Bare → Bare) → Fresh k f → done (built t f) ≡ f (bare t)
unfolding built bare
built-is (amount n) f h = refl
built-is (variable n) f h = refl
built-is (multiple n g t) f h = built-is t (λ u. f (times n.bytes u)) tt
built-is (negated g t) f h = built-is t (λ u. f (neg u)) tt
built-is (bracketed g t i) f h = ap (λ u. f (brackets u)) (built-is t (λ u. u) (λ u. refl))
built-is (single t) f h = built-is t f tt
built-is (added s g t) f h = built-is t (λ u. add (done (built s f)) u) tt ∙ (ap (λ u. add u (bare t)) (built-is s f h ∙ h (bare s)) ∙ sym (h (add (bare s) (bare t))))
built-is (subtracted s g t) f h = built-is t (λ u. sub (done (built s f)) u) tt ∙ (ap (λ u. sub u (bare t)) (built-is s f h ∙ h (bare s)) ∙ sym (h (sub (bare s) (bare t))))

minus-behind : {k : Sort} (t : Tree k) (f : Bare → Bare) → minus_on (built t f) ≡ want (λ u. sub (done (built t f)) u)
unfolding built
minus-behind (amount n) f = refl
minus-behind (variable n) f = refl
minus-behind (multiple n g t) f = minus-behind t (λ u. f (times n.bytes u))
minus-behind (negated g t) f = minus-behind t (λ u. f (neg u))
minus-behind (bracketed g t h) f = refl
minus-behind (single t) f = minus-behind t f
minus-behind (added s g t) f = minus-behind t (λ u. add (done (built s f)) u)
minus-behind (subtracted s g t) f = minus-behind t (λ u. sub (done (built s f)) u)

-- a piece, a mark, a piece
build-marked : (v w : List ℕ) (g : Gap) (c : ℕ) (s t : Site) → build v s ≡ t → build (v ++ (around g (c ∷ []) ++ w)) s ≡ build w (put c (kind_of c) t)
build-marked v w g c s t e =
    build-append v (around g (c ∷ []) ++ w) s
    ∙ (ap (build (around g (c ∷ []) ++ w)) e ∙ (build-append (around g (c ∷ [])) w t ∙ ap (build w) (build-mark g c t)))

builds : {k : Sort} (t : Tree k) (f : Bare → Bare) (s : Site) → build (bytes_of t) (at (want f) s) ≡ at (built t f) s
unfolding bytes_of built build kind_of
builds (amount n) f s = build-number f n s
builds (variable n) f s = build-name f n s
builds (multiple n g t) f s = build-marked n.bytes (bytes_of t) g 42 (at (want f) s) (at (number f n.bytes) s) (build-number f n s) ∙ builds t (λ u. f (times n.bytes u)) s
builds (negated g t) f s = build-marked [] (bytes_of t) g 45 (at (want f) s) (at (want f) s) refl ∙ builds t (λ u. f (neg u)) s
builds (bracketed g t h) f s =
    let inner : Site = record { work = want (λ u. u); stack = f ∷ s.stack; relation = s.relation; sides = s.sides } in
    build-marked [] (bytes_of t ++ around h (41 ∷ [])) g 40 (at (want f) s) (at (want f) s) refl
    ∙ (build-append (bytes_of t) (around h (41 ∷ [])) inner ∙ (ap (build (around h (41 ∷ []))) (builds t (λ u. u) inner) ∙ build-mark h 41 (at (built t (λ u. u)) inner)))
builds (single t) f s = builds t f s
builds (added t g u) f s = build-marked (bytes_of t) (bytes_of u) g 43 (at (want f) s) (at (built t f) s) (builds t f s) ∙ builds u (λ v. add (done (built t f)) v) s
builds (subtracted t g u) f s =
    build-marked (bytes_of t) (bytes_of u) g 45 (at (want f) s) (at (built t f) s) (builds t f s) ∙ (ap (λ w. build (bytes_of u) (at w s)) (minus-behind t f) ∙ builds u (λ v. sub (done (built t f)) v) s)

-- ---- lines

start : Site
start = record { work = want (λ u. u); stack = []; relation = equal; sides = [] }

behind_relation : Relation → Bare → Site
behind_relation r t = record { work = want (λ u. u); stack = []; relation = r; sides = t ∷ [] }

build-relation : (r : Relation) (g : Gap) (w : Work) → build (around g (mark_of r)) (at w start) ≡ behind_relation r (done w)
unfolding build kind_of start behind_relation
build-relation r g w =
    build-append (spaces g.before) (mark_of r ++ spaces g.after) (at w start)
    ∙ (ap (build (mark_of r ++ spaces g.after)) (build-spaces g.before (at w start)) ∙ (build-append (mark_of r) (spaces g.after) (at w start) ∙ (build-spaces g.after (build (mark_of r) (at w start)) ∙ by r)))
  where
    by : (r : Relation) → build (mark_of r) (at w start) ≡ behind_relation r (done w)
    by at_most = refl
    by equal = refl
    by at_least = refl

line-built : (l : Line) → build (line_bytes l) start ≡ at (built l.right_side (λ u. u)) (behind_relation l.relation (done (built l.left_side (λ u. u))))
unfolding line_bytes start behind_relation
line-built l =
    let t = l.left_side in
    let u = l.right_side in
    let m = around l.gap (mark_of l.relation) in
    build-append (bytes_of t) (m ++ bytes_of u) start
    ∙ (ap (build (m ++ bytes_of u)) (builds t (λ v. v) start)
    ∙ (build-append m (bytes_of u) (at (built t (λ v. v)) start)
    ∙ (ap (build (bytes_of u)) (build-relation l.relation l.gap (built t (λ v. v))) ∙ builds u (λ v. v) (behind_relation l.relation (done (built t (λ v. v)))))))

abbrev left_of : List Bare → Bare
left_of [] = num []
left_of (t ∷ ts) = t

bare-is : (t : Tree a_sum) → done (built t (λ u. u)) ≡ bare t
bare-is t = built-is t (λ u. u) (λ u. refl)

abbrev pub Same : Line → Line → Type 0
Same l m = (bare l.left_side ≡ bare m.left_side) × (l.relation ≡ m.relation) × (bare l.right_side ≡ bare m.right_side)

line-spaced : (l : Line) (n : ℕ) → build (line_bytes l ++ spaces n) start ≡ build (line_bytes l) start
line-spaced l n = build-append (line_bytes l) (spaces n) start ∙ build-spaces n (build (line_bytes l) start)

-- also with spaces behind it
pub one-tree-spaced : (l m : Line) (i j : ℕ) → line_bytes l ++ spaces i ≡ line_bytes m ++ spaces j → Same l m
unfolding behind_relation
one-tree-spaced l m i j e =
    let q = sym (line-built l) ∙ (sym (line-spaced l i) ∙ (ap (λ (w : List ℕ). build w start) e ∙ (line-spaced m j ∙ line-built m))) in
    (sym (bare-is l.left_side) ∙ (ap (λ (s : Site). left_of s.sides) q ∙ bare-is m.left_side), ap (λ (s : Site). s.relation) q, sym (bare-is l.right_side) ∙ (ap (λ (s : Site). done s.work) q ∙ bare-is m.right_side))

-- no line has two trees
pub one-tree : (l m : Line) → line_bytes l ≡ line_bytes m → (bare l.left_side ≡ bare m.left_side) × (l.relation ≡ m.relation) × (bare l.right_side ≡ bare m.right_side)
one-tree l m e = one-tree-spaced l m 0 0 (append-nil (line_bytes l) ∙ (e ∙ sym (append-nil (line_bytes m))))
