-- A line's two sides, read one after the other, and its end.
use Rattle.std.specs.Prelude.{ℕ, ◌+◌, ◌≤◌, ◌≡◌, refl, Bool, true, false, List, length, get_or, Result, Ok, Err}
use Rattle.std.proofs.Common.{sym, ap, subst, ◌∙◌, arith}
use Rattle.grammar.specs.Bytes.{Kind as Byte, kind_of}
use Rattle.grammar.specs.Sums.{Relation, Sums, one, turned, nothing}
use Rattle.grammar.specs.Reader.{Mode, first, wanted, closed, apart, Around, left, right, stop, step, follow, Outcome, read, halted, whole, run_from, read_sum}
use Rattle.grammar.specs.Descent.{rested, resumed}
use Rattle.grammar.proofs.Descent.{no_byte, left-sum, right-sum}
use Rattle.reader.specs.sums.Held.{held, Bounded, zero_at}
use Rattle.reader.specs.Run.{by_kind, at-either, at_place, Follows, run-follows}
use Rattle.reader.specs.Faults.{number_of, place_of}
use Rattle.reader.specs.Heads.{factor}
use Rattle.reader.specs.Parts.{later, sums_of, outcome_of, Ready, Rests, Sound, Unjoined, Ended}
use Rattle.reader.specs.StepLaws.{small-later}
use Rattle.reader.specs.Sides.{relation_of, StartIs, MarkIs, RelatedIs, related-within, start-at, start-bad, related-by, related-no}
use Rattle.reader.specs.declared.parts.Place.{Place}
use Rattle.reader.specs.declared.fault.Fault.{Fault}
use Rattle.reader.specs.declared.fault.Fault.TheVariants.{Astray, TooDeep, TooLarge}
use Rattle.reader.specs.declared.sides.Mark.{Mark}

-- ---- the two sides

-- behind the right side, with the line's relation and sums; or a refusal and where it is met
pub data Reach : Type 0 where
  behind : (r : Relation) (at : ℕ) (bare : Bool) (s : Sums) → Reach
  stopped : (n b : ℕ) → Reach

-- the left side, from the line's start
pub data LeftSide (w : List ℕ) : Outcome → Type 0 where
  bad : {b : ℕ} → StartIs w (Err (Astray b)) → LeftSide w (halted 20 b)
  summed : {i : ℕ} → StartIs w (Ok i) → LeftSide w (read_sum w i 16 one nothing)

-- the relation and the right side, from behind the left side
pub data RightSide (w : List ℕ) (at : ℕ) (s : Sums) : Reach → Type 0 where
  unrelated : {b : ℕ} → RelatedIs w at (Err (Astray b)) → RightSide w at s (stopped 20 b)
  astray : (m : Mark) (next : ℕ) {n b : ℕ} → MarkIs w at next m → read_sum w next 16 (turned one) s ≡ halted n b → RightSide w at s (stopped n b)
  summed : (m : Mark) (next : ℕ) {i : ℕ} {bare : Bool} {z : Sums} → MarkIs w at next m → read_sum w next 16 (turned one) s ≡ read i bare z → RightSide w at s (behind (relation_of m) i bare z)

pub data Sided (w : List ℕ) : Reach → Type 0 where
  astray : {o : Outcome} {n b : ℕ} → LeftSide w o → o ≡ halted n b → Sided w (stopped n b)
  onward : {o : Outcome} {at : ℕ} {bare : Bool} {s : Sums} {x : Reach} → LeftSide w o → o ≡ read at bare s → RightSide w at s x → Sided w x

-- a reader that goes on behind a sum, on the left side and on the right
pub record Descends (w : List ℕ) {X : Type 0} (from : ℕ → Mode → Around → Sums → X) (halt : ℕ → ℕ → X) (resume : Around → Outcome → X) : Type 0 where
  pub follows : Follows w from halt
  pub stops : (a : Around) (n b : ℕ) → resume a (halted n b) ≡ halt n b
  pub rests : (a : Around) (at : ℕ) (t : Bool) (s : Sums) → resume a (read at t s) ≡ from at (rested t) a s
  pub lefts : (at : ℕ) (s : Sums) → from at (wanted one) left s ≡ resume left (read_sum w at 16 one s)
  pub rights : (at : ℕ) (s : Sums) (r : Relation) → from at (wanted (turned one)) (right r) s ≡ resume (right r) (read_sum w at 16 (turned one) s)

module _ (w : List ℕ) {X : Type 0} (from : ℕ → Mode → Around → Sums → X) (halt : ℕ → ℕ → X) (resume : Around → Outcome → X) (d : Descends w from halt resume) where
  abbrev pub goes_on : Reach → X
  goes_on (behind r at bare s) = from at (rested bare) (right r) s
  goes_on (stopped n b) = halt n b

  left_is : {o : Outcome} → LeftSide w o → from 0 first left nothing ≡ resume left o
  left_is (bad {b} h) = start-bad w from halt d.follows b nothing h ∙ sym (d.stops left 20 b)
  left_is (summed {i} h) = start-at w from halt d.follows i nothing h ∙ d.lefts i nothing

  right_is : (at : ℕ) (bare : Bool) (s : Sums) {x : Reach} → RightSide w at s x → from at (rested bare) left s ≡ goes_on x
  right_is at bare s (unrelated {b} h) = related-no w from halt d.follows at b bare s h
  right_is at bare s (astray m next {n} {b} h e) = related-by w from halt d.follows at next m bare s h ∙ (d.rights next s (relation_of m) ∙ (ap (resume (right (relation_of m))) e ∙ d.stops (right (relation_of m)) n b))
  right_is at bare s (summed m next {i = i} {bare = t} {z = z} h e) = related-by w from halt d.follows at next m bare s h ∙ (d.rights next s (relation_of m) ∙ (ap (resume (right (relation_of m))) e ∙ d.rests (right (relation_of m)) i t z))

  pub sided-is : {x : Reach} → Sided w x → from 0 first left nothing ≡ goes_on x
  sided-is (astray {o} {n} {b} h e) = left_is h ∙ (ap (resume left) e ∙ d.stops left n b)
  sided-is (onward {o} {at} {bare} {s} h e r) = left_is h ∙ (ap (resume left) e ∙ (d.rests left at bare s ∙ right_is at bare s r))

pub run-descends : (w : List ℕ) → Descends w (run_from w) halted (resumed w)
run-descends w = record { follows = run-follows w; stops = λ a n b. refl; rests = λ a at t s. refl; lefts = λ at s. left-sum w at s; rights = λ at s r. right-sum w at s r }

-- ---- as the code finds them

abbrev pub reach_of : List ℕ → List ℕ → Result (Mark × Place) Fault → Reach
reach_of numbers sums (Ok (m, e)) = behind (relation_of m) e.at e.bare (sums_of numbers sums e)
reach_of numbers sums (Err x) = stopped (number_of x) (place_of x)

-- how far the line is read, and the tables' places in use
pub record Reached (w : List ℕ) (e : Place) : Type 0 where
  pub within : e.at ≤ length w
  pub unjoined : Unjoined w e.at
  pub counted : e.count ≤ 1366

abbrev pub Far : List ℕ → Result (Mark × Place) Fault → Type 0
Far w (Ok (m, e)) = Reached w e
Far w (Err x) = Unit {0}

pub record LeftIs (w numbers sums : List ℕ) (r : Result Place Fault) : Type 0 where
  pub read : LeftSide w (outcome_of numbers sums r)
  pub sound : Sound w 0 numbers sums r
  pub ended : Ended w r

pub record RightIs (w : List ℕ) (at : ℕ) (s : Sums) (numbers sums : List ℕ) (x : Result (Mark × Place) Fault) : Type 0 where
  pub read : RightSide w at s (reach_of numbers sums x)
  pub far : Far w x

pub record SidesIs (w numbers sums : List ℕ) (x : Result (Mark × Place) Fault) : Type 0 where
  pub sided : Sided w (reach_of numbers sums x)
  pub far : Far w x

-- nothing is summed yet
pub none-ready : (numbers sums : List ℕ) (i : ℕ) → Ready numbers sums (record { at = i; bare = true; count = 0; constant = zero_at })
unfolding held Bounded
none-ready numbers sums i = record { room = omega arith; small = record { constant = omega arith; terms = tt } }

pub none-summed : (numbers sums : List ℕ) (i : ℕ) → sums_of numbers sums (record { at = i; bare = true; count = 0; constant = zero_at }) ≡ nothing
unfolding held
none-summed numbers sums i = refl

pub left-read : (w numbers sums numbers' sums' : List ℕ) {i : ℕ} (r : Result Place Fault) → StartIs w (Ok i)
    → outcome_of numbers' sums' r ≡ read_sum w i 16 (factor false 1) (sums_of numbers sums (record { at = i; bare = true; count = 0; constant = zero_at })) → Sound w i numbers' sums' r → Ended w r → LeftIs w numbers' sums' r
left-read w numbers sums numbers' sums' {i} r h q s u =
    record { read = subst (LeftSide w) (ap (read_sum w i 16 one) (sym (none-summed numbers sums i)) ∙ sym q) (LeftSide.summed h); sound = from r s; ended = u }
  where
    from : (r : Result Place Fault) → Sound w i numbers' sums' r → Sound w 0 numbers' sums' r
    from (Ok q) x = record { later = omega (arith, x.later); within = x.within; room = x.room; small = x.small }
    from (Err e) x = tt

pub left-bad : (w numbers sums : List ℕ) (e : Fault) → StartIs w (Err e) → LeftIs w numbers sums (Err e)
left-bad w numbers sums (Astray b) h = record { read = bad h; sound = tt; ended = tt }
left-bad w numbers sums (TooDeep b) h = absurd h
left-bad w numbers sums (TooLarge b) h = absurd h

pub next-ready : (w numbers sums : List ℕ) (q : Place) (m : Mark) (next : ℕ) → Rests w 0 numbers sums q → RelatedIs w q.at (Ok (m, next)) → (next ≤ length w) × Ready numbers sums (later q next true)
next-ready w numbers sums q m next x h =
    let k = related-within w q.at m next h in
    (k.1, record { room = omega (arith, x.room, k.0); small = small-later numbers sums q next true (omega (arith, k.0)) x.small })

module _ (w numbers sums numbers' sums' : List ℕ) (q : Place) where
  pub right-read : (m : Mark) (next : ℕ) (e : Place) → length w ≤ 4096 → RelatedIs w q.at (Ok (m, next))
      → read e.at e.bare (sums_of numbers' sums' e) ≡ read_sum w next 16 (factor true 1) (sums_of numbers sums q) → Rests w next numbers' sums' e → Unjoined w e.at
      → RightIs w q.at (sums_of numbers sums q) numbers' sums' (Ok (m, e))
  right-read m next e z h y x u =
      record {
        read = RightSide.summed m next h (sym y);
        far = record { within = x.within; unjoined = u; counted = omega (arith, x.room, x.within) };
      }

  pub right-halted : (m : Mark) (next : ℕ) (x : Fault) → RelatedIs w q.at (Ok (m, next)) → halted (number_of x) (place_of x) ≡ read_sum w next 16 (factor true 1) (sums_of numbers sums q) → RightIs w q.at (sums_of numbers sums q) numbers' sums' (Err x)
  right-halted m next x h y = record { read = RightSide.astray m next h (sym y); far = tt }

pub right-bad : (w numbers sums : List ℕ) (q : Place) (x : Fault) → RelatedIs w q.at (Err x) → RightIs w q.at (sums_of numbers sums q) numbers sums (Err x)
right-bad w numbers sums q (Astray b) h = record { read = unrelated h; far = tt }
right-bad w numbers sums q (TooDeep b) h = absurd h
right-bad w numbers sums q (TooLarge b) h = absurd h

pub both_read : (w numbers sums numbers' sums' : List ℕ) (x : Result (Mark × Place) Fault) {q : Place} → LeftIs w numbers sums (Ok q) → RightIs w q.at (sums_of numbers sums q) numbers' sums' x → SidesIs w numbers' sums' x
both_read w numbers sums numbers' sums' x h k = record { sided = onward h.read refl k.read; far = k.far }

pub left-halted : (w numbers sums : List ℕ) {x : Fault} → LeftIs w numbers sums (Err x) → SidesIs w numbers sums (Err x)
left-halted w numbers sums h = record { sided = Sided.astray h.read refl; far = tt }

-- ---- the end

abbrev pub line_of : List ℕ → List ℕ → Result (Mark × Place) Fault → Outcome
line_of numbers sums (Ok (m, e)) = whole (relation_of m) (sums_of numbers sums e)
line_of numbers sums (Err x) = halted (number_of x) (place_of x)

-- the tables' places in use
abbrev pub Counted : Result (Mark × Place) Fault → Type 0
Counted (Ok (m, e)) = e.count ≤ 1366
Counted (Err x) = Unit {0}

pub record EndIs (w : List ℕ) (m : Mark) (e : Place) (l : Result (Mark × Place) Fault) : Type 0 where
  pub outcome : (numbers sums : List ℕ) → run_from w e.at (rested e.bare) (right (relation_of m)) (sums_of numbers sums e) ≡ line_of numbers sums l
  pub counted : Counted l

-- behind the right side nothing follows but what joins a part to it
pub none-follows : (w : List ℕ) (at : ℕ) → Unjoined w at → (r : Relation) (t : Bool) (s : Sums) → step (rested t) (right r) s (kind_of (get_or w at 0)) ≡ stop 20
none-follows w at u r true s =
    by_kind (λ (x : Byte). step closed (right r) s x ≡ stop 20) (get_or w at 0)
    (λ e. refl) (λ e. absurd (u.no-space e)) (λ e. refl) (λ e. refl) (λ e. refl) (λ e. absurd (u.no_plus e)) (λ e. absurd (u.no_minus e)) (λ e. refl) (λ e. refl) (λ e. refl) (λ e. refl) refl
none-follows w at u r false s =
    by_kind (λ (x : Byte). step apart (right r) s x ≡ stop 20) (get_or w at 0)
    (λ e. refl) (λ e. absurd (u.no-space e)) (λ e. refl) (λ e. refl) (λ e. refl) (λ e. absurd (u.no_plus e)) (λ e. absurd (u.no_minus e)) (λ e. refl) (λ e. refl) (λ e. refl) (λ e. refl) refl

module _ (w : List ℕ) (m : Mark) (e : Place) (h : Reached w e) where
  pub end_whole : e.bare ≡ true → e.at ≡ length w → EndIs w m e (Ok (m, e))
  end_whole b a =
      record {
        outcome = λ numbers sums. ap (λ (t : Bool). run_from w e.at (rested t) (right (relation_of m)) (sums_of numbers sums e)) b ∙ no_byte w e.at (rested true) (right (relation_of m)) (sums_of numbers sums e) (omega arith);
        counted = h.counted;
      }

  pub end-not : (e.bare ≡ true → e.at ≡ length w → ⊥) → EndIs w m e (Err (Astray e.at))
  end-not n = record { outcome = λ numbers sums. by (sums_of numbers sums e) e.bare n; counted = tt }
    where
      stray : (s : Sums) (t : Bool) → follow e.at (rested t) s (step (rested t) (right (relation_of m)) s (kind_of (get_or w e.at 0))) (λ m' a' s'. run_from w (e.at + 1) m' a' s') ≡ halted 20 e.at
      stray s t = ap (λ x. follow e.at (rested t) s x (λ m' a' s'. run_from w (e.at + 1) m' a' s')) (none-follows w e.at h.unjoined (relation_of m) t s)

      by : (s : Sums) (t : Bool) → (t ≡ true → e.at ≡ length w → ⊥) → run_from w e.at (rested t) (right (relation_of m)) s ≡ halted 20 e.at
      by s true n = at-either w e.at (rested true) (right (relation_of m)) s (λ g. stray s true) (λ g. absurd (n refl (omega (arith, h.within))))
      by s false n = at_place w e.at (rested false) (right (relation_of m)) s h.within (stray s false) refl

-- ---- the whole line

module _ (w numbers sums : List ℕ) (x : Result (Mark × Place) Fault) (h : SidesIs w numbers sums x) where
  goes_on_lem : run_from w 0 first left nothing ≡ goes_on w (run_from w) halted (resumed w) (run-descends w) (reach_of numbers sums x)
  goes_on_lem = sided-is w (run_from w) halted (resumed w) (run-descends w) h.sided

module _ (w numbers sums : List ℕ) where
  pub line-sides : {m : Mark} {e : Place} (l : Result (Mark × Place) Fault) → SidesIs w numbers sums (Ok (m, e)) → EndIs w m e l → (run_from w 0 first left nothing ≡ line_of numbers sums l) × Counted l
  line-sides {m} {e} l h k = (goes_on_lem w numbers sums (Ok (m, e)) h ∙ k.outcome numbers sums, k.counted)

  pub line-halted : {x : Fault} → SidesIs w numbers sums (Err x) → run_from w 0 first left nothing ≡ halted (number_of x) (place_of x)
  line-halted {x} h = goes_on_lem w numbers sums (Err x) h
