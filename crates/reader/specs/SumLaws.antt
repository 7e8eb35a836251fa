-- A part and a sum, at the returns of the two functions that read them and at the turns of the sum's loop.
use Prim.Native.Nat.{ℕ, zero, suc, ◌+◌, ◌-◌, ◌≤◌, ◌<◌}
use Rattle.std.specs.Prelude.{◌≡◌, Bool, true, List, length, Result, Ok, Err}
use Rattle.std.proofs.Math.Path.{sym, subst}
use Rattle.std.proofs.Common.{ap, ◌∙◌}
use native.Mathlib.Omega.{arith}
use Rattle.grammar.specs.Sums.{Sums, Factor}
use Rattle.grammar.specs.Reader.{part, sum, inside, wanted, room_of, read, halted, run_from, read_part, read_sum}
use Rattle.grammar.specs.Descent.{rested, resumed}
use Rattle.grammar.proofs.Descent.{sum-of-parts, sum-in-brackets}
use Rattle.reader.specs.Faults.{number_of, place_of}
use Rattle.reader.specs.Heads.{factor, factor_of, comes_to, Placed, Headed}
use Rattle.reader.specs.Parts.{later, sums_of, outcome_of, Ready, Rests, Sound, Unjoined, KindFits, LeafFits, LeafIs, CloseIs, JoinsOn, EndsAt}
use Rattle.reader.specs.StepLaws.{small-later}
use Rattle.reader.specs.declared.heads.Kind.{Kind}
use Rattle.reader.specs.declared.heads.Kind.TheVariants.{Number, Variable, Open}
use Rattle.reader.specs.declared.fault.Fault.{Fault}
use Rattle.reader.specs.declared.heads.Head.{Head}
use Rattle.reader.specs.declared.parts.Place.{Place}

-- ---- a part

kind_fits : (w : List ℕ) (at : ℕ) (k : Kind) → length w ≤ 4096 → Placed w at k → KindFits at k
kind_fits w at (Number n b bare) h p = (p.0, omega (arith, p.1), p.2)
kind_fits w at (Variable v b bare) h p = (p.0, omega (arith, p.1))
kind_fits w at (Open b) h p = tt

pub leaf-fits : (w : List ℕ) (at : ℕ) {f : Factor} {h : Head} → length w ≤ 4096 → Headed w at f h → LeafFits at h
leaf-fits w at {h = h} l k = record { kind = kind_fits w at h.kind l k.placed; small = k.small }

module _ (w : List ℕ) (p : Place) {f : Factor} {h : Head} (k : Headed w p.at f h) where
  -- a leaf
  pub part-leaf : (numbers sums numbers' sums' : List ℕ) (room : ℕ) {q : Place} → LeafIs (sums_of numbers sums p) p h numbers' sums' q
      → (read q.at q.bare (sums_of numbers' sums' q) ≡ read_part w p.at room f (sums_of numbers sums p)) × Rests w p.at numbers' sums' q
  part-leaf numbers sums numbers' sums' room l = (l.outcome w room ∙ sym (k.outcome room (sums_of numbers sums p)), l.sound w k.placed)

  -- a bracket, without room for it
  pub part-deep : (numbers sums : List ℕ) {b : ℕ} → h.kind ≡ Open b → (room : ℕ) → room ≡ 0 → (halted 21 b ≡ read_part w p.at room f (sums_of numbers sums p)) × Unit {0}
  part-deep numbers sums {b} e room z = (sym (rw z (k.outcome 0 (sums_of numbers sums p) ∙ ap (comes_to w 0 (factor_of h.factor) (sums_of numbers sums p)) e)), tt)

  -- a bracket: the place of the sum in it
  pub open-ready : (numbers sums : List ℕ) {b : ℕ} → h.kind ≡ Open b → Ready numbers sums p → (b + 1 ≤ length w) × Ready numbers sums (later p (b + 1) true)
  open-ready numbers sums {b} e r =
      let z = subst (Placed w p.at) e k.placed in
      (omega (arith, z.1), record { room = omega (arith, r.room, z.0); small = small-later numbers sums p (b + 1) true (omega (arith, z.0)) r.small })

  -- the sum in it, and the bracket that closes it
  pub part-closed : (numbers sums numbers' sums' : List ℕ) {b : ℕ} → h.kind ≡ Open b → (room : ℕ) → 0 < room → {inner : Place} (r : Result Place Fault)
      → read inner.at inner.bare (sums_of numbers' sums' inner) ≡ read_sum w (b + 1) (room - 1) (factor_of h.factor) (sums_of numbers sums p) → Rests w (b + 1) numbers' sums' inner → Unjoined w inner.at → CloseIs w inner r
      → (outcome_of numbers' sums' r ≡ read_part w p.at room f (sums_of numbers sums p)) × Sound w p.at numbers' sums' r
  unfolding room_of
  part-closed numbers sums numbers' sums' {b} e zero g r q s u c = absurd (omega arith)
  part-closed numbers sums numbers' sums' {b} e (suc n) g r q s u c =
      let j = factor_of h.factor in
      let z = subst (Placed w p.at) e k.placed in
      let n₁ : suc n - 1 ≡ n = omega arith in (
        sym
            (k.outcome (suc n) (sums_of numbers sums p)
            ∙ (ap (comes_to w (suc n) j (sums_of numbers sums p)) e
            ∙ (sum-in-brackets w (b + 1) (sums_of numbers sums p) j (part (suc n))
            ∙ (ap (resumed w (inside j (part (suc n)))) (sym (rw n₁ at q)) ∙ c.outcome numbers' sums' j (suc n) u)))),
        sound-from r p.at (b + 1) (omega (arith, z.0)) (c.sound (b + 1) numbers' sums' s),
      )
    where
      sound-from : (r : Result Place Fault) (at i : ℕ) → at ≤ i → Sound w i numbers' sums' r → Sound w at numbers' sums' r
      sound-from (Ok q) at i h x = record { later = omega (arith, x.later); within = x.within; room = x.room; small = x.small }
      sound-from (Err e) at i h x = tt

  -- the sum in it is refused
  pub part-halted : (numbers sums : List ℕ) {b : ℕ} → h.kind ≡ Open b → (room : ℕ) → 0 < room → (x : Fault)
      → halted (number_of x) (place_of x) ≡ read_sum w (b + 1) (room - 1) (factor_of h.factor) (sums_of numbers sums p) → halted (number_of x) (place_of x) ≡ read_part w p.at room f (sums_of numbers sums p)
  unfolding room_of
  part-halted numbers sums {b} e zero g x q = absurd (omega arith)
  part-halted numbers sums {b} e (suc n) g x q =
      let j = factor_of h.factor in
      let n₁ : suc n - 1 ≡ n = omega arith in
      sym
      (k.outcome (suc n) (sums_of numbers sums p)
      ∙ (ap (comes_to w (suc n) j (sums_of numbers sums p)) e
      ∙ (sum-in-brackets w (b + 1) (sums_of numbers sums p) j (part (suc n))
      ∙ ap (resumed w (inside j (part (suc n)))) (sym (rw n₁ at q)))))

-- ---- a sum: i is where the part at hand began, under the sign m

module _ (w : List ℕ) (at : ℕ) (minus : Bool) (k room : ℕ) (s : Sums) where
  -- what is left to read does not change the outcome
  abbrev pub Left : List ℕ → List ℕ → Place → Bool → Type 0
  Left numbers sums q m = run_from w q.at (wanted (factor m k)) (sum room (factor minus k)) (sums_of numbers sums q) ≡ read_sum w at room (factor minus k) s

  module _ (numbers sums numbers' sums' : List ℕ) (q : Place) (m : Bool) (left : Left numbers sums q m) (before : at ≤ q.at) where
    -- behind the part
    behind : (r : Result Place Fault) → outcome_of numbers' sums' r ≡ read_part w q.at room (factor m k) (sums_of numbers sums q) → read_sum w at room (factor minus k) s ≡ resumed w (sum room (factor minus k)) (outcome_of numbers' sums' r)
    behind r y = sym left ∙ (sum-of-parts w q.at (sums_of numbers sums q) room (factor minus k) (factor m k) ∙ ap (resumed w (sum room (factor minus k))) (sym y))

    pub sum-halted : (x : Fault) → halted (number_of x) (place_of x) ≡ read_part w q.at room (factor m k) (sums_of numbers sums q) → halted (number_of x) (place_of x) ≡ read_sum w at room (factor minus k) s
    sum-halted x y = sym (behind (Err x) y)

    module _ {e : Place} (y : read e.at e.bare (sums_of numbers' sums' e) ≡ read_part w q.at room (factor m k) (sums_of numbers sums q)) (rests : Rests w q.at numbers' sums' e) where
      went : read_sum w at room (factor minus k) s ≡ run_from w e.at (rested e.bare) (sum room (factor minus k)) (sums_of numbers' sums' e)
      went = behind (Ok e) y

      -- another part
      pub sum_goes : {next : ℕ} {m' : Bool} → JoinsOn w e.at minus next m' → (q.at < next) × (next ≤ length w) × Left numbers' sums' (later e next true) m' × Ready numbers' sums' (later e next true)
      sum_goes {next} {m'} o = (
        omega (arith, rests.later, o.later),
        o.within,
        sym (went ∙ o.outcome k e.bare room (sums_of numbers' sums' e)),
        record { room = omega (arith, rests.room, o.later); small = small-later numbers' sums' e next true (omega (arith, o.later)) rests.small },
      )

      -- the last part
      pub sum-ends : {mark : ℕ} → EndsAt w e.at mark → (read mark e.bare (sums_of numbers' sums' e) ≡ read_sum w at room (factor minus k) s) × (Rests w at numbers' sums' (later e mark e.bare) × Unjoined w mark)
      sum-ends {mark} o = (
        sym (went ∙ o.outcome (factor minus k) e.bare room (sums_of numbers' sums' e)),
        (record { later = omega (arith, rests.later, o.later); within = o.within; room = omega (arith, rests.room, o.later); small = small-later numbers' sums' e mark e.bare o.later rests.small }, o.end),
      )
