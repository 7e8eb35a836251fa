-- The contract of `close` at each of its returns, and a part that holds no sum.
use Rattle.std.specs.Prelude.{ℕ, ◌+◌, ◌*◌, ◌≤◌, ◌<◌, ◌≡◌, Bool, true, List, get_or, ℤ, Ok, Err}
use Rattle.std.proofs.Common.{sym, ap, subst, ◌∙◌, arith}
use Rattle.reader.specs.sums.Held.{held, value_of, Bounded, moved, moved-is, bounded-more}
use Rattle.grammar.specs.Sums.{Term, add_to, signed}
use Rattle.grammar.specs.Reader.{read}
use Rattle.reader.specs.Scan.{Skips}
use Rattle.reader.specs.Heads.{factor_of, comes_to, Placed}
use Rattle.reader.specs.Parts.{later, sums_of, Small, Ready, KindFits, LeafFits, LeafIs, CloseIs}
use Rattle.reader.specs.PartLaws.{closes-on, closes-not, product, constant-room, table-room, number_small, term-small}
use Rattle.reader.specs.declared.fault.Fault.TheVariants.{Astray}
use Rattle.reader.specs.declared.heads.Kind.TheVariants.{Number, Variable}
use Rattle.reader.specs.declared.heads.Head.{Head}
use Rattle.reader.specs.declared.parts.Place.{Place}

pub small-later : (numbers sums : List ℕ) (q : Place) (next : ℕ) (bare : Bool) → q.at ≤ next → Small numbers sums q → Small numbers sums (later q next bare)
small-later numbers sums q next bare h x =
    record { constant = omega (arith, x.constant); terms = bounded-more (1048576 * q.at) (1048576 * next) (held numbers sums q.count) (omega arith) x.terms }

-- ---- behind a sum in brackets

module _ (w : List ℕ) (q : Place) (mark : ℕ) (k : Skips w q.at mark) where
  pub close-read : (next : ℕ) → get_or w mark 0 ≡ 41 → Skips w (mark + 1) next → CloseIs w q (Ok (later q next true))
  close-read next c l =
      record {
        outcome = λ numbers sums f n u. closes-on w q.at mark k f n (sums_of numbers sums q) q.bare next c l;
        sound = λ at numbers sums x. record { later = omega (arith, x.later, k.from, l.from); within = l.within; room = omega (arith, x.room, k.from, l.from); small = small-later numbers sums q next true (omega (arith, k.from, l.from)) x.small };
      }

  pub close-not : (get_or w mark 0 ≡ 41 → ⊥) → CloseIs w q (Err (Astray mark))
  close-not c = record { outcome = λ numbers sums f n u. closes-not w q.at mark k f n (sums_of numbers sums q) q.bare c u; sound = λ at numbers sums x. tt }

-- ---- a part that holds no sum

module _ (numbers sums : List ℕ) (p : Place) (h : Head) (r : Ready numbers sums p) (f : LeafFits p.at h) where
  pub number_fits : {n next : ℕ} {bare : Bool} → h.kind ≡ Number n next bare → (h.factor.product * n ≤ 1099511627776) × ((h.factor.product * n ≤ p.constant) × (p.constant + h.factor.product * n ≤ 18446744073709551615))
  number_fits {n} e =
      let k = subst (KindFits p.at) e f.kind in
      let x = product h.factor.product n f.small k.2 in
      (x, constant-room numbers sums p r (omega (arith, k.0, k.1)) (h.factor.product * n) x (omega (arith, k.0, k.1)))

  pub leaf-number : {n next : ℕ} {bare : Bool} (c : ℕ) → h.kind ≡ Number n next bare → c ≡ moved h.factor.minus (h.factor.product * n) p.constant
      → LeafIs (sums_of numbers sums p) p h numbers sums (record { at = next; bare = bare; count = p.count; constant = c })
  leaf-number {n} {next} {bare} c e q =
      let x = number_fits e in
      let k = subst (KindFits p.at) e f.kind in
      record {
        outcome = λ w room. ap (λ (z : ℤ). read next bare (record { constant = z; terms = held numbers sums p.count })) (ap value_of q ∙ moved-is h.factor.minus (h.factor.product * n) p.constant x.1.0)
            ∙ ap (comes_to w room (factor_of h.factor) (sums_of numbers sums p)) (sym e);
        sound = λ w y. let z = subst (Placed w p.at) e y in
            record { later = z.0; within = z.1; room = omega (arith, r.room, z.0); small = number_small numbers sums p r (omega (arith, k.0, k.1)) h.factor.minus (h.factor.product * n) next c bare x.0 x.1.0 z.0 q };
      }

  pub variable-fits : {v next : ℕ} {bare : Bool} → h.kind ≡ Variable v next bare → (p.count < 1366) × Bounded 4294967296 (held numbers sums p.count)
  variable-fits e =
      let k = subst (KindFits p.at) e f.kind in
      table-room numbers sums p r (omega (arith, k.0, k.1)) (omega (arith, k.0, k.1))

  pub leaf-variable : {v next : ℕ} {bare : Bool} (numbers' sums' : List ℕ) (count : ℕ) → h.kind ≡ Variable v next bare → held numbers' sums' count ≡ add_to v (signed h.factor.minus h.factor.product) (held numbers sums p.count) → count ≤ p.count + 1
      → LeafIs (sums_of numbers sums p) p h numbers' sums' (record { at = next; bare = bare; count = count; constant = p.constant })
  leaf-variable {v} {next} {bare} numbers' sums' count e q l =
      record {
        outcome = λ w room. ap (λ (z : List Term). read next bare (record { constant = value_of p.constant; terms = z })) q ∙ ap (comes_to w room (factor_of h.factor) (sums_of numbers sums p)) (sym e);
        sound = λ w y. let z = subst (Placed w p.at) e y in
            record { later = omega (arith, z.0); within = z.1; room = omega (arith, r.room, z.0); small = term-small numbers sums numbers' sums' p v h.factor.product count next h.factor.minus bare r f.small z.0 q };
      }
