-- What the code answers at each of its returns, behind a part, behind a sum in brackets, and for a part that holds no sum.
use Rattle.std.specs.Prelude.{ℕ, ◌+◌, ◌*◌, ◌≤◌, ◌<◌, ◌≡◌, Bool, not, List, eqb, get_or, nat_abs}
use Rattle.std.proofs.Math.Path.{refl}
use Rattle.std.proofs.Common.{sym, ap, subst, ◌∙◌, mul-le-mul, arith, eqb-true}
use Rattle.std.proofs.Math.Bool.{true, false}
use Rattle.std.proofs.lemmas.Bool.{eqb-false}
use Rattle.std.proofs.Math.ListN.{length}
use Rattle.laws.specs.Z.{abs-add}
use Rattle.reader.specs.sums.Held.{held, value_of, Bounded, moved, moved-is, within, size-signed, bounded-more, bounded-add}
use Rattle.grammar.specs.Bytes.{Kind as Byte, plus, minus, closing, space, kind_of}
use Rattle.grammar.specs.Sums.{Sums, Factor, add_to, signed}
use Rattle.grammar.specs.Reader.{Around, wanted, closed, part, sum, inside, go, step, follow, read, halted, run_from}
use Rattle.grammar.specs.Descent.{rested}
use Rattle.grammar.proofs.Descent.{byte}
use Rattle.reader.specs.Scan.{Skips, present}
use Rattle.reader.specs.Run.{by_kind, at_place, skipped}
use Rattle.reader.specs.Heads.{factor, ends_at, ended}
use Rattle.reader.specs.Parts.{Small, Ready, Unjoined, JoinsOn, EndsAt}
use Rattle.reader.specs.declared.parts.Place.{Place}

stays : (bare : Bool) (a : Around) (s : Sums) → step (rested bare) a s space ≡ go (rested bare) a s
stays true a s = refl
stays false a s = refl

-- ---- what joins a part

module _ (w : List ℕ) (at mark : ℕ) (k : Skips w at mark) where
  pub joins-plus : (m : Bool) → get_or w mark 0 ≡ 43 → JoinsOn w at m (mark + 1) m
  unfolding kind_of
  joins-plus m e =
      let here = present w mark (omega (arith, e)) in
      record {
        later = omega (arith, k.from);
        within = omega (arith, here);
        outcome = λ p bare n s. skipped w (rested bare) (sum n (factor m p)) s (stays bare (sum n (factor m p)) s) at mark k ∙ by here p n s bare;
      }
    where
      by : mark < length w → (p n : ℕ) (s : Sums) (bare : Bool) → run_from w mark (rested bare) (sum n (factor m p)) s ≡ run_from w (mark + 1) (wanted (factor m p)) (sum n (factor m p)) s
      by h p n s true = byte w mark (rested true) (sum n (factor m p)) s {k = plus} h (ap kind_of e)
      by h p n s false = byte w mark (rested false) (sum n (factor m p)) s {k = plus} h (ap kind_of e)

  pub joins-minus : (m : Bool) → get_or w mark 0 ≡ 45 → JoinsOn w at m (mark + 1) (not m)
  unfolding kind_of
  joins-minus m e =
      let here = present w mark (omega (arith, e)) in
      record {
        later = omega (arith, k.from);
        within = omega (arith, here);
        outcome = λ p bare n s. skipped w (rested bare) (sum n (factor m p)) s (stays bare (sum n (factor m p)) s) at mark k ∙ by here p n s bare;
      }
    where
      by : mark < length w → (p n : ℕ) (s : Sums) (bare : Bool) → run_from w mark (rested bare) (sum n (factor m p)) s ≡ run_from w (mark + 1) (wanted (factor (not m) p)) (sum n (factor m p)) s
      by h p n s true = byte w mark (rested true) (sum n (factor m p)) s {k = minus} h (ap kind_of e)
      by h p n s false = byte w mark (rested false) (sum n (factor m p)) s {k = minus} h (ap kind_of e)

  pub ends_there : (get_or w mark 0 ≡ 43 → ⊥) → (get_or w mark 0 ≡ 45 → ⊥) → EndsAt w at mark
  ends_there p m =
      record {
        later = k.from;
        within = k.within;
        end = record { no-space = k.stops; no_plus = p; no_minus = m };
        outcome = λ f bare n s. skipped w (rested bare) (sum n f) s (stays bare (sum n f) s) at mark k ∙ by f n s bare;
      }
    where
      by : (f : Factor) (n : ℕ) (s : Sums) (bare : Bool) → run_from w mark (rested bare) (sum n f) s ≡ read mark bare s
      by f n s true =
          at_place w mark (rested true) (sum n f) s k.within
          (by_kind (λ (x : Byte). follow mark (rested true) s (step (rested true) (sum n f) s x) (λ m' a' s'. run_from w (mark + 1) m' a' s') ≡ read mark true s) (get_or w mark 0) (λ e. refl) (λ e. absurd (k.stops e))
          (λ e. refl) (λ e. refl) (λ e. refl) (λ e. absurd (p e)) (λ e. absurd (m e)) (λ e. refl) (λ e. refl) (λ e. refl) (λ e. refl) refl)
          refl
      by f n s false =
          at_place w mark (rested false) (sum n f) s k.within
          (by_kind (λ (x : Byte). follow mark (rested false) s (step (rested false) (sum n f) s x) (λ m' a' s'. run_from w (mark + 1) m' a' s') ≡ read mark false s) (get_or w mark 0) (λ e. refl) (λ e. absurd (k.stops e))
          (λ e. refl) (λ e. refl) (λ e. refl) (λ e. absurd (p e)) (λ e. absurd (m e)) (λ e. refl) (λ e. refl) (λ e. refl) (λ e. refl) refl)
          refl

  -- ---- behind a sum in brackets

  pub closes-on : (f : Factor) (n : ℕ) (s : Sums) (bare : Bool) (next : ℕ) → get_or w mark 0 ≡ 41 → Skips w (mark + 1) next → run_from w at (rested bare) (inside f (part n)) s ≡ read next true s
  unfolding kind_of
  closes-on f n s bare next e l =
      skipped w (rested bare) (inside f (part n)) s (stays bare (inside f (part n)) s) at mark k
      ∙ (by (present w mark (omega (arith, e))) bare
      ∙ (skipped w closed (part n) s refl (mark + 1) next l
      ∙ ends_at w n s next closed s true l.within refl refl refl (ended _ _ _ n s (get_or w next 0) (λ x. refl) (λ x. refl) l.stops)))
    where
      by : mark < length w → (bare : Bool) → run_from w mark (rested bare) (inside f (part n)) s ≡ run_from w (mark + 1) closed (part n) s
      by h true = byte w mark (rested true) (inside f (part n)) s {k = closing} h (ap kind_of e)
      by h false = byte w mark (rested false) (inside f (part n)) s {k = closing} h (ap kind_of e)

  unmoved : (get_or w at 0 ≡ 32 → ⊥) → mark ≡ at
  unmoved h = by (eqb mark at) (eqb-true mark at) (eqb-false mark at)
    where
      by : (t : Bool) → (t ≡ true → mark ≡ at) → (t ≡ false → mark ≡ at → ⊥) → mark ≡ at
      by true p q = p refl
      by false p q = absurd (h (k.spaces at (omega arith) (omega (arith, k.from, q refl))))

  pub closes-not : (f : Factor) (n : ℕ) (s : Sums) (bare : Bool) → (get_or w mark 0 ≡ 41 → ⊥) → Unjoined w at → run_from w at (rested bare) (inside f (part n)) s ≡ halted 20 mark
  closes-not f n s bare c u = skipped w (rested bare) (inside f (part n)) s (stays bare (inside f (part n)) s) at mark k ∙ by bare
    where
      same : get_or w mark 0 ≡ get_or w at 0
      same = ap (λ (i : ℕ). get_or w i 0) (unmoved u.no-space)

      by : (bare : Bool) → run_from w mark (rested bare) (inside f (part n)) s ≡ halted 20 mark
      by true =
          at_place w mark (rested true) (inside f (part n)) s k.within
          (by_kind (λ (x : Byte). follow mark (rested true) s (step (rested true) (inside f (part n)) s x) (λ m' a' s'. run_from w (mark + 1) m' a' s') ≡ halted 20 mark) (get_or w mark 0) (λ e. refl) (λ e. absurd (k.stops e))
          (λ e. refl) (λ e. absurd (c e)) (λ e. refl) (λ e. absurd (u.no_plus (sym same ∙ e))) (λ e. absurd (u.no_minus (sym same ∙ e))) (λ e. refl) (λ e. refl) (λ e. refl) (λ e. refl) refl)
          refl
      by false =
          at_place w mark (rested false) (inside f (part n)) s k.within
          (by_kind (λ (x : Byte). follow mark (rested false) s (step (rested false) (inside f (part n)) s x) (λ m' a' s'. run_from w (mark + 1) m' a' s') ≡ halted 20 mark) (get_or w mark 0) (λ e. refl) (λ e. absurd (k.stops e))
          (λ e. refl) (λ e. absurd (c e)) (λ e. refl) (λ e. absurd (u.no_plus (sym same ∙ e))) (λ e. absurd (u.no_minus (sym same ∙ e))) (λ e. refl) (λ e. refl) (λ e. refl) (λ e. refl) refl)
          refl

-- ---- a part that holds no sum: the sums, and their bounds

pub product : (k n : ℕ) → k ≤ 1048576 → n ≤ 1048576 → k * n ≤ 1099511627776
product k n h l = mul-le-mul h l

module _ (numbers sums : List ℕ) (p : Place) (r : Ready numbers sums p) (fits : p.at ≤ 4096) where
  pub constant-room : (x : ℕ) → x ≤ 1099511627776 → p.at ≤ 4095 → (x ≤ p.constant) × (p.constant + x ≤ 18446744073709551615)
  constant-room x h l = let b = within p.constant (1099511627776 * p.at) r.small.constant in (omega (arith, b.0), omega (arith, b.1))

  pub table-room : p.at + 2 ≤ 4096 → (p.count < 1366) × Bounded 4294967296 (held numbers sums p.count)
  table-room l = (omega (arith, r.room), bounded-more (1048576 * p.at) 4294967296 (held numbers sums p.count) (omega arith) r.small.terms)

  -- a number of this size is added to the constant
  pub number_small : (m : Bool) (x next c : ℕ) (bare : Bool) → x ≤ 1099511627776 → x ≤ p.constant → p.at < next → c ≡ moved m x p.constant → Small numbers sums (record { at = next; bare = bare; count = p.count; constant = c })
  number_small m x next c bare h l g e =
      record {
        constant =
            omega (arith, ap (λ (z : ℕ). nat_abs (value_of z)) e, ap nat_abs (moved-is m x p.constant l), abs-add (value_of p.constant) (signed m x), size-signed m x, r.small.constant);
        terms = bounded-more (1048576 * p.at) (1048576 * next) (held numbers sums p.count) (omega arith) r.small.terms;
      }

-- a term of this size is added
pub term-small : (numbers sums numbers' sums' : List ℕ) (p : Place) (v k count next : ℕ) (m bare : Bool) → Ready numbers sums p → k ≤ 1048576 → p.at + 1 < next
    → held numbers' sums' count ≡ add_to v (signed m k) (held numbers sums p.count) → Small numbers' sums' (record { at = next; bare = bare; count = count; constant = p.constant })
term-small numbers sums numbers' sums' p v k count next m bare r h g e =
    record {
      constant = omega (arith, r.small.constant);
      terms =
          subst (Bounded (1048576 * next)) (sym e)
          (bounded-more (1048576 * p.at + nat_abs (signed m k)) (1048576 * next) (add_to v (signed m k) (held numbers sums p.count)) (omega (arith, size-signed m k))
          (bounded-add (1048576 * p.at) v (signed m k) (held numbers sums p.count) r.small.terms));
    }
