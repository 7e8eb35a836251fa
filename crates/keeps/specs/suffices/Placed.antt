-- The variables of a work: their symbols are live Externals, each of one variable alone; so no tag's symbol and no other's row is theirs. Assumes nothing.
use Rattle.std.specs.Prelude.{◌≡◌, refl, ◌≢◌, List, [], ◌∷◌, map, true, false, ℕ, suc, ◌+◌, ◌*◌, ◌≤◌}
use Rattle.std.proofs.Common.{sym, ap, ◌∙◌, subst, inl, inr, arith}
use Rattle.steps.specs.Symbol.{External, Slack, Error, Dummy, Kind, Symbol, is_external}
use Rattle.steps.specs.State.{Basic, Variable}
use Rattle.steps.specs.Work.{Work}
use Rattle.steps.specs.Changes.{with_flag, clear_changed}
use Rattle.steps.specs.Readable.{kind_code, code}
use Rattle.keeps.specs.Lists.{All, all-to, all-zip, Same?, is, isnt, same, same?, total, times, times-map, Up, up_none, no_both}
use Rattle.keeps.specs.Along.{ids, Mem}
use Rattle.keeps.specs.Codes.{codes, codes-mem, codes-once, mem-ids}
use Rattle.keeps.specs.Places.{times-all}
use Rattle.keeps.specs.Reads.{var_code, unmap}
use Rattle.keeps.specs.Good.{Good}
use Rattle.keeps.specs.suffices.Values.{ExternalAt}

abbrev pub var_id : Variable → ℕ
var_id v = v.symbol.id

-- a live External
abbrev pub Named : List Symbol → Variable → Type 0
Named xs v = Mem v.symbol xs × (is_external v.symbol ≡ true)

pub record Placed (xs : List Symbol) (vs : List Variable) : Type 0 where
  pub named : All (Named xs) vs
  pub alone : (i : ℕ) → times i (map var_id vs) ≤ 1

-- ---- flags don't count

pub placed-flags : (xs : List Symbol) (vs us : List Variable) → clear_changed us ≡ clear_changed vs → Placed xs vs → Placed xs us
unfolding clear_changed with_flag
placed-flags xs vs us e p = record { named = opened us (subst (All (Named xs)) (sym e) (closed vs p.named)); alone = λ i. omega (arith, ap (times i) (ids-of us), ap (λ (l : List Variable). times i (map var_id l)) e, ap (times i) (ids-of vs), p.alone i) }
  where
    closed : (vs : List Variable) → All (Named xs) vs → All (Named xs) (clear_changed vs)
    closed [] h = tt
    closed (v ∷ vs) h = (h.0, closed vs h.1)

    opened : (vs : List Variable) → All (Named xs) (clear_changed vs) → All (Named xs) vs
    opened [] h = tt
    opened (v ∷ vs) h = (h.0, opened vs h.1)

    ids-of : (vs : List Variable) → map var_id (clear_changed vs) ≡ map var_id vs
    ids-of [] = refl
    ids-of (v ∷ vs) = ap (λ (l : List ℕ). var_id v ∷ l) (ids-of vs)

-- ---- one symbol to an id

pub mem_unique : (i : ℕ) (xs : List Symbol) → Up i (ids xs) → (x y : Symbol) → Mem x xs → Mem y xs → x.id ≡ y.id → x ≡ y
mem_unique i [] u x y m n e = absurd m
mem_unique i (z ∷ xs) u x y (inl p) (inl q) e = p ∙ sym q
mem_unique i (z ∷ xs) u x y (inl p) (inr n) e = absurd (omega (arith, mem-ids y xs n, up_none (suc z.id) y.id (ids xs) (omega (arith, e, ap (λ (s : Symbol). s.id) p)) u.1))
mem_unique i (z ∷ xs) u x y (inr m) (inl q) e = absurd (omega (arith, mem-ids x xs m, up_none (suc z.id) x.id (ids xs) (omega (arith, e, ap (λ (s : Symbol). s.id) q)) u.1))
mem_unique i (z ∷ xs) u x y (inr m) (inr n) e = mem_unique (suc z.id) xs u.1 x y m n e

-- rows of a variable's symbol are an External's
pub external-at : (xs : List Symbol) → Up 1 (ids xs) → (v : Variable) → Named xs v → (bs : List Basic) → All (λ (b : Basic). Mem b.symbol xs) bs → All (ExternalAt (var_id v)) bs
external-at xs u v n bs l = all-to _ _ (λ b m e. ap is_external (sym (mem_unique 1 xs u v.symbol b.symbol n.0 m e)) ∙ n.1) bs l

-- a live symbol that isn't External is no variable's
pub apart : (xs : List Symbol) → Up 1 (ids xs) → (s : Symbol) → Mem s xs → is_external s ≡ false → (vs : List Variable) → All (Named xs) vs → All (λ (v : Variable). var_id v ≢ s.id) vs
apart xs u s m x vs h = all-to (Named xs) _ (λ v n e. no_both n.1 (ap is_external (mem_unique 1 xs u v.symbol s n.0 m e) ∙ x)) vs h

-- ---- of a state that reads

external-code : (s : Symbol) → is_external s ≡ true → code s ≡ s.id * 4
unfolding code kind_code is_external
external-code s e = go s.kind e
  where
    go : (k : Kind) → is_external (record { id = s.id; kind = k }) ≡ true → s.id * 4 + kind_code k ≡ s.id * 4
    go External e = omega arith
    go Slack e = absurd (no_both e refl)
    go Error e = absurd (no_both e refl)
    go Dummy e = absurd (no_both e refl)

alone-code : (i : ℕ) (vs : List Variable) → All (λ (v : Variable). is_external v.symbol ≡ true) vs → times i (map var_id vs) ≡ total (var_code (i * 4)) vs
unfolding times total
alone-code i [] h = refl
alone-code i (v ∷ vs) h = go (same? i (var_id v)) (same? (i * 4) (code v.symbol)) (external-code v.symbol h.0) (alone-code i vs h.1)
  where
    go : Same? i (var_id v) → Same? (i * 4) (code v.symbol) → code v.symbol ≡ var_id v * 4 → times i (map var_id vs) ≡ total (var_code (i * 4)) vs → same i (var_id v) + times i (map var_id vs) ≡ var_code (i * 4) v + total (var_code (i * 4)) vs
    go (is a b c) (is p q r) e ih = omega (arith, c, r, ih)
    go (is a b c) (isnt p q r) e ih = absurd (q (omega (arith, b, e)))
    go (isnt a b c) (is p q r) e ih = absurd (b (omega (arith, q, e)))
    go (isnt a b c) (isnt p q r) e ih = omega (arith, c, r, ih)

pub good_placed : (K U : ℕ → ℕ) (w : Work) → Good K U w → Placed w.tableau.symbols w.changes.variables
good_placed K U w g =
    record {
      named = all-zip _ _ (Named w.tableau.symbols) (λ v m x. (m, x)) w.changes.variables members g.vars.externals;
      alone = λ i. omega (arith, alone-code i w.changes.variables g.vars.externals, g.vars.symbols (i * 4), g.owns (i * 4), codes-once 1 (i * 4) w.tableau.symbols g.fits.up);
    }
  where
    counted : All (λ (n : ℕ). 1 ≤ times n (codes w.tableau.symbols)) (map (λ (v : Variable). code v.symbol) w.changes.variables)
    counted = times-all (λ n. 1 ≤ times n (codes w.tableau.symbols)) (map (λ (v : Variable). code v.symbol) w.changes.variables) (λ n l. omega (arith, l, times-map (λ (v : Variable). code v.symbol) n w.changes.variables, g.vars.symbols n, g.owns n))

    members : All (λ (v : Variable). Mem v.symbol w.tableau.symbols) w.changes.variables
    members = all-to _ _ (λ v h. codes-mem v.symbol w.tableau.symbols h) w.changes.variables (unmap (λ (v : Variable). code v.symbol) _ w.changes.variables counted)
