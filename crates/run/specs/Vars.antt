-- Variables whose numbers, symbols and use counts are the same: what notes, passes and fetches leave of them. Assumes nothing.
use Rattle.std.specs.Prelude.{◌≡◌, refl, ◌≢◌, Bool, true, false, cond, List, [], ◌∷◌, map, ℕ, eqb}
use Rattle.std.proofs.Common.{sym, ap, ◌∙◌, subst}
use Rattle.std.proofs.Math.Option.{Option, none, some}
use Rattle.simplex.specs.Opt.{Kind as KindZ}
use Rattle.steps.specs.Symbol.{Symbol}
use Rattle.steps.specs.State.{Variable, Basic}
use Rattle.steps.specs.Changes.{find_variable, with_flag, clear_changed, reported}
use Rattle.simplex.specs.bridge.Finds.{none≢some}
use Rattle.run.specs.Inv.{VarAt}

pub record Alike (a b : Variable) : Type 0 where
  pub number : a.number ≡ b.number
  pub symbol : a.symbol ≡ b.symbol
  pub uses : a.uses ≡ b.uses

abbrev pub AlikeAt : Option Variable → Option Variable → Type 0
AlikeAt none none = Unit
AlikeAt none (some b) = ⊥
AlikeAt (some a) none = ⊥
AlikeAt (some a) (some b) = Alike a b

-- ws has the variables of vs
abbrev pub Same : List Variable → List Variable → Type 0
Same vs ws = (v : ℕ) → AlikeAt (find_variable v vs) (find_variable v ws)

pub alike_refl : (o : Option Variable) → AlikeAt o o
alike_refl none = tt
alike_refl (some a) = record { number = refl; symbol = refl; uses = refl }

pub same_refl : (vs : List Variable) → Same vs vs
same_refl vs v = alike_refl (find_variable v vs)

alike-trans : (a b c : Option Variable) → AlikeAt a b → AlikeAt b c → AlikeAt a c
alike-trans none none none h g = tt
alike-trans none none (some c) h g = absurd g
alike-trans none (some b) c h g = absurd h
alike-trans (some a) none c h g = absurd h
alike-trans (some a) (some b) none h g = absurd g
alike-trans (some a) (some b) (some c) h g = record { number = h.number ∙ g.number; symbol = h.symbol ∙ g.symbol; uses = h.uses ∙ g.uses }

pub same-trans : (us vs ws : List Variable) → Same us vs → Same vs ws → Same us ws
same-trans us vs ws h g v = alike-trans (find_variable v us) (find_variable v vs) (find_variable v ws) (h v) (g v)

alike-sym : (a b : Option Variable) → AlikeAt a b → AlikeAt b a
alike-sym none none h = tt
alike-sym none (some b) h = absurd h
alike-sym (some a) none h = absurd h
alike-sym (some a) (some b) h = record { number = sym h.number; symbol = sym h.symbol; uses = sym h.uses }

pub same_map : (f : Variable → Variable) → ((a : Variable) → Alike a (f a)) → (vs : List Variable) → Same vs (map f vs)
unfolding find_variable
same_map f h [] v = tt
same_map f h (a ∷ vs) v = go (eqb v a.number) refl (same_map f h vs v)
  where
    go : (b : Bool) → eqb v a.number ≡ b → AlikeAt (find_variable v vs) (find_variable v (map f vs))
        → AlikeAt (elim (eqb v a.number) [ true ↦ some a | false ↦ find_variable v vs ]) (elim (eqb v (f a).number) [ true ↦ some (f a) | false ↦ find_variable v (map f vs) ])
    go true e ih = rw (sym (h a).number, e) (h a)
    go false e ih = rw (sym (h a).number, e) ih

pub same_cond : (b : Bool) (vs us ws : List Variable) → Same vs us → Same vs ws → Same vs (cond b us ws)
same_cond true vs us ws h g = h
same_cond false vs us ws h g = g

-- ---- notes and fetches

flagged : (b : Bool) (a : Variable) → Alike a (with_flag b a)
unfolding with_flag
flagged b a = record { number = refl; symbol = refl; uses = refl }

pub same-clear : (vs : List Variable) → Same vs (clear_changed vs)
unfolding clear_changed
same-clear vs = same_map (with_flag false) (flagged false) vs

-- flags apart, the same list
pub same_kept : (vs ws : List Variable) → clear_changed ws ≡ clear_changed vs → Same vs ws
same_kept vs ws e v =
    alike-trans (find_variable v vs) (find_variable v (clear_changed vs)) (find_variable v ws) (same-clear vs v)
    (alike-sym (find_variable v ws) (find_variable v (clear_changed vs)) (subst (λ (l : List Variable). AlikeAt (find_variable v ws) (find_variable v l)) e (same-clear ws v)))

pub same-reported : (gone : List ℕ) (rows : List Basic) (vs : List Variable) → Same vs (map (reported gone rows) vs)
unfolding reported
same-reported gone rows vs = same_map (reported gone rows) (λ a. record { number = refl; symbol = refl; uses = refl }) vs

-- ---- what the invariant says of variables goes over

pub at_same : (kind : ℕ → KindZ) (xs : List Symbol) (a b : Option Variable) (c : ℕ) → AlikeAt a b → VarAt kind xs a c → VarAt kind xs b c
at_same kind xs none none c h g = tt
at_same kind xs none (some b) c h g = absurd h
at_same kind xs (some a) none c h g = absurd h
at_same kind xs (some a) (some b) c h g = (ap (λ (s : Symbol). s.id) (sym h.symbol) ∙ g.0, ap (λ (s : Symbol). s.kind) (sym h.symbol) ∙ g.1, g.2, g.3)

pub known_same : (a b : Option Variable) → AlikeAt a b → a ≢ none → b ≢ none
known_same none b h k = absurd (k refl)
known_same (some a) none h k = absurd h
known_same (some a) (some b) h k = λ e. none≢some (sym e)

pub known-back : (a b : Option Variable) → AlikeAt a b → b ≢ none → a ≢ none
known-back a none h k = absurd (k refl)
known-back none (some b) h k = absurd h
known-back (some a) (some b) h k = λ e. none≢some (sym e)
