-- One use of the variable of a number less, whether it stays or goes: the tables read as the steps' use_less, stand again, and tell what is left to do.
-- Assumes nothing.
use Rattle.std.specs.Prelude.{ℕ, ◌+◌, ◌≤◌, ◌<◌, ◌≡◌, Bool, List, Float, get_or, None}
use Rattle.std.proofs.Math.Path.{refl, sym, ap}
use Rattle.std.proofs.Common.{◌∙◌, subst, arith}
use Rattle.std.proofs.Math.Bool.{true, false, cond}
use Rattle.std.proofs.Math.Option.{Option, none, some}
use Rattle.std.proofs.Math.Dec.{eqb}
use Rattle.std.specs.Float.{nan}
use Rattle.steps.specs.Number.{Mark}
use Rattle.steps.specs.State.{Variable}
use Rattle.steps.specs.Work.{Work, with_changes, purge}
use Rattle.steps.specs.Changes.{never_reported, tell_gone}
use Rattle.steps.specs.CreateRow.{with_variables}
use Rattle.steps.specs.Remove.{Fallen, use_less, lose}
use Rattle.keeps.specs.Waits.{gone_after}
use Rattle.rows.specs.choose.Choose.{Found}
use Rattle.std.specs.Prelude.{Some, None}
use Rattle.rows.specs.choose.Choose.{on_found}
use Rattle.sparse.specs.Places.{should_clear_at, variable_uses_at, variable_places_at, old_values_at}
use Rattle.sparse.specs.Sparse.{Sparse, symbol_count, variable_count, symbol_at, variable_of, gone_of, read}
use Rattle.waist.specs.Working.{sparse, Sound}
use Rattle.waist.specs.Standing.{Owners, Standing, Makes, Unowned}
use Rattle.variables.specs.Variables.{found_in}
use Rattle.variables.specs.Found.{variable-found, found_at}
use Rattle.variables.specs.Alone.{VariablesAlone, with_gone, symbols-count, symbol-same, makes-variables}
use Rattle.variables.specs.Told.{told_of}
use Rattle.variables.specs.declared.less.Gone.{Gone}
use Rattle.variables.specs.Less.{went, went_words, went_bytes, went_reals, less_words, Loss, loss, differs, lost_use, less_of, leaving}
use Rattle.variables.specs.UseLess.{fallen, without, lessened, falls_to, less-is}
use Rattle.variables.specs.LessReads.{gone, alone, gone-told, gone-live, gone-owners, gone-unowned, gone-variables, stays, stays-alone, stays-told, stays-live, stays-owners, stays-variables}

-- the tables with three of them others
abbrev pub lost_in : Loss → Sparse → Sparse
lost_in l t = sparse l.words t.keys l.bytes l.reals t.values

-- what the steps do with the variable that goes
abbrev pub lost_of : Option Variable → Work → Work
lost_of o w = elim o [ none ↦ w | some x ↦ lose x w ]

pub record Falls (n : ℕ) (t : Sparse) (l : Loss) : Type 0 where
  pub makes : (a : Mark) → Standing false a t → Makes false false a a (λ w. with_variables (use_less n w.changes.variables).variables w) t (lost_in l t)
  -- the variable that goes is told, and its symbol purged
  pub leaves : (w : Work) → lost_of (use_less n (read t).changes.variables).gone w ≡ leaving n t l.gone w
  pub told : (p : ℕ) (x : Bool) → l.gone ≡ went p x → (ns : List ℕ) → gone_after (use_less n (read t).changes.variables).gone ns ≡ told_of x n ns
  pub waits : gone_of (lost_in l t) ≡ gone_of t
  -- its place is given back: live, and no variable names it
  pub place : (p : ℕ) (x : Bool) → l.gone ≡ went p x → (1 ≤ p) × (p ≤ symbol_count (lost_in l t)) × (symbol_at (lost_in l t) p ≡ symbol_at t p) × Unowned p (lost_in l t)

module _ (n : ℕ) (t : Sparse) (so : Sound false t) (o : Owners t) where
  abbrev vars : List Variable
  vars = (read t).changes.variables

  abbrev fall : Option Variable → Fallen
  fall x = falls_to vars (without n vars) (lessened n vars) x

  falls-is : (f : Found) → found_in n t.words ≡ f → use_less n vars ≡ fall (on_found (λ v. some (variable_of t v)) none f)
  falls-is f e = less-is n vars ∙ ap fall (variable-found t n ∙ ap (on_found (λ v. some (variable_of t v)) none) e)

  never : {X : Type 0} {p : ℕ} {x : Bool} → None ≡ went p x → X
  never e = absurd (let c : ◌≡◌ {A = ℕ} 0 1 = cc in omega arith)

  same-goes : {p q : ℕ} {x y : Bool} → went p x ≡ went q y → (q ≡ p) × (x ≡ y)
  same-goes {p} {q} {x} {y} e =
      let s : ◌≡◌ {A = Gone} (record { place = p; unreported = x }) (record { place = q; unreported = y }) = cc in
      (sym (ap (λ (g : Gone). g.place) s), ap (λ (g : Gone). g.unreported) s)

  -- no variable has the number
  falls-none : found_in n t.words ≡ None → Falls n t (loss t.words t.bytes t.reals None)
  unfolding leaving
  falls-none e =
      let q : use_less n vars ≡ fallen vars none = falls-is None e in
      record {
        makes = λ a s. makes-variables t t (record { words = λ x y z _. refl; long = refl; bytes = λ x y. refl; wide = refl; low = λ x y. refl; high = λ x y. refl; deep = refl; keys = refl; values = refl }) false a (λ vs. (use_less n vs).variables) s
            (record { few = so.named.few-variables; places = so.named.variables }) o (sym (ap (λ (x : Fallen). x.variables) q)) refl refl;
        leaves = λ w. ap (λ (x : Fallen). lost_of x.gone w) q;
        told = λ p x z. never z;
        waits = refl;
        place = λ p x z. never z;
      }

  module _ (v : ℕ) (e : found_in n t.words ≡ Some v) where
    high : v < variable_count t
    high = (found_at n t.words e).0

    abbrev uses : ℕ
    uses = get_or t.words (variable_uses_at + v) 0

    abbrev p₀ : ℕ
    p₀ = get_or t.bytes (variable_places_at + v) 0

    abbrev old : Float
    old = get_or t.reals (old_values_at + v) nan

    falls-by : (b : Bool) → eqb uses 1 ≡ b → use_less n vars ≡ cond b (fallen (without n vars) (some (variable_of t v))) (fallen (lessened n vars) none)
    unfolding variable_of
    falls-by b q = falls-is (Some v) e ∙ ap (λ (c : Bool). cond c (fallen (without n vars) (some (variable_of t v))) (fallen (lessened n vars) none)) q

    -- the variable that goes has the number
    lost-is : (w : Work) → lose (variable_of t v) w ≡ leaving n t (went p₀ (differs old)) w
    unfolding lose tell_gone never_reported leaving with_gone variable_of
    lost-is w = sym (ap (λ (m : ℕ). purge (symbol_at t p₀).id (with_changes (with_gone (told_of (differs old) m) w.changes) w)) (found_at n t.words e).1)

    told_is : (ns : List ℕ) → gone_after (some (variable_of t v)) ns ≡ told_of (differs old) n ns
    unfolding never_reported variable_of
    told_is ns = sym (ap (λ (m : ℕ). told_of (differs old) m ns) (found_at n t.words e).1)

    falls-gone : eqb uses 1 ≡ true → Falls n t (loss (went_words v t.words) (went_bytes v t.words t.bytes) (went_reals v t.words t.reals) (went p₀ (differs old)))
    falls-gone b =
        let q = falls-by true b in
        let k : VariablesAlone t (gone t so o v high) = alone t so o v high in
        record {
          makes = λ a s. makes-variables t (gone t so o v high) k false a (λ vs. (use_less n vs).variables) s (gone-live t so o v high) (gone-owners t so o v high)
              (gone-variables t so o v high n e ∙ sym (ap (λ (x : Fallen). x.variables) q)) (gone-told t so o v high) (k.words should_clear_at (omega arith) (λ z. omega (arith, z)) (λ z. omega (arith, z)));
          leaves = λ w. ap (λ (x : Fallen). lost_of x.gone w) q ∙ lost-is w;
          told = λ p x z ns. ap (λ (x : Fallen). gone_after x.gone ns) q ∙ told_is ns ∙ ap (λ (b : Bool). told_of b n ns) (same-goes z).1;
          waits = gone-told t so o v high;
          place = λ p x z. subst (λ (x : ℕ). (1 ≤ x) × (x ≤ symbol_count (gone t so o v high)) × (symbol_at (gone t so o v high) x ≡ symbol_at t x) × Unowned x (gone t so o v high)) (sym (same-goes z).0) at;
        }
      where
        at : (1 ≤ p₀) × (p₀ ≤ symbol_count (gone t so o v high)) × (symbol_at (gone t so o v high) p₀ ≡ symbol_at t p₀) × Unowned p₀ (gone t so o v high)
        at =
            let l = so.named.variables v high in
            let f = so.named.few-symbols in
            let c = symbols-count t (gone t so o v high) (alone t so o v high) in
            (l.0, rw c l.1, symbol-same t (gone t so o v high) (alone t so o v high) p₀ (omega (arith, l, f)), gone-unowned t so o v high)

    falls-less : eqb uses 1 ≡ false → Falls n t (loss (less_words v t.words) t.bytes t.reals None)
    unfolding leaving
    falls-less b =
        let q = falls-by false b in
        let k : VariablesAlone t (stays t so o v high) = stays-alone t so o v high in
        record {
          makes = λ a s. makes-variables t (stays t so o v high) k false a (λ vs. (use_less n vs).variables) s (stays-live t so o v high) (stays-owners t so o v high)
              (stays-variables t so o v high n e ∙ sym (ap (λ (x : Fallen). x.variables) q)) (stays-told t so o v high) (k.words should_clear_at (omega arith) (λ z. omega (arith, z)) (λ z. omega (arith, z)));
          leaves = λ w. ap (λ (x : Fallen). lost_of x.gone w) q;
          told = λ p x z. never z;
          waits = stays-told t so o v high;
          place = λ p x z. never z;
        }

  -- "Use counts fall; a variable at zero goes with its row and cells and leaves the changed set; the next fetch lists it as gone if it was reported."
  pub less-falls : Falls n t (less_of n t.words t.bytes t.reals)
  unfolding less_of lost_use
  less-falls = go (found_in n t.words) refl
    where
      by : (v : ℕ) → found_in n t.words ≡ Some v → (b : Bool) → eqb (get_or t.words (variable_uses_at + v) 0) 1 ≡ b
          → Falls n t (cond b (loss (went_words v t.words) (went_bytes v t.words t.bytes) (went_reals v t.words t.reals) (went (get_or t.bytes (variable_places_at + v) 0) (differs (get_or t.reals (old_values_at + v) nan)))) (loss (less_words v t.words) t.bytes t.reals None))
      by v e true b = falls-gone v e b
      by v e false b = falls-less v e b

      go : (f : Found) → found_in n t.words ≡ f → Falls n t (on_found (λ v. lost_use v (loss t.words t.bytes t.reals None)) (loss t.words t.bytes t.reals None) f)
      go (Some v) e = by v e (eqb (get_or t.words (variable_uses_at + v) 0) 1) refl
      go None e = falls-none e

  -- the code's call, over variables
  pub less-calls : (l : Loss) → l ≡ less_of n t.words t.bytes t.reals → Falls n t l
  less-calls l e = subst (Falls n t) (sym e) less-falls
