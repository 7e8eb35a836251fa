-- A suggestion keeps the invariant of a whole run, whatever it answers. Assumes nothing.
use Rattle.std.specs.Prelude.{◌≡◌, ◌≢◌, Bool, true, false, ◌&&◌, ℕ, ◌^◌, ◌<◌, ◌≤◌, T, eqb, pos, neg_ℤ, Float}
use Rattle.std.proofs.Math.Path.{refl, sym, ap, ap₂, subst}
use Rattle.std.proofs.Common.{◌∙◌, arith, eqb→eq}
use mathlib.Core.List.{List, [], ◌∷◌, map}
use Rattle.std.proofs.Math.Option.{Option, none, some}
use Rattle.std.proofs.Math.Dec.{eqb_refl}
use Rattle.std.specs.Int.Signed.{le_z}
use Rattle.std.specs.Float.Ieee.{neg, le}
use Rattle.laws.specs.Z.{abs_neg}
use Rattle.laws.specs.exact.Whole.{val, neg-z}
use Rattle.laws.specs.exact.Compare.{le-z}
use Rattle.simplex.specs.Ord.{0ℤ}
use Rattle.simplex.specs.Lin.{δ, plus}
use Rattle.simplex.specs.Choose.{All, all_map}
use Rattle.simplex.specs.Form.{Form}
use Rattle.simplex.specs.Problem.{Con, Models}
use Rattle.simplex.specs.Drag.{edit}
use Rattle.simplex.specs.Look.{both}
use Rattle.steps.specs.Number.{constant_bound, is_finite, is_whole, within, magnitude, all_whole, says_whole}
use Rattle.steps.specs.State.{Term, Relation, strength_of, Constraint, Edit, State}
use Rattle.steps.specs.Symbol.{Symbol}
use Rattle.steps.specs.Work.{Work, Outcome, refused, going}
use Rattle.steps.specs.Changes.{find_variable}
use Rattle.steps.specs.Add.{whole_terms, whole_within, whole_inputs}
use Rattle.steps.specs.Edit.{suggest_steps}
use Rattle.steps.specs.Tests.{find_constraint, find_edit, keep_edit, drop_edit}
use Rattle.steps.specs.Calls.{Result, begin, finish, refused_by, accepted_as, conclude, suggest}
use Rattle.steps.specs.Readable.{readable}
use Rattle.steps.proofs.After.{says-whole}
use Rattle.keeps.specs.Keys.{find_edit-is, keep_edit-is, drop_edit-is}
use Rattle.keeps.specs.Tested.{reads_in}
use Rattle.simplex.specs.bridge.Nums.{magnitude-z, constant_bound-z}
use Rattle.simplex.specs.bridge.Rows.{In}
use Rattle.simplex.specs.bridge.Table.{ReadsWork}
use Rattle.simplex.specs.bridge.Runs.{mark_of}
use Rattle.run.specs.Demand.{Key, of_constraint, of_edit, same_key, Demand, moved, Call, suggests, make, accepted, Moment, next}
use Rattle.run.specs.Inv.{non_zero_terms, columns, Held, expr_of, form_of, other_id, con_of, find_held, Shaped, StoredAs, ConstraintAt, EditedAs, EditAt, VarAt, WholeDemand, Inv}
use Rattle.keeps.specs.Lookup.{find-keep-same, find-keep-other, find-drop-same, find-drop-other}
use Rattle.run.specs.Vars.{Same, same_kept, at_same, known_same, known-back}
use Rattle.run.specs.Perm.{without_held, found-key, own_key}
use Rattle.run.specs.Refit.{with_expr, moved_held, MovedAt}
use Rattle.run.proofs.Refit.{models-expr, expr-less, moved-own, moved_other, live_moved, find-moved, out-moved, once-moved, models-back}
use Rattle.run.specs.Inputs.{whole-within, z-whole}
use Rattle.run.specs.Passes.{other-artificial}
use Rattle.run.specs.Suggest.{unchanged, changed, soft, shape, o, expr, weight, others, grown, new-constant, Reached, Comes, steps-come}

-- ---- what a new aim leaves of a demand

pub moved-terms : (u : ℕ) (x : Float) (c : Demand) → (moved u x c).terms ≡ c.terms
unfolding moved
moved-terms u x c = go (same_key (of_edit u) c.key)
  where
    go : (b : Bool) → (elim b as (λ _. Demand) [ true ↦ record { key = c.key; group = c.group; terms = c.terms; constant = neg x; relation = c.relation } | false ↦ c ]).terms ≡ c.terms
    go true = refl
    go false = refl

pub moved-group : (u : ℕ) (x : Float) (c : Demand) → (moved u x c).group ≡ c.group
unfolding moved
moved-group u x c = go (same_key (of_edit u) c.key)
  where
    go : (b : Bool) → (elim b as (λ _. Demand) [ true ↦ record { key = c.key; group = c.group; terms = c.terms; constant = neg x; relation = c.relation } | false ↦ c ]).group ≡ c.group
    go true = refl
    go false = refl

pub moved-relation : (u : ℕ) (x : Float) (c : Demand) → (moved u x c).relation ≡ c.relation
unfolding moved
moved-relation u x c = go (same_key (of_edit u) c.key)
  where
    go : (b : Bool) → (elim b as (λ _. Demand) [ true ↦ record { key = c.key; group = c.group; terms = c.terms; constant = neg x; relation = c.relation } | false ↦ c ]).relation ≡ c.relation
    go true = refl
    go false = refl

-- the negative of a whole suggestion is a whole constant
within-neg : (x : Float) → whole_within constant_bound x ≡ true → whole_within constant_bound (neg x) ≡ true
unfolding whole_within within
within-neg x e =
    let h = whole-within constant_bound (2 ^ 30) constant_bound-z x e in
    let t = both (is_whole x) (le (magnitude x) constant_bound) e in
    ap₂ (λ (a b : Bool). a && b) (z-whole (neg-z h.isz))
    (le-z (magnitude-z (neg-z h.isz)) constant_bound-z ∙ ap (λ (k : ℕ). le_z (pos k) (pos (2 ^ 30))) (abs_neg (val x)) ∙ sym (le-z (magnitude-z h.isz) constant_bound-z) ∙ t.1)

inputs-with : (h : Held) (c : Float) → whole_within constant_bound c ≡ true → WholeDemand h
    → WholeDemand (record { demand = record { key = h.demand.key; group = h.demand.group; terms = h.demand.terms; constant = c; relation = h.demand.relation }; tag = h.tag })
unfolding whole_inputs
inputs-with h c e w =
    let t = both (whole_terms h.demand.terms && whole_within constant_bound h.demand.constant) (is_whole (strength_of h.demand.relation)) w.0 in
    let u = both (whole_terms h.demand.terms) (whole_within constant_bound h.demand.constant) t.0 in
    (ap₂ (λ (a b : Bool). a && b) (ap₂ (λ (a b : Bool). a && b) u.0 e) t.1, w.1)

moved-inputs : (u : ℕ) (x : Float) → whole_within constant_bound x ≡ true → (h : Held) → WholeDemand h → WholeDemand (moved_held u x h)
moved-inputs u x e h w = go (same_key (of_edit u) h.demand.key) refl
  where
    go : (b : Bool) → same_key (of_edit u) h.demand.key ≡ b → WholeDemand (moved_held u x h)
    go true p = subst WholeDemand (sym (moved-own u x h p)) (inputs-with h (neg x) (within-neg x e) w)
    go false p = subst WholeDemand (sym (moved_other u x h p)) w

over-map : {A B : Type 0} (f : A → B) (P : A → Type 0) (Q : B → Type 0) → ((a : A) → P a → Q (f a)) → (l : List A) → All P l → All Q (map f l)
over-map f P Q g [] h = tt
over-map f P Q g (a ∷ l) h = (g a h.0, over-map f P Q g l h.1)

-- ---- the stored edits

edit-found : (u : ℕ) (es : List Edit) (e₁ : Edit) → e₁.variable ≡ u → Rattle.keeps.specs.Lists.Up 0 (map (λ (e : Edit). e.variable) es) → find_edit u (keep_edit e₁ (drop_edit u es)) ≡ some e₁
edit-found u es e₁ p up =
    find_edit-is u (keep_edit e₁ (drop_edit u es)) ∙ ap (Rattle.keeps.specs.Keys.find_by (λ (e : Edit). e.variable) u) (keep_edit-is e₁ (drop_edit u es) ∙ ap (Rattle.keeps.specs.Keys.keep_by (λ (e : Edit). e.variable) e₁) (drop_edit-is u es))
    ∙ find-keep-same (λ (e : Edit). e.variable) u e₁ (Rattle.keeps.specs.Keys.drop_by (λ (e : Edit). e.variable) u es) (sym p) (find-drop-same (λ (e : Edit). e.variable) u es up)

edit-other : (t u : ℕ) (es : List Edit) (e₁ : Edit) → e₁.variable ≡ u → t ≢ u → find_edit t (keep_edit e₁ (drop_edit u es)) ≡ find_edit t es
edit-other t u es e₁ p n =
    find_edit-is t (keep_edit e₁ (drop_edit u es)) ∙ ap (Rattle.keeps.specs.Keys.find_by (λ (e : Edit). e.variable) t) (keep_edit-is e₁ (drop_edit u es) ∙ ap (Rattle.keeps.specs.Keys.keep_by (λ (e : Edit). e.variable) e₁) (drop_edit-is u es))
    ∙ find-keep-other (λ (e : Edit). e.variable) t e₁ (Rattle.keeps.specs.Keys.drop_by (λ (e : Edit). e.variable) u es) (λ q. n (q ∙ p))
    ∙ find-drop-other (λ (e : Edit). e.variable) t u es n ∙ sym (find_edit-is t es)

-- ---- the moment after

module _ (m : Moment) (I : Inv m) (up : Rattle.keeps.specs.Lists.Up 0 (map (λ (e : Edit). e.variable) m.state.edits)) (u : ℕ) (x : Float) (e : Edit) (h : Held)
    (found : find_held (of_edit u) I.held ≡ some h) (E : EditedAs u e h) (y : Work) (Z : Reached m I u x e h found E y) (mark : y.mark ≡ all_whole) where
  e₁ : Edit
  e₁ = record { variable = u; strength = e.strength; tag = e.tag; suggestion = x }

  state : State
  state = finish y m.state.constraints (keep_edit e₁ (drop_edit u m.state.edits))

  held : List Held
  held = map (moved_held u x) I.held

  own : same_key (of_edit u) h.demand.key ≡ true
  own = subst (λ (k : Key). same_key (of_edit u) k ≡ true) (found-key (of_edit u) I.held h found) (own_key (of_edit u))

  found-moved : find_held (of_edit u) (map (moved_held u x) I.held) ≡ some (moved_held u x h)
  found-moved = subst (λ (t : Option Held). MovedAt u x t (find_held (of_edit u) (map (moved_held u x) I.held))) found (find-moved u x (of_edit u) I.held)

  -- the constraint with its new aim is the held demand's
  as_moved : with_expr (edit (plus (expr m I u x e h found E) (neg_ℤ (grown m I u x e h found E)) (δ 0)) (weight m I u x e h found E) h.tag.marker.id (o m I u x e h found E).id) (expr_of I.sym (non_zero_terms h.demand.terms) (val (neg x)))
      ≡ con_of I.sym (moved_held u x h)
  unfolding con_of weight o other_id
  as_moved =
      ap₂ (λ (f : Form) (q : ℕ). record { expr = expr_of I.sym (non_zero_terms h.demand.terms) (val (neg x)); form = f; weight = val (strength_of h.demand.relation); marker = h.tag.marker.id; other = q }) (sym (soft m I u x e h found E)) (sym (ap other_id (shape m I u x e h found E).1.1))
      ∙ ap (con_of I.sym) (sym (moved-own u x h own))

  models : Models columns I.kind Z.dragged.state.B Z.dragged.state.R Z.dragged.state.o (map (con_of I.sym) (map (moved_held u x) I.held))
  unfolding others expr
  models =
      models-back (con_of I.sym) (of_edit u) columns I.kind Z.dragged.state.B Z.dragged.state.R Z.dragged.state.o (map (moved_held u x) I.held) (moved_held u x h) found-moved
      (subst (λ (l : List Held). Models columns I.kind Z.dragged.state.B Z.dragged.state.R Z.dragged.state.o (con_of I.sym (moved_held u x h) ∷ map (con_of I.sym) l)) (sym (out-moved u x I.held I.once))
      (subst (λ (c : Con). Models columns I.kind Z.dragged.state.B Z.dragged.state.R Z.dragged.state.o (c ∷ map (con_of I.sym) (without_held (of_edit u) I.held))) as_moved
      (models-expr columns I.kind Z.dragged.state.B Z.dragged.state.R Z.dragged.state.o _ (expr_of I.sym (non_zero_terms h.demand.terms) (val (neg x))) (map (con_of I.sym) (without_held (of_edit u) I.held))
      (expr-less I.sym (non_zero_terms h.demand.terms) (val h.demand.constant) (val (neg x)) (grown m I u x e h found E) (new-constant m I u x e h found E Z.input)) Z.dragged.models)))

  -- ---- names

  stored_moved : (c : Constraint) (g : Held) → StoredAs c g → StoredAs c (moved_held u x g)
  unfolding moved_held
  stored_moved c g S = record {
    group = S.group ∙ sym (moved-group u x g.demand);
    strength = S.strength ∙ ap strength_of (sym (moved-relation u x g.demand));
    terms = S.terms ∙ ap non_zero_terms (sym (moved-terms u x g.demand));
    tag = S.tag;
  }

  constraint-at : (c : Option Constraint) (g k : Option Held) → ConstraintAt c g → MovedAt u x g k → ConstraintAt c k
  constraint-at none none k a f = subst (ConstraintAt none) (sym f) tt
  constraint-at none (some g) k a f = absurd a
  constraint-at (some c) none k a f = absurd a
  constraint-at (some c) (some g) k a f = subst (ConstraintAt (some c)) (sym f) (stored_moved c g a)

  edited : EditedAs u e₁ (moved_held u x h)
  unfolding e₁
  edited = subst (EditedAs u (record { variable = u; strength = e.strength; tag = e.tag; suggestion = x })) (sym (moved-own u x h own)) (record {
    group = E.group;
    relation = E.relation;
    terms = E.terms;
    constant = refl;
    soft = E.soft;
    tag = E.tag;
  })

  not_own : (t : ℕ) → t ≢ u → eqb u t ≡ false
  not_own t n = go (eqb u t) refl
    where
      go : (b : Bool) → eqb u t ≡ b → eqb u t ≡ false
      go true p = absurd (n (sym (eqb→eq u t (subst T (sym p) tt))))
      go false p = p

  -- another edit's demand stays
  other_at : (t : ℕ) → t ≢ u → (d : Option Edit) (g k : Option Held) → find_held (of_edit t) I.held ≡ g → EditAt t d g → MovedAt u x g k → EditAt t d k
  unfolding same_key
  other_at t n none none k q a f = subst (EditAt t none) (sym f) tt
  other_at t n none (some g) k q a f = absurd a
  other_at t n (some d) none k q a f = absurd a
  other_at t n (some d) (some g) k q a f =
      subst (EditAt t (some d)) (sym (f ∙ ap some (moved_other u x g (subst (λ (l : Key). same_key (of_edit u) l ≡ false) (found-key (of_edit t) I.held g q) (not_own t n))))) a

  edit-at : (t : ℕ) → EditAt t (find_edit t (keep_edit e₁ (drop_edit u m.state.edits))) (find_held (of_edit t) (map (moved_held u x) I.held))
  unfolding e₁
  edit-at t = go (eqb t u) refl
    where
      mine : t ≡ u → EditAt t (find_edit t (keep_edit e₁ (drop_edit u m.state.edits))) (find_held (of_edit t) (map (moved_held u x) I.held))
      mine p = subst (λ (t : ℕ). EditAt t (find_edit t (keep_edit e₁ (drop_edit u m.state.edits))) (find_held (of_edit t) (map (moved_held u x) I.held))) (sym p)
          (subst (λ (d : Option Edit). EditAt u d (find_held (of_edit u) (map (moved_held u x) I.held))) (sym (edit-found u m.state.edits e₁ refl up)) (subst (EditAt u (some e₁)) (sym found-moved) edited))

      theirs : t ≢ u → EditAt t (find_edit t (keep_edit e₁ (drop_edit u m.state.edits))) (find_held (of_edit t) (map (moved_held u x) I.held))
      theirs n = subst (λ (d : Option Edit). EditAt t d (find_held (of_edit t) (map (moved_held u x) I.held))) (sym (edit-other t u m.state.edits e₁ refl n))
          (other_at t n (find_edit t m.state.edits) (find_held (of_edit t) I.held) (find_held (of_edit t) (map (moved_held u x) I.held)) refl (I.edits t) (find-moved u x (of_edit t) I.held))

      go : (b : Bool) → eqb t u ≡ b → EditAt t (find_edit t (keep_edit e₁ (drop_edit u m.state.edits))) (find_held (of_edit t) (map (moved_held u x) I.held))
      go true p = mine (eqb→eq t u (subst T (sym p) tt))
      go false p = theirs (λ q. subst T p (subst (λ (s : ℕ). T (eqb t s)) q (eqb_refl t)))

  same : Same m.state.changes.variables y.changes.variables
  unfolding begin
  same = same_kept m.state.changes.variables y.changes.variables Z.kept.variables

  reads : ReadsWork I.kind y Z.dragged.state.B Z.dragged.state.R Z.dragged.state.o (λ _. 0ℤ)
  unfolding begin
  reads = other-artificial I.kind y Z.dragged.state.B Z.dragged.state.R Z.dragged.state.o Z.dragged.other (λ _. 0ℤ) (Z.kept.artificial refl) Z.dragged.reads

  -- ---- THE INVARIANT AFTER AN ACCEPTED SUGGESTION
  pub after-inv : Inv (record { state = finish y m.state.constraints (keep_edit (record { variable = u; strength = e.strength; tag = e.tag; suggestion = x }) (drop_edit u m.state.edits)); live = map (moved u x) m.live })
  unfolding finish begin says_whole e₁ moved_held
  after-inv = record {
    kind = I.kind;
    table = Z.dragged.state;
    sym = I.sym;
    name = I.name;
    held = map (moved_held u x) I.held;
    good = record {
      zero = Z.dragged.good.zero;
      consts = Z.dragged.good.consts;
      shape = Z.dragged.good.shape;
      clear = Z.dragged.good.clear;
      feasible = Z.dragged.up;
      no-var = Z.dragged.no-var;
      no-vars = Z.dragged.good.no-vars;
      dummies = Z.dragged.good.dummies;
      still-dummies = Z.dragged.good.still-dummies;
    };
    rest = Z.dragged.good.costs;
    models = models;
    whole = ap says_whole mark;
    reads = record {
      up = reads.up;
      kinds = reads.kinds;
      unknown = reads.unknown;
      rows-up = reads.rows-up;
      rows-live = reads.rows-live;
      rows = reads.rows;
      objective = reads.objective;
      beyond = reads.beyond;
      cutoff = reads.cutoff;
      artificial = tt;
    };
    first = subst (λ (k : ℕ). 0 < k) (sym Z.kept.next_id) I.first;
    room = subst (λ (k : ℕ). k ≤ columns) (sym Z.kept.next_id) I.room;
    ids = λ j i. subst (λ (k : ℕ). j < k) (sym Z.kept.next_id) (I.ids j (subst (In j) Z.kept.symbols i));
    live = ap (map (moved u x)) I.live ∙ live_moved u x I.held;
    once = once-moved u x I.held I.once;
    inputs = over-map (moved_held u x) WholeDemand WholeDemand (moved-inputs u x Z.input) I.held I.inputs;
    shaped = over-map (moved_held u x) (λ (h : Held). Shaped (form_of h.demand.relation) h.tag) (λ (h : Held). Shaped (form_of h.demand.relation) h.tag) (λ g s. subst (λ (r : Relation). Shaped (form_of r) g.tag) (sym (moved-relation u x g.demand)) s) I.held I.shaped;
    constraints = λ n. constraint-at (find_constraint n m.state.constraints) (find_held (of_constraint n) I.held) (find_held (of_constraint n) (map (moved_held u x) I.held)) (I.constraints n) (find-moved u x (of_constraint n) I.held);
    edits = edit-at;
    vars = λ v. at_same I.kind y.tableau.symbols (find_variable v m.state.changes.variables) (find_variable v y.changes.variables) (I.sym v) (same v)
        (subst (λ (xs : List Symbol). VarAt I.kind xs (find_variable v m.state.changes.variables) (I.sym v)) (sym Z.kept.symbols) (I.vars v));
    names = λ v k. I.names v (known-back (find_variable v m.state.changes.variables) (find_variable v y.changes.variables) (same v) k);
    known = over-map (moved_held u x) (λ (h : Held). All (λ (t : Term). find_variable t.variable m.state.changes.variables ≢ none) (non_zero_terms h.demand.terms))
        (λ (h : Held). All (λ (t : Term). find_variable t.variable y.changes.variables ≢ none) (non_zero_terms h.demand.terms))
        (λ g a. subst (λ (ts : List Term). All (λ (t : Term). find_variable t.variable y.changes.variables ≢ none) (non_zero_terms ts)) (sym (moved-terms u x g.demand))
        (all_map (λ (t : Term) k. known_same (find_variable t.variable m.state.changes.variables) (find_variable t.variable y.changes.variables) (same t.variable) k) (non_zero_terms g.demand.terms) a)) I.held I.known;
  }

-- a whole answer's steps were all whole
conclude-mark : (s : State) (t : Outcome Work) (f : Work → State) → (conclude s t f).answer.whole ≡ true → mark_of t ≡ all_whole
unfolding conclude refused_by accepted_as mark_of
conclude-mark s (refused k p t) f e = says-whole t e
conclude-mark s (going w) f e = says-whole w.mark e

-- ---- A SUGGESTION KEEPS THE INVARIANT
pub suggest-inv : (m : Moment) (u : ℕ) (x : Float) (b : ℕ) → Inv m → readable m.state ≡ true → (make (suggests u x b) m.state).answer.whole ≡ true → Inv (next (suggests u x b) m)
unfolding make suggest conclude accepted_as accepted
suggest-inv m u x b I R = finite (is_finite x) refl
  where
    c : Call
    c = suggests u x b

    next-state : Edit → Work → State
    next-state e w = finish w m.state.constraints (keep_edit (record { variable = u; strength = e.strength; tag = e.tag; suggestion = x }) (drop_edit u m.state.edits))

    Whole : Result → Type 0
    Whole r = r.answer.whole ≡ true

    outcome : (e : Edit) (h : Held) (f : find_held (of_edit u) I.held ≡ some h) (E : EditedAs u e h) → make c m.state ≡ conclude m.state (suggest_steps b e x (begin m.state)) (next-state e)
        → (t : Outcome Work) → suggest_steps b e x (begin m.state) ≡ t → Comes m I u x e h f E t → Whole (conclude m.state t (next-state e)) → Inv (next c m)
    outcome e h f E q (refused k p t) r z w = unchanged c m k p (says_whole t) (q ∙ ap (λ (o : Outcome Work). conclude m.state o (next-state e)) r) (ap (λ (n : ℕ). eqb n 0) z) I
    outcome e h f E q (going y) r z w = changed c m y (next-state e y) (q ∙ ap (λ (o : Outcome Work). conclude m.state o (next-state e)) r) (after-inv m I (reads_in m.state R).edits-up u x e h f E y z (says-whole y.mark w))

    at-edit : (d : Option Edit) → find_edit u m.state.edits ≡ d → (g : Option Held) → find_held (of_edit u) I.held ≡ g → EditAt u d g → is_finite x ≡ true → Whole (make c m.state) → Inv (next c m)
    at-edit none q none r a p w = unchanged c m 8 0 m.state.whole (rw (p, q, suggest) refl) refl I
    at-edit none q (some h) r a p w = absurd a
    at-edit (some e) q none r a p w = absurd a
    at-edit (some e) q (some h) r E p w =
        let f : make c m.state ≡ conclude m.state (suggest_steps b e x (begin m.state)) (next-state e) = rw (p, q, suggest) refl in
        let w' : Whole (conclude m.state (suggest_steps b e x (begin m.state)) (next-state e)) = subst Whole f w in
        outcome e h r E f (suggest_steps b e x (begin m.state)) refl (steps-come m I u x e h r E b (conclude-mark m.state (suggest_steps b e x (begin m.state)) (next-state e) w')) w'

    finite : (f : Bool) → is_finite x ≡ f → Whole (make c m.state) → Inv (next c m)
    finite false p w = unchanged c m 1 0 m.state.whole (rw (p, suggest) refl) refl I
    finite true p w = at-edit (find_edit u m.state.edits) refl (find_held (of_edit u) I.held) refl (I.edits u) p w

-- ---- and is refused 1, 8 or 14 alone
pub suggest-16 : (m : Moment) (u : ℕ) (x : Float) (b : ℕ) → Inv m → (make (suggests u x b) m.state).answer.whole ≡ true → (make (suggests u x b) m.state).answer.number ≢ 16
unfolding make suggest conclude accepted_as refused_by mark_of
suggest-16 m u x b I = finite (is_finite x) refl
  where
    c : Call
    c = suggests u x b

    next-state : Edit → Work → State
    next-state e w = finish w m.state.constraints (keep_edit (record { variable = u; strength = e.strength; tag = e.tag; suggestion = x }) (drop_edit u m.state.edits))

    Never : Result → Type 0
    Never r = r.answer.whole ≡ true → r.answer.number ≢ 16

    outcome : (e : Edit) (h : Held) (f : find_held (of_edit u) I.held ≡ some h) (E : EditedAs u e h) → (t : Outcome Work) → (mark_of t ≡ all_whole → Comes m I u x e h f E t) → Never (conclude m.state t (next-state e))
    outcome e h f E (refused k p t) z w = λ q. omega (arith, z (says-whole t w), q)
    outcome e h f E (going y) z w = λ q. omega arith

    at-edit : (d : Option Edit) → find_edit u m.state.edits ≡ d → (g : Option Held) → find_held (of_edit u) I.held ≡ g → EditAt u d g → is_finite x ≡ true → Never (make c m.state)
    at-edit none q none r a p = rw (p, q, suggest) (λ w e. omega arith)
    at-edit none q (some h) r a p = absurd a
    at-edit (some e) q none r a p = absurd a
    at-edit (some e) q (some h) r E p = rw (p, q, suggest) (outcome e h r E (suggest_steps b e x (begin m.state)) (steps-come m I u x e h r E b))

    finite : (f : Bool) → is_finite x ≡ f → Never (make c m.state)
    finite false p = rw (p, suggest) (λ w e. omega arith)
    finite true p = at-edit (find_edit u m.state.edits) refl (find_held (of_edit u) I.held) refl (I.edits u) p
