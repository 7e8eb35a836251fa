-- The work of a call on a state that reads: the tableau's shape, and the variables, whose symbols with K's are the live ones and whose uses are U; a cutoff in its range; the gone numbers that wait. Assumes nothing.
use Rattle.std.specs.Prelude.{◌≡◌, true, false, ◌||◌, ℕ, ◌+◌, ◌≤◌, eqb, ltb, length}
use Rattle.std.proofs.Math.Path.{refl, ap₂}
use Rattle.std.proofs.Common.{sym, ap, ◌∙◌}
use mathlib.Core.List.{List, [], ◌∷◌, map}
use Rattle.std.proofs.Math.Bool.{cond}
use Rattle.std.proofs.lemmas.List.{length-map}
use Rattle.std.specs.Float.Ieee.{is_nan}
use Rattle.steps.specs.Number.{is_finite, cutoff_fits, all_whole}
use Rattle.steps.specs.Symbol.{Symbol, is_external}
use Rattle.steps.specs.State.{Variable, Constraint, Edit, State}
use Rattle.steps.specs.Work.{Work}
use Rattle.steps.specs.Changes.{with_flag, clear_changed}
use Rattle.steps.specs.Calls.{begin, finish}
use Rattle.steps.specs.Readable.{code, constraint_finite, edit_finite, tag_kinds, marker_fits, edit_kinds}
use Rattle.keeps.specs.Lists.{All, all-to, same, total, times, Up}
use Rattle.keeps.specs.Cells.{Fine}
use Rattle.keeps.specs.Fits.{FitsW, fits-mark, fits-plain, all_map}
use Rattle.keeps.specs.Frame.{Frame}
use Rattle.keeps.specs.Codes.{codes}
use Rattle.keeps.specs.Uses.{var_number, uses_of}
use Rattle.keeps.specs.Waits.{Waits, waits-flags}
use Rattle.keeps.specs.Reads.{Reads, unmap, con_number, edit_number, var_code, tag_code, used_by}

abbrev pub OldOk : Variable → Type 0
OldOk v = (is_finite v.old || is_nan v.old) ≡ true

-- the symbols of the variables are counted by C, their uses by U
pub record Vars (C U : ℕ → ℕ) (vs : List Variable) : Type 0 where
  pub up : Up 0 (map var_number vs)
  pub symbols : (n : ℕ) → total (var_code n) vs ≡ C n
  pub uses : (n : ℕ) → uses_of n vs ≡ U n
  pub olds : All OldOk vs
  pub externals : All (λ (v : Variable). is_external v.symbol ≡ true) vs

-- ---- each variable changed in what isn't its number, symbol or use count
pub numbers-map : (g : Variable → Variable) → ((v : Variable) → (g v).number ≡ v.number) → (vs : List Variable) → map var_number (map g vs) ≡ map var_number vs
numbers-map g number [] = refl
numbers-map g number (v ∷ vs) = ap₂ (λ (n : ℕ) (ns : List ℕ). n ∷ ns) (number v) (numbers-map g number vs)

pub symbols-map : (g : Variable → Variable) → ((v : Variable) → (g v).symbol ≡ v.symbol) → (n : ℕ) (vs : List Variable)
    → total (var_code n) (map g vs) ≡ total (var_code n) vs
unfolding total
symbols-map g symbol n [] = refl
symbols-map g symbol n (v ∷ vs) = ap₂ (λ (a b : ℕ). a + b) (ap (λ (s : Symbol). same n (code s)) (symbol v)) (symbols-map g symbol n vs)

module _ (g : Variable → Variable) (number : (v : Variable) → (g v).number ≡ v.number) (symbol : (v : Variable) → (g v).symbol ≡ v.symbol) (uses : (v : Variable) → (g v).uses ≡ v.uses) where
  uses-map : (n : ℕ) (vs : List Variable) → uses_of n (map g vs) ≡ uses_of n vs
  unfolding uses_of
  uses-map n [] = refl
  uses-map n (v ∷ vs) = ap₂ (λ (a b : ℕ). a + b) (ap₂ (λ (m k : ℕ). cond (eqb n m) k 0) (number v) (uses v)) (uses-map n vs)

  pub vars-map : (C U : ℕ → ℕ) (vs : List Variable) → ((v : Variable) → OldOk v → OldOk (g v)) → Vars C U vs → Vars C U (map g vs)
  vars-map C U vs old h =
      record {
        up = rw (numbers-map g number) h.up;
        symbols = λ n. symbols-map g symbol n vs ∙ h.symbols n;
        uses = λ n. uses-map n vs ∙ h.uses n;
        olds = all_map g OldOk vs (all-to OldOk (λ v. OldOk (g v)) old vs h.olds);
        externals = all_map g _ vs (all-to _ _ (λ v e. ap is_external (symbol v) ∙ e) vs h.externals);
      }

  pub vars-unmap : (C U : ℕ → ℕ) (vs : List Variable) → ((v : Variable) → OldOk (g v) → OldOk v) → Vars C U (map g vs) → Vars C U vs
  vars-unmap C U vs old h =
      record {
        up = rw (numbers-map g number) at h.up;
        symbols = λ n. sym (symbols-map g symbol n vs) ∙ h.symbols n;
        uses = λ n. sym (uses-map n vs) ∙ h.uses n;
        olds = all-to (λ v. OldOk (g v)) OldOk old vs (unmap g OldOk vs h.olds);
        externals = all-to _ _ (λ v e. ap is_external (sym (symbol v)) ∙ e) vs (unmap g _ vs h.externals);
      }

pub vars-clear : (C U : ℕ → ℕ) (vs : List Variable) → Vars C U vs → Vars C U (clear_changed vs)
unfolding clear_changed with_flag
vars-clear C U vs h = vars-map (with_flag false) (λ v. refl) (λ v. refl) (λ v. refl) C U vs (λ v o. o) h

vars-unclear : (C U : ℕ → ℕ) (vs : List Variable) → Vars C U (clear_changed vs) → Vars C U vs
unfolding clear_changed with_flag
vars-unclear C U vs h = vars-unmap (with_flag false) (λ v. refl) (λ v. refl) (λ v. refl) C U vs (λ v o. o) h

pub vars-flags : (C U : ℕ → ℕ) (vs us : List Variable) → clear_changed us ≡ clear_changed vs → Vars C U vs → Vars C U us
vars-flags C U vs us e h = vars-unclear C U us (rw e (vars-clear C U vs h))

pub clear-length : (vs us : List Variable) → clear_changed us ≡ clear_changed vs → length us ≡ length vs
unfolding clear_changed
clear-length vs us e = sym (length-map us (with_flag false)) ∙ ap length e ∙ length-map vs (with_flag false)

-- ---- the work of a call

-- the live symbols are the variables', and those that K counts; the uses are those that U counts
pub record Good (K U : ℕ → ℕ) (w : Work) : Type 0 where
  pub fits : FitsW w
  pub C : ℕ → ℕ
  pub vars : Vars C U w.changes.variables
  pub owns : (n : ℕ) → C n + K n ≡ times n (codes w.tableau.symbols)
  pub cutoff : cutoff_fits w.tableau.cutoff ≡ true
  pub waits : Waits w.changes.gone w.changes.variables

pub good-frame : (K U : ℕ → ℕ) (w v : Work) → Good K U w → FitsW v → Frame w v → Good K U v
good-frame K U w v g f h =
    record {
      fits = f;
      C = g.C;
      vars = vars-flags g.C U w.changes.variables v.changes.variables h.variables g.vars;
      owns = λ n. g.owns n ∙ ap (λ (xs : List Symbol). times n (codes xs)) (sym h.symbols);
      cutoff = ap cutoff_fits h.cutoff ∙ g.cutoff;
      waits = rw h.gone (waits-flags w.changes.gone w.changes.variables v.changes.variables h.variables g.waits);
    }

pub good-to : (K L U W : ℕ → ℕ) (w : Work) → ((n : ℕ) → K n ≡ L n) → ((n : ℕ) → U n ≡ W n) → Good K U w → Good L W w
good-to K L U W w k u g =
    record {
      fits = g.fits;
      C = g.C;
      vars = record { up = g.vars.up; symbols = g.vars.symbols; uses = λ n. g.vars.uses n ∙ u n; olds = g.vars.olds; externals = g.vars.externals };
      owns = λ n. ap (λ (a : ℕ). g.C n + a) (sym (k n)) ∙ g.owns n;
      cutoff = g.cutoff;
      waits = g.waits;
    }

-- ---- the start

abbrev pub tags_by : ℕ → List Constraint → List Edit → ℕ
tags_by n cs es = total (λ (c : Constraint). tag_code n c.tag) cs + total (λ (e : Edit). tag_code n e.tag) es

pub begin-good : (s : State) → Reads s → Good (λ n. tags_by n s.constraints s.edits) (λ n. used_by n s.constraints s.edits) (begin s)
unfolding begin
begin-good s r =
    record {
      fits = fits-mark r.fits _ (λ f. tt);
      C = λ n. total (var_code n) s.changes.variables;
      vars = record { up = r.variables-up; symbols = λ n. refl; uses = r.uses; olds = r.olds; externals = r.externals };
      owns = r.owns;
      cutoff = r.cutoff;
      waits = r.waits;
    }

-- ---- the end

-- what the constraints and edits of a state must be
pub record Stored (cs : List Constraint) (es : List Edit) : Type 0 where
  pub few-tags : length cs + length es ≤ 48
  pub few-terms : All (λ (c : Constraint). length c.terms ≤ 16) cs
  pub constraints-up : Up 0 (map con_number cs)
  pub edits-up : Up 0 (map edit_number es)
  pub constraints-finite : All (λ (c : Constraint). constraint_finite c ≡ true) cs
  pub constraint-kinds : All (λ (c : Constraint). tag_kinds c.strength c.tag ≡ true) cs
  pub constraint-markers : All (λ (c : Constraint). marker_fits c.comparison c.tag.marker ≡ true) cs
  pub edits-finite : All (λ (e : Edit). edit_finite e ≡ true) es
  pub edit-kinds : All (λ (e : Edit). edit_kinds e ≡ true) es
  pub groups : All (λ (c : Constraint). ltb 0 c.group ≡ true) cs

pub stored-in : (s : State) → Reads s → Stored s.constraints s.edits
stored-in s r =
    record {
      few-tags = r.few-tags;
      few-terms = r.few-terms;
      constraints-up = r.constraints-up;
      edits-up = r.edits-up;
      constraints-finite = r.constraints-finite;
      constraint-kinds = r.constraint-kinds;
      constraint-markers = r.constraint-markers;
      edits-finite = r.edits-finite;
      edit-kinds = r.edit-kinds;
      groups = r.groups;
    }

pub finish-reads : (w : Work) (cs : List Constraint) (es : List Edit) → Good (λ n. tags_by n cs es) (λ n. used_by n cs es) w → Fine w.mark → Stored cs es
    → length w.changes.variables ≤ 32 → length w.tableau.rows ≤ length cs + length es → Reads (finish w cs es)
unfolding finish
finish-reads w cs es g m t few rows =
    record {
      few-variables = few;
      few-tags = t.few-tags;
      few-terms = t.few-terms;
      variables-up = g.vars.up;
      constraints-up = t.constraints-up;
      edits-up = t.edits-up;
      fits = fits-mark (fits-plain g.fits) all_whole (λ _. m);
      few-rows = rows;
      owns = λ n. ap (λ (k : ℕ). k + tags_by n cs es) (g.vars.symbols n) ∙ g.owns n;
      uses = g.vars.uses;
      olds = g.vars.olds;
      externals = g.vars.externals;
      constraints-finite = t.constraints-finite;
      constraint-kinds = t.constraint-kinds;
      constraint-markers = t.constraint-markers;
      edits-finite = t.edits-finite;
      edit-kinds = t.edit-kinds;
      cutoff = g.cutoff;
      groups = t.groups;
      waits = g.waits;
    }
