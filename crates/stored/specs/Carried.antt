-- The records of one set of tables in another: each constraint, edit and term that is kept, named by the places there; the gaps and all else as it was.
-- Assumes nothing.
use Rattle.std.specs.Prelude.{ℕ, ◌+◌, ◌≤◌, ◌<◌, ◌≡◌, List, Float, length, get_or, set}
use Rattle.std.proofs.Common.{◌∙◌, arith, get_or-set_same, get_or-set_other}
use Rattle.std.specs.Float.{nan}
use Rattle.sparse.specs.Places.{most_constraints, most_terms, constraint_count_at, edit_count_at, constraint_numbers_at, constraint_groups_at, gone_numbers_at, constraint_markers_at, constraint_others_at, term_counts_at, edit_variables_at, edit_markers_at, edit_others_at, terms_at, relations_at, constraint_strengths_at, edit_strengths_at, suggestions_at, coefficients_at, constraint_constants_at, words_size}
use Rattle.stored.specs.declared.parts.Plan.{Plan}
use Rattle.stored.specs.Parts.{Region, Rest, target_size, later, earlier, rest-join, set_rest}
use Rattle.stored.specs.Maps.{TagPlaces, VariablePlaces}

-- a place by its name in a map
abbrev pub by : List ℕ → ℕ → ℕ
by m x = get_or m x 0

abbrev pub itself : {A : Type 0} → A → A
itself x = x

-- ---- table by table: c of the constraints, s of their terms, e of the edits

pub record WordsCarried (c e : Plan) (from w u : List ℕ) : Type 0 where
  pub numbers : Region 0 itself constraint_numbers_at c from w u
  pub groups : Region 0 itself constraint_groups_at c from w u
  pub constraints : get_or u constraint_count_at 0 ≡ target_size c
  pub edits : get_or u edit_count_at 0 ≡ target_size e
  pub before : (q : ℕ) → q < constraint_numbers_at → (q ≡ constraint_count_at → ⊥) → (q ≡ edit_count_at → ⊥) → get_or u q 0 ≡ get_or w q 0
  pub after : (q : ℕ) → gone_numbers_at ≤ q → get_or u q 0 ≡ get_or w q 0
  pub long : length u ≡ length w

pub record ConstraintBytes (tags : List ℕ) (c : Plan) (from w u : List ℕ) : Type 0 where
  pub markers : Region 0 (by tags) constraint_markers_at c from w u
  pub others : Region 0 (by tags) constraint_others_at c from w u
  pub counts : Region 0 itself term_counts_at c from w u
  pub rest : Rest 0 constraint_markers_at (most_constraints + most_constraints + most_constraints) w u

pub record EditBytes (tags vars : List ℕ) (e : Plan) (from w u : List ℕ) : Type 0 where
  pub edited : Region 0 (by vars) edit_variables_at e from w u
  pub pluses : Region 0 (by tags) edit_markers_at e from w u
  pub minuses : Region 0 (by tags) edit_others_at e from w u
  pub rest : Rest 0 edit_variables_at (most_constraints + most_constraints + most_constraints) w u

pub record BytesCarried (tags vars : List ℕ) (c s e : Plan) (from w u : List ℕ) : Type 0 where
  pub markers : Region 0 (by tags) constraint_markers_at c from w u
  pub others : Region 0 (by tags) constraint_others_at c from w u
  pub counts : Region 0 itself term_counts_at c from w u
  pub edited : Region 0 (by vars) edit_variables_at e from w u
  pub pluses : Region 0 (by tags) edit_markers_at e from w u
  pub minuses : Region 0 (by tags) edit_others_at e from w u
  pub terms : Region 0 (by vars) terms_at s from w u
  pub relations : Region 0 itself relations_at c from w u
  pub before : (q : ℕ) → q < constraint_markers_at → get_or u q 0 ≡ get_or w q 0
  pub long : length u ≡ length w

pub record RealsCarried (c s e : Plan) (from w u : List Float) : Type 0 where
  pub strengths : Region nan itself constraint_strengths_at c from w u
  pub edit_strengths : Region nan itself edit_strengths_at e from w u
  pub suggestions : Region nan itself suggestions_at e from w u
  pub coefficients : Region nan itself coefficients_at s from w u
  pub constants : Region nan itself constraint_constants_at c from w u
  pub before : (q : ℕ) → q < constraint_strengths_at → get_or u q nan ≡ get_or w q nan
  pub long : length u ≡ length w

-- all three; the maps are the call's own
pub record Carried (c s e : Plan) (fw fb : List ℕ) (fr : List Float) (ww wb : List ℕ) (wr : List Float) (uw ub : List ℕ) (ur : List Float) : Type 0 where
  pub tags : List ℕ
  pub vars : List ℕ
  pub tagged : TagPlaces fw ww tags
  pub named : VariablePlaces fw fb ww wb vars
  pub words : WordsCarried c e fw ww uw
  pub bytes : BytesCarried tags vars c s e fb wb ub
  pub reals : RealsCarried c s e fr wr ur

-- a plan has room for what it takes and for what it gives
abbrev pub Plans : Plan → Plan → Plan → Type 0
Plans c s e = (target_size c ≤ most_constraints) × (target_size s ≤ most_terms) × (target_size e ≤ most_constraints)

-- ---- from the stretches

pub words-carried : (c e : Plan) (from w : List ℕ) {v u : List ℕ} {x y : ℕ} → length w ≡ words_size → target_size c ≤ most_constraints → x ≡ target_size c → y ≡ target_size e
    → Region 0 itself constraint_numbers_at c from (set (set w constraint_count_at x) edit_count_at y) v → Rest 0 constraint_numbers_at most_constraints (set (set w constraint_count_at x) edit_count_at y) v
    → Region 0 itself constraint_groups_at c from v u → Rest 0 constraint_groups_at most_constraints v u → WordsCarried c e from w u
words-carried c e from w {v} {u} {x} {y} l f q q' r t r' t' =
    let a : Rest 0 constraint_count_at 1 w w₁ = set_rest 0 constraint_count_at x w in
    let b : Rest 0 edit_count_at 1 w₁ w₂ = set_rest 0 edit_count_at y w₁ in
    let ab : Rest 0 constraint_count_at 2 w w₂ = rest-join 0 constraint_count_at 1 edit_count_at 1 2 (omega arith) (omega arith) a b in
    record {
      numbers = later 0 itself constraint_numbers_at most_constraints c f from constraint_groups_at most_constraints (omega arith) (earlier 0 itself constraint_numbers_at most_constraints c f from constraint_count_at 2 (omega arith) ab r) t';
      groups = earlier 0 itself constraint_groups_at most_constraints c f from constraint_count_at 2 (omega arith) ab (earlier 0 itself constraint_groups_at most_constraints c f from constraint_numbers_at most_constraints (omega arith) t r');
      constraints = t'.before constraint_count_at (omega arith) ∙ t.before constraint_count_at (omega arith) ∙ b.before constraint_count_at (omega arith) ∙ get_or-set_same w constraint_count_at x 0 (omega (arith, l)) ∙ q;
      edits = t'.before edit_count_at (omega arith) ∙ t.before edit_count_at (omega arith) ∙ get_or-set_same w₁ edit_count_at y 0 (omega (arith, l, a.long)) ∙ q';
      before = λ i h m n. t'.before i (omega (arith, h)) ∙ t.before i h ∙ there i m n;
      after = λ i h. t'.after i (omega (arith, h)) ∙ t.after i (omega (arith, h)) ∙ there i (λ z. omega (arith, h, z)) (λ z. omega (arith, h, z));
      long = t'.long ∙ t.long ∙ b.long ∙ a.long;
    }
  where
    w₁ : List ℕ
    w₁ = set w constraint_count_at x

    w₂ : List ℕ
    w₂ = set w₁ edit_count_at y

    there : (i : ℕ) → (i ≡ constraint_count_at → ⊥) → (i ≡ edit_count_at → ⊥) → get_or w₂ i 0 ≡ get_or w i 0
    there i m n = get_or-set_other w₁ edit_count_at i y 0 n ∙ get_or-set_other w constraint_count_at i x 0 m

module _ (tags : List ℕ) (c : Plan) (f : target_size c ≤ most_constraints) (from w : List ℕ) {v₁ v₂ u : List ℕ} where
  pub constraint-bytes : Region 0 (by tags) constraint_markers_at c from w v₁ → Rest 0 constraint_markers_at most_constraints w v₁
      → Region 0 (by tags) constraint_others_at c from v₁ v₂ → Rest 0 constraint_others_at most_constraints v₁ v₂
      → Region 0 itself term_counts_at c from v₂ u → Rest 0 term_counts_at most_constraints v₂ u → ConstraintBytes tags c from w u
  constraint-bytes r₁ t₁ r₂ t₂ r₃ t₃ =
      record {
        markers = later 0 (by tags) constraint_markers_at most_constraints c f from term_counts_at most_constraints (omega arith) (later 0 (by tags) constraint_markers_at most_constraints c f from constraint_others_at most_constraints (omega arith) r₁ t₂) t₃;
        others = later 0 (by tags) constraint_others_at most_constraints c f from term_counts_at most_constraints (omega arith) (earlier 0 (by tags) constraint_others_at most_constraints c f from constraint_markers_at most_constraints (omega arith) t₁ r₂) t₃;
        counts = earlier 0 itself term_counts_at most_constraints c f from constraint_markers_at most_constraints (omega arith) t₁ (earlier 0 itself term_counts_at most_constraints c f from constraint_others_at most_constraints (omega arith) t₂ r₃);
        rest = rest-join 0 constraint_markers_at (most_constraints + most_constraints) term_counts_at most_constraints (most_constraints + most_constraints + most_constraints) (omega arith) (omega arith) (rest-join 0 constraint_markers_at most_constraints constraint_others_at most_constraints (most_constraints + most_constraints) (omega arith) (omega arith) t₁ t₂) t₃;
      }

module _ (tags vars : List ℕ) (e : Plan) (f : target_size e ≤ most_constraints) (from w : List ℕ) {v₁ v₂ u : List ℕ} where
  pub edit-bytes : Region 0 (by vars) edit_variables_at e from w v₁ → Rest 0 edit_variables_at most_constraints w v₁
      → Region 0 (by tags) edit_markers_at e from v₁ v₂ → Rest 0 edit_markers_at most_constraints v₁ v₂
      → Region 0 (by tags) edit_others_at e from v₂ u → Rest 0 edit_others_at most_constraints v₂ u → EditBytes tags vars e from w u
  edit-bytes r₁ t₁ r₂ t₂ r₃ t₃ =
      record {
        edited = later 0 (by vars) edit_variables_at most_constraints e f from edit_others_at most_constraints (omega arith) (later 0 (by vars) edit_variables_at most_constraints e f from edit_markers_at most_constraints (omega arith) r₁ t₂) t₃;
        pluses = later 0 (by tags) edit_markers_at most_constraints e f from edit_others_at most_constraints (omega arith) (earlier 0 (by tags) edit_markers_at most_constraints e f from edit_variables_at most_constraints (omega arith) t₁ r₂) t₃;
        minuses = earlier 0 (by tags) edit_others_at most_constraints e f from edit_variables_at most_constraints (omega arith) t₁ (earlier 0 (by tags) edit_others_at most_constraints e f from edit_markers_at most_constraints (omega arith) t₂ r₃);
        rest = rest-join 0 edit_variables_at (most_constraints + most_constraints) edit_others_at most_constraints (most_constraints + most_constraints + most_constraints) (omega arith) (omega arith) (rest-join 0 edit_variables_at most_constraints edit_markers_at most_constraints (most_constraints + most_constraints) (omega arith) (omega arith) t₁ t₂) t₃;
      }

abbrev block : ℕ
block = most_constraints + most_constraints + most_constraints

module _ (tags vars : List ℕ) (c s e : Plan) (f : Plans c s e) (from w : List ℕ) {v₁ v₂ v₃ u : List ℕ} where
  pub bytes-carried : ConstraintBytes tags c from w v₁ → EditBytes tags vars e from v₁ v₂ → Region 0 (by vars) terms_at s from v₂ v₃ → Rest 0 terms_at most_terms v₂ v₃
      → Region 0 itself relations_at c from v₃ u → Rest 0 relations_at most_constraints v₃ u → BytesCarried tags vars c s e from w u
  bytes-carried x y r₁ t₁ r t =
      record {
        markers = after-all (by tags) constraint_markers_at (omega arith) x.markers;
        others = after-all (by tags) constraint_others_at (omega arith) x.others;
        counts = after-all itself term_counts_at (omega arith) x.counts;
        edited = between (by vars) edit_variables_at (omega arith) (omega arith) y.edited;
        pluses = between (by tags) edit_markers_at (omega arith) (omega arith) y.pluses;
        minuses = between (by tags) edit_others_at (omega arith) (omega arith) y.minuses;
        terms = later 0 (by vars) terms_at most_terms s f.1 from relations_at most_constraints (omega arith) (earlier 0 (by vars) terms_at most_terms s f.1 from constraint_markers_at block (omega arith) x.rest (earlier 0 (by vars) terms_at most_terms s f.1 from edit_variables_at block (omega arith) y.rest r₁)) t;
        relations = behind constraint_markers_at block (omega arith) x.rest (behind edit_variables_at block (omega arith) y.rest (behind terms_at most_terms (omega arith) t₁ r));
        before = λ q h. t.before q (omega (arith, h)) ∙ t₁.before q (omega (arith, h)) ∙ y.rest.before q (omega (arith, h)) ∙ x.rest.before q h;
        long = t.long ∙ t₁.long ∙ y.rest.long ∙ x.rest.long;
      }
    where
      after-all : (g : ℕ → ℕ) (at : ℕ) → at + most_constraints ≤ edit_variables_at → Region 0 g at c from w v₁ → Region 0 g at c from w u
      after-all g at h q = later 0 g at most_constraints c f.0 from relations_at most_constraints (omega (arith, h)) (later 0 g at most_constraints c f.0 from terms_at most_terms (omega (arith, h)) (later 0 g at most_constraints c f.0 from edit_variables_at block h q y.rest) t₁) t

      between : (g : ℕ → ℕ) (at : ℕ) → constraint_markers_at + block ≤ at → at + most_constraints ≤ terms_at → Region 0 g at e from v₁ v₂ → Region 0 g at e from w u
      between g at h k q = later 0 g at most_constraints e f.2 from relations_at most_constraints (omega (arith, k)) (later 0 g at most_constraints e f.2 from terms_at most_terms k (earlier 0 g at most_constraints e f.2 from constraint_markers_at block h x.rest q) t₁) t

      behind : {v z : List ℕ} (b m : ℕ) → b + m ≤ relations_at → Rest 0 b m v z → Region 0 itself relations_at c from z u → Region 0 itself relations_at c from v u
      behind b m h q = earlier 0 itself relations_at most_constraints c f.0 from b m h q

module _ (c s e : Plan) (f : Plans c s e) (from w : List Float) {v₁ v₂ v₃ v₄ u : List Float} where
  pub reals-carried : Region nan itself constraint_strengths_at c from w v₁ → Rest nan constraint_strengths_at most_constraints w v₁
      → Region nan itself edit_strengths_at e from v₁ v₂ → Rest nan edit_strengths_at most_constraints v₁ v₂
      → Region nan itself suggestions_at e from v₂ v₃ → Rest nan suggestions_at most_constraints v₂ v₃
      → Region nan itself coefficients_at s from v₃ v₄ → Rest nan coefficients_at most_terms v₃ v₄
      → Region nan itself constraint_constants_at c from v₄ u → Rest nan constraint_constants_at most_constraints v₄ u → RealsCarried c s e from w u
  reals-carried r₁ t₁ r₂ t₂ r₃ t₃ r₄ t₄ r₅ t₅ =
      let front : Rest nan constraint_strengths_at (most_constraints + most_constraints) w v₂ = rest-join nan constraint_strengths_at most_constraints edit_strengths_at most_constraints (most_constraints + most_constraints) (omega arith) (omega arith) t₁ t₂ in
      let ends : Rest nan coefficients_at (most_terms + most_constraints) v₃ u = rest-join nan coefficients_at most_terms constraint_constants_at most_constraints (most_terms + most_constraints) (omega arith) (omega arith) t₄ t₅ in
      let most : Rest nan constraint_strengths_at (most_constraints + most_constraints + most_constraints) w v₃ = rest-join nan constraint_strengths_at (most_constraints + most_constraints) suggestions_at most_constraints (most_constraints + most_constraints + most_constraints) (omega arith) (omega arith) front t₃ in
      let back : Rest nan suggestions_at (most_constraints + most_terms + most_constraints) v₂ u = rest-join nan suggestions_at most_constraints coefficients_at (most_terms + most_constraints) (most_constraints + most_terms + most_constraints) (omega arith) (omega arith) t₃ ends in
      record {
        strengths = later nan itself constraint_strengths_at most_constraints c f.0 from suggestions_at (most_constraints + most_terms + most_constraints) (omega arith) (later nan itself constraint_strengths_at most_constraints c f.0 from edit_strengths_at most_constraints (omega arith) r₁ t₂) back;
        edit_strengths = later nan itself edit_strengths_at most_constraints e f.2 from suggestions_at (most_constraints + most_terms + most_constraints) (omega arith) (earlier nan itself edit_strengths_at most_constraints e f.2 from constraint_strengths_at most_constraints (omega arith) t₁ r₂) back;
        suggestions = later nan itself suggestions_at most_constraints e f.2 from coefficients_at (most_terms + most_constraints) (omega arith) (earlier nan itself suggestions_at most_constraints e f.2 from constraint_strengths_at (most_constraints + most_constraints) (omega arith) front r₃) ends;
        coefficients = later nan itself coefficients_at most_terms s f.1 from constraint_constants_at most_constraints (omega arith) (earlier nan itself coefficients_at most_terms s f.1 from constraint_strengths_at (most_constraints + most_constraints + most_constraints) (omega arith) most r₄) t₅;
        constants = earlier nan itself constraint_constants_at most_constraints c f.0 from constraint_strengths_at (most_constraints + most_constraints + most_constraints) (omega arith) most (earlier nan itself constraint_constants_at most_constraints c f.0 from coefficients_at most_terms (omega arith) t₄ r₅);
        before = λ q h. back.before q (omega (arith, h)) ∙ front.before q h;
        long = back.long ∙ front.long;
      }
