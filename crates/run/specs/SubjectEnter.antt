-- Add's step 5 in a whole run: with a subject the new row enters, and the tableau models one demand more; a row of dummies alone with a constant cannot be met. Assumes nothing.
use Rattle.std.specs.Prelude.{ℕ, ◌≤◌, ◌<◌, ◌≡◌, ◌⊎◌, ◌≢◌, Bool, ◌&&◌, cond, List, [], ◌∷◌, map, T}
use Rattle.std.proofs.Common.{arith, sym, ap, ◌∙◌, inr, true≢false}
use Rattle.std.proofs.Math.Path.{refl, subst}
use Rattle.std.proofs.Math.Logic.{inl}
use Rattle.std.proofs.Math.Bool.{true, false}
use Rattle.std.proofs.Math.Option.{Option, some}
use lib.IntN.{ℤ, negsuc, neg_ℤ, ◌*ℤ◌}
use Rattle.std.specs.Float.Ieee.{ne}
use Rattle.laws.specs.Z.{◌≺◌, mul-cancel, ≡→eq_zb}
use Rattle.laws.specs.Ring.{ring, v as ν, k as lit, ◌⊠◌, ⊟◌}
use Rattle.simplex.specs.Ord.{0ℤ, 1ℤ, ≼-of-eq, ≼_trans, ≺-irrefl}
use Rattle.simplex.specs.Lin.{dot}
use Rattle.simplex.specs.Choose.{All}
use Rattle.simplex.specs.Opt.{Kind as KindZ, const, external, slack, dummy, slack≢external, slack≢dummy}
use Rattle.simplex.specs.Pass.{State as StateZ}
use Rattle.simplex.specs.Problem.{Con, Equation, full, full-plain, full-feasible, full-equations, const-plain, dummies-only}
use Rattle.simplex.specs.Run.{models-add}
use Rattle.simplex.specs.Keep.{Subject, added, add-good}
use Rattle.steps.specs.Number.{zero64, near_zero, Mark, all_whole, not_whole, not_finite}
use Rattle.steps.specs.Symbol.{Symbol, is_external}
use Rattle.steps.specs.Row.{Row, solve_for_symbol}
use Rattle.steps.specs.Work.{Work, Outcome, refused, going, refuse, check_finite, marking, with_tableau, with_rows, with_objective, with_changes, with_artificial, keep_row}
use Rattle.steps.specs.Changes.{note}
use Rattle.steps.specs.Substitute.{substitute, enter_basis}
use Rattle.steps.specs.CreateRow.{Created}
use Rattle.steps.specs.Add.{add_with_subject}
use Rattle.simplex.specs.Gone.{dummy≢external}
use Rattle.simplex.specs.bridge.Nums.{finite≢, near_zero-yes, near_zero-z}
use Rattle.simplex.specs.bridge.Table.{Live, in-nonzero}
use Rattle.simplex.proofs.bridge.Looks.{minus_one}
use Rattle.simplex.specs.bridge.Runs.{mark_of}
use Rattle.simplex.specs.bridge.Ranks.{Entered, Goes}
use Rattle.simplex.proofs.bridge.Ranks.{subject-z}
use Rattle.run.specs.Demand.{Demand}
use Rattle.run.specs.Inv.{Held, con_of}
use Rattle.run.specs.Steady.{Kept, enter-kept}
use Rattle.run.specs.Passes.{other-artificial}
use Rattle.run.specs.Build.{NewTag, Built, new_held}
use Rattle.simplex.specs.bridge.Finds.{none≢some, some-injective}
use Rattle.run.specs.Subject.{NoExternal, external≢0, slack≢0, Subjected, variable, marker, other, nothing, Dummies, all-dummies, one-not}
use Rattle.run.specs.AddEnds.{Placed, Unmet, Ends}

const≢dummy : const ≢ dummy
const≢dummy p = let z : ◌≡◌ {A = ℕ} 0 1 = cc in omega arith

-- ---- the work of step 5
unfoldable pub entered : Symbol → Created → Work
entered s c = enter_basis s (solve_for_symbol s.id c.work.tableau.symbols c.row).row (marking (solve_for_symbol s.id c.work.tableau.symbols c.row).mark c.work)

subject-goes : (s : Symbol) (c : Created) → mark_of (add_with_subject s c) ≡ all_whole → add_with_subject s c ≡ going (entered s c)
unfolding add_with_subject check_finite refuse mark_of entered
subject-goes s c = go x.mark refl
  where
    x : Work
    x = enter_basis s (solve_for_symbol s.id c.work.tableau.symbols c.row).row (marking (solve_for_symbol s.id c.work.tableau.symbols c.row).mark c.work)

    go : (m : Mark) → x.mark ≡ m → mark_of (elim m [ all_whole ↦ going x | not_whole ↦ going x | not_finite ↦ refused 13 x.pivots x.mark ]) ≡ all_whole
        → ◌≡◌ {A = Outcome Work} (elim m [ all_whole ↦ going x | not_whole ↦ going x | not_finite ↦ refused 13 x.pivots x.mark ]) (going x)
    go all_whole e m = refl
    go not_whole e m = refl
    go not_finite e m = absurd (finite≢ (sym e ∙ m))

enter-pivots : (s : Symbol) (r : Row) (w : Work) → (enter_basis s r w).pivots ≡ w.pivots
unfolding enter_basis substitute note with_tableau with_changes with_artificial marking with_rows with_objective
enter-pivots s r w = go (is_external s && ne r.constant zero64)
  where
    go : (b : Bool) → (with_rows (keep_row (record { symbol = s; row = r }) (cond b (note s.id (substitute s.id r w)) (substitute s.id r w)).tableau.rows) (cond b (note s.id (substitute s.id r w)) (substitute s.id r w))).pivots ≡ w.pivots
    go true = refl
    go false = refl

entered-kept : (s : Symbol) (c : Created) → Kept c.work (entered s c)
unfolding entered marking
entered-kept s c = let k = enter-kept s (solve_for_symbol s.id c.work.tableau.symbols c.row).row (marking (solve_for_symbol s.id c.work.tableau.symbols c.row).mark c.work) in
    record { symbols = k.symbols; next_id = k.next_id; variables = k.variables; artificial = k.artificial }

entered-pivots : (s : Symbol) (c : Created) → (entered s c).pivots ≡ c.work.pivots
unfolding entered marking
entered-pivots s c = enter-pivots s (solve_for_symbol s.id c.work.tableau.symbols c.row).row (marking (solve_for_symbol s.id c.work.tableau.symbols c.row).mark c.work)

module _ (n : ℕ) (old : ℕ → KindZ) (S : StateZ) (held : List Held) (d : Demand) (w : Work) (c : Created) (B : Built n old S held d w c) where
  abbrev S₁ : StateZ
  S₁ = record { B = S.B; R = S.R; o = B.o }

  abbrev cs : List Con
  cs = map (con_of B.column) (new_held d c ∷ held)

  pub placed : (s : Symbol) → Live B.kind c.work.tableau.symbols s → S.B s.id ≡ false → (B.r s.id *ℤ B.r s.id ≡ 1ℤ → Subject n B.kind S₁ B.r s.id)
      → mark_of (add_with_subject s c) ≡ all_whole → Placed n B.kind cs 1 c.work (entered s c)
  unfolding added
  placed s live free sub m = from (subst (Goes (Entered B.kind s S.B S.R B.o (λ _. 0ℤ) B.r)) (subject-goes s c m) (subject-z B.kind c S.B S.R B.o (λ _. 0ℤ) B.reads s free live (B.good.shape.unit s.id free) B.r B.line m))
    where
      from : Entered B.kind s S.B S.R B.o (λ _. 0ℤ) B.r (entered s c) → Placed n B.kind cs 1 c.work (entered s c)
      from E = record {
        table = added S₁ B.r s.id;
        good = add-good n B.kind S₁ B.good B.r s.id (sub E.unit);
        models = models-add n B.kind S.B S.R S.o B.o (map (con_of B.column) held) (con_of B.column (new_held d c)) B.r B.g s.id B.models B.sounds B.clear B.sign B.row B.good.clear B.worth
            free (sub E.unit).in-n (in-nonzero s.id c.work.tableau.symbols B.reads.up live.0) E.unit;
        reads = other-artificial B.kind (entered s c) _ _ _ _ (λ _. 0ℤ) (K.artificial B.artificial) E.reads;
        artificial = K.artificial B.artificial;
        symbols = K.symbols;
        above = omega (arith, K.next_id);
        next = omega (arith, K.next_id);
        variables = K.variables;
        made = 0;
        count = omega (arith, entered-pivots s c);
        fewer = omega arith;
      }
        where
          K : Kept c.work (entered s c)
          K = entered-kept s c

  -- ---- the three kinds of subject
  variable-subject : (s : Symbol) → Live B.kind c.work.tableau.symbols s → s.id < n → B.kind s.id ≡ external → S.B s.id ≡ false → B.r s.id *ℤ B.r s.id ≡ 1ℤ → Subject n B.kind S₁ B.r s.id
  variable-subject s live l k free one = record {
    free = free;
    in-n = l;
    not-0 = in-nonzero s.id c.work.tableau.symbols B.reads.up live.0;
    clear = B.clear;
    one = one;
    alone = λ j ne _. B.good.no-vars j s.id ne k;
    cheap = λ i e. inl (B.good.no-var s.id k);
    plain = λ ne. absurd (ne k);
    up = λ e. absurd (slack≢external (sym e ∙ k));
    flat = λ e. absurd (dummy≢external (sym e ∙ k));
  }

  tag-subject : (s : Symbol) → NewTag n old B.kind S c.work B.r s → ((i : ℕ) → B.kind i ≡ external → B.r i ≡ 0ℤ) → B.kind s.id ≡ slack → B.r s.id ≺ 0ℤ → B.r s.id *ℤ B.r s.id ≡ 1ℤ → Subject n B.kind S₁ B.r s.id
  tag-subject s N f k l one = record {
    free = N.dead.free;
    in-n = N.inside;
    not-0 = N.dead.not-0;
    clear = B.clear;
    one = one;
    alone = λ j _ ne. N.dead.rows j ne;
    cheap = λ i e. inr (f i e);
    plain = λ _ i e. f i e;
    up = λ _. ≼_trans B.up (≼-of-eq (sym (ap (λ (z : ℤ). neg_ℤ z *ℤ B.r 0) (minus_one (B.r s.id) one l) ∙ ring (B.r 0 ∷ []) ((⊟ lit (negsuc 0)) ⊠ ν 0) (ν 0) tt)));
    flat = λ e. absurd (slack≢dummy (sym k ∙ e));
  }

  dummy-subject : (s : Symbol) → NewTag n old B.kind S c.work B.r s → ((i : ℕ) → i ≢ 0 → B.kind i ≢ dummy → B.r i ≡ 0ℤ) → B.kind s.id ≡ dummy → B.r 0 ≡ 0ℤ → B.r s.id *ℤ B.r s.id ≡ 1ℤ → Subject n B.kind S₁ B.r s.id
  dummy-subject s N f k z one = record {
    free = N.dead.free;
    in-n = N.inside;
    not-0 = N.dead.not-0;
    clear = B.clear;
    one = one;
    alone = λ j _ ne. N.dead.rows j ne;
    cheap = λ i e. inr (outside i e);
    plain = λ _ i e. outside i e;
    up = λ e. absurd (slack≢dummy (sym e ∙ k));
    flat = λ _. (z, λ i e. f i (slack≢0 n old S held d w c B i e) (λ q. slack≢dummy (sym e ∙ q)));
  }
    where
      outside : (i : ℕ) → B.kind i ≡ external → B.r i ≡ 0ℤ
      outside i e = f i (external≢0 n old S held d w c B i e) (λ q. dummy≢external (sym q ∙ e))

  -- a marker in a row of dummies alone is a dummy
  dummy-marker : ((i : ℕ) → i ≢ 0 → B.kind i ≢ dummy → B.r i ≡ 0ℤ) → B.kind c.tag.marker.id ≡ dummy
  dummy-marker f = go (B.kind c.tag.marker.id) refl
    where
      never : B.r c.tag.marker.id ≡ 0ℤ → ⊥
      never z = zero-square (sym (ap (λ (y : ℤ). y *ℤ y) z) ∙ B.marker.unit)
        where
          zero-square : 0ℤ *ℤ 0ℤ ≡ 1ℤ → ⊥
          zero-square e = let z : ◌≡◌ {A = ℕ} 0 1 = ap lib.IntN.nat_abs e in omega arith

      go : (t : KindZ) → B.kind c.tag.marker.id ≡ t → B.kind c.tag.marker.id ≡ dummy
      go const k = absurd (never (f c.tag.marker.id B.marker.dead.not-0 (λ q. const≢dummy (sym k ∙ q))))
      go external k = absurd (never (f c.tag.marker.id B.marker.dead.not-0 (λ q. dummy≢external (sym q ∙ k))))
      go slack k = absurd (never (f c.tag.marker.id B.marker.dead.not-0 (λ q. slack≢dummy (sym k ∙ q))))
      go dummy k = k

  -- ---- REFUSAL 12 IS RIGHT (step 4)
  dummies-unmet : 0 < n → ((i : ℕ) → i ≢ 0 → B.kind i ≢ dummy → B.r i ≡ 0ℤ) → B.r 0 ≢ 0ℤ → Unmet n cs
  dummies-unmet in-n f nz x above M =
      nz (mul-cancel {c = full n B.kind x cs 0}
      (sym (dummies-only n B.kind B.r (full n B.kind x cs) in-n only (full-feasible n B.kind x cs B.sounds M)) ∙ value ∙ ring (full n B.kind x cs 0 ∷ []) (lit 0ℤ) (lit 0ℤ ⊠ ν 0) tt)
      (λ e. ≺-irrefl (subst (λ (z : ℤ). 0ℤ ≺ z) (sym (full-plain n B.kind x cs B.sounds 0 (const-plain B.kind 0 B.good.zero)) ∙ e) above)))
    where
      equations : All (Equation n (full n B.kind x cs)) cs
      equations = full-equations n B.kind x cs B.sounds M

      value : dot n B.r (full n B.kind x cs) ≡ 0ℤ
      value = B.row (full n B.kind x cs) ((B.models.solves (full n B.kind x cs)).1 equations.1) ∙ ap (λ (z : ℤ). B.g *ℤ z) equations.0 ∙ ring (B.g ∷ []) (ν 0 ⊠ lit 0ℤ) (lit 0ℤ) tt

      only : (j : ℕ) → j < n → j ≢ 0 → (B.kind j ≡ dummy) ⊎ (B.r j ≡ 0ℤ)
      only j l ne = go (B.kind j) refl
        where
          go : (t : KindZ) → B.kind j ≡ t → (B.kind j ≡ dummy) ⊎ (B.r j ≡ 0ℤ)
          go const k = inr (f j ne (λ q. const≢dummy (sym k ∙ q)))
          go external k = inr (f j ne (λ q. dummy≢external (sym q ∙ k)))
          go slack k = inr (f j ne (λ q. slack≢dummy (sym k ∙ q)))
          go dummy k = inl k

  -- ---- steps 4 to 6
  subject-ends : (budget : ℕ) (s : Symbol) → Live B.kind c.work.tableau.symbols s → S.B s.id ≡ false → (B.r s.id *ℤ B.r s.id ≡ 1ℤ → Subject n B.kind S₁ B.r s.id)
      → mark_of (add_with_subject s c) ≡ all_whole → Ends n B.kind cs 1 budget c.work (add_with_subject s c)
  subject-ends budget s live free sub m = subst (Ends n B.kind cs 1 budget c.work) (sym (subject-goes s c m)) (placed s live free sub m)

  not-basic : (s : ℕ) → B.r s ≢ 0ℤ → S.B s ≡ false
  not-basic s nz = go (S.B s) refl
    where
      go : (b : Bool) → S.B s ≡ b → S.B s ≡ false
      go true e = absurd (nz (B.clear s e))
      go false e = e

  constant-zero : (b : Bool) → near_zero c.work.tableau.cutoff c.row.constant ≡ b → (b ≡ true → B.r 0 ≡ 0ℤ) × (b ≡ false → B.r 0 ≢ 0ℤ)
  constant-zero b e = ((λ t. near_zero-yes c.work.tableau.cutoff B.reads.cutoff B.line.constant.isz (e ∙ t)), λ t z. subst T (sym (near_zero-z c.work.tableau.cutoff B.reads.cutoff B.line.constant.isz) ∙ e ∙ t) (≡→eq_zb z))

  module _ (in-n : 0 < n) (room : c.work.tableau.next_id ≤ n) (budget : ℕ) where
    pub chosen : (s : Symbol) → Subjected n old S held d w c B (some s) → mark_of (add_with_subject s c) ≡ all_whole → Ends n B.kind cs 1 budget c.work (add_with_subject s c)
    chosen s view = by (some s) view s refl
      where
        by : (t : Option Symbol) → Subjected n old S held d w c B t → (s : Symbol) → t ≡ some s → mark_of (add_with_subject s c) ≡ all_whole → Ends n B.kind cs 1 budget c.work (add_with_subject s c)
        by t (variable x l k z) s e =
            subst (λ (y : Symbol). mark_of (add_with_subject y c) ≡ all_whole → Ends n B.kind cs 1 budget c.work (add_with_subject y c)) (some-injective e)
            (subject-ends budget x l (not-basic x.id z) (variable-subject x l (omega (arith, room, B.ids x.id l.0)) k (not-basic x.id z)))
        by t (marker f k z) s e =
            subst (λ (y : Symbol). mark_of (add_with_subject y c) ≡ all_whole → Ends n B.kind cs 1 budget c.work (add_with_subject y c)) (some-injective e)
            (subject-ends budget c.tag.marker B.marker.live B.marker.dead.free (tag-subject c.tag.marker B.marker (unfold NoExternal in f) k z))
        by t (other f o q k z) s e =
            subst (λ (y : Symbol). mark_of (add_with_subject y c) ≡ all_whole → Ends n B.kind cs 1 budget c.work (add_with_subject y c)) (some-injective e)
            (subject-ends budget o (B.other o q).live (B.other o q).dead.free (tag-subject o (B.other o q) (unfold NoExternal in f) k z))
        by t (nothing f) s e = absurd (none≢some e)

    pub flat : Dummies n old S held d w c B true → (b : Bool) → near_zero c.work.tableau.cutoff c.row.constant ≡ b
        → mark_of (elim b as (λ _. Outcome Work) [ false ↦ refuse 12 c.work | true ↦ add_with_subject c.tag.marker c ]) ≡ all_whole
        → Ends n B.kind cs 1 budget c.work (elim b [ false ↦ refuse 12 c.work | true ↦ add_with_subject c.tag.marker c ])
    unfolding refuse
    flat view = by true view refl
      where
        by : (t : Bool) → Dummies n old S held d w c B t → t ≡ true → (b : Bool) → near_zero c.work.tableau.cutoff c.row.constant ≡ b
            → mark_of (elim b as (λ _. Outcome Work) [ false ↦ refuse 12 c.work | true ↦ add_with_subject c.tag.marker c ]) ≡ all_whole
            → Ends n B.kind cs 1 budget c.work (elim b [ false ↦ refuse 12 c.work | true ↦ add_with_subject c.tag.marker c ])
        by t (all-dummies f) q false e = λ m. inl (refl, dummies-unmet in-n f ((constant-zero false e).1 refl))
        by t (all-dummies f) q true e = subject-ends budget c.tag.marker B.marker.live B.marker.dead.free (dummy-subject c.tag.marker B.marker f (dummy-marker f) ((constant-zero true e).0 refl))
        by t (one-not x l nd nz) q b e = absurd (true≢false (sym q))
