-- Add's step 2 in a whole run: the six tags. Assumes nothing.
use Prim.Native.Nat.{ℕ, ◌+◌, ◌^◌, ◌≤◌, ◌<◌}
use Rattle.std.proofs.Common.{arith, ◌∙◌, true≢false, lit≤}
use Rattle.std.specs.Prelude.{◌≡◌, ◌≢◌, [], ◌∷◌, Bool, true, cond, ℤ, negsuc, nat_abs, ◌+ℤ◌, ◌*ℤ◌, Float}
use Rattle.std.proofs.Math.Path.{refl, sym, ap, ap₂, subst}
use Rattle.std.proofs.Math.Option.{none, some}
use Rattle.std.proofs.Math.Bool.{false}
use Rattle.std.specs.Float.Ieee.{neg, lt}
use Rattle.laws.specs.Ring.{ring, v as ν, k as lit, ◌⊞◌, ◌⊠◌, ◌⊟⊟◌}
use Rattle.laws.specs.exact.Whole.{IsZ, neg-z}
use Rattle.simplex.specs.Ord.{0ℤ, 1ℤ}
use Rattle.simplex.specs.Lin.{Vec, δ, dot, plus, dot-plus, dot-δ}
use Rattle.simplex.specs.At.{at, at_here, at_there}
use Rattle.simplex.specs.Opt.{Kind as KindZ, external, slack}
use Rattle.simplex.specs.Pass.{State as StateZ}
use Rattle.simplex.specs.Form.{Form, le!, eq!, ge!, le, eq, ge, soft, resid, cost}
use Rattle.simplex.specs.Temp.{Dead}
use Rattle.steps.specs.Number.{one64, minus_one64, below_zero, all_whole}
use Rattle.steps.specs.Strength.{required}
use Rattle.steps.specs.Symbol.{Kind, Slack, Error, Dummy, Symbol}
use Rattle.steps.specs.State.{Relation, at_most, equal, at_least, strength_of}
use Rattle.steps.specs.Row.{insert_symbol_in_row}
use Rattle.steps.specs.Work.{Work, new_symbol, append_symbol, with_tableau}
use Rattle.steps.specs.CreateRow.{Building, Created, insert_into, append_to, add_symbol, insert_in_objective, add_error, tagged, inequality, soft_equality, required_equality, add_tag}
use Rattle.simplex.specs.bridge.Nums.{one64-z, minus_one64-z}
use Rattle.simplex.specs.bridge.Rows.{In}
use Rattle.simplex.specs.bridge.Finds.{none≢some, some-injective}
use Rattle.simplex.specs.bridge.Table.{kind_of}
use Rattle.run.specs.Inv.{other_id, form_of, Shaped}
use Rattle.run.specs.Inputs.{soft-small}
use Rattle.run.specs.Build.{NewTag}
use Rattle.run.specs.BuildTerms.{Stage, Grew, grew_trans, grew-more, next-kind, next-dead}
use Rattle.run.specs.BuildSum.{written-mark}
use Rattle.run.specs.BuildTag.{symbol-stage, symbol-grew, symbol-in, symbol-more, own-cell, other-cell, symbol-dot, priced-stage, priced-mark, priced-grew, priced-symbols, Tagged}

module _ (n : ℕ) (kind : ℕ → KindZ) (S : StateZ) (w : Work) (r : Vec) where
  -- the marker is in
  record First (weight q p : ℤ) (m : Symbol) (b : Building) : Type 0 where
    kinds : ℕ → KindZ
    name : ℕ → ℕ
    o : Vec
    vec : Vec
    stage : Stage n kinds (record { B = S.B; R = S.R; o = o }) name b.work b.row vec
    grew : Grew 1 w b.work
    older : (j : ℕ) → kind j ≢ external → kinds j ≡ kind j
    others : (j : ℕ) → j ≢ m.id → kinds j ≡ kind j
    new : NewTag n kind kinds S b.work vec m
    row : (σ : Vec) → dot n vec σ ≡ dot n r σ +ℤ q *ℤ σ m.id
    worth : (σ : Vec) → dot n o σ ≡ weight *ℤ (p *ℤ σ m.id) +ℤ dot n S.o σ

  first : (name : ℕ → ℕ) (b : Building) → w ≡ b.work → Stage n kind S name b.work b.row r → b.work.tableau.next_id < n → (weight : ℤ) (κ : Kind) {k : Float} {q : ℤ} → IsZ k q → nat_abs q ≤ 1024 → q *ℤ q ≡ 1ℤ
      → (add_symbol (new_symbol κ b.work) k b).work.mark ≡ all_whole → First weight q 0ℤ (new_symbol κ b.work) (add_symbol (new_symbol κ b.work) k b)
  unfolding new_symbol
  first name b same A room weight κ {k} {q} K l one m = record {
    kinds = at t (kind_of κ) kind;
    name = at t 0 name;
    o = S.o;
    vec = plus r q (δ t);
    stage = symbol-stage n kind S name b r A κ K l m;
    grew = subst (λ (x : Work). Grew 1 x (add_symbol (new_symbol κ b.work) k b).work) (sym same) (symbol-grew n kind S name b r A κ k);
    older = λ j h. at_there t (kind_of κ) kind j (λ e. h (ap kind e ∙ next-kind n kind S name b.work b.row r A));
    others = λ j h. at_there t (kind_of κ) kind j h;
    new = record {
      was = next-kind n kind S name b.work b.row r A;
      live = (symbol-in n kind S name b r A κ k, at_here t (kind_of κ) kind);
      dead = next-dead n kind S name b.work b.row r A;
      inside = room;
      unit = ap (λ (z : ℤ). z *ℤ z) (own-cell n kind S name b r A κ q) ∙ one;
    };
    row = symbol-dot n kind S name b r A κ room q;
    worth = λ σ. ring (weight ∷ σ t ∷ dot n S.o σ ∷ []) (ν 2) (ν 0 ⊠ (lit 0ℤ ⊠ ν 1) ⊞ ν 2) tt;
  }
    where
      t : ℕ
      t = b.work.tableau.next_id

  -- ---- a required demand: the marker alone
  lone : (f : Form) (weight q : ℤ) (m : Symbol) (b : Building) → First weight q 0ℤ m b → Shaped f (record { marker = m; other = none }) → soft f ≡ false
      → ((e s t : ℤ) → resid f e s t ≡ e +ℤ q *ℤ s) → ((s t : ℤ) → cost f s t ≡ 0ℤ) → Tagged n f weight kind S w r (tagged m none b)
  unfolding tagged
  lone f weight q m b F sh so re co = record {
    kinds = F.kinds;
    name = F.name;
    o = F.o;
    vec = F.vec;
    stage = F.stage;
    grew = grew-more 1 2 w b.work (omega arith) F.grew;
    older = F.older;
    shaped = sh;
    marker = F.new;
    other = λ s e. absurd (none≢some e);
    two = λ e. absurd (true≢false (sym e ∙ so));
    row = λ σ. F.row σ ∙ sym (re (dot n r σ) (σ m.id) (σ (other_id none)));
    worth = λ σ. F.worth σ ∙ ring (weight ∷ σ m.id ∷ dot n S.o σ ∷ []) (ν 0 ⊠ (lit 0ℤ ⊠ ν 1) ⊞ ν 2) (ν 0 ⊠ lit 0ℤ ⊞ ν 2) tt ∙ ap (λ (z : ℤ). weight *ℤ z +ℤ dot n S.o σ) (sym (co (σ m.id) (σ (other_id none))));
  }

  -- ---- the marker, an error itself, gets its price
  price : (weight q : ℤ) (m : Symbol) (b : Building) → First weight q 0ℤ m b → kind_of m.kind ≡ slack → {k : Float} → IsZ k weight → nat_abs weight ≤ 2 ^ 40
      → (insert_in_objective m.id k b.work).mark ≡ all_whole → First weight q 1ℤ m (record { work = insert_in_objective m.id k b.work; row = b.row })
  price weight q m b F sl {k} K l mk = record {
    kinds = F.kinds;
    name = F.name;
    o = plus F.o weight (δ m.id);
    vec = F.vec;
    stage = priced-stage n F.kinds (record { B = S.B; R = S.R; o = F.o }) F.name b.work b.row F.vec F.stage m.id F.new.live.0 F.new.dead.free (F.new.live.1 ∙ sl) K l mk;
    grew = grew_trans 1 0 w b.work (insert_in_objective m.id k b.work) F.grew (priced-grew m.id k b.work);
    older = F.older;
    others = F.others;
    new = record { was = F.new.was; live = (subst (In m.id) (sym (priced-symbols m.id k b.work)) F.new.live.0, F.new.live.1); dead = F.new.dead; inside = F.new.inside; unit = F.new.unit };
    row = F.row;
    worth = λ σ. dot-plus n F.o weight (δ m.id) σ ∙ ap₂ (λ (x y : ℤ). x +ℤ weight *ℤ y) (F.worth σ) (dot-δ n m.id σ F.new.inside)
        ∙ ring (weight ∷ σ m.id ∷ dot n S.o σ ∷ []) (ν 0 ⊠ (lit 0ℤ ⊠ ν 1) ⊞ ν 2 ⊞ ν 0 ⊠ ν 1) (ν 0 ⊠ (lit 1ℤ ⊠ ν 1) ⊞ ν 2) tt;
  }

  -- ---- the other symbol: an error, with its price
  module _ (f : Form) (weight q p : ℤ) (m : Symbol) (b : Building) (F : First weight q p m b) (room : b.work.tableau.next_id < n) {k strength : Float} {u : ℤ} (K : IsZ k u) (l : nat_abs u ≤ 1024) (one : u *ℤ u ≡ 1ℤ)
      (W : IsZ strength weight) (light : nat_abs weight ≤ 2 ^ 40) where
    abbrev t : ℕ
    t = b.work.tableau.next_id

    abbrev S₁ : StateZ
    S₁ = record { B = S.B; R = S.R; o = F.o }

    abbrev e : Symbol
    e = record { id = b.work.tableau.next_id; kind = Error }

    abbrev b₁ : Building
    b₁ = add_symbol e k b

    m≢t : m.id ≢ t
    m≢t q = omega (arith, F.stage.ids m.id F.new.live.0)

    abbrev kinds₂ : ℕ → KindZ
    kinds₂ = at t slack F.kinds

    was : kind t ≡ external
    was = sym (F.others t (λ q. m≢t (sym q))) ∙ next-kind n F.kinds S₁ F.name b.work b.row F.vec F.stage

    module _ (mk : (insert_in_objective t strength b₁.work).mark ≡ all_whole) where
      added : Stage n kinds₂ S₁ (at t 0 F.name) b₁.work b₁.row (plus F.vec u (δ t))
      unfolding new_symbol
      added = symbol-stage n F.kinds S₁ F.name b F.vec F.stage Error K l (priced-mark t strength b₁.work mk)

      in-t : In t b₁.work.tableau.symbols
      unfolding new_symbol
      in-t = symbol-in n F.kinds S₁ F.name b F.vec F.stage Error k

      in-m : In m.id b₁.work.tableau.symbols
      unfolding new_symbol
      in-m = symbol-more n F.kinds S₁ F.name b F.vec F.stage Error k m.id F.new.live.0

      t-dead : Dead S₁ t
      t-dead = next-dead n F.kinds S₁ F.name b.work b.row F.vec F.stage

      stays-in : (j : ℕ) → In j b₁.work.tableau.symbols → In j (insert_in_objective t strength b₁.work).tableau.symbols
      stays-in j i = subst (In j) (sym (priced-symbols t strength b₁.work)) i

      grown : Grew 1 b.work b₁.work
      unfolding new_symbol
      grown = symbol-grew n F.kinds S₁ F.name b F.vec F.stage Error k

      second : Shaped f (record { marker = m; other = some e }) → ((a s t : ℤ) → resid f a s t ≡ a +ℤ q *ℤ s +ℤ u *ℤ t) → ((s t : ℤ) → cost f s t ≡ p *ℤ s +ℤ t)
          → Tagged n f weight kind S w r (record { work = insert_in_objective t strength b₁.work; row = b₁.row; tag = record { marker = m; other = some e } })
      unfolding other_id
      second sh re co = record {
        kinds = kinds₂;
        name = at t 0 F.name;
        o = plus F.o weight (δ t);
        vec = plus F.vec u (δ t);
        stage = priced-stage n kinds₂ S₁ (at t 0 F.name) b₁.work b₁.row (plus F.vec u (δ t)) added t in-t t-dead.free (at_here t slack F.kinds) W light mk;
        grew = grew_trans 1 1 w b.work (insert_in_objective t strength b₁.work) F.grew (grew_trans 1 0 b.work b₁.work (insert_in_objective t strength b₁.work) grown (priced-grew t strength b₁.work));
        older = λ j h. at_there t slack F.kinds j (λ e. h (ap kind e ∙ was)) ∙ F.older j h;
        shaped = sh;
        marker = record {
          was = F.new.was;
          live = (stays-in m.id in-m, at_there t slack F.kinds m.id m≢t ∙ F.new.live.1);
          dead = F.new.dead;
          inside = F.new.inside;
          unit = ap (λ (z : ℤ). z *ℤ z) (other-cell n F.kinds S₁ F.name b F.vec F.stage Error u m.id (λ q. m≢t (sym q))) ∙ F.new.unit;
        };
        other = λ s h. subst (NewTag n kind kinds₂ S (insert_in_objective t strength b₁.work) (plus F.vec u (δ t))) (some-injective h) (record {
          was = was;
          live = (stays-in t in-t, at_here t slack F.kinds);
          dead = record { free = t-dead.free; not-0 = t-dead.not-0; rows = t-dead.rows };
          inside = room;
          unit = ap (λ (z : ℤ). z *ℤ z) (own-cell n F.kinds S₁ F.name b F.vec F.stage Error u) ∙ one;
        });
        two = λ h q. m≢t (sym q);
        row = λ σ. symbol-dot n F.kinds S₁ F.name b F.vec F.stage Error room u σ ∙ ap (λ (z : ℤ). z +ℤ u *ℤ σ t) (F.row σ) ∙ sym (re (dot n r σ) (σ m.id) (σ t));
        worth = λ σ. dot-plus n F.o weight (δ t) σ ∙ ap₂ (λ (x y : ℤ). x +ℤ weight *ℤ y) (F.worth σ) (dot-δ n t σ room)
            ∙ ring (weight ∷ p ∷ σ m.id ∷ σ t ∷ dot n S.o σ ∷ []) (ν 0 ⊠ (ν 1 ⊠ ν 2) ⊞ ν 4 ⊞ ν 0 ⊠ ν 3) (ν 0 ⊠ (ν 1 ⊠ ν 2 ⊞ ν 3) ⊞ ν 4) tt
            ∙ ap (λ (z : ℤ). weight *ℤ z +ℤ dot n S.o σ) (sym (co (σ m.id) (σ t)));
      }

-- ---- the marks only get worse
add-mark : (s : Symbol) (k : Float) (b : Building) → (add_symbol s k b).work.mark ≡ all_whole → b.work.mark ≡ all_whole
unfolding add_symbol insert_into append_to append_symbol with_tableau
add-mark s k b m = written-mark (insert_symbol_in_row (append_to s b).work.tableau.cutoff s.id k (append_to s b).work.tableau.symbols (append_to s b).row) (append_to s b).work m

module _ (n : ℕ) (kind : ℕ → KindZ) (S : StateZ) (name : ℕ → ℕ) (b : Building) (r : Vec) (A : Stage n kind S name b.work b.row r) (room : b.work.tableau.next_id + 2 ≤ n)
    {strength : Float} {weight : ℤ} (W : IsZ strength weight) (up : below_zero strength ≡ false) where
  -- ---- an inequality, its slack with q and its error with u
  module _ {sign : Float} {q u : ℤ} (K : IsZ sign q) (U : IsZ (neg sign) u) (lq : nat_abs q ≤ 1024) (lu : nat_abs u ≤ 1024) (qq : q *ℤ q ≡ 1ℤ) (uu : u *ℤ u ≡ 1ℤ) (hard weak : Form)
      (sh : (m : Symbol) → m.kind ≡ Slack → Shaped hard (record { marker = m; other = none })) (sw : (m e : Symbol) → m.kind ≡ Slack → e.kind ≡ Error → Shaped weak (record { marker = m; other = some e }))
      (so : soft hard ≡ false) (rh : (e s t : ℤ) → resid hard e s t ≡ e +ℤ q *ℤ s) (rs : (e s t : ℤ) → resid weak e s t ≡ e +ℤ q *ℤ s +ℤ u *ℤ t)
      (ch : (s t : ℤ) → cost hard s t ≡ 0ℤ) (cw : (s t : ℤ) → cost weak s t ≡ t) where
    abbrev m : Symbol
    m = new_symbol Slack b.work

    abbrev marked : Building
    marked = add_symbol m sign b

    start : marked.work.mark ≡ all_whole → First n kind S b.work r weight q 0ℤ m marked
    start mk = first n kind S b.work r name b refl A (omega (arith, room)) weight Slack K lq qq mk

    marked-grew : Grew 1 b.work marked.work
    marked-grew = symbol-grew n kind S name b r A Slack sign

    inequality-tag : (inequality sign strength b).work.mark ≡ all_whole → Tagged n (cond (lt strength required) weak hard) weight kind S b.work r (inequality sign strength b)
    unfolding inequality tagged add_error new_symbol
    inequality-tag = go (lt strength required) refl
      where
        err : Symbol
        err = record { id = marked.work.tableau.next_id; kind = Error }

        go : (t : Bool) → lt strength required ≡ t → (elim t as (λ _. Created) [ true ↦ tagged m (some (new_symbol Error marked.work)) (add_error (new_symbol Error marked.work) (neg sign) strength marked) | false ↦ tagged m none marked ]).work.mark ≡ all_whole
            → Tagged n (cond t weak hard) weight kind S b.work r (elim t [ true ↦ tagged m (some (new_symbol Error marked.work)) (add_error (new_symbol Error marked.work) (neg sign) strength marked) | false ↦ tagged m none marked ])
        go true l mk =
            let m₁ : marked.work.mark ≡ all_whole = add-mark err (neg sign) marked (priced-mark marked.work.tableau.next_id strength (add_symbol err (neg sign) marked).work mk) in
            second n kind S b.work r weak weight q 0ℤ m marked (start m₁) (omega (arith, room, marked-grew.next)) U lu uu W (soft-small W up l) mk (sw m err refl refl) rs (λ s t. cw s t ∙ ring (s ∷ t ∷ []) (ν 1) (lit 0ℤ ⊠ ν 0 ⊞ ν 1) tt)
        go false l mk = lone n kind S b.work r hard weight q m marked (start mk) (sh m refl) so rh ch

  -- ---- an equality that is not required: two errors
  soft-tag : lt strength required ≡ true → (soft_equality strength b).work.mark ≡ all_whole → Tagged n eq weight kind S b.work r (soft_equality strength b)
  unfolding soft_equality tagged add_error new_symbol
  soft-tag l mk =
      let p : Symbol = new_symbol Error b.work in
      let b₀ : Building = add_symbol p minus_one64 b in
      let b₁ : Building = add_error p minus_one64 strength b in
      let e : Symbol = new_symbol Error b₁.work in
      let m₁ : b₁.work.mark ≡ all_whole = add-mark e one64 b₁ (priced-mark b₁.work.tableau.next_id strength (add_symbol e one64 b₁).work mk) in
      let m₀ : b₀.work.mark ≡ all_whole = priced-mark p.id strength b₀.work m₁ in
      let F = first n kind S b.work r name b refl A (omega (arith, room)) weight Error minus_one64-z (lit≤ tt) refl m₀ in
      let G = price n kind S b.work r weight (negsuc 0) p b₀ F refl W (soft-small W up l) m₁ in
      second n kind S b.work r eq weight (negsuc 0) 1ℤ p b₁ G (omega (arith, room, G.grew.next)) one64-z (lit≤ tt) refl W (soft-small W up l) mk (refl, (e, refl, refl))
      (λ a s t. ring (a ∷ s ∷ t ∷ []) (ν 0 ⊟⊟ ν 1 ⊞ ν 2) (ν 0 ⊞ lit (negsuc 0) ⊠ ν 1 ⊞ lit 1ℤ ⊠ ν 2) tt) (λ s t. ring (s ∷ t ∷ []) (ν 0 ⊞ ν 1) (lit 1ℤ ⊠ ν 0 ⊞ ν 1) tt)

  -- ---- a required equality: a dummy
  dummy-tag : (required_equality b).work.mark ≡ all_whole → Tagged n eq! weight kind S b.work r (required_equality b)
  unfolding required_equality new_symbol tagged
  dummy-tag mk =
      lone n kind S b.work r eq! weight 1ℤ (new_symbol Dummy b.work) (add_symbol (new_symbol Dummy b.work) one64 b)
      (first n kind S b.work r name b refl A (omega (arith, room)) weight Dummy one64-z (lit≤ tt) refl mk) (refl, refl) refl (λ e s t. ring (e ∷ s ∷ []) (ν 0 ⊞ ν 1) (ν 0 ⊞ lit 1ℤ ⊠ ν 1) tt) (λ s t. refl)

-- ---- the six tags
pub tag : (n : ℕ) (kind : ℕ → KindZ) (S : StateZ) (name : ℕ → ℕ) (b : Building) (r : Vec) → Stage n kind S name b.work b.row r → b.work.tableau.next_id + 2 ≤ n
    → (rel : Relation) {weight : ℤ} → IsZ (strength_of rel) weight → below_zero (strength_of rel) ≡ false → (add_tag rel b).work.mark ≡ all_whole → Tagged n (form_of rel) weight kind S b.work r (add_tag rel b)
unfolding strength_of form_of add_tag
tag n kind S name b r A room (at_most s) W up mk =
    inequality-tag n kind S name b r A room W up one64-z (neg-z one64-z) (lit≤ tt) (lit≤ tt) refl refl le! le (λ m k. (k, refl)) (λ m e k j. (k, (e, refl, j))) refl
    (λ e s t. ring (e ∷ s ∷ []) (ν 0 ⊞ ν 1) (ν 0 ⊞ lit 1ℤ ⊠ ν 1) tt) (λ e s t. ring (e ∷ s ∷ t ∷ []) (ν 0 ⊞ ν 1 ⊟⊟ ν 2) (ν 0 ⊞ lit 1ℤ ⊠ ν 1 ⊞ lit (negsuc 0) ⊠ ν 2) tt) (λ s t. refl) (λ s t. refl) mk
tag n kind S name b r A room (at_least s) W up mk =
    inequality-tag n kind S name b r A room W up minus_one64-z (neg-z minus_one64-z) (lit≤ tt) (lit≤ tt) refl refl ge! ge (λ m k. (k, refl)) (λ m e k j. (k, (e, refl, j))) refl
    (λ e s t. ring (e ∷ s ∷ []) (ν 0 ⊟⊟ ν 1) (ν 0 ⊞ lit (negsuc 0) ⊠ ν 1) tt) (λ e s t. ring (e ∷ s ∷ t ∷ []) (ν 0 ⊟⊟ ν 1 ⊞ ν 2) (ν 0 ⊞ lit (negsuc 0) ⊠ ν 1 ⊞ lit 1ℤ ⊠ ν 2) tt) (λ s t. refl) (λ s t. refl) mk
tag n kind S name b r A room (equal s) {weight} W up mk = go (lt s required) refl mk
  where
    go : (t : Bool) → lt s required ≡ t → (elim t as (λ _. Created) [ true ↦ soft_equality s b | false ↦ required_equality b ]).work.mark ≡ all_whole
        → Tagged n (cond t eq eq!) weight kind S b.work r (elim t [ true ↦ soft_equality s b | false ↦ required_equality b ])
    go true l = λ k. soft-tag n kind S name b r A room W up l k
    go false l = λ k. dummy-tag n kind S name b r A room W up k

error-mark : (s : Symbol) (k strength : Float) (b : Building) → (add_error s k strength b).work.mark ≡ all_whole → b.work.mark ≡ all_whole
unfolding add_error
error-mark s k strength b m = add-mark s k b (priced-mark s.id strength (add_symbol s k b).work m)

inequality-mark : (sign strength : Float) (b : Building) → (inequality sign strength b).work.mark ≡ all_whole → b.work.mark ≡ all_whole
unfolding inequality tagged
inequality-mark sign strength b = go (lt strength required)
  where
    go : (t : Bool) → (elim t as (λ _. Created) [ true ↦ tagged (new_symbol Slack b.work) (some (new_symbol Error (add_symbol (new_symbol Slack b.work) sign b).work)) (add_error (new_symbol Error (add_symbol (new_symbol Slack b.work) sign b).work) (neg sign) strength (add_symbol (new_symbol Slack b.work) sign b)) | false ↦ tagged (new_symbol Slack b.work) none (add_symbol (new_symbol Slack b.work) sign b) ]).work.mark ≡ all_whole
        → b.work.mark ≡ all_whole
    go true m = add-mark (new_symbol Slack b.work) sign b (error-mark (new_symbol Error (add_symbol (new_symbol Slack b.work) sign b).work) (neg sign) strength (add_symbol (new_symbol Slack b.work) sign b) m)
    go false m = add-mark (new_symbol Slack b.work) sign b m

pub tag-mark : (rel : Relation) (b : Building) → (add_tag rel b).work.mark ≡ all_whole → b.work.mark ≡ all_whole
unfolding add_tag
tag-mark (at_most s) b m = inequality-mark one64 s b m
tag-mark (at_least s) b m = inequality-mark minus_one64 s b m
tag-mark (equal s) b m = go (lt s required) m
  where
    go : (t : Bool) → (elim t as (λ _. Created) [ true ↦ soft_equality s b | false ↦ required_equality b ]).work.mark ≡ all_whole → b.work.mark ≡ all_whole
    go true m = unfold soft_equality tagged in error-mark (new_symbol Error b.work) minus_one64 s b (error-mark (new_symbol Error (add_error (new_symbol Error b.work) minus_one64 s b).work) one64 s (add_error (new_symbol Error b.work) minus_one64 s b) m)
    go false m = unfold required_equality tagged in add-mark (new_symbol Dummy b.work) one64 b m
