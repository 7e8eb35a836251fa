-- Add's step 6, its last line: the temporary, not basic any more, goes, and the tableau without it models the new demand with the others. Assumes nothing.
use Rattle.std.specs.Prelude.{◌≡◌, refl, ◌≢◌, ◌↔◌, Bool, List, [], ◌∷◌, map, ℕ, ◌<◌, ℤ, ◌*ℤ◌, Float}
use Rattle.std.proofs.Common.{sym, ap₂, ◌∙◌, arith}
use Rattle.std.proofs.Math.Path.{ap, subst}
use Rattle.std.proofs.Math.Bool.{false}
use Rattle.std.proofs.Math.Option.{Option, none}
use Rattle.laws.specs.Ring.{ring, v, k as κ, ◌⊠◌}
use Rattle.simplex.specs.Ord.{0ℤ}
use Rattle.simplex.specs.Lin.{Vec, δ, dot, dot-cong}
use Rattle.simplex.specs.At.{at, At, here, there, at?, at_here, at_there}
use Rattle.simplex.specs.Choose.{all_map}
use Rattle.simplex.specs.Tab.{Solves}
use Rattle.simplex.specs.Basis.{Mask}
use Rattle.simplex.specs.Opt.{Kind as KindZ, const, external, slack, slack≢dummy}
use Rattle.simplex.specs.Pass.{State as StateZ, Good}
use Rattle.simplex.specs.Change.{killed, kill-solves}
use Rattle.simplex.specs.Temp.{kill-good, rekind}
use Rattle.simplex.specs.Problem.{Con, Models}
use Rattle.simplex.specs.Steps.{models-temp}
use Rattle.simplex.specs.Gone.{total-foreign}
use Rattle.steps.specs.Symbol.{Symbol}
use Rattle.steps.specs.Row.{Row}
use Rattle.steps.specs.State.{Basic}
use Rattle.steps.specs.Work.{Work, purge}
use Rattle.steps.specs.CreateRow.{Created}
use Rattle.simplex.specs.bridge.Table.{RowAt, ReadsTable, ReadsWork}
use Rattle.simplex.specs.bridge.Columns.{purge-z}
use Rattle.run.specs.Demand.{Demand}
use Rattle.run.specs.Inv.{Held, con_of}
use Rattle.run.specs.Build.{new_held, Built}
use Rattle.run.specs.TempStart.{tid≢0, fresh}
use Rattle.run.specs.TempEnd.{foreigns}

-- ---- the same kinds and the same mask, said otherwise

pub good-to : (n : ℕ) (kind other : ℕ → KindZ) (S : StateZ) → ((j : ℕ) → kind j ≡ other j) → Good n kind S → Good n other S
good-to n kind other S h G = record {
  zero = sym (h 0) ∙ G.zero;
  consts = λ j e. G.consts j (h j ∙ e);
  shape = G.shape;
  clear = G.clear;
  feasible = λ j b e. G.feasible j b (h j ∙ e);
  no-var = λ i e. G.no-var i (h i ∙ e);
  no-vars = λ j i ne e. G.no-vars j i (λ q. ne (sym (h j) ∙ q)) (h i ∙ e);
  dummies = λ j i e f. G.dummies j i (h j ∙ e) (h i ∙ f);
  still-dummies = λ j e. G.still-dummies j (h j ∙ e);
}

pub table_to : (kind other : ℕ → KindZ) (cut : Float) (xs : List Symbol) (bs : List Basic) (cs : List Float) (B C : Mask) (R : ℕ → Vec) (o a b : Vec) → ((j : ℕ) → kind j ≡ other j) → ((j : ℕ) → B j ≡ C j)
    → ReadsTable kind cut xs bs cs none B R o a → ReadsTable other cut xs bs cs none C R o b
table_to kind other cut xs bs cs B C R o a b h m H = record {
  up = H.up;
  kinds = all_map (λ (x : Symbol) e. sym (h x.id) ∙ e) xs H.kinds;
  unknown = λ i n q. sym (h i) ∙ H.unknown i n q;
  rows-up = H.rows-up;
  rows-live = all_map (λ (x : Basic) l. (l.0, sym (h x.symbol.id) ∙ l.1)) bs H.rows-live;
  rows = λ j. subst (λ (t : Bool). RowAt xs (Rattle.steps.specs.Work.find_row j bs) t (R j)) (m j) (H.rows j);
  objective = H.objective;
  beyond = H.beyond;
  cutoff = H.cutoff;
  artificial = tt;
}

-- a column less in the row is a column less in the assignment
dot-less : (n p : ℕ) (w σ : Vec) → dot n (at p 0ℤ w) σ ≡ dot n w (at p 0ℤ σ)
dot-less n p w σ = dot-cong n (at p 0ℤ w) σ w (at p 0ℤ σ) (λ j _. go j (at? p 0ℤ w j) (at? p 0ℤ σ j))
  where
    go : (j : ℕ) → At p 0ℤ w j → At p 0ℤ σ j → at p 0ℤ w j *ℤ σ j ≡ w j *ℤ at p 0ℤ σ j
    go j (here e q) (here f r) = ap₂ ◌*ℤ◌ q refl ∙ ring (σ j ∷ w j ∷ []) (κ 0ℤ ⊠ v 0) (v 1 ⊠ κ 0ℤ) tt ∙ ap (λ (z : ℤ). w j *ℤ z) (sym r)
    go j (here e q) (there f r) = absurd (f e)
    go j (there e q) (here f r) = absurd (e f)
    go j (there e q) (there f r) = ap₂ ◌*ℤ◌ q (sym r)

module _ (n : ℕ) (old : ℕ → KindZ) (S : StateZ) (held : List Held) (d : Demand) (w : Work) (c : Created) (Q : Built n old S held d w c) (in-n : 0 < n) (room : c.work.tableau.next_id < n)
    (plain : (i : ℕ) → Q.kind i ≡ external → Q.r i ≡ 0ℤ) (T : StateZ) (G : Good n (at c.work.tableau.next_id slack Q.kind) T) (free : T.B c.work.tableau.next_id ≡ false)
    (solves : (σ : Vec) → Solves n T.R σ ↔ (Solves n S.R σ × (σ c.work.tableau.next_id ≡ dot n Q.r σ)))
    (main : (σ : Vec) → Solves n T.R σ → dot n T.o σ ≡ dot n Q.o σ) where
  abbrev t : ℕ
  t = c.work.tableau.next_id

  abbrev cs : List Con
  cs = map (con_of Q.column) (new_held d c ∷ held)

  abbrev pub last : StateZ
  last = record { B = T.B; R = killed c.work.tableau.next_id T.R; o = at c.work.tableau.next_id 0ℤ T.o }

  t≢0 : t ≢ 0
  t≢0 = tid≢0 n old S held d w c Q room plain

  -- its kind is what it was
  kinds : (j : ℕ) → at t external (at t slack Q.kind) j ≡ Q.kind j
  kinds j = go (at? t external (at t slack Q.kind) j)
    where
      go : At t external (at t slack Q.kind) j → at t external (at t slack Q.kind) j ≡ Q.kind j
      go (here p e) = e ∙ sym (ap Q.kind p ∙ Q.reads.unknown t t≢0 (fresh n old S held d w c Q room plain))
      go (there p e) = e ∙ at_there t slack Q.kind j p

  mask : (j : ℕ) → at t false T.B j ≡ T.B j
  mask j = go (at? t false T.B j)
    where
      go : At t false T.B j → at t false T.B j ≡ T.B j
      go (here p e) = e ∙ sym (ap T.B p ∙ free)
      go (there p e) = e

  killed-at : (j : ℕ) → j ≢ t → killed t T.R j t ≡ 0ℤ
  unfolding killed
  killed-at j ne = ap (λ (r : Vec). r t) (at_there t (δ t) (λ j. at t 0ℤ (T.R j)) j ne) ∙ at_here t 0ℤ (T.R j)

  pub last-good : Good n Q.kind last
  last-good =
      good-to n (at t external (at t slack Q.kind)) Q.kind last kinds
      (rekind n (at t slack Q.kind) last (kill-good n (at t slack Q.kind) T G t free t≢0 (λ e. slack≢dummy (sym (at_here t slack Q.kind) ∙ e))) t external (record { free = free; not-0 = t≢0; rows = killed-at }) (at_here t 0ℤ T.o) apart)
    where
      apart : external ≢ const
      apart e = let z : ◌≡◌ {A = ℕ} 0 1 = cc in omega arith

  pub last-models : Models n Q.kind T.B (killed t T.R) (at t 0ℤ T.o) cs
  last-models = record {
    shape = last-good.shape;
    clear = last-good.clear;
    sounds = Q.sounds;
    solves = models-temp n Q.kind S.B S.R S.o (map (con_of Q.column) held) (con_of Q.column (new_held d c)) t Q.r Q.g T.R Q.models room Q.sign Q.row solves (G.shape.unit t free) (foreigns n old S held d w c Q in-n room plain);
    worth = λ σ s.
        let σ' : Vec = at t 0ℤ σ in
        let s' = (kill-solves n t T.R σ room (G.shape.unit t free)).0 s in
        dot-less n t T.o σ ∙ main σ' s' ∙ Q.worth σ' ((solves σ').0 s').0 ∙ total-foreign t 0ℤ σ cs (foreigns n old S held d w c Q in-n room plain);
  }

  pub last-reads : (x : Work) (a : Vec) → x.artificial ≡ none → ReadsWork (at t slack Q.kind) x T.B T.R T.o a → ReadsWork Q.kind (purge t x) T.B (killed t T.R) (at t 0ℤ T.o) (λ _. 0ℤ)
  unfolding purge Rattle.steps.specs.Work.with_tableau
  last-reads x a e H =
      subst (λ (q : Option Row). ReadsTable Q.kind (purge t x).tableau.cutoff (purge t x).tableau.symbols (purge t x).tableau.rows (purge t x).tableau.objective q T.B (killed t T.R) (at t 0ℤ T.o) (λ _. 0ℤ)) (sym e)
      (table_to (at t external (at t slack Q.kind)) Q.kind (purge t x).tableau.cutoff (purge t x).tableau.symbols (purge t x).tableau.rows (purge t x).tableau.objective (at t false T.B) T.B (killed t T.R) (at t 0ℤ T.o) a (λ _. 0ℤ) kinds mask
      (subst (λ (q : Option Row). ReadsTable (at t external (at t slack Q.kind)) (purge t x).tableau.cutoff (purge t x).tableau.symbols (purge t x).tableau.rows (purge t x).tableau.objective q (at t false T.B) (killed t T.R) (at t 0ℤ T.o) a) e
      (purge-z (at t slack Q.kind) x T.B T.R T.o a H t t≢0 e)))
