-- A symbol that no demand holds goes and leaves the theory's tableau as it is; so do a removed demand's own two. Assumes nothing.
use Rattle.std.specs.Prelude.{◌≡◌, ◌⊎◌, ◌≢◌, List, [], ◌∷◌, ℕ, ◌^◌, ◌<◌, Bool, true, false}
use Rattle.std.proofs.Math.Path.{refl, sym, ap}
use Rattle.std.proofs.Common.{◌∙◌, subst, inl, inr, arith}
use Rattle.std.proofs.Math.Option.{Option, none, some}
use Rattle.simplex.specs.Ord.{0ℤ}
use Rattle.simplex.specs.Lin.{Vec, δ}
use Rattle.simplex.specs.At.{at, At, here, there, at?}
use Rattle.simplex.specs.Choose.{All}
use Rattle.simplex.specs.Basis.{Mask}
use Rattle.simplex.specs.Opt.{Kind as KindZ, const, external, slack, dummy, slack≢external}
use Rattle.simplex.specs.Form.{soft}
use Rattle.simplex.specs.Problem.{Con, Tag as TagOf, Sounds, Models}
use Rattle.simplex.specs.Change.{killed}
use Rattle.simplex.specs.Pass.{State as StateZ, Good}
use Rattle.simplex.specs.Run.{Foreign}
use Rattle.simplex.specs.Gone.{tag-kind, tag-foreign, gone-free, gone-rows, gone-cost, gone-models, gone-good}
use Rattle.steps.specs.Symbol.{Symbol, is_symbol, delete_symbol}
use Rattle.steps.specs.Row.{Row}
use Rattle.steps.specs.State.{Tag}
use Rattle.steps.specs.Work.{Work, with_tableau, find_row, purge}
use Rattle.steps.specs.Remove.{purge_tag}
use Rattle.simplex.specs.bridge.Rows.{In, reads-to}
use Rattle.simplex.proofs.bridge.Rows.{row-to}
use Rattle.simplex.specs.bridge.Table.{RowAt, ReadsWork}
use Rattle.simplex.specs.bridge.Columns.{purge-z, delete-in}

-- ---- the symbols that stay
delete-sub : (s j : ℕ) (xs : List Symbol) → In j (delete_symbol s xs) → In j xs
unfolding delete_symbol
delete-sub s j [] m = m
delete-sub s j (x ∷ xs) m = go (is_symbol s x) m (delete-sub s j xs)
  where
    go : (b : Bool) → In j (elim b [ true ↦ xs | false ↦ x ∷ delete_symbol s xs ]) → (In j (delete_symbol s xs) → In j xs) → In j (x ∷ xs)
    go true m ih = inr m
    go false (inl q) ih = inl q
    go false (inr m) ih = inr (ih m)

-- what goes are the symbols of Q, and nothing else of the frame
pub record Cut (Q : ℕ → Type 0) (w x : Work) : Type 0 where
  pub old : (j : ℕ) → In j x.tableau.symbols → In j w.tableau.symbols
  pub stays : (j : ℕ) → (Q j → ⊥) → In j w.tableau.symbols → In j x.tableau.symbols
  pub next_id : x.tableau.next_id ≡ w.tableau.next_id
  pub changes : x.changes ≡ w.changes
  pub artificial : x.artificial ≡ w.artificial
  pub mark : x.mark ≡ w.mark
  pub pivots : x.pivots ≡ w.pivots

pub cut : (s : ℕ) (w : Work) → Cut (λ j. j ≡ s) w (purge s w)
unfolding purge with_tableau
cut s w = record {
  old = λ j m. delete-sub s j w.tableau.symbols m;
  stays = λ j n m. delete-in s j w.tableau.symbols n m;
  next_id = refl;
  changes = refl;
  artificial = refl;
  mark = refl;
  pivots = refl;
}

pub cut-trans : (P Q : ℕ → Type 0) (u v w : Work) → Cut P u v → Cut Q v w → Cut (λ j. P j ⊎ Q j) u w
cut-trans P Q u v w a b = record {
  old = λ j m. a.old j (b.old j m);
  stays = λ j n m. b.stays j (λ q. n (inr q)) (a.stays j (λ p. n (inl p)) m);
  next_id = b.next_id ∙ a.next_id;
  changes = b.changes ∙ a.changes;
  artificial = b.artificial ∙ a.artificial;
  mark = b.mark ∙ a.mark;
  pivots = b.pivots ∙ a.pivots;
}

-- ---- a tableau that reads as one reads as any that is the same column by column
pub reads_same : (kind : ℕ → KindZ) (w : Work) (B C : Mask) (R T : ℕ → Vec) (o p a : Vec) → ((j : ℕ) → B j ≡ C j) → ((j i : ℕ) → R j i ≡ T j i) → ((i : ℕ) → o i ≡ p i)
    → ReadsWork kind w B R o a → ReadsWork kind w C T p a
reads_same kind w B C R T o p a b r q H = record {
  up = H.up;
  kinds = H.kinds;
  unknown = H.unknown;
  rows-up = H.rows-up;
  rows-live = H.rows-live;
  rows = λ j. row j (find_row j w.tableau.rows) (H.rows j);
  objective = reads-to (2 ^ 40) w.tableau.symbols w.tableau.objective o p (λ x _. q x.id) H.objective;
  beyond = λ j n x. sym (q j) ∙ H.beyond j n x;
  cutoff = H.cutoff;
  artificial = H.artificial;
}
  where
    row : (j : ℕ) (t : Option Row) → RowAt w.tableau.symbols t (B j) (R j) → RowAt w.tableau.symbols t (C j) (T j)
    row j none h = sym (b j) ∙ h
    row j (some y) h = (sym (b j) ∙ h.0, row-to w.tableau.symbols y (R j) (T j) (r j) h.1)

-- ---- what is known of a tableau that models some constraints
pub record Read (n : ℕ) (kind : ℕ → KindZ) (S : StateZ) (cs : List Con) (w : Work) : Type 0 where
  pub good : Good n kind S
  pub models : Models n kind S.B S.R S.o cs
  pub reads : ReadsWork kind w S.B S.R S.o (λ _. 0ℤ)
  pub bare : w.artificial ≡ none

module _ (n : ℕ) (kind : ℕ → KindZ) (S : StateZ) (cs : List Con) (w : Work) (H : Read n kind S cs w) (s : ℕ) (in-n : s < n) (s≢0 : s ≢ 0) (F : All (Foreign s) cs) where
  free : S.B s ≡ false
  free = gone-free n kind S.B S.R S.o cs H.models s in-n F

  mask : (j : ℕ) → at s false S.B j ≡ S.B j
  mask j = go (at? s false S.B j)
    where
      go : At s false S.B j → at s false S.B j ≡ S.B j
      go (here p e) = e ∙ sym (ap S.B p ∙ free)
      go (there p e) = e

  cell : (f : Vec) → f s ≡ 0ℤ → (i : ℕ) → at s 0ℤ f i ≡ f i
  cell f z i = go (at? s 0ℤ f i)
    where
      go : At s 0ℤ f i → at s 0ℤ f i ≡ f i
      go (here p e) = e ∙ sym (ap f p ∙ z)
      go (there p e) = e

  rows : (j i : ℕ) → killed s S.R j i ≡ S.R j i
  unfolding killed
  rows j i = go (at? s (δ s) (λ j. at s 0ℤ (S.R j)) j)
    where
      go : At s (δ s) (λ j. at s 0ℤ (S.R j)) j → at s (δ s) (λ j. at s 0ℤ (S.R j)) j i ≡ S.R j i
      go (here p e) = ap (λ (f : Vec). f i) e ∙ sym (ap (λ (x : ℕ). S.R x i) p ∙ H.good.shape.unit s free i)
      go (there p e) = ap (λ (f : Vec). f i) e ∙ cell (S.R j) (gone-rows n kind S.B S.R S.o cs H.models s in-n F j p) i

  -- the symbol goes, the tableau stays
  pub purged : Read n (at s external kind) S cs (purge s w)
  purged = record {
    good = gone-good n kind S cs H.good H.models s in-n s≢0 F;
    models = gone-models n kind S.B S.R S.o cs H.models s in-n F;
    reads = reads_same (at s external kind) (purge s w) (at s false S.B) S.B (killed s S.R) S.R (at s 0ℤ S.o) S.o (λ _. 0ℤ) mask rows (cell S.o (gone-cost n kind S.B S.R S.o cs H.models s in-n F))
        (purge-z kind w S.B S.R S.o (λ _. 0ℤ) H.reads s s≢0 H.bare);
    bare = (cut s w).artificial ∙ H.bare;
  }

-- ---- a removed demand's symbols
pub record Untagged (n : ℕ) (kind : ℕ → KindZ) (S : StateZ) (cs : List Con) (Q : ℕ → Type 0) (w x : Work) : Type 0 where
  pub kind' : ℕ → KindZ
  pub read : Read n kind' S cs x
  pub variables : (j : ℕ) → kind j ≡ external → kind' j ≡ external
  pub slacks : (j : ℕ) → kind' j ≡ slack → kind j ≡ slack
  pub cuts : Cut Q w x

still-external : (kind : ℕ → KindZ) (s j : ℕ) → kind j ≡ external → at s external kind j ≡ external
still-external kind s j e = go (at? s external kind j)
  where
    go : At s external kind j → at s external kind j ≡ external
    go (here p q) = q
    go (there p q) = q ∙ e

pub was-slack : (kind : ℕ → KindZ) (s j : ℕ) → at s external kind j ≡ slack → kind j ≡ slack
was-slack kind s j e = go (at? s external kind j)
  where
    go : At s external kind j → kind j ≡ slack
    go (here p q) = absurd (slack≢external (sym e ∙ q))
    go (there p q) = sym q ∙ e

module _ (n : ℕ) (kind : ℕ → KindZ) (S : StateZ) (c : Con) (cs : List Con) (w : Work) (H : Read n kind S cs w) (sounds : Sounds n kind (c ∷ cs)) (tag : Tag) (own : tag.marker.id ≡ c.marker)
    (pair : (o : Symbol) → tag.other ≡ some o → (soft c.form ≡ true) × (o.id ≡ c.other)) where
  not-zero : (j : ℕ) → TagOf j c → j ≢ 0
  not-zero j t z = go (tag-kind n kind c sounds.0 j t)
    where
      go : (kind j ≡ slack) ⊎ (kind j ≡ dummy) → ⊥
      go (inl e) = let a : kind 0 ≡ const = H.good.zero in let b : kind j ≡ kind 0 = ap kind z in let y : ◌≡◌ {A = ℕ} 0 1 = cc in omega arith
      go (inr e) = let a : kind 0 ≡ const = H.good.zero in let b : kind j ≡ kind 0 = ap kind z in let y : ◌≡◌ {A = ℕ} 0 1 = cc in omega arith

  abbrev p : ℕ
  p = tag.marker.id

  marker-tag : TagOf tag.marker.id c
  marker-tag = inl own

  p-in : p < n
  p-in = subst (λ (j : ℕ). j < n) (sym own) sounds.0.marker-in

  -- the marker's purge, last
  last : (k : ℕ → KindZ) (x : Work) (Q : ℕ → Type 0) → Read n k S cs x → ((j : ℕ) → kind j ≡ external → k j ≡ external) → ((j : ℕ) → k j ≡ slack → kind j ≡ slack) → Cut Q w x
      → ((j : ℕ) → Q j → TagOf j c) → Untagged n kind S cs (λ j. TagOf j c) w (purge tag.marker.id x)
  last k x Q r ex sl a f = record {
    kind' = at p external k;
    read = purged n k S cs x r p p-in (not-zero p marker-tag) (tag-foreign n kind c cs sounds p marker-tag);
    variables = λ j e. still-external k p j (ex j e);
    slacks = λ j e. sl j (was-slack k p j e);
    cuts = let t = cut-trans Q (λ j. j ≡ p) w x (purge p x) a (cut p x) in record {
      old = t.old;
      stays = λ j no. t.stays j (λ q. elim q [ inl y ↦ no (f j y) | inr y ↦ no (inl (y ∙ own)) ]);
      next_id = t.next_id;
      changes = t.changes;
      artificial = t.artificial;
      mark = t.mark;
      pivots = t.pivots;
    };
  }

  pub untagged : Untagged n kind S cs (λ j. TagOf j c) w (purge_tag tag w)
  unfolding purge_tag
  untagged = go tag.other refl
    where
      whole : Cut (λ j. ⊥) w w
      whole = record { old = λ j m. m; stays = λ j n m. m; next_id = refl; changes = refl; artificial = refl; mark = refl; pivots = refl }

      go : (t : Option Symbol) → tag.other ≡ t → Untagged n kind S cs (λ j. TagOf j c) w (purge tag.marker.id (elim t [ none ↦ w | some o ↦ purge o.id w ]))
      go none e = last kind w (λ j. ⊥) H (λ j x. x) (λ j x. x) whole (λ j x. absurd x)
      go (some o) e =
          let t = pair o e in
          let tg : TagOf o.id c = inr (t.0, t.1) in
          let in-n : o.id < n = subst (λ (j : ℕ). j < n) (sym t.1) (sounds.0.other-in t.0) in
          last (at o.id external kind) (purge o.id w) (λ j. j ≡ o.id) (purged n kind S cs w H o.id in-n (not-zero o.id tg) (tag-foreign n kind c cs sounds o.id tg))
          (λ j x. still-external kind o.id j x) (λ j x. was-slack kind o.id j x) (cut o.id w) (λ j x. inr (t.0, x ∙ t.1))
