-- All lines in one pass: how it begins, a line that does not hold the symbol, and how it ends.
-- Assumes nothing.
use Prim.Native.Nat.{ℕ, ◌+◌, ◌-◌, ◌*◌, ◌≤◌, ◌<◌}
use Rattle.std.specs.Prelude.{◌≡◌, Bool, List, Float, length}
use Rattle.std.proofs.Math.Path.{refl, sym, ap}
use Rattle.std.proofs.Common.{◌∙◌, subst, arith}
use Rattle.std.proofs.Math.Bool.{true, false}
use Rattle.std.proofs.Math.Dec.{ltb}
use Rattle.std.specs.Float.{nan}
use Rattle.std.proofs.Math.ListN.{get_or}
use borrow.Author.Tests.{ltb-true, ltb-false}
use Rattle.laws.specs.Loops.{run, run-next, run-last}
use Rattle.steps.specs.Number.{zero64, Mark, all_whole}
use Rattle.sparse.specs.Places.{most_rows}
use Rattle.layout.specs.cells.Names.{row_span, cell_room, last_place}
use Rattle.layout.specs.cells.Cells.{cell_at, moved}
use Rattle.layout.specs.cells.Column.{zero-absent}
use Rattle.layout.specs.cells.Slide.{length_moved, moved_before, moved_in}
use Rattle.layout.specs.cells.Reads.{ascending-le, cell-absent}
use Rattle.layout.specs.cells.Edges.{Begins}
use Rattle.layout.specs.cells.Spots.{Spots, spot-absent}
use Rattle.waist.specs.merging.Skip.{run-skip}
use Rattle.waist.specs.substituting.Held.{held-room}
use Rattle.waist.specs.substituting.Lines.{Lines, lines, held_by, line_in, lines_in, HeldIn, held-line}
use Rattle.waist.specs.substituting.Apart.{far, Apart, Ready, apart-room, apart_ready}
use Rattle.waist.specs.substituting.Carried.{Carries}

-- both have the same cells, up to their size, and the same constants and mark
pub record Alike (u t : Lines) : Type 0 where
  pub size : u.size ≡ t.size
  pub keys : (j : ℕ) → j < t.size → get_or u.keys j 0 ≡ get_or t.keys j 0
  pub vals : (j : ℕ) → j < t.size → get_or u.vals j nan ≡ get_or t.vals j nan
  pub wide : length u.keys ≡ cell_room
  pub wides : length u.vals ≡ cell_room
  pub reals : u.reals ≡ t.reals
  pub mark : u.mark ≡ t.mark

-- no line before r holds the symbol; r does, or is one past the last
pub record FirstSpot (spots : List ℕ) (n count r : ℕ) : Type 0 where
  pub low : 1 ≤ r
  pub high : r ≤ 1 + count
  pub none : (q : ℕ) → 1 ≤ q → q < r → n ≤ get_or spots q 0
  pub here : r ≤ count → get_or spots r 0 < n

-- ---- the first line that holds the symbol

pub spots-low : (spots : List ℕ) (n i : ℕ) → ((q : ℕ) → 1 ≤ q → q < i → n ≤ get_or spots q 0) → n ≤ get_or spots i 0 → (q : ℕ) → 1 ≤ q → q < i + 1 → n ≤ get_or spots q 0
spots-low spots n i f h q a b = go (ltb q i) refl
  where
    go : (x : Bool) → ltb q i ≡ x → n ≤ get_or spots q 0
    go true e = f q a (ltb-true q i e)
    go false e =
        let o : i ≡ q = omega (arith, b, ltb-false q i e) in
        subst (λ (z : ℕ). n ≤ get_or spots z 0) o h

-- a line that does not hold the symbol stays as it is
stays : (cutoff : Float) (at m : ℕ) (y : Float) (cols : List ℕ) (others : List Float) (i : ℕ) (t : Lines) → held_by cutoff at m y cols others i t ≡ zero64 → line_in cutoff at m y cols others i t ≡ t
unfolding line_in
stays cutoff at m y cols others i t e = rw (e, zero-absent) refl

module _ (cutoff : Float) (at m : ℕ) (y : Float) (cols : List ℕ) (others : List Float) (count n : ℕ) (keys₀ spots : List ℕ) (few : count ≤ most_rows) (sp : Spots keys₀ n at spots) where
  abbrev turn : ℕ → Lines → Lines
  turn = line_in cutoff at m y cols others

  -- the lines before the first one that holds it
  pub lines_from : (vals₀ rs : List Float) (a : Mark) (r : ℕ) → FirstSpot spots n count r → lines_in cutoff at m y cols others count (lines keys₀ vals₀ n rs a) ≡ run turn r (count + 1) (lines keys₀ vals₀ n rs a)
  unfolding lines_in held_by
  lines_from vals₀ rs a r f =
      run-skip turn 1 r (count + 1) (lines keys₀ vals₀ n rs a) f.low λ q u v w.
      stays cutoff at m y cols others q (lines keys₀ vals₀ n rs a) (sym (spot-absent keys₀ vals₀ n at q spots sp (omega (arith, w, few)) (f.none q u v)))

  pub none-hold : (vals₀ rs : List Float) (a : Mark) (r : ℕ) → FirstSpot spots n count r → count < r → HeldIn count (lines keys₀ vals₀ n rs a) → Alike (lines keys₀ vals₀ n rs a) (lines_in cutoff at m y cols others count (lines keys₀ vals₀ n rs a))
  none-hold vals₀ rs a r f l h =
      let e = run-last turn r (count + 1) (lines keys₀ vals₀ n rs a) (omega (arith, l)) refl in
      subst (Alike (lines keys₀ vals₀ n rs a)) (e ∙ sym (lines_from vals₀ rs a r f))
      record { size = refl; keys = λ j u. refl; vals = λ j u. refl; wide = h.wide; wides = h.wides; reals = refl; mark = refl }

  -- on the way: the tables stand for lines of which those from i on are still to be done
  pub record Going (i s : ℕ) (u goal : Lines) : Type 0 where
    pub t : Lines
    pub apart : Apart n keys₀ i s u t
    pub held : HeldIn count t
    pub rest : run turn i (count + 1) t ≡ goal
    pub low : 1 ≤ i
    pub high : i ≤ count + 1

  module _ (i s : ℕ) (u goal : Lines) (g : Going i s u goal) (l : i ≤ count) where
    pub going-ready : (c : ℕ) → at ≤ last_place → c ≡ get_or spots i 0 → c < n → Ready i at u.size s (c + far n) u.keys
    going-ready c k e q =
        let h : get_or keys₀ (get_or spots i 0) 0 ≡ i * row_span + at = ((sp.at i (omega (arith, l, few))).here (omega (arith, e, q))).1 in
        apart_ready n keys₀ i s u g.t g.apart count few g.held at c k q (ap (λ (z : ℕ). get_or keys₀ z 0) e ∙ h)

    on : (t' : Lines) → t' ≡ turn i g.t → run turn (i + 1) (count + 1) t' ≡ goal
    on t' e = run-next turn i (count + 1) g.t (omega (arith, l)) e g.rest

    pub going-merged : (s' : ℕ) (u' : Lines) → Carries cutoff at m y cols others i s u s' u' → Going (i + 1) s' u' goal
    unfolding Carries
    going-merged s' u' c =
        record {
          t = turn i g.t;
          apart = c count n keys₀ g.t few g.low l g.held g.apart;
          held = held-line cutoff at m y cols others count i few g.low l g.t g.held;
          rest = on (turn i g.t) refl;
          low = omega arith;
          high = omega (arith, l);
        }

    not-held : n ≤ get_or spots i 0 → held_by cutoff at m y cols others i g.t ≡ zero64
    unfolding held_by cell_at
    not-held q = cell-absent g.t.keys g.t.vals (i * row_span + at) 0 g.t.size (omega arith) λ j a b e. other j b e (ltb j u.size) refl
      where
        other : (j : ℕ) → j < g.t.size → i * row_span + at ≡ get_or g.t.keys j 0 → (x : Bool) → ltb j u.size ≡ x → ⊥
        other j b e true w = let d = g.apart.under j (ltb-true j u.size w) in omega (arith, d, e)
        other j b e false w =
            let p = g.apart in
            let v = ltb-false j u.size w in
            let z = p.size in
            let k = p.least in
            let f = p.few in
            let mo = p.most in
            let x : ℕ = s + (j - u.size) - far n in
            let o : x + far n ≡ s + (j - u.size) = omega (arith, k) in
            let o₁ : u.size + (j - u.size) ≡ j = omega (arith, v) in
            let inn : s + (j - u.size) < cell_room = omega (arith, b, v, z, mo) in
            let e₁ : get_or keys₀ x 0 ≡ get_or g.t.keys j 0 =
            sym (p.kept x (omega (arith, inn, k, f)) (omega (arith, o)))
            ∙ ap (λ (n : ℕ). get_or u.keys n 0) o
            ∙ p.back (j - u.size) inn
            ∙ ap (λ (n : ℕ). get_or g.t.keys n 0) o₁ in
            (sp.at i (omega (arith, l, few))).none q x (omega (arith, inn, k, f)) (e₁ ∙ sym e)

    pub going-over : n ≤ get_or spots i 0 → Going (i + 1) s u goal
    going-over q =
        let p = g.apart in
        record {
          t = g.t;
          apart = record {
            front = p.front;
            fronts = p.fronts;
            back = p.back;
            backs = p.backs;
            size = p.size;
            most = p.most;
            least = p.least;
            few = p.few;
            under = λ j v. let d = p.under j v in omega (arith, d);
            kept = p.kept;
            gone = λ j v w. let d = p.gone j v w in omega (arith, d);
            wide = p.wide;
            wides = p.wides;
            reals = p.reals;
            mark = p.mark;
          };
          held = g.held;
          rest = on g.t (sym (stays cutoff at m y cols others i g.t (not-held q)));
          low = omega arith;
          high = omega (arith, l);
        }

  pub going-bounds : (i s : ℕ) (u goal : Lines) → Going i s u goal → (u.size + last_place ≤ s) × (s ≤ cell_room)
  going-bounds i s u goal g = (apart-room n keys₀ i s u g.t g.apart count few g.held, g.apart.most)

  -- ---- how it ends

  pub going_end : (i s : ℕ) (u goal : Lines) (k₂ : List ℕ) (v₂ : List Float) → Going i s u goal → count < i → k₂ ≡ moved s u.size (cell_room - s) u.keys → v₂ ≡ moved s u.size (cell_room - s) u.vals
      → Alike (lines k₂ v₂ (u.size + (cell_room - s)) u.reals u.mark) goal
  going_end i s u goal k₂ v₂ g l k v =
      let p = g.apart in
      let r = apart-room n keys₀ i s u g.t p count few g.held in
      let mo = p.most in
      let wd = p.wide in
      let ws = p.wides in
      let e : g.t ≡ goal = run-last turn i (count + 1) g.t (omega (arith, l)) g.rest in
      let a₁ : s + (cell_room - s) ≤ length u.keys = omega (arith, mo, wd) in
      let a₂ : u.size + (cell_room - s) ≤ length u.keys = omega (arith, r, mo, wd) in
      let b₁ : s + (cell_room - s) ≤ length u.vals = omega (arith, mo, ws) in
      let b₂ : u.size + (cell_room - s) ≤ length u.vals = omega (arith, r, mo, ws) in
      subst (Alike (lines k₂ v₂ (u.size + (cell_room - s)) u.reals u.mark)) e
      record {
        size = sym p.size;
        keys = λ j q. ap (λ (x : List ℕ). get_or x j 0) k ∙ below 0 u.size s u.keys g.t.keys p.front p.back mo a₁ a₂ j (let z = p.size in omega (arith, q, z));
        vals = λ j q. ap (λ (x : List Float). get_or x j nan) v ∙ below nan u.size s u.vals g.t.vals p.fronts p.backs mo b₁ b₂ j (let z = p.size in omega (arith, q, z));
        wide = ap length k ∙ length_moved s u.size (cell_room - s) u.keys a₁ a₂ ∙ wd;
        wides = ap length v ∙ length_moved s u.size (cell_room - s) u.vals b₁ b₂ ∙ ws;
        reals = p.reals;
        mark = p.mark;
      }
    where
      below : {A : Type 0} (d : A) (b s : ℕ) (l t : List A) → ((j : ℕ) → j < b → get_or l j d ≡ get_or t j d) → ((j : ℕ) → s + j < cell_room → get_or l (s + j) d ≡ get_or t (b + j) d) → s ≤ cell_room → s + (cell_room - s) ≤ length l → b + (cell_room - s) ≤ length l
          → (j : ℕ) → j < b + (cell_room - s) → get_or (moved s b (cell_room - s) l) j d ≡ get_or t j d
      below d b s l t f g mo c₁ c₂ j q = go (ltb j b) refl
        where
          go : (x : Bool) → ltb j b ≡ x → get_or (moved s b (cell_room - s) l) j d ≡ get_or t j d
          go true w = let v = ltb-true j b w in moved_before s b (cell_room - s) l j d c₁ c₂ v ∙ f j v
          go false w =
              let v = ltb-false j b w in
              let o : b + (j - b) ≡ j = omega (arith, v) in
              subst (λ (x : ℕ). get_or (moved s b (cell_room - s) l) x d ≡ get_or t x d) o (moved_in s b (cell_room - s) l (j - b) d c₁ c₂ (omega (arith, q, v)) ∙ g (j - b) (omega (arith, q, v, mo)))

  -- ---- how it begins: the cells from place b on go to the far end

  module _ (vals₀ rs : List Float) (a : Mark) (h : HeldIn count (lines keys₀ vals₀ n rs a)) (r c b : ℕ) (f : FirstSpot spots n count r) (l : r ≤ count) (ec : c ≡ get_or spots r 0) (be : Begins keys₀ (r * row_span) 0 c b)
      (k₁ : List ℕ) (v₁ : List Float) (h₁ : k₁ ≡ moved b (b + far n) (n - b) keys₀) (h₂ : v₁ ≡ moved b (b + far n) (n - b) vals₀) where
    within : (b ≤ n) × (n ≤ cell_room)
    within =
        let x = held-room count n keys₀ vals₀ h few in
        let y = f.here l in
        let z = be.to in
        (omega (arith, y, z, ec), omega (arith, x))

    tight : (b + (n - b) ≤ length keys₀) × (b + far n + (n - b) ≤ length keys₀) × (b + (n - b) ≤ length vals₀) × (b + far n + (n - b) ≤ length vals₀)
    tight =
        let x = within in
        let y = h.wide in
        let z = h.wides in
        (omega (arith, x, y), omega (arith, x, y), omega (arith, x, z), omega (arith, x, z))

    lower : (j : ℕ) → j < b → get_or keys₀ j 0 < r * row_span
    lower j u =
        let x = ascending-le keys₀ n j (b - 1) h.up (omega (arith, u)) (let w = within in omega (arith, w, u)) in
        let y = be.before (omega (arith, u)) in
        omega (arith, x, y)

    moved-key : (j : ℕ) → j < n - b → get_or k₁ (b + far n + j) 0 ≡ get_or keys₀ (b + j) 0
    moved-key j u = ap (λ (x : List ℕ). get_or x (b + far n + j) 0) h₁ ∙ moved_in b (b + far n) (n - b) keys₀ j 0 tight.0 tight.1 u

    pub going-begin : Going r (b + far n) (lines k₁ v₁ b rs a) (lines_in cutoff at m y cols others count (lines keys₀ vals₀ n rs a))
    going-begin =
        let w = within in
        record {
          t = lines keys₀ vals₀ n rs a;
          apart = record {
            front = λ j u. ap (λ (x : List ℕ). get_or x j 0) h₁ ∙ moved_before b (b + far n) (n - b) keys₀ j 0 tight.0 tight.1 (omega (arith, u));
            fronts = λ j u. ap (λ (x : List Float). get_or x j nan) h₂ ∙ moved_before b (b + far n) (n - b) vals₀ j nan tight.2 tight.3 (omega (arith, u));
            back = λ j u. moved-key j (omega (arith, u, w));
            backs = λ j u. ap (λ (x : List Float). get_or x (b + far n + j) nan) h₂ ∙ moved_in b (b + far n) (n - b) vals₀ j nan tight.2 tight.3 (omega (arith, u, w));
            size = omega (arith, w);
            most = omega (arith, w);
            least = omega arith;
            few = w.1;
            under = lower;
            kept = λ j u v.
                let o : b + far n + (j - b) ≡ j + far n = omega (arith, v) in
                let o₁ : b + (j - b) ≡ j = omega (arith, v) in
                subst (λ (x : ℕ). get_or k₁ x 0 ≡ get_or keys₀ j 0) o (moved-key (j - b) (omega (arith, u, v)) ∙ ap (λ (x : ℕ). get_or keys₀ x 0) o₁);
            gone = λ j u v. lower j (omega (arith, v));
            wide = ap length h₁ ∙ length_moved b (b + far n) (n - b) keys₀ tight.0 tight.1 ∙ h.wide;
            wides = ap length h₂ ∙ length_moved b (b + far n) (n - b) vals₀ tight.2 tight.3 ∙ h.wides;
            reals = refl;
            mark = refl;
          };
          held = h;
          rest = sym (lines_from vals₀ rs a r f);
          low = f.low;
          high = omega (arith, l);
        }

-- ---- from where the pass began to where it is

unfoldable pub Leads : (cutoff : Float) (at m : ℕ) (y : Float) (cols : List ℕ) (others : List Float) (count n : ℕ) (spots : List ℕ) (i₀ s₀ : ℕ) (u₀ : Lines) (i s : ℕ) (u : Lines) → Type 0
Leads cutoff at m y cols others count n spots i₀ s₀ u₀ i s u =
    (keys₀ : List ℕ) (goal : Lines) (few : count ≤ most_rows) (sp : Spots keys₀ n at spots) → Going cutoff at m y cols others count n keys₀ spots few sp i₀ s₀ u₀ goal → Going cutoff at m y cols others count n keys₀ spots few sp i s u goal

module _ (cutoff : Float) (at m : ℕ) (y : Float) (cols : List ℕ) (others : List Float) (count n : ℕ) (spots : List ℕ) (i₀ s₀ : ℕ) (u₀ : Lines) where
  pub leads-same : Leads cutoff at m y cols others count n spots i₀ s₀ u₀ i₀ s₀ u₀
  unfolding Leads
  leads-same keys₀ goal few sp g = g

  module _ (i s : ℕ) (u : Lines) (f : Leads cutoff at m y cols others count n spots i₀ s₀ u₀ i s u) (l : i ≤ count) where
    pub leads-merged : (s' : ℕ) (u' : Lines) → Carries cutoff at m y cols others i s u s' u' → Leads cutoff at m y cols others count n spots i₀ s₀ u₀ (i + 1) s' u'
    unfolding Leads
    leads-merged s' u' c keys₀ goal few sp g = going-merged cutoff at m y cols others count n keys₀ spots few sp i s u goal (f keys₀ goal few sp g) l s' u' c

    pub leads-over : n ≤ get_or spots i 0 → Leads cutoff at m y cols others count n spots i₀ s₀ u₀ (i + 1) s u
    unfolding Leads
    leads-over q keys₀ goal few sp g = going-over cutoff at m y cols others count n keys₀ spots few sp i s u goal (f keys₀ goal few sp g) l q

pub alike-whole : (cutoff : Float) (at m : ℕ) (y : Float) (cols : List ℕ) (others : List Float) (count n : ℕ) (keys : List ℕ) (vals rs : List Float) (a : Mark) (u : Lines) → a ≡ all_whole
    → Alike u (lines_in cutoff at m y cols others count (lines keys vals n rs a)) → Alike u (lines_in cutoff at m y cols others count (lines keys vals n rs all_whole))
alike-whole cutoff at m y cols others count n keys vals rs a u e h = subst (λ (x : Mark). Alike u (lines_in cutoff at m y cols others count (lines keys vals n rs x))) e h
