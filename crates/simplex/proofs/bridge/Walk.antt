-- The steps' ratio test on floats that have ranks: the winner is below or level with every candidate, and on a tie it comes no later (X6). Assumes nothing.
use Rattle.std.specs.Prelude.{◌≡◌, refl, List, [], ◌∷◌, ◌≤◌, ◌<◌, Bool, true, false, not, ◌&&◌, cond, T, ℤ, Float}
use Rattle.std.proofs.Common.{sym, ap, ◌∙◌, subst, inl, inr, le_refl, arith}
use Rattle.std.proofs.Math.Option.{Option, none, some}
use Rattle.std.specs.Int.Signed.{lt_z, lt_z_yes, lt_z_no}
use Rattle.std.specs.Float.{nan, inf, fin}
use Rattle.std.specs.Float.Ieee.{lt}
use Rattle.steps.specs.Number.{is_finite}
use Rattle.steps.specs.Optimise.{Candidate, better, smallest_from, smallest_ratio}
use Rattle.laws.specs.Z.{P, N, ◌≼◌, ◌≺◌, lt→N, le→N, N→le, ext}
use Rattle.simplex.specs.Choose.{All}
use Rattle.simplex.specs.bridge.Quot.{Over}
use Rattle.simplex.proofs.bridge.Quot.{lt-over, no}
use Rattle.simplex.specs.bridge.Walk.{Ranked, Beats, Rising, MemC, Smallest, nobody, winner}

record Less (w c : Candidate) (a b : ℤ) : Type 0 where
  least : a ≼ b
  ties : a ≡ b → w.symbol.id ≤ c.symbol.id

antisym : {a b : ℤ} → a ≼ b → b ≼ a → a ≡ b
antisym {a} {b} h q = ext a b (omega (arith, le→N a b h, le→N b a q))

not-lt : {a b : ℤ} → lt_z a b ≡ false → b ≼ a
not-lt e = lt_z_no (subst (λ (o : Bool). T (not o)) (sym e) tt)

is_lt : {a b : ℤ} → lt_z a b ≡ true → a ≺ b
is_lt e = lt_z_yes (subst T (sym e) tt)

beats : (w c : Candidate) (A : Ranked w) (C : Ranked c) → Less w c A.rank C.rank → Beats w c
beats w c A C L = record {
  least = lt-over C.over A.over ∙ no L.least;
  ties = λ e. L.ties (antisym L.least (not-lt (sym (lt-over A.over C.over) ∙ e)));
}

is-finite : {x : Float} {z : ℤ} → Over x z → is_finite x ≡ true
unfolding is_finite
is-finite {x = nan} h = absurd h.has
is-finite {x = inf s} h = absurd h.has
is-finite {x = fin s m e} h = refl

record Won (b : Candidate) (B : Ranked b) (cs : List Candidate) (r : Option Candidate) : Type 0 where
  who : Candidate
  is : r ≡ some who
  among : MemC who (b ∷ cs)
  ranked : Ranked who
  over : Less who b ranked.rank B.rank
  all : All (Beats who) cs

among-new : (w b c : Candidate) (cs : List Candidate) → MemC w (c ∷ cs) → MemC w (b ∷ c ∷ cs)
among-new w b c cs h = inr h

among-old : (w b c : Candidate) (cs : List Candidate) → MemC w (b ∷ cs) → MemC w (b ∷ c ∷ cs)
among-old w b c cs (inl e) = inl e
among-old w b c cs (inr m) = inr (inr m)

take : (b c : Candidate) (B : Ranked b) (C : Ranked c) (cs : List Candidate) (r : Option Candidate) → C.rank ≺ B.rank → Won c C cs r → Won b B (c ∷ cs) r
take b c B C cs r h W = record {
  who = W.who;
  is = W.is;
  among = among-new W.who b c cs W.among;
  ranked = W.ranked;
  over = record {
    least = N→le W.ranked.rank B.rank (omega (arith, lt→N C.rank B.rank h, le→N W.ranked.rank C.rank W.over.least));
    ties = λ e. absurd (omega (arith, ap P e, ap N e, lt→N C.rank B.rank h, le→N W.ranked.rank C.rank W.over.least));
  };
  all = (beats W.who c W.ranked C W.over, W.all);
}

keep : (b c : Candidate) (B : Ranked b) (C : Ranked c) (cs : List Candidate) (r : Option Candidate) → b.symbol.id < c.symbol.id → B.rank ≼ C.rank → Won b B cs r → Won b B (c ∷ cs) r
keep b c B C cs r l h W = record {
  who = W.who;
  is = W.is;
  among = among-old W.who b c cs W.among;
  ranked = W.ranked;
  over = W.over;
  all = (
    beats W.who c W.ranked C (record {
      least = N→le W.ranked.rank C.rank (omega (arith, le→N B.rank C.rank h, le→N W.ranked.rank B.rank W.over.least));
      ties = λ e. go (ext W.ranked.rank B.rank (omega (arith, ap P e, ap N e, le→N B.rank C.rank h, le→N W.ranked.rank B.rank W.over.least)));
    }),
    W.all,
  );
}
  where
    go : W.ranked.rank ≡ B.rank → W.who.symbol.id ≤ c.symbol.id
    go e = omega (arith, W.over.ties e)

walked : (b : Candidate) (B : Ranked b) (cs : List Candidate) → All Ranked cs → All (λ (d : Candidate). b.symbol.id < d.symbol.id) cs → Rising cs → Won b B cs (smallest_from (some b) cs)
unfolding smallest_from better
walked b B [] R up asc = record { who = b; is = refl; among = inl refl; ranked = B; over = record { least = N→le B.rank B.rank (omega arith); ties = λ _. le_refl b.symbol.id }; all = tt }
walked b B (c ∷ cs) R up asc = go (lt_z R.0.rank B.rank) refl (walked c R.0 cs R.1 asc.0 asc.1) (walked b B cs R.1 up.1 asc.1)
  where
    test : is_finite c.ratio && lt c.ratio b.ratio ≡ lt_z R.0.rank B.rank
    test = ap (λ (o : Bool). o && lt c.ratio b.ratio) (is-finite R.0.over) ∙ lt-over R.0.over B.over

    go : (o : Bool) → lt_z R.0.rank B.rank ≡ o → Won c R.0 cs (smallest_from (some c) cs) → Won b B cs (smallest_from (some b) cs)
        → Won b B (c ∷ cs) (smallest_from (cond (is_finite c.ratio && lt c.ratio b.ratio) (some c) (some b)) cs)
    go true e new old = subst (λ (o : Bool). Won b B (c ∷ cs) (smallest_from (cond o (some c) (some b)) cs)) (sym (test ∙ e)) (take b c B R.0 cs (smallest_from (some c) cs) (is_lt e) new)
    go false e new old = subst (λ (o : Bool). Won b B (c ∷ cs) (smallest_from (cond o (some c) (some b)) cs)) (sym (test ∙ e)) (keep b c B R.0 cs (smallest_from (some b) cs) up.0 (not-lt e) old)

-- the ratio test
pub smallest-is : (cs : List Candidate) → All Ranked cs → Rising cs → Smallest cs (smallest_ratio cs)
unfolding smallest_ratio smallest_from better
smallest-is [] R asc = nobody refl
smallest-is (c ∷ cs) R asc =
    subst (λ (o : Bool). Smallest (c ∷ cs) (elim (smallest_from (cond o (some c) none) cs) [ none ↦ none | some d ↦ some d.symbol ])) (sym (is-finite R.0.over))
    (found (walked c R.0 cs R.1 asc.0 asc.1))
  where
    found : Won c R.0 cs (smallest_from (some c) cs) → Smallest (c ∷ cs) (elim (smallest_from (some c) cs) [ none ↦ none | some d ↦ some d.symbol ])
    found W =
        subst (λ (x : Option Candidate). Smallest (c ∷ cs) (elim x [ none ↦ none | some d ↦ some d.symbol ])) (sym W.is)
        (winner W.who W.among W.ranked (beats W.who c W.ranked R.0 W.over, W.all))
