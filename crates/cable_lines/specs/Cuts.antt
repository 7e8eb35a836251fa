-- "However the bytes are cut, the answers and the state at the end are those of one piece."
use Rattle.std.specs.Prelude.{ℕ, zero, suc, ◌≤◌, ◌<◌, ◌≡◌, refl, Bool, true, false, cond, List, [], ◌∷◌, ◌++◌, map, eqb, length, drop}
use Rattle.std.proofs.Common.{sym, ap, ◌∙◌, arith, length-drop}
use Rattle.std.proofs.Math.Option.{Option, none, some}
use Rattle.laws.specs.streams.Lines.{Cut, before, grown, cut_from}
use Rattle.laws.proofs.streams.Lines.{pieces}
use Rattle.grammar.specs.edition.Endings.{Reply as Answer}
use Rattle.cable_lines.specs.Cable.{limit, new, answer_of, Step, further, takes, Fed, answered, steps, feed, feed_all, joined}

abbrev cut : Option (List ℕ) → List ℕ → Cut
cut = cut_from limit

-- ---- a step cuts the first line off

data Ends (h : Option (List ℕ)) (s : List ℕ) : Step → Type 0 where
  unended : {k : Option (List ℕ)} {n : ℕ} → cut h s ≡ record { lines = []; left = k } → Ends h s (record { answer = none; taken = n; left = k })
  ended : (l : Option (List ℕ)) (n : ℕ) → 0 < n → n ≤ length s → cut h s ≡ before (l ∷ []) (cut new (drop n s)) → Ends h s (record { answer = some (answer_of l); taken = n; left = new })

longer : {h : Option (List ℕ)} {b : ℕ} {s : List ℕ} {x : Step} → eqb b 10 ≡ false → Ends (grown limit h b) s x → Ends h (b ∷ s) (further x)
unfolding cut_from
longer e (unended {k} q) = unended {k = k} (rw e q)
longer e (ended l n p k q) = ended l (suc n) (omega arith) (omega arith) (rw e q)

takes-ends : (h : Option (List ℕ)) (s : List ℕ) → Ends h s (takes h s)
unfolding takes cut_from
takes-ends h [] = unended refl
takes-ends h (b ∷ s) = test (eqb b 10) refl (takes-ends (grown limit h b) s)
  where
    test : (t : Bool) → eqb b 10 ≡ t → Ends (grown limit h b) s (takes (grown limit h b) s) → Ends h (b ∷ s) (cond t (record { answer = some (answer_of h); taken = 1; left = new }) (further (takes (grown limit h b) s)))
    test true e x = ended h 1 (omega arith) (omega arith) (rw e)
    test false e x = longer e x

-- ---- all steps on a piece: the lines that it ends, each answered, and the line that it leaves begun

abbrev pub answers_of : Cut → Fed
answers_of c = record { answers = map answer_of c.lines; left = c.left }

steps-cut : (n : ℕ) (h : Option (List ℕ)) (s : List ℕ) → length s < n → steps n h s ≡ answers_of (cut h s)
unfolding steps
steps-cut zero h s k = absurd (omega arith)
steps-cut (suc n) h s k = by (takes-ends h s) (steps-cut n new)
  where
    by : {x : Step} → Ends h s x → ((r : List ℕ) → length r < n → steps n new r ≡ answers_of (cut new r)) → answered x.answer x.left (steps n x.left (drop x.taken s)) ≡ answers_of (cut h s)
    by (unended q) f = ap answers_of (sym q)
    by (ended l t p m q) f = ap (answered (some (answer_of l)) new) (f (drop t s) (omega (arith, length-drop t s))) ∙ ap answers_of (sym q)

pub feed-cut : (h : Option (List ℕ)) (s : List ℕ) → feed h s ≡ answers_of (cut h s)
feed-cut h s = steps-cut (suc (length s)) h s (omega arith)

-- ---- pieces

map-append : (a b : List (Option (List ℕ))) → map answer_of (a ++ b) ≡ map answer_of a ++ map answer_of b
map-append [] b = refl
map-append (x ∷ a) b = ap (◌∷◌ (answer_of x)) (map-append a b)

abbrev after : Fed → Fed → Fed
after a b = record { answers = a.answers ++ b.answers; left = b.left }

two : (h : Option (List ℕ)) (a b : List ℕ) → after (feed h a) (feed (feed h a).left b) ≡ feed h (a ++ b)
two h a b =
    ap (λ (x : Fed). after x (feed x.left b)) (feed-cut h a)
    ∙ (ap (after (answers_of (cut h a))) (feed-cut (cut h a).left b)
    ∙ (ap (λ (l : List Answer). record { answers = l; left = (cut (cut h a).left b).left }) (sym (map-append (cut h a).lines (cut (cut h a).left b).lines))
    ∙ (ap answers_of (sym (pieces limit h a b)) ∙ sym (feed-cut h (a ++ b)))))

pub one_piece : (h : Option (List ℕ)) (ss : List (List ℕ)) → feed_all h ss ≡ feed h (joined ss)
unfolding feed_all joined takes steps
one_piece h [] = refl
one_piece h (s ∷ ss) = ap (after (feed h s)) (one_piece (feed h s).left ss) ∙ two h s (joined ss)

-- two ways to cut the same bytes
pub cut-anywhere : (h : Option (List ℕ)) (ss ts : List (List ℕ)) → joined ss ≡ joined ts → feed_all h ss ≡ feed_all h ts
cut-anywhere h ss ts e = one_piece h ss ∙ (ap (feed h) e ∙ sym (one_piece h ts))
