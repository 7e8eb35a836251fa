-- What a stream of lines is answered, line by line, and what is left at its end.
use Rattle.std.specs.Prelude.{ℕ, suc, ◌<◌, ◌≡◌, refl, Bool, true, false, cond, List, [], ◌∷◌, ◌++◌, map, leb, length}
use Rattle.std.proofs.Common.{sym, ap, ◌∙◌, append_assoc}
use Rattle.std.proofs.Math.Option.{Option, none, some}
use Rattle.std.proofs.lemmas.Bool.{lt-leb}
use Rattle.laws.specs.streams.Lines.{Cut, before, cut_from, Unbroken, within}
use Rattle.laws.proofs.streams.Lines.{pieces, begun}
use Rattle.grammar.specs.edition.Endings.{Reply as Answer, denied}
use Rattle.grammar.specs.edition.Steps.{read_second}
use Rattle.cable_lines.specs.Cable.{limit, new, answer_of, Fed, feed, closes}
use Rattle.cable_lines.specs.Cuts.{answers_of, feed-cut}

-- lines, each with its newline
unfoldable pub sent : List (List ℕ) → List ℕ
sent [] = []
sent (w ∷ ws) = w ++ (10 ∷ sent ws)

abbrev pub AllUnbroken : List (List ℕ) → Type 0
AllUnbroken [] = Unit {0}
AllUnbroken (w ∷ ws) = Unbroken w × AllUnbroken ws

-- "A longer or unreadable line is answered by number and reading goes on after the next newline."
abbrev pub line_answer : List ℕ → Answer
line_answer w = cond (leb (length w) limit) (read_second w) (denied 32)

answer-within : (w : List ℕ) → answer_of (within limit w) ≡ line_answer w
answer-within w = test (leb (length w) limit)
  where
    test : (t : Bool) → answer_of (cond t (some w) none) ≡ cond t (read_second w) (denied 32)
    test true = refl
    test false = refl

sent-cut : (ws : List (List ℕ)) (w : List ℕ) → AllUnbroken ws → Unbroken w → cut_from limit new (sent ws ++ w) ≡ record { lines = map (within limit) ws; left = within limit w }
unfolding sent cut_from
sent-cut [] w us u = begun limit [] w u
sent-cut (x ∷ ws) w us u =
    let e : (x ++ (10 ∷ sent ws)) ++ w ≡ x ++ (10 ∷ (sent ws ++ w)) = append_assoc x (10 ∷ sent ws) w in
    ap (cut_from limit new) e
    ∙ (pieces limit new x (10 ∷ (sent ws ++ w))
    ∙ (ap (λ (c : Cut). before c.lines (cut_from limit c.left (10 ∷ (sent ws ++ w)))) (begun limit [] x us.0)
    ∙ ap (before (within limit x ∷ [])) (sent-cut ws w us.1 u)))

map-lines : (ws : List (List ℕ)) → map answer_of (map (within limit) ws) ≡ map line_answer ws
map-lines [] = refl
map-lines (w ∷ ws) = rw (answer-within w, map-lines ws)

-- lines and the beginning of another, sent to a new reader
pub answered-so : (ws : List (List ℕ)) (w : List ℕ) → AllUnbroken ws → Unbroken w → feed new (sent ws ++ w) ≡ record { answers = map line_answer ws; left = within limit w }
answered-so ws w us u = feed-cut new (sent ws ++ w) ∙ (ap answers_of (sent-cut ws w us u) ∙ ap (λ (l : List Answer). record { answers = l; left = within limit w }) (map-lines ws))

-- ---- the close

-- after it the reader is as new, whatever it held
pub close-new : (h : Option (List ℕ)) → (closes h).left ≡ new
close-new h = refl

-- an empty close gives no answer
pub close-empty : (closes (within limit [])).answer ≡ none
close-empty = refl

pub close-unended : (b : ℕ) (w : List ℕ) → (closes (within limit (b ∷ w))).answer ≡ some (denied 33)
close-unended b w = test (leb (suc (length w)) limit)
  where
    test : (t : Bool) → (closes (cond t (some (b ∷ w)) none)).answer ≡ some (denied 33)
    test true = refl
    test false = refl

-- ---- two unended lines of more than 200 bytes, 201 and 999 say, leave equal states
pub too-long-equal : (v w : List ℕ) → Unbroken v → Unbroken w → limit < length v → limit < length w → (feed new v).left ≡ (feed new w).left
too-long-equal v w p q j k = over v p j ∙ sym (over w q k)
  where
    over : (v : List ℕ) → Unbroken v → limit < length v → (feed new v).left ≡ none
    over v p j = ap (λ (x : Fed). x.left) (feed-cut new v ∙ ap answers_of (begun limit [] v p)) ∙ rw (lt-leb (length v) limit j)
