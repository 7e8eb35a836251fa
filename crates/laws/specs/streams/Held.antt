-- The line that has begun, in a buffer with the number of its bytes in use; more than the limit once there were more.
use Rattle.std.specs.Prelude.{ℕ, ◌+◌, ◌≤◌, ◌<◌, ◌≡◌, Bool, cond, List, take, set}
use Rattle.std.proofs.Math.Path.{refl}
use Rattle.std.proofs.Common.{ap, ◌∙◌, arith, take-suc-set}
use Rattle.std.proofs.Math.Bool.{true, false}
use Rattle.std.proofs.Math.Option.{Option, none, some}
use Rattle.std.proofs.Math.Numerals.{add-one}
use borrow.Author.Tests.{leb-true, le-leb, le-ltb, lt-ltb, lt-leb}
use Rattle.std.proofs.Math.Dec.{leb}
use Rattle.std.proofs.Math.ListN.{length}
use Rattle.std.proofs.Math.Seq.{length-take-le}
use Rattle.laws.specs.streams.Lines.{grown}

abbrev pub held_of : ℕ → List ℕ → ℕ → Option (List ℕ)
held_of limit line n = cond (leb n limit) (some (take n line)) none

module _ (limit : ℕ) (line : List ℕ) (long : limit ≤ length line) where
  pub held_more : (n b : ℕ) → n < limit → held_of limit (set line n b) (n + 1) ≡ grown limit (held_of limit line n) b
  unfolding grown
  held_more n b h =
      let l : length (take n line) ≡ n = length-take-le n line (omega arith) in
      rw (le-leb (n + 1) limit (omega arith), le-leb n limit (omega arith), l, lt-ltb n limit h) (ap some (rw add-one (take-suc-set line n b (omega arith))))

  pub held-over : (n b : ℕ) → limit ≤ n → held_of limit line (limit + 1) ≡ grown limit (held_of limit line n) b
  unfolding grown
  held-over n b h = rw (lt-leb (limit + 1) limit (omega arith)) (test (leb n limit) refl)
    where
      test : (t : Bool) → leb n limit ≡ t → none ≡ grown limit (cond t (some (take n line)) none) b
      test true e =
          let l : length (take n line) ≡ limit = length-take-le n line (omega (arith, leb-true n limit e)) ∙ omega (arith, leb-true n limit e) in
          rw (l, le-ltb limit limit (omega arith))
      test false e = refl
