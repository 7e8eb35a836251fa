-- What the code's answers stand for, and what keeps its sums and tables within their bounds.
use Rattle.std.specs.Prelude.{ℕ, ◌+◌, ◌*◌, ◌≤◌, ◌<◌, ◌≡◌, Bool, List, length, get_or, nat_abs, Result, Ok, Err}
use Rattle.reader.specs.sums.Held.{held, value_of, Bounded}
use Rattle.grammar.specs.Sums.{Sums, Factor}
use Rattle.grammar.specs.Reader.{wanted, part, sum, inside, Outcome, read, halted, run_from}
use Rattle.grammar.specs.Descent.{rested, resumed}
use Rattle.reader.specs.declared.heads.Kind.{Kind}
use Rattle.reader.specs.declared.heads.Kind.TheVariants.{Number, Variable, Open}
use Rattle.reader.specs.declared.fault.Fault.{Fault}
use Rattle.reader.specs.declared.heads.Head.{Head}
use Rattle.reader.specs.declared.parts.Place.{Place}
use Rattle.reader.specs.declared.parts.Joint.{Joint}
use Rattle.reader.specs.declared.parts.Joint.TheVariants.{On, Last}
use Rattle.reader.specs.Faults.{number_of, place_of}
use Rattle.reader.specs.Heads.{factor, factor_of, comes_to, Placed}

-- the sums so far, as the tables and the place hold them
abbrev pub sums_of : List ℕ → List ℕ → Place → Sums
sums_of numbers sums p = record { constant = value_of p.constant; terms = held numbers sums p.count }

abbrev pub outcome_of : List ℕ → List ℕ → Result Place Fault → Outcome
outcome_of numbers sums (Ok p) = read p.at p.bare (sums_of numbers sums p)
outcome_of numbers sums (Err e) = halted (number_of e) (place_of e)

-- what was read, up to a later place
abbrev pub later : Place → ℕ → Bool → Place
later q next bare = record { at = next; bare = bare; count = q.count; constant = q.constant }

-- ---- bounds: a part takes a byte at least, and a variable three with the mark before it

pub record Small (numbers sums : List ℕ) (p : Place) : Type 0 where
  pub constant : nat_abs (value_of p.constant) ≤ 1099511627776 * p.at
  pub terms : Bounded (1048576 * p.at) (held numbers sums p.count)

pub record Ready (numbers sums : List ℕ) (p : Place) : Type 0 where
  pub room : 3 * p.count ≤ p.at
  pub small : Small numbers sums p

pub record Rests (w : List ℕ) (at : ℕ) (numbers sums : List ℕ) (p : Place) : Type 0 where
  pub later : at < p.at
  pub within : p.at ≤ length w
  pub room : 3 * p.count ≤ p.at + 1
  pub small : Small numbers sums p

abbrev pub Sound : List ℕ → ℕ → List ℕ → List ℕ → Result Place Fault → Type 0
Sound w at numbers sums (Ok p) = Rests w at numbers sums p
Sound w at numbers sums (Err e) = Unit {0}

-- a sum is read up to a byte that does not join a part to it
pub record Unjoined (w : List ℕ) (at : ℕ) : Type 0 where
  pub no-space : get_or w at 0 ≡ 32 → ⊥
  pub no_plus : get_or w at 0 ≡ 43 → ⊥
  pub no_minus : get_or w at 0 ≡ 45 → ⊥

abbrev pub Ended : List ℕ → Result Place Fault → Type 0
Ended w (Ok p) = Unjoined w p.at
Ended w (Err e) = Unit {0}

-- ---- a part that holds no sum

abbrev pub KindFits : ℕ → Kind → Type 0
KindFits at (Number n b bare) = (at < b) × (b ≤ 4096) × (n ≤ 1048576)
KindFits at (Variable v b bare) = (at + 1 < b) × (b ≤ 4096)
KindFits at (Open b) = Unit {0}

pub record LeafFits (at : ℕ) (h : Head) : Type 0 where
  pub kind : KindFits at h.kind
  pub small : h.factor.product ≤ 1048576

pub record LeafIs (s : Sums) (p : Place) (h : Head) (numbers sums : List ℕ) (q : Place) : Type 0 where
  pub outcome : (w : List ℕ) (room : ℕ) → read q.at q.bare (sums_of numbers sums q) ≡ comes_to w room (factor_of h.factor) s h.kind
  pub sound : (w : List ℕ) → Placed w p.at h.kind → Rests w p.at numbers sums q

-- ---- behind a sum in brackets, and behind a part in a sum

pub record CloseIs (w : List ℕ) (q : Place) (e : Result Place Fault) : Type 0 where
  pub outcome : (numbers sums : List ℕ) (f : Factor) (n : ℕ) → Unjoined w q.at → resumed w (inside f (part n)) (read q.at q.bare (sums_of numbers sums q)) ≡ outcome_of numbers sums e
  pub sound : (at : ℕ) (numbers sums : List ℕ) → Rests w at numbers sums q → Sound w at numbers sums e

pub record JoinsOn (w : List ℕ) (at : ℕ) (minus : Bool) (next : ℕ) (m : Bool) : Type 0 where
  pub later : at < next
  pub within : next ≤ length w
  pub outcome : (k : ℕ) (bare : Bool) (n : ℕ) (s : Sums) → run_from w at (rested bare) (sum n (factor minus k)) s ≡ run_from w next (wanted (factor m k)) (sum n (factor minus k)) s

pub record EndsAt (w : List ℕ) (at mark : ℕ) : Type 0 where
  pub later : at ≤ mark
  pub within : mark ≤ length w
  pub end : Unjoined w mark
  pub outcome : (f : Factor) (bare : Bool) (n : ℕ) (s : Sums) → run_from w at (rested bare) (sum n f) s ≡ read mark bare s

abbrev pub JointIs : List ℕ → ℕ → Bool → Joint → Type 0
JointIs w at minus (On next m) = JoinsOn w at minus next m
JointIs w at minus (Last mark) = EndsAt w at mark
