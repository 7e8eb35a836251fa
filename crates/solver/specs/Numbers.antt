-- The numbers that a call hands in, of any pack: those of its types. Assumes nothing.
use Rattle.std.specs.Prelude.{ℕ, zero, suc, ◌≤◌, ◌≡◌, Bool, cond, leb, get_or}
use Rattle.std.proofs.Math.Path.{refl}
use Rattle.std.proofs.Math.Bool.{true, false}
use mathlib.Core.List.{List, [], ◌∷◌, ◌++◌}
use Rattle.std.proofs.Common.{le-leb}
use Rattle.laws.specs.Lists.{list_of}
use Rattle.layout.specs.Copy.{most16}
use Rattle.keeps.specs.Lists.{All, all_append}
use Rattle.keeps.specs.Fits.{all_map}
use Rattle.layout.specs.Layout.{term_room}
use Rattle.sparse_test.specs.narrow.Numbers.{is_u32}
use Rattle.sparse_test.specs.narrow.NearAdd.{TermNamed}
use Rattle.sparse_test.specs.narrow.Tabled.{all-tab}
use Rattle.changes.specs.declared.terms.Term.{Term}
use Rattle.changes.specs.declared.terms.Pack.{Pack}
use Rattle.changes.specs.terms.Terms.{no_term, term_of, terms_in, term_in, zero_term, shown_in, past_in, listed}

pub of-u32 : (n : ℕ) → n ≤ 4294967295 → is_u32 n ≡ true
unfolding is_u32
of-u32 n h = le-leb n 4294967295 h

abbrev pub Numbered : Term → Type 0
Numbered t = is_u32 t.variable ≡ true

nth : (ns : List ℕ) (j : ℕ) → All (λ (n : ℕ). is_u32 n ≡ true) ns → is_u32 (get_or ns j 0) ≡ true
nth [] j h = unfold is_u32 in refl
nth (n ∷ ns) zero h = h.0
nth (n ∷ ns) (suc j) h = nth ns j h.1

module _ (p : Pack) (small : All (λ (n : ℕ). is_u32 n ≡ true) p.vars) where
  shown : All Numbered (shown_in p)
  unfolding shown_in list_of term_in
  shown = all-tab Numbered (term_in p) 0 (most16 p.count) (λ j a b. nth p.vars j small)

  past : All Numbered (past_in p)
  unfolding past_in is_u32
  past = go p.finite (leb p.count term_room)
    where
      go : (a b : Bool) → All Numbered (cond a (cond b [] (zero_term ∷ [])) (no_term ∷ []))
      go true true = tt
      go true false = (refl, tt)
      go false b = (refl, tt)

  pub pack-named : All (TermNamed is_u32) (terms_in (listed p))
  unfolding terms_in listed term_of
  pack-named = all_map term_of (TermNamed is_u32) (shown_in p ++ past_in p) (all_append Numbered (shown_in p) (past_in p) shown past)
