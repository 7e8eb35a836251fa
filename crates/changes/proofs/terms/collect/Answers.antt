use Rattle.std.specs.Prelude.{ℕ, ◌+◌, ◌≡◌, ◌<◌, List, length, get_or}
use Rattle.std.proofs.Math.Path.{refl}
use Rattle.std.proofs.Common.{arith, sym, ap, ◌∙◌}
use Rattle.std.proofs.Math.ListN.{drop}
use Rattle.std.proofs.Math.Seq.{drop-length}
use Rattle.std.proofs.lemmas.List.{drop_more}
use Rattle.changes.specs.declared.terms.Pack.{Pack}
use Rattle.changes.specs.declared.terms.Term.{Term}
use Rattle.changes.specs.terms.Terms.{no_term, pushed, pack_from, pack_of}
use Rattle.changes.proofs.terms.collect.Goals as goal

-- one more term is packed
packs : (ys : List Term) (i : ℕ) (d : Pack) (t : Term) (d' : Pack) → i < length ys → t ≡ get_or ys i no_term → d' ≡ pushed d t → pack_from d (drop i ys) ≡ pack_of ys → pack_from d' (drop (i + 1) ys) ≡ pack_of ys
unfolding pack_from
packs ys i d t d' small e e' h = rw (e', e) (sym (ap (pack_from d) (drop_more ys i no_term small)) ∙ h)

ended : (ys : List Term) (i : ℕ) (d : Pack) → i ≡ length ys → pack_from d (drop i ys) ≡ pack_of ys → d ≡ pack_of ys
unfolding pack_from
ended ys i d e h = sym (ap (pack_from d) (ap (λ (k : ℕ). drop k ys) e ∙ drop-length ys)) ∙ h

pub loop-t-init : goal.loop-t-init
unfolding pack_of
loop-t-init c = rw c.none-p.ensures refl

pub loop-t-preserved : goal.loop-t-preserved
loop-t-preserved c = packs _ _ _ _ _ (omega arith) refl c.push-p.ensures c.loop-t.invariant

pub returns : goal.returns
returns c = ended _ _ _ (omega arith) c.loop-t.invariant
