use Prim.Native.Nat.{◌+◌}
use Rattle.std.proofs.Common.{rules}
use lib.ListN.{set}
use Rattle.sparse.specs.Places.{old_values_at}
use mathlib.Core.Path.{ap, ◌∙◌}
use Rattle.fetches.specs.Lists.{Lists}
use native.Mathlib.Omega.{arith}
use Rattle.fetches.specs.Listing.{listing, entries, news-same, news-none, news-listed}
use Rattle.fetches.proofs.listing.note_news.Goals as goal

pub returns-then-not-bytes-i : goal.returns-then-not-bytes-i
returns-then-not-bytes-i c = record { result_after = news-same c.args.words.now c.args.bytes.now _ c.args.i (listing c.args.reals.now (entries c.args.out.now) c.args.told) c.has_returned-back.ensures c.if-not-bytes-i.true; told_bound_2 = c.requires.told_bound; count_bound_2 = omega (arith, c.requires.count_bound); same = search rules }

pub returns-then-not-reals-i : goal.returns-then-not-reals-i
returns-then-not-reals-i c = record { result_after = news-none c.args.words.now c.args.bytes.now _ c.args.i (listing c.args.reals.now (entries c.args.out.now) c.args.told) c.has_returned-back.ensures c.constant_of-x.ensures c.if-not-reals-i.true; told_bound_2 = c.requires.told_bound; count_bound_2 = omega (arith, c.requires.count_bound); same = search rules }

pub gone_to-e-requires : goal.gone_to-e-requires
gone_to-e-requires c = record { g_le_most_gone = c.requires.gone_count_at_bound; e_le_g = c.requires.told_bound }

pub tell_gone-requires : goal.tell_gone-requires
tell_gone-requires c = record { a_le_b = c.gone_to-e.ensures.lower_bound; b_le_most_gone = omega (arith, c.gone_to-e.ensures.upper_bound, c.requires.gone_count_at_bound); a_bound = omega (arith, c.gone_to-e.ensures.lower_bound, c.gone_to-e.ensures.upper_bound, c.requires.gone_count_at_bound, c.requires.i_lt_most_variables, c.requires.count_bound) }

pub push-requires : goal.push-requires
push-requires c = omega (arith, c.tell_gone.ensures.count, c.gone_to-e.ensures.lower_bound, c.gone_to-e.ensures.upper_bound, c.requires.gone_count_at_bound, c.requires.i_lt_most_variables, c.requires.count_bound)

pub returns : goal.returns
returns c =
    record {
      result_after =
          ap (λ (m : Lists). listing (set c.args.reals.now (old_values_at + c.args.i) c.constant_of-x.result) m c.gone_to-e.result) c.push.ensures.after
          ∙ news-listed c.args.words.now c.args.bytes.now _ c.args.i (listing c.args.reals.now (entries c.args.out.now) c.args.told) c.has_returned-back.ensures c.constant_of-x.ensures _ _ _ _ c.if-not-bytes-i.false c.if-not-reals-i.false c.gone_to-e.ensures.value c.tell_gone.ensures.after;
      told_bound_2 = c.gone_to-e.ensures.upper_bound;
      count_bound_2 = let k = ap (λ (m : Lists). m.count) c.push.ensures.after in omega (arith, k, c.gone_to-e.ensures.lower_bound, c.tell_gone.ensures.count, c.requires.count_bound);
      same = search rules;
    }
