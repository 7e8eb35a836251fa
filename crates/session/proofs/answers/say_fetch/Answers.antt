-- A fetch fills all of its three lists, and counts few enough of their places.
use Rattle.std.proofs.Common.{arith}
use Rattle.sparse.specs.Tables.{held}
use Rattle.session.specs.Said.{fetched-few, fetched-long, fetch-said}
use Rattle.session.proofs.answers.say_fetch.Goals as goal

pub put_fetch-requires : goal.put_fetch-requires
put_fetch-requires c =
    let a = c.args in
    let f = c.fetch_changes-f in
    let t = held a.tables.now in
    let few = fetched-few t f.result f.ensures in
    let long = fetched-long t f.result f.ensures in
    record {
      count_in_bounds = omega (arith, few);
      count_in_bounds_2 = omega (arith, few, long.0);
      count_in_bounds_3 = omega (arith, few, long.1);
      count_in_bounds_4 = omega (arith, few, long.2);
    }

pub returns-clause-spoken : goal.returns-clause-spoken
returns-clause-spoken c =
    let a = c.args in
    let f = c.fetch_changes-f in
    let w = c.put_fetch in
    fetch-said (held a.tables.now) f.result f.ensures a.out.now w.new.out a.at w.result w.ensures
