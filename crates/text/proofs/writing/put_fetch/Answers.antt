use Rattle.text.specs.Answers.{fetch-room, wrote-fetch}
use Rattle.text.proofs.writing.put_fetch.Goals as goal

pub put_changes-requires : goal.put_changes-requires
put_changes-requires c = record { count_in_bounds = fetch-room c.args.out.now c.args.at c.args.numbers.now c.args.values.now c.args.gone.now c.put_number-next.new.out c.put_number-next.result c.args.count c.requires.count_in_bounds c.put_number-next.ensures; count_in_bounds_2 = c.requires.count_in_bounds_2; count_in_bounds_3 = c.requires.count_in_bounds_3; count_in_bounds_4 = c.requires.count_in_bounds_4 }

pub returns : goal.returns
returns c = wrote-fetch c.args.out.now c.args.at c.args.numbers.now c.args.values.now c.args.gone.now c.put_number-next.new.out c.put_changes.new.out c.put_number-next.result c.put_changes.result c.args.count c.put_number-next.ensures c.put_changes.ensures
