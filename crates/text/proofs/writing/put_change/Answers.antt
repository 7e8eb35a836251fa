use Rattle.std.proofs.Common.{◌+◌, ◌<◌, ◌≤◌, eqb, [], ◌∷◌, ◌++◌, length, arith}
use Rattle.text.specs.Answers.{wrote_then, number_text, new_text, decimal-short}
use Rattle.text.proofs.writing.put_change.Goals as goal

pub put_number-b-requires : goal.put_number-b-requires
put_number-b-requires c =
    let h : c.put_byte-a.result + 20 ≤ length c.put_byte-a.new.out = omega (arith, c.put_byte-a.ensures.0, c.put_byte-a.ensures.1, c.requires) in
    h

pub put_byte-c-requires : goal.put_byte-c-requires
put_byte-c-requires c =
    let h : c.put_number-b.result < length c.put_number-b.new.out = omega (arith, c.put_number-b.ensures.0, c.put_number-b.ensures.1, c.put_byte-a.ensures.0, c.put_byte-a.ensures.1, c.requires, decimal-short 20 c.args.v) in
    h

pub put_new-requires : goal.put_new-requires
put_new-requires c =
    let h : c.put_byte-c.result + 16 ≤ length c.put_byte-c.new.out = omega (arith, c.put_byte-c.ensures.0, c.put_byte-c.ensures.1, c.put_number-b.ensures.0, c.put_number-b.ensures.1, c.put_byte-a.ensures.0, c.put_byte-a.ensures.1, c.requires, decimal-short 20 c.args.v) in
    h

pub returns : goal.returns
returns c = (wrote_then c.args.out.now c.put_byte-a.new.out c.put_new.new.out c.args.at c.put_byte-a.result c.put_new.result (32 ∷ []) ((number_text c.args.v) ++ ((58 ∷ []) ++ (new_text c.args.x (eqb c.args.gone 1)))) c.put_byte-a.ensures (wrote_then c.put_byte-a.new.out c.put_number-b.new.out c.put_new.new.out c.put_byte-a.result c.put_number-b.result c.put_new.result (number_text c.args.v) ((58 ∷ []) ++ (new_text c.args.x (eqb c.args.gone 1))) c.put_number-b.ensures (wrote_then c.put_number-b.new.out c.put_byte-c.new.out c.put_new.new.out c.put_number-b.result c.put_byte-c.result c.put_new.result (58 ∷ []) (new_text c.args.x (eqb c.args.gone 1)) c.put_byte-c.ensures c.put_new.ensures)))
