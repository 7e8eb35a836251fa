use Rattle.std.proofs.Common.{ap, ◌∙◌, map}
use Rattle.reader.specs.second.Replies.{Reply}
use Rattle.knobharbor.specs.handed.Handed.{whole_at, reals_of}
use Rattle.knobharbor.proofs.handed.hand_over.Goals as goal

pub returns : goal.returns
returns c =
    let e = c.weighted_in-x.ensures in
    record {
      words_after = c.words_in.ensures;
      reals_after = c.reals_in.ensures ∙ ap (λ (x : Reply). reals_of x) e;
      variables_after = ap (λ (x : Reply). x.reading.variables) e;
      coefficients_after = c.wholes.ensures ∙ ap (λ (x : Reply). map whole_at x.reading.coefficients) e;
    }
