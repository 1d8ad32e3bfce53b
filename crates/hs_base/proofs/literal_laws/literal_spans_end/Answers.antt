use Rattle.hs_base.proofs.LiteralRowLemmas.{literal-spans_end}
use Rattle.hs_base.proofs.literal_laws.literal_spans_end.Goals as goal

pub returns : goal.returns
returns c = literal-spans_end
