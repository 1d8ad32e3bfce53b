use Rattle.hs_pieces.proofs.SpanLemmas.{chains-spans}
use Rattle.hs_pieces.proofs.laws.chains_have_spans.Goals as goal

pub returns : goal.returns
returns c = chains-spans
