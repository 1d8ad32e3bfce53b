use Rattle.hs_base.proofs.SpanLemmas.{spans-longer}
use Rattle.hs_base.proofs.stream_laws.spans_stay.Goals as goal

pub returns : goal.returns
returns c = spans-longer
