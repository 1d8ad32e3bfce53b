use Rattle.hs_base.proofs.SpanLemmas.{spans-shorter}
use Rattle.hs_base.proofs.stream_laws.spans_need_no_later_byte.Goals as goal

pub returns : goal.returns
returns c = spans-shorter
