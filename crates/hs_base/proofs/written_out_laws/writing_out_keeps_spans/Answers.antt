use Rattle.hs_base.proofs.WrittenOutLemmas.{spans-written, written-spans}
use Rattle.hs_base.proofs.written_out_laws.writing_out_keeps_spans.Goals as goal

pub returns : goal.returns
returns c w ended t i j plain = (spans-written w ended t i j plain, written-spans w ended t i j plain)
