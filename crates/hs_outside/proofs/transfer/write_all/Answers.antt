use Rattle.std.proofs.Common.{◌∙◌, arith}
use Rattle.hs_outside.proofs.Counting.{Rose-after_same}
use Rattle.hs_outside.proofs.Sending.{sent_part_lent, sent_failed}
use Rattle.hs_outside.proofs.transfer.write_all.Goals as goal

pub loop-rest-preserved : goal.loop-rest-preserved
loop-rest-preserved g c = record {
  sent = sent_part_lent _ _ _ _ _ _ _ c.loop-rest.invariant.sent c.in-Ok.ensures.taken.taken (omega arith);
  counted = c.in-Ok.ensures.counted ∙ c.loop-rest.invariant.counted;
}

pub returns-in-Err : goal.returns-in-Err
returns-in-Err g c = record {
  cut = sent_failed _ _ _ _ _ c.loop-rest.invariant.sent c.in-Err.ensures.cut;
  failed = Rose-after_same _ _ _ c.loop-rest.invariant.counted c.in-Err.ensures.failed;
}
