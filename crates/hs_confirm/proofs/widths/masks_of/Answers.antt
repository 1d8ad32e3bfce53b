use Rattle.std.proofs.Common.{◌∙◌, arith, length-set}
use Rattle.hs_confirm.proofs.FilingLemmas.{mask-step}
use Rattle.hs_confirm.proofs.widths.masks_of.Goals as goal

pub loop-bucket-preserved : goal.loop-bucket-preserved
loop-bucket-preserved c = record {
  eight = length-set c.loop-bucket.masks c.loop-bucket.bucket c.mask_of.result ∙ c.loop-bucket.invariant.eight;
  masks = mask-step c.args.widths.now c.loop-bucket.masks c.loop-bucket.bucket c.mask_of.result (omega arith) c.mask_of.ensures c.loop-bucket.invariant.masks;
}
