use Rattle.std.proofs.Common.{◌∙◌, sym}
use Rattle.hs_base.proofs.BitOnceLemmas.{bits-once}
use Rattle.hs_base.proofs.kept_laws.bits_once.Goals as goal

pub returns : goal.returns
returns c size xs ys are are2 both = bits-once xs ys (are.count ∙ sym are2.count) are.each are2.each both
