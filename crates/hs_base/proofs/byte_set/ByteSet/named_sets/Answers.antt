use Rattle.std.proofs.Common.{refl}
use Rattle.hs_base.specs.ByteSets.{has, members}
use Rattle.hs_base.proofs.byte_set.ByteSet.named_sets.Goals as goal

pub returns : goal.returns
unfolding has members
returns c = record { empty = refl; all = refl; not_newline = refl; digits = refl; word = refl; space = refl }
