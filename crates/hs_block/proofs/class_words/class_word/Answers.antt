use Rattle.std.proofs.Common.{length, arith}
use Rattle.std.specs.Prelude.{slice_index}
use Rattle.hs_base.specs.ByteSets.{has}
use Rattle.hs_bits.proofs.PlaceLemmas.{member-bit}
use Rattle.hs_block.proofs.class_words.class_word.Goals as goal

pub returns : goal.returns
returns c i below =
    member-bit c.member_places.result i (length c.args.bytes.now) (has c.args.set.now (slice_index c.args.bytes.now i)) (omega (arith, c.requires)) (c.member_places.ensures i)
