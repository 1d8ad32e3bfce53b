use Rattle.std.proofs.Common.{◌*◌}
use Rattle.std.specs.Slice.Scan.{HoldsNowhere}
use Rattle.hs_bits.specs.NextBits.{is_in_either}
use Rattle.hs_bits.proofs.next.next_bit_from_word.Given as goal

abbrev pub invariant-loop-at : goal.invariant-loop-at
invariant-loop-at l = HoldsNowhere (is_in_either l.words l.row) (64 * l.word) (64 * l.at)
