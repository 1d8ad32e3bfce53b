use Rattle.std.proofs.Common.{arith}
use Rattle.hs_utf8.proofs.LengthLemmas.{length-two, length-three_low, length-three_high, length-four}
use Rattle.hs_utf8.proofs.length.Length.of.Goals as goal

pub returns-in-0-to-2047 : goal.returns-in-0-to-2047
returns-in-0-to-2047 c = length-two c.args.code_point c.requires.low (omega arith)

pub returns-in-2048-to-55295 : goal.returns-in-2048-to-55295
returns-in-2048-to-55295 c = length-three_low c.args.code_point (omega arith) (omega arith)

pub returns-in-57344-to-65535 : goal.returns-in-57344-to-65535
returns-in-57344-to-65535 c = length-three_high c.args.code_point (omega arith) (omega arith)

pub returns-in_default : goal.returns-in_default
returns-in_default c = length-four c.args.code_point (omega arith) c.requires.high
