use Rattle.std.proofs.Common.{arith}
use Rattle.hs_text.proofs.CommandLemmas.{each_name_byte_at}
use Rattle.hs_text.proofs.command_lines.are_name_bytes.Goals as goal

pub returns : goal.returns
returns c =
    each_name_byte_at c.args.bytes.now (λ k below. c.loop-byte.invariant.each k (let end = c.loop-byte-test.false in omega (arith, end, below)))
