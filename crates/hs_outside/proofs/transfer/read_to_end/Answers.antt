use Rattle.std.proofs.Common.{◌∙◌, ◌++◌, take, arith, length-append}
use Rattle.std.proofs.lemmas.List.{length-take-le}
use Rattle.hs_outside.proofs.Taking.{Gave-append}
use Rattle.hs_outside.proofs.transfer.read_to_end.Goals as goal

pub returns-then-limit-len-clause-fault : goal.returns-then-limit-len-clause-fault
returns-then-limit-len-clause-fault g c =
    let reads = c.in-Ok.ensures.given in
    let piece = take c.in-Ok.n c.read.new.buf in (
      record {
        taken = c.loop-bytes.bytes.items ++ piece;
        longer = omega (arith, length-append c.loop-bytes.bytes.items piece, length-take-le c.in-Ok.n c.read.new.buf reads.within);
        given = Gave-append _ _ _ _ _ c.loop-bytes.invariant.given reads.given;
      },
      c.in-Ok.ensures.counted ∙ c.loop-bytes.invariant.counted,
    )

pub returns-then-is_err-clause-fault : goal.returns-then-is_err-clause-fault
returns-then-is_err-clause-fault g c = (
  record {
    taken = c.loop-bytes.bytes.items ++ take c.in-Ok.n c.read.new.buf;
    given = Gave-append _ _ _ _ _ c.loop-bytes.invariant.given c.in-Ok.ensures.given.given;
  },
  c.in-Ok.ensures.counted ∙ c.loop-bytes.invariant.counted,
)
