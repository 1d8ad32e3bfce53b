use Rattle.std.proofs.Common.{◌-◌, arith}
use Rattle.hs_nodes.proofs.ChunkLemmas.{byte-own, byte-past}
use Rattle.hs_nodes.proofs.chunk.Chunk.byte_at.Goals as goal

pub returns-then-place-lt-PAST_BYTES : goal.returns-then-place-lt-PAST_BYTES
returns-then-place-lt-PAST_BYTES c = byte-past c.args.self.now.past.now c.args.self.now.bytes.now c.args.place (omega (arith, c.args.self.now.whole, c.if-place-lt-PAST_BYTES.true))

pub returns-else-place-lt-PAST_BYTES : goal.returns-else-place-lt-PAST_BYTES
returns-else-place-lt-PAST_BYTES c = byte-own c.args.self.now.past.now c.args.self.now.bytes.now c.args.place (c.args.place - 64) (omega (arith, c.args.self.now.whole, c.if-place-lt-PAST_BYTES.false))
