use Rattle.std.proofs.Common.{◌*◌, arith, inl, inr, refl}
use Rattle.std.proofs.lemmas.Bool.{cases_lt}
use Rattle.hs_bits.proofs.BitRangeLemmas.{byte-bit, byte-bits}
use Rattle.hs_bits.proofs.ranges.has_byte_among.Goals as goal

pub returns-then-bytes-place-ne0 : goal.returns-then-bytes-place-ne0
returns-then-bytes-place-ne0 c = (
  λ _. byte-bit c.args.bytes.now c.loop-place.place c.args.first c.args.end (omega arith) (omega arith) (omega arith) c.if-bytes-place-ne0.true,
  λ _. refl,
)

pub loop-place-preserved : goal.loop-place-preserved
loop-place-preserved c k above below =
    elim (cases_lt k (8 * c.loop-place.place)) [
      | inl before ↦ c.loop-place.invariant k above before
      | inr here ↦ byte-bits c.args.bytes.now c.loop-place.place k c.if-bytes-place-ne0.false here (omega arith)
    ]
