use Rattle.std.proofs.Common.{◌*◌, length, inl, inr, arith}
use Rattle.std.proofs.lemmas.Bool.{cases_lt}
use Rattle.hs_base.specs.Bits.{has_bit}
use Rattle.hs_base.proofs.BitLemmas.{bits-past}
use Rattle.hs_limex.proofs.PlainLemmas.{true-false}
use Rattle.hs_limex.proofs.far_filling.is_near.Goals as goal

pub returns : goal.returns
returns c is k set =
    elim (cases_lt k (8 * length c.args.row.now)) [
      | inl below ↦ c.loop-bit.invariant k (omega arith) set
      | inr past ↦ true-false (has_bit c.args.row.now k) set (bits-past c.args.row.now k past)
    ]
