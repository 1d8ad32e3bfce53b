use Rattle.std.proofs.Common.{◌≡◌, ◌↔◌, ◌*◌, IsTrue, length, subst, arith}
use Rattle.hs_bits.specs.BitRanges.{HasBitIn}
use Rattle.hs_regions.proofs.CheckingLemmas.{row-told}
use Rattle.hs_regions.proofs.checking.is_row.Goals as goal

pub returns : goal.returns
returns c =
    let e : 8 * length c.args.row.now ≡ 32 = omega (arith, c.requires.row) in
    row-told c.args.row.now c.args.count c.args.at c.min-first.result c.requires.row c.requires.short c.min-first.ensures c.has_bit_in.result
    (subst (λ n. IsTrue c.has_bit_in.result ↔ HasBitIn c.args.row.now c.min-first.result n) e c.has_bit_in.ensures)
