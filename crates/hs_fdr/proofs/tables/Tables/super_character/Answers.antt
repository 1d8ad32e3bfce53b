use Rattle.std.proofs.Common.{◌≡◌, ◌+◌, ◌*◌, ◌%◌, ◌^◌, bit_and, ap, ◌∙◌, arith}
use Rattle.hs_fdr.proofs.TableLemmas.{super_character-is}
use Rattle.hs_fdr.proofs.tables.Tables.super_character.Goals as goal

pub returns-clause-value : goal.returns-clause-value
returns-clause-value c =
    let tables = c.args.self.now in
    let byte = c.args.byte in
    let after = c.args.after in
    let e : after * 256 % 2 ^ 64 ≡ after * 256 = omega arith in
    ap (λ n. bit_and (byte + n) tables.low_bits) e
    ∙ super_character-is tables.width tables.low_bits byte after tables.width_fits.0 tables.width_fits.1 tables.bits c.ranges.byte.fits c.ranges.after.fits
