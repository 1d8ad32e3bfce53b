use Rattle.std.proofs.Common.{◌≡◌, ◌+◌, ◌*◌, ◌%◌, bit_and, get_or, take, drop, ap, ◌∙◌, arith}
use Rattle.std.specs.Simd.Lanes.{number_l}
use Rattle.hs_fdr.proofs.TableLemmas.{super_character-is, pair-is}
use Rattle.hs_fdr.proofs.tables.Tables.super_character_at.Goals as goal

pub returns-clause-value : goal.returns-clause-value
returns-clause-value c =
    let tables = c.args.self.now in
    let bytes = c.args.bytes.now in
    let at = c.args.at in
    let byte = get_or bytes at 0 in
    let after = get_or bytes (at + 1) 0 in
    let byte_fits = (c.type_inv.bytes at).fits in
    let after_fits = (c.type_inv.bytes (at + 1)).fits in
    let pair : number_l 256 (take 2 (drop at bytes)) ≡ byte + after * 256 = pair-is bytes at c.requires in
    let short : (byte + after * 256) % 65536 ≡ byte + after * 256 = omega arith in
    ap (λ n. bit_and (n % 65536) tables.low_bits) pair
    ∙ ap (λ n. bit_and n tables.low_bits) short
    ∙ super_character-is tables.width tables.low_bits byte after tables.width_fits.0 tables.width_fits.1 tables.bits byte_fits after_fits
