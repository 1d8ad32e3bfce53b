use Rattle.std.proofs.Common.{◌≡◌, ℕ, ◌+◌, ◌-◌, ◌*◌, ◌∙◌, ap, arith, length}
use Rattle.hs_base.specs.Bits.{has_bit}
use Rattle.hs_limex.proofs.RegionWordLemmas.{last-word}
use Rattle.hs_limex.proofs.region_words.word_of.Goals as goal

pub returns-then-bytes-ge-WORD_BYTES : goal.returns-then-bytes-ge-WORD_BYTES
returns-then-bytes-ge-WORD_BYTES c i small =
    let bytes = c.args.bytes.now in
    let start : ℕ = 8 * c.args.place in
    let at : ℕ = length bytes - 8 in
    let shift : ℕ = start + 8 - length bytes in
    let ends : at + 8 ≡ length bytes = omega arith in
    let begins : start ≡ at + shift = omega arith in
    let same : 8 * start + i ≡ 64 * c.args.place + i = omega arith in
    last-word bytes c.word_at-then-bytes-ge-WORD_BYTES.result at start shift i c.word_at-then-bytes-ge-WORD_BYTES.type_inv c.word_at-then-bytes-ge-WORD_BYTES.ensures.bits ends begins ∙ ap (has_bit bytes) same
