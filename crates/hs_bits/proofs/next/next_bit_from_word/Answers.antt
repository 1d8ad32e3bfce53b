use Rattle.std.proofs.Common.{◌≡◌, ℕ, ◌+◌, ◌*◌, ◌/◌, ◌^◌, get_or, bit_or, sym, subst, arith}
use Rattle.std.specs.Slice.Scan.{HoldsNowhere}
use Rattle.hs_bits.specs.NextBits.{is_in_either, IsNextBitIn}
use Rattle.hs_bits.proofs.NextLemmas.{none-left, nowhere-join, next-in_word}
use Rattle.hs_bits.proofs.next.next_bit_from_word.Goals as goal

pub returns-then-either-ne0 : goal.returns-then-either-ne0
returns-then-either-ne0 c =
    let words = c.args.words.now in
    let row = c.args.row.now in
    let at : ℕ = c.loop-at.at in
    let both : ℕ = bit_or (get_or words at 0) (get_or row at 0) in
    let start : 64 * at ≡ 64 * at + 0 = omega arith in
    subst (IsNextBitIn (is_in_either words row) (64 * c.args.word) c.args.end) (sym c.before-then-either-ne0.ensures)
    (next-in_word words row (64 * c.args.word) at 0 both c.lowest_bit.result c.args.end (omega arith) (let e : both ≡ both / 2 ^ 0 = omega arith in e) c.lowest_bit.ensures.lowest
    (c.type_inv.words at).fits (c.type_inv.row at).fits (omega arith) (subst (HoldsNowhere (is_in_either words row) (64 * c.args.word)) start c.loop-at.invariant)
    (64 * at + c.lowest_bit.result) (omega arith))

pub loop-at-preserved : goal.loop-at-preserved
loop-at-preserved c =
    let words = c.args.words.now in
    let row = c.args.row.now in
    let at : ℕ = c.loop-at.at in
    let both : ℕ = bit_or (get_or words at 0) (get_or row at 0) in
    let start : 64 * at + 0 ≡ 64 * at = omega arith in
    nowhere-join (is_in_either words row) (64 * c.args.word) (64 * at) (64 * (at + 1)) c.loop-at.invariant
    (subst (λ n. HoldsNowhere (is_in_either words row) n (64 * (at + 1))) start (none-left words row at 0 both (omega arith) (let e : both ≡ both / 2 ^ 0 = omega arith in e) (omega arith)))
