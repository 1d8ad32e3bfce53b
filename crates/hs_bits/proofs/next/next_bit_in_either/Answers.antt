use Rattle.std.proofs.Common.{◌≡◌, ℕ, ◌+◌, ◌*◌, ◌/◌, ◌%◌, ◌^◌, get_or, bit_or, refl, sym, ap, subst, arith}
use Rattle.std.specs.Slice.Scan.{HoldsNowhere}
use Rattle.hs_bits.specs.NextBits.{is_in_either, IsNextBitIn}
use Rattle.hs_bits.proofs.NextLemmas.{none-left, next-join, next-in_word}
use Rattle.hs_bits.proofs.next.next_bit_in_either.Goals as goal

pub returns-then-rest-eq0 : goal.returns-then-rest-eq0
returns-then-rest-eq0 c =
    let words = c.args.words.now in
    let row = c.args.row.now in
    let w : ℕ = c.args.from / 64 in
    let s : ℕ = c.args.from % 64 in
    let both : ℕ = bit_or (get_or words w 0) (get_or row w 0) in
    let start : 64 * w + s ≡ c.args.from = omega arith in
    next-join (is_in_either words row) c.args.from (64 * (w + 1)) c.args.end c.next_bit_from_word.result (omega arith)
    (subst (λ n. HoldsNowhere (is_in_either words row) n (64 * (w + 1))) start (none-left words row w s (both / 2 ^ s) (omega arith) refl c.if-rest-eq0.true))
    c.next_bit_from_word.ensures

pub returns : goal.returns
returns c =
    let words = c.args.words.now in
    let row = c.args.row.now in
    let w : ℕ = c.args.from / 64 in
    let s : ℕ = c.args.from % 64 in
    let both : ℕ = bit_or (get_or words w 0) (get_or row w 0) in
    let start : c.args.from ≡ 64 * w + s = omega arith in
    subst (IsNextBitIn (is_in_either words row) c.args.from c.args.end) (sym c.before-2.ensures)
    (next-in_word words row c.args.from w s (both / 2 ^ s) c.lowest_bit.result c.args.end (omega arith) refl c.lowest_bit.ensures.lowest
    (c.type_inv.words w).fits (c.type_inv.row w).fits (omega arith) (λ k above below. absurd (omega arith))
    (c.args.from + c.lowest_bit.result) (ap (λ n. n + c.lowest_bit.result) start))
