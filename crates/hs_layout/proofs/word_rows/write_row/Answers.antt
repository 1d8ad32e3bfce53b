use Rattle.std.proofs.Common.{◌≡◌, ◌+◌, ◌-◌, ◌*◌, ◌/◌, ◌&&◌, ◌≤◌, ltb, length, ap, subst, ◌∙◌, arith}
use Rattle.hs_base.specs.Bits.{has_word_bit}
use Rattle.hs_base.proofs.RegionLemmas.{range-size}
use Rattle.hs_layout.specs.Rows.{IsRowWritten}
use Rattle.hs_layout.proofs.RowLemmas.{one-more, stored}
use Rattle.hs_layout.proofs.WrittenLemmas.{part-mid}
use Rattle.hs_layout.proofs.word_rows.write_row.Goals as goal

pub loop-k-init : goal.loop-k-init
loop-k-init c =
    let region = c.args.region.now in
    let row = c.args.row.now in
    let at = c.args.from in
    let bytes = c.args.bits / 8 in
    let written = c.store.new.bytes in
    let e : at + bytes - at ≡ bytes = omega arith in
    let room : at + bytes ≤ length region = omega (arith, c.requires.room) in
    let wide = range-size region at (at + bytes) (omega arith) room ∙ e in
    subst (IsRowWritten at (8 * bytes) row region) (part-mid region written at (at + bytes) (omega arith))
    (stored region written row at bytes room (c.store.ensures.len ∙ wide) (λ k. c.store.ensures.bits k ∙ ap (λ n. ltb k (8 * n) && has_word_bit row k) wide))

pub loop-k-preserved : goal.loop-k-preserved
loop-k-preserved c =
    one-more c.args.from c.loop-k.k c.contains_word_bit.result c.args.row.now c.args.region.now c.loop-k.region c.set_bit.new.region c.contains_word_bit.ensures c.loop-k.invariant c.set_bit.ensures

pub returns : goal.returns
returns c =
    let last : c.loop-k.k ≡ c.args.bits = omega (arith, c.loop-k-test.false) in
    subst (λ n. IsRowWritten c.args.from n c.args.row.now c.args.region.now c.loop-k.region) last c.loop-k.invariant
