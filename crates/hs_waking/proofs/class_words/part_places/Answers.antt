use Rattle.std.proofs.Common.{◌≡◌, ◌-◌, ◌*◌, ap, ◌∙◌, arith, nat_lt, min, length}
use Rattle.hs_waking.proofs.WordLemmas.{open-bit}
use Rattle.hs_waking.proofs.class_words.part_places.Goals as goal

pub returns : goal.returns
returns c i small =
    let len = length c.args.bytes.now in
    let start = 64 * c.args.block in
    let count : c.min-there.result ≡ min (len - start) 64 = omega (arith, c.min-there.ensures, c.saturating_sub.ensures) in
    open-bit c.block_places.result c.low_places.result len start i _ c.low_places.type_inv small (c.block_places.ensures i small) (λ k. c.low_places.ensures k ∙ ap (nat_lt k) count)
