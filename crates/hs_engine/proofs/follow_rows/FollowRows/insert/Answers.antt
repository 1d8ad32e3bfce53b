use Rattle.std.proofs.Common.{◌≡◌, ◌∙◌, ℕ, ◌+◌, ◌*◌, ◌/◌, ◌%◌, ◌^◌, ◌<◌, List, length, get_or, set, bit_or, ap, arith}
use Rattle.std.proofs.lemmas.Grind.{get_or_default_zero}
use Rattle.hs_base.specs.Bits.{has_bit}
use Rattle.hs_base.proofs.BitLemmas.{bit-with_bit, with_bit}
use Rattle.hs_engine.specs.Rows.{in_square}
use Rattle.hs_engine.proofs.RowLemmas.{inserted-square}
use Rattle.hs_engine.proofs.follow_rows.FollowRows.insert.Goals as goal

pub returns-clause-follows : goal.returns-clause-follows
unfolding in_square
returns-clause-follows c =
    let items : List ℕ = c.args.self.now.bits.items in
    let start : ℕ = c.start-start.result in
    let to : ℕ = c.args.to in
    let bit : ℕ = 8 * start + to in
    let place : start + to / 8 ≡ bit / 8 = omega arith in
    let spot : to % 8 ≡ bit % 8 = omega arith in
    let room : bit < 8 * length items = omega (arith, c.start-start.ensures.room, c.requires.to, c.args.self.now.bits.ok.0) in
    let within : start + to / 8 < length items = omega arith in
    let read : c.index_mut.result.now ≡ get_or items (start + to / 8) 0 =
    c.index_mut.ensures.value ∙ get_or_default_zero items (start + to / 8) c.index_mut.result.now within in
    let new : List ℕ = set items (start + to / 8) (bit_or c.index_mut.result.now (1 * 2 ^ (to % 8) % 2 ^ 8)) in
    let is : new ≡ with_bit items bit =
    ap (λ n. set items (start + to / 8) (bit_or n (1 * 2 ^ (to % 8) % 2 ^ 8))) read
    ∙ (ap (λ q. set items q (bit_or (get_or items q 0) (1 * 2 ^ (to % 8) % 2 ^ 8))) place
    ∙ ap (λ r. set items (bit / 8) (bit_or (get_or items (bit / 8) 0) (1 * 2 ^ r % 2 ^ 8))) spot) in
    inserted-square items new c.args.self.now.size c.args.square c.args.from to bit c.requires.from c.requires.to
    (ap (λ s. 8 * s + to) c.start-start.ensures.start)
    (λ b. ap (λ xs. has_bit xs b) is ∙ bit-with_bit items bit b room)
