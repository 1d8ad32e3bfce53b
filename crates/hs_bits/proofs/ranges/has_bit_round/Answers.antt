use Rattle.std.proofs.Common.{◌≡◌, ◌∙◌, true, false, sym, arith, inl, inr}
use Rattle.hs_bits.proofs.BitRangeLemmas.{in-round, in-round_ahead, in-round_again, round-in}
use Rattle.hs_bits.proofs.ranges.has_bit_round.Goals as goal

pub returns-then-end-size : goal.returns-then-end-size
returns-then-end-size c = (
  λ told. in-round c.args.bytes.now c.args.size c.args.first c.args.count c.requires.first c.requires.count (c.has_bit_in.ensures.0 told) c.if-end-size.true,
  λ round. elim (round-in c.args.bytes.now c.args.size c.args.first c.args.count c.requires.first c.requires.count round) [
    | inl (some, _) ↦ c.has_bit_in.ensures.1 some
    | inr (_, long) ↦ absurd (omega arith)
  ],
)

pub returns-then-has_bit_in : goal.returns-then-has_bit_in
returns-then-has_bit_in c = (
  λ told. in-round_ahead c.args.bytes.now c.args.size c.args.first c.args.count c.requires.first c.requires.count (c.has_bit_in-2.ensures.0 told) c.if-end-size.false,
  λ round. c.if-has_bit_in.true,
)

pub returns-else-has_bit_in : goal.returns-else-has_bit_in
returns-else-has_bit_in c = (
  λ told. in-round_again c.args.bytes.now c.args.size c.args.first c.args.count c.requires.first c.requires.count (c.has_bit_in-else-has_bit_in.ensures.0 told),
  λ round. elim (round-in c.args.bytes.now c.args.size c.args.first c.args.count c.requires.first c.requires.count round) [
    | inl (_, ahead) ↦ absurd (let e : true ≡ false = sym (c.has_bit_in-2.ensures.1 (ahead c.if-end-size.false)) ∙ c.if-has_bit_in.false in cc)
    | inr (some, _) ↦ c.has_bit_in-else-has_bit_in.ensures.1 some
  ],
)
