use Rattle.std.proofs.Common.{◌&&◌, not, refl, ap, arith}
use Rattle.hs_base.specs.Bits.{has_word_bit}
use Rattle.hs_bits.proofs.WordLemmas.{none-under_alone, zero-row}
use Rattle.hs_engine.specs.Rows.{in_square}
use Rattle.hs_block.proofs.TableLemmas.{square-past, with-all}
use Rattle.hs_block.proofs.before_tables.rest_row.Goals as goal

pub loop-from-init : goal.loop-from-init
loop-from-init c = record {
  len = refl;
  bits = λ y. none-under_alone y (in_square c.args.follows.now c.args.square y c.args.position && not (has_word_bit c.args.always.now y)) _ (zero-row 8 y);
}

pub returns-clause-bits : goal.returns-clause-bits
returns-clause-bits c y =
    let follows = c.args.follows.now in
    with-all c.loop-from.from follows.size y (in_square follows c.args.square y c.args.position && not (has_word_bit c.args.always.now y)) _ (omega arith)
    (λ past. ap (λ b. b && not (has_word_bit c.args.always.now y)) (square-past follows c.args.square y c.args.position past)) (c.loop-from.invariant.bits y)
