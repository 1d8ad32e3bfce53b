use Rattle.std.proofs.Common.{refl, arith}
use Rattle.hs_bits.proofs.WordLemmas.{none-under_alone, zero-row}
use Rattle.hs_engine.specs.Rows.{in_square}
use Rattle.hs_block.proofs.AnyLemmas.{true-false}
use Rattle.hs_block.proofs.TableLemmas.{square-past, with-all}
use Rattle.hs_block.proofs.before_tables.always_row.Goals as goal

pub loop-from-init : goal.loop-from-init
loop-from-init c = record {
  len = refl;
  each = λ y k is few. true-false _ is (zero-row 8 y);
  one = λ single y. none-under_alone y (in_square c.args.follows.now 0 y c.args.position) _ (zero-row 8 y);
}

pub returns-clause-one : goal.returns-clause-one
returns-clause-one c single y =
    let follows = c.args.follows.now in
    with-all c.loop-from.from follows.size y (in_square follows 0 y c.args.position) _ (omega arith) (λ past. square-past follows 0 y c.args.position past) (c.loop-from.invariant.one single y)
