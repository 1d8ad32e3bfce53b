use Rattle.std.proofs.Common.{arith}
use Rattle.hs_expr.specs.Meaning.{tree_of}
use Rattle.hs_glushkov.proofs.CountLemmas.{count-written}
use Rattle.hs_rose.proofs.shape.position_count.Goals as goal

pub returns : goal.returns
returns c = omega (arith, c.positions.ensures, count-written (tree_of c.args.expr.now) c.requires.plain, c.requires.few)
