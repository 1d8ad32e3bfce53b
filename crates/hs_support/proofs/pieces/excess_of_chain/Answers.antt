use Rattle.std.proofs.Common.{[]}
use Rattle.hs_base.specs.Items.{items_of}
use Rattle.hs_expr.specs.Meaning.{tree_of}
use Rattle.hs_support.proofs.PieceLemmas.{from-start}
use Rattle.hs_support.proofs.pieces.excess_of_chain.Goals as goal

pub returns : goal.returns
returns c =
    from-start c.new.result (items_of (tree_of c.args.expr.now)) c.finish.result
    c.new.ensures.found c.new.ensures.count c.new.ensures.run
    (c.walk_on.ensures [] c.finish.result c.finish.ensures)
