use Rattle.std.proofs.Common.{ap, ◌∙◌}
use Rattle.hs_base.specs.Contexts.{Context}
use Rattle.hs_engine.specs.Between.{between}
use Rattle.hs_engine.specs.Rows.{in_square}
use Rattle.hs_block.proofs.TableLemmas.{square-there}
use Rattle.hs_block.proofs.before_tables.square_row.Goals as goal

pub returns-clause-bits : goal.returns-clause-bits
returns-clause-bits c y =
    let rows = c.args.follows.now in
    let here : Context = between c.prev_of.result c.class_of.result in
    c.row.ensures.bits y
    ∙ ap (λ k. in_square rows k c.args.position y) (square-there rows.by_context c.args.square here c.requires.square c.prev_of.ensures c.class_of.ensures.row)
