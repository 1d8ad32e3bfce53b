use Rattle.hs_block.proofs.SquareLemmas.{square-places}
use Rattle.hs_block.proofs.before_tables.square_places.Goals as goal

pub returns : goal.returns
returns c prev bytes are =
    square-places c.args.contexts.now prev c.prev_of.result c.class_of.result bytes c.args.square c.behind_prev.result c.among.result c.of-class.result are c.requires c.prev_of.ensures c.class_of.ensures.class
    c.behind_prev.ensures c.among.ensures c.of-class.ensures
