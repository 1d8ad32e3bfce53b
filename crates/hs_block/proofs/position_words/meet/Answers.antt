use Rattle.hs_block.proofs.PositionWordLemmas.{meet-rows}
use Rattle.hs_block.proofs.position_words.meet.Goals as goal

pub returns : goal.returns
returns c size few = meet-rows c.are_apart.result c.args.one.now c.args.other.now size c.are_apart.ensures few
