use Rattle.hs_bits.proofs.ContextLemmas.{before-places}
use Rattle.hs_bits.proofs.contexts.Contexts.places_before.Goals as goal

pub returns : goal.returns
returns c prev bytes are =
    before-places c.args.mask prev bytes c.part.result c.part-2.result c.part-3.result c.part-4.result (c.part.ensures prev bytes are) (c.part-2.ensures prev bytes are) (c.part-3.ensures prev bytes are)
    (c.part-4.ensures prev bytes are)
