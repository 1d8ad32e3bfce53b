use Rattle.hs_base.specs.ContextSets.{has_context}
use Rattle.hs_bits.specs.BlockContexts.{context_before}
use Rattle.hs_bits.proofs.ContextLemmas.{everywhere-bit}
use Rattle.hs_block.proofs.mask_places.places_before.Goals as goal

pub returns-in-Some : goal.returns-in-Some
returns-in-Some c i small =
    let context = context_before c.args.prev c.args.whole.now i in
    everywhere-bit c.only_if.result i c.in-Some.everywhere (has_context c.args.mask context) small (c.only_if.ensures i) (c.in-Some.ensures context)
