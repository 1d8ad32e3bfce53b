use Rattle.hs_base.specs.ContextSets.{has_context}
use Rattle.hs_bits.specs.BlockContexts.{context_before}
use Rattle.hs_block.proofs.StreamSettleLemmas.{entered-bit, entered-nowhere}
use Rattle.hs_block.proofs.streams.entered_places.Goals as goal

pub returns-then-entry-eq0 : goal.returns-then-entry-eq0
returns-then-entry-eq0 g c i below =
    entered-nowhere c.args.entry.now.enters (λ k. has_context c.args.mask (context_before c.args.entry.now.prev c.args.whole.now k)) c.if-entry-eq0.true i

pub returns : goal.returns
returns g c = entered-bit c.args.entry.now.enters c.places_before.result (λ k. has_context c.args.mask (context_before c.args.entry.now.prev c.args.whole.now k)) c.places_before.ensures
