use Rattle.std.proofs.Common.{◌+◌, refl, arith}
use Rattle.std.proofs.lemmas.List.{take_all}
use Rattle.std.proofs.lemmas.Option.{slice_get-get_or}
use Rattle.hs_forest.proofs.BuilderLemmas.{chain-begun, chain-step, chain-ended}
use Rattle.hs_forest.proofs.builder.Builder.add_chain.Goals as goal

pub loop-key-init : goal.loop-key-init
loop-key-init c = λ chains built. chain-begun c.args.self.now chains c.args.chain.now built

pub loop-key-preserved : goal.loop-key-preserved
loop-key-preserved c = λ chains built.
    chain-step c.loop-key.self _ chains c.args.chain.now c.loop-key.key-index (c.loop-key.key-index + 1) _ c.in_ok-node.node c.loop-key.last (omega arith)
    (slice_get-get_or c.args.chain.now c.loop-key.key-index 0 (omega arith)) c.in_ok-node.ensures c.in_ok-push.ensures.items refl (c.loop-key.invariant chains built)

pub returns : goal.returns
returns c = λ chains built.
    chain-ended c.loop-key.self _ chains c.args.chain.now c.loop-key.key-index c.loop-key.last (take_all c.loop-key.key-index c.args.chain.now (omega arith)) refl refl c.in_ok-push-2.ensures.items (c.loop-key.invariant chains built)
