use Rattle.hs_kept.specs.Builders.{places_in_list}
use Rattle.hs_kept.proofs.CandidateLemmas.{all-added, next-added, next-buildable}
use Rattle.hs_kept.proofs.builder.PackingBuilder.add_chains.Goals as goal

pub add_chain-requires : goal.add_chain-requires
add_chain-requires c = next-buildable c.args.chains.now c.loop-chain.chain-index c.chain-item.result c.requires c.loop-chain-test.true c.chain-item.is

pub loop-chain-preserved : goal.loop-chain-preserved
loop-chain-preserved c before was =
    next-added c.loop-chain.self c.add_chain.new.self before c.args.chains.now c.loop-chain.chain-index c.chain-item.result c.loop-chain-test.true c.chain-item.is
    (c.loop-chain.invariant before was) c.in_ok-add_chain.ensures

pub returns : goal.returns
returns c before was =
    all-added c.loop-chain.self before c.args.chains.now c.loop-chain.chain-index c.loop-chain-test.false (c.loop-chain.invariant (places_in_list before) was)
