use Rattle.std.proofs.Common.{◌≡◌, sym, subst, arith}
use Rattle.hs_compile.specs.GraphSteps.{AreStepsWithin}
use Rattle.hs_compile.proofs.StepLemmas.{chain-begun, chain-ended}
use Rattle.hs_compile.proofs.steps.keys_of_chain.Goals as goal

pub loop-i-init : goal.loop-i-init
loop-i-init c before count of =
    let t = c.args.program.now in
    let chain = c.chain_at-chain.result in
    subst (λ ks. AreStepsWithin t before c.args.number chain chain.first ks c.args.list.now.items) (sym c.new-keys.ensures.items)
    (chain-begun t before c.args.number chain c.chain_at-chain.ensures c.args.list.now.items count of)

pub loop-i-preserved : goal.loop-i-preserved
loop-i-preserved c before count of =
    c.in_ok-add_role.ensures before c.args.number c.chain_at-chain.ensures (c.loop-i.invariant before count of)

pub returns : goal.returns
returns c before count of =
    let t = c.args.program.now in
    let chain = c.chain_at-chain.result in
    let more = c.loop-i.keys.items in
    let steps = c.loop-i.list.items in
    let all : c.loop-i.i ≡ chain.end = omega (arith, c.loop-i-test.false, c.loop-i.auto.i-end (c.requires.ready.order c.args.number chain c.chain_at-chain.ensures)) in
    let within : AreStepsWithin t before c.args.number chain chain.end more steps = subst (λ n. AreStepsWithin t before c.args.number chain n more steps) all (c.loop-i.invariant before count of) in
    chain-ended t before c.args.number chain c.chain_at-chain.ensures c.requires.ready more steps within
