use Rattle.std.proofs.Common.{◌≡◌, ◌+◌, ◌<◌, Some, None, length, slice_get, get_or, refl, sym, ap, subst, ◌∙◌, arith}
use Rattle.std.proofs.lemmas.Option.{slice_get-get_or}
use Rattle.hs_compile.specs.GraphNodes.{AreNodesTo}
use Rattle.hs_compile.proofs.NodeLemmas.{nodes-done, nodes-step}
use Rattle.hs_compile.proofs.node_lists.NodeLists.of_steps.Goals as goal

pub loop-k-preserved : goal.loop-k-preserved
loop-k-preserved c t f ready =
    let k = c.loop-k.k in
    let nodes = c.nodes-numbers.result.now in
    let parents = c.parents-parents.result.now in
    let number = get_or nodes k 0 in
    let below : k < length c.args.steps.now = omega (arith, c.loop-k-test.true) in
    let at : slice_get c.args.forest.now.nodes k ≡ Some number = ap (λ ns. slice_get ns k) (sym c.nodes-numbers.ensures) ∙ slice_get-get_or nodes k 0 (omega (arith, below, c.requires.count, ap length c.nodes-numbers.ensures)) in
    let inside = c.parents-parents.ensures.whole.nodes k number at in
    let parent : slice_get c.args.forest.now.parents number ≡ Some (get_or parents number None) =
    ap (λ ps. slice_get ps number) (sym c.parents-parents.ensures.parents) ∙ slice_get-get_or parents number None (omega (arith, inside, ap length c.parents-parents.ensures.parents)) in
    nodes-step t c.args.layout.now c.args.steps.now c.args.forest.now f ready k (k + 1) refl c.loop-k.lists c.add_step.new.self (c.loop-k.invariant t f ready) _ number (get_or parents number None) (slice_get-get_or c.args.steps.now k _ below) at parent c.in_ok-add_step.ensures

pub returns : goal.returns
returns c t f ready =
    let all : c.loop-k.k ≡ length c.args.steps.now = omega (arith, c.loop-k-test.false, c.loop-k.auto.k-end) in
    nodes-done t c.args.layout.now c.args.steps.now c.args.forest.now f c.loop-k.lists
    (subst (λ n. AreNodesTo t c.args.layout.now c.args.steps.now c.args.forest.now.nodes c.args.forest.now.parents f.forest_is.paths n c.loop-k.lists) all (c.loop-k.invariant t f ready))
