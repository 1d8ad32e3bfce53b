use Rattle.std.proofs.Common.{◌≡◌, ◌<◌, ◌+◌, length, slice_get, sym, ap, subst, ◌∙◌, refl, arith}
use Rattle.hs_base.specs.Lists.{Each}
use Rattle.hs_compile.specs.GraphBuilding.{AreAllEnds}
use Rattle.hs_compile.specs.GraphEnds.{AreTerminalsOf, end_nodes}
use Rattle.hs_forest.specs.Groups.{AreGroups}
use Rattle.hs_compile.proofs.EndLemmas.{end-owners, ends-are, numbers-known, owners-count}
use Rattle.hs_compile.proofs.graph_terminals.ChainEnds.of_program.Goals as goal

pub group-requires : goal.group-requires
group-requires c k p at =
    let count = c.in_ok-count.count in
    let lasts = c.last_nodes-lasts.result.now in
    let nodes_are : c.deref.result.now ≡ end_nodes count lasts = c.deref.ensures.value ∙ c.in_ok-nodes.ensures in
    end-owners count lasts
    (λ j n there. omega (arith, c.parents.ensures.whole.last_nodes j n (ap (λ xs. slice_get xs j) (sym c.last_nodes-lasts.ensures) ∙ there), c.in_ok-count.ensures.is, ap length c.parents.ensures.parents)) k p
    (ap (λ xs. slice_get xs k) (sym nodes_are) ∙ at)

pub terminals_of-requires-clause-there : goal.terminals_of-requires-clause-there
terminals_of-requires-clause-there c =
    let count = c.in_ok-count.count in
    let lasts = c.last_nodes-lasts.result.now in
    let nodes_are : c.deref.result.now ≡ end_nodes count lasts = c.deref.ensures.value ∙ c.in_ok-nodes.ensures in
    subst (λ ns. Each (λ number. number < length c.args.program.now.chains) ns) (sym c.deref-2.ensures.value)
    (numbers-known c.deref.result.now (count + 1) c.in_ok-groups.groups.starts.items c.in_ok-groups.groups.list.items (length c.args.program.now.chains)
    (ap length nodes_are ∙ (owners-count count lasts ∙ (ap length c.last_nodes-lasts.ensures ∙ c.requires.same))) c.in_ok-groups.ensures)

pub returns-clause-are : goal.returns-clause-are
returns-clause-are c steps f =
    let t = c.args.program.now in
    let forest = c.args.forest.now in
    let count = c.in_ok-count.count in
    let lasts = c.last_nodes-lasts.result.now in
    let starts = c.in_ok-groups.groups.starts.items in
    let list = c.in_ok-groups.groups.list.items in
    let terminals = c.in_ok-terminals.terminals.items in
    let lasts_are : lasts ≡ forest.last_nodes = c.last_nodes-lasts.ensures in
    let nodes_are : c.deref.result.now ≡ end_nodes count forest.last_nodes = c.deref.ensures.value ∙ (c.in_ok-nodes.ensures ∙ ap (end_nodes count) lasts_are) in
    let size : length forest.parents ≡ count = omega (arith, c.in_ok-count.ensures.is, ap length c.parents.ensures.parents) in
    let groups : AreGroups (end_nodes count forest.last_nodes) (count + 1) starts list = subst (λ os. AreGroups os (count + 1) starts list) nodes_are c.in_ok-groups.ensures in
    let are : AreTerminalsOf t forest.last_nodes count list terminals = subst (λ ls. AreTerminalsOf t ls count list terminals) lasts_are (subst (λ ns. AreTerminalsOf t lasts count ns terminals) c.deref-2.ensures.value c.in_ok-terminals.ensures) in
    subst (λ n. AreAllEnds t f.forest_is.paths n (record { terminals = c.in_ok-terminals.terminals; starts = c.in_ok-groups.groups.starts })) (sym size)
    (ends-are t c.requires.ready steps forest f count list starts terminals are groups (record { terminals = c.in_ok-terminals.terminals; starts = c.in_ok-groups.groups.starts }) refl refl c.requires.same size)
