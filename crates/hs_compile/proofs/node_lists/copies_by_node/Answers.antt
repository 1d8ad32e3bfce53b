use Rattle.std.proofs.Common.{◌≡◌, length, ap, subst, sym, ◌∙◌, arith}
use Rattle.hs_compile.proofs.CopiedLemmas.{copied-owners, grouped-copies}
use Rattle.hs_compile.specs.GraphNodes.{nodes_copied}
use Rattle.hs_forest.specs.Groups.{AreGroups, AreOwners}
use Rattle.hs_compile.proofs.node_lists.copies_by_node.Goals as goal

pub group-requires : goal.group-requires
group-requires c =
    let lists = c.args.lists.now in
    let are : c.deref-2.result.now ≡ nodes_copied lists.copies.items = c.deref-2.ensures.value ∙ (c.in_ok-owners.ensures ∙ ap nodes_copied c.deref.ensures.value) in
    let count : c.len.result ≡ length lists.nodes.items = omega (arith, c.len.ensures) in
    subst (λ n. AreOwners c.deref-2.result.now n) (sym count) (subst (λ os. AreOwners os (length lists.nodes.items)) (sym are) (copied-owners lists c.requires))

pub returns : goal.returns
returns c =
    let lists = c.args.lists.now in
    let are : c.deref-2.result.now ≡ nodes_copied lists.copies.items = c.deref-2.ensures.value ∙ (c.in_ok-owners.ensures ∙ ap nodes_copied c.deref.ensures.value) in
    let count : c.len.result ≡ length lists.nodes.items = omega (arith, c.len.ensures) in
    grouped-copies lists (record { starts = c.in_ok-groups.groups.starts; numbers = c.in_ok-groups.groups.list }) c.requires
    (subst (λ os. AreGroups os (length lists.nodes.items) c.in_ok-groups.groups.starts.items c.in_ok-groups.groups.list.items) are
    (subst (λ n. AreGroups c.deref-2.result.now n c.in_ok-groups.groups.starts.items c.in_ok-groups.groups.list.items) count c.in_ok-groups.ensures))
