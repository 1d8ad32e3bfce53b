use Rattle.std.proofs.Common.{◌≡◌, length, sym, subst, ◌∙◌, arith}
use Rattle.hs_compile.specs.GraphBuilding.{AreAllEnds}
use Rattle.hs_compile.specs.GraphLists.{AreChildren}
use Rattle.hs_compile.proofs.ChildLemmas.{forest-children}
use Rattle.hs_compile.proofs.NodeLemmas.{step-within, steps-count}
use Rattle.hs_compile.proofs.building.parts_of.Goals as goal

pub of_steps-requires-clause-count : goal.of_steps-requires-clause-count
of_steps-requires-clause-count c = steps-count c.args.program.now c.args.layout.now c.args.steps.now c.args.forest.now c.requires.are

pub of_steps-requires-clause-there : goal.of_steps-requires-clause-there
of_steps-requires-clause-there c = step-within c.args.program.now c.args.layout.now c.args.steps.now c.args.forest.now c.requires.are c.requires.fits

pub returns : goal.returns
returns c =
    let t = c.args.program.now in
    let forest = c.args.forest.now in
    let f = c.requires.are in
    let paths = f.forest_is.paths in
    let all = c.in_ok-nodes.ensures t f c.requires.ready in
    let nodes = c.in_ok-nodes.nodes.nodes.items in
    let starts : forest.child_starts ≡ c.in_ok-child_starts.child_starts.items = sym (c.in_ok-child_starts.ensures.items ∙ c.child_starts.ensures) in
    let children : forest.children ≡ c.in_ok-children.children.items = sym (c.in_ok-children.ensures.items ∙ c.children.ensures) in
    let size : length nodes ≡ length forest.parents = all.count ∙ f.forest_is.are_paths.count in record {
      parents = forest.parents;
      paths = paths;
      few = omega (arith, size, c.in_ok-ends.ensures.few);
      nodes = all;
      children = subst (λ cs. AreChildren nodes c.in_ok-child_starts.child_starts.items cs) children
          (subst (λ ss. AreChildren nodes ss forest.children) starts (forest-children nodes forest.parents forest.child_starts forest.children size all.parent f.forest_is.are_paths.earlier f.forest_is.children));
      ends = subst (λ n. AreAllEnds t paths n c.in_ok-ends.ends) (sym size) (c.in_ok-ends.ensures.are c.args.steps.now f);
    }
