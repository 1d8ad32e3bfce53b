use Rattle.std.proofs.Common.{◌≡◌, [], ◌∷◌, map, ap, sym, ◌∙◌, rules}
use Rattle.hs_base.specs.Trees.{class}
use Rattle.hs_expr.specs.Meaning.{tree_of}
use Rattle.hs_expr.proofs.TreeLemmas.{tree_of-Class}
use Rattle.hs_utf8.specs.Lowered.{alternatives}
use Rattle.hs_utf8.proofs.ByteLemmas.{members-none}
use Rattle.hs_utf8.proofs.set.alternatives.Goals as goal

pub returns : goal.returns
returns c =
    let none : c.args.parts.items ≡ [] = search (rules, c.in-None.ensures.items, c.in-None.ensures.cases, c.in-None.ensures.value) in
    tree_of-Class (record { words = 0 ∷ 0 ∷ 0 ∷ 0 ∷ [] }) ∙ ap class members-none ∙ ap (λ ps. alternatives (map tree_of ps)) (sym none)
