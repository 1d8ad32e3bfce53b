use Rattle.std.proofs.Common.{◌≡◌, ◌+◌, List, map, refl, sym, subst, ◌∙◌, arith}
use Rattle.std.proofs.lemmas.Option.{slice_get-get_or}
use Rattle.hs_base.specs.LiteralView.{literal_bytes}
use Rattle.hs_nodes.specs.declared.table.Node.{Node}
use Rattle.hs_compile.specs.declared.arranging.Numbering.{Numbering}
use Rattle.hs_compile.specs.Arranging.{GivesNodes}
use Rattle.hs_compile.proofs.NumberingLemmas.{bools-apart, bools-same, taken-more, taken-passed}
use Rattle.hs_compile.proofs.arranging.Numbering.take.Goals as goal
use Rattle.hs_compile.proofs.arranging.Numbering.take.Goals.{then-contains-wanted+in_ok-kind, else-contains-wanted}

pub loop-k-preserved : goal.loop-k-preserved
loop-k-preserved c =
    let k = c.loop-k.k in
    let olds = map literal_bytes c.args.named.now in
    let before = map literal_bytes c.args.self.now.literals.items in
    let news = map literal_bytes c.loop-k.self.literals.items in
    let marks = c.args.openings.now in
    let nodes = c.args.nodes.now in
    let goes : (n : Numbering) (owns : List Node) → c.if-contains-wanted.self ≡ n → c.if-contains-wanted.nodes ≡ owns → GivesNodes olds before (map literal_bytes n.literals.items) n.numbers.items marks c.args.wanted (k + 1) nodes owns →
    GivesNodes olds before (map literal_bytes c.if-contains-wanted.self.literals.items) c.if-contains-wanted.self.numbers.items marks c.args.wanted (k + 1) nodes c.if-contains-wanted.nodes =
    λ n owns one two takes. subst (λ (x : Numbering). GivesNodes olds before (map literal_bytes x.literals.items) x.numbers.items marks c.args.wanted (k + 1) nodes c.if-contains-wanted.nodes) (sym one)
    (subst (λ os. GivesNodes olds before (map literal_bytes n.literals.items) n.numbers.items marks c.args.wanted (k + 1) nodes os) (sym two) takes) in
    elim c.if-contains-wanted.branch [
      | then-contains-wanted+in_ok-kind w ↦
          goes _ _ w.self-is w.nodes-is
          (taken-more olds before news c.loop-k.self.numbers.items marks c.args.wanted k nodes c.loop-k.nodes c.loop-k.invariant _ _ _ _ _ (sym c.contains.ensures ∙ bools-same c.contains.result c.args.wanted w.if-contains-wanted.true)
          (slice_get-get_or c.loop-k.nodes k _ (omega (arith, c.loop-k-test.true, c.loop-k.invariant.nodes_are.count))) w.in_ok-kind.ensures refl refl refl refl)
      | else-contains-wanted w ↦ goes _ _ w.self-is w.nodes-is (taken-passed olds before news c.loop-k.self.numbers.items marks c.args.wanted k nodes c.loop-k.nodes c.loop-k.invariant (λ same. bools-apart c.contains.result c.args.wanted w.if-contains-wanted.false (c.contains.ensures ∙ same)))
    ]
