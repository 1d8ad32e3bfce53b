use Rattle.std.proofs.Common.{true, false, length, map, Vec, Global, ap, subst, ◌∙◌, arith}
use Rattle.std.proofs.lemmas.List.{length-map}
use Rattle.hs_base.specs.declared.literal.LitByte.{LitByte}
use Rattle.hs_base.specs.LiteralView.{literal_bytes}
use Rattle.hs_compile.specs.Arranging.{GivesNodes}
use Rattle.hs_compile.proofs.NumberingLemmas.{both-taken}
use Rattle.hs_compile.proofs.arranging.renumber.Goals as goal

pub returns : goal.returns
returns c =
    let olds = map literal_bytes c.args.named.now in
    let marks = c.args.openings.now in
    let nodes = c.args.nodes.now in
    let middle = c.take.new.nodes in
    let firsts = map literal_bytes c.take.new.self.literals.items in
    let news = map literal_bytes c.take-2.new.self.literals.items in
    both-taken olds firsts news _ _ marks nodes middle c.take-2.new.nodes
    (subst (λ ls. GivesNodes olds (map literal_bytes ls) firsts c.take.new.self.numbers.items marks false (length nodes) nodes middle) (ap (λ (v : Vec (Vec LitByte Global) Global). v.items) c.in_ok-first.ensures.literals ∙ c.new.ensures.items) c.in_ok-take.ensures)
    (subst (λ (v : Vec (Vec LitByte Global) Global). GivesNodes olds (map literal_bytes v.items) news c.take-2.new.self.numbers.items marks true (length middle) middle c.take-2.new.nodes) c.in_ok-second.ensures.literals c.in_ok-take-2.ensures) c.in_ok-others.others
    (omega (arith, c.in_ok-others.ensures.is, c.len.ensures, length-map c.take.new.self.literals.items literal_bytes, c.take.new.self.literals.ok.0))
    (omega (arith, c.in_ok-graph_number.ensures.is, c.in_ok-graph_number.ensures.few, c.len-2.ensures, length-map c.take-2.new.self.literals.items literal_bytes, c.take-2.new.self.literals.ok.0))
