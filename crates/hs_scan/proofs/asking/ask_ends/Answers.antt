use Rattle.std.proofs.Common.{sym, subst}
use Rattle.hs_literals.specs.Held.{held}
use Rattle.hs_scan.specs.Asking.{AsksEnds, AsksTable}
use Rattle.hs_scan.proofs.AskLemmas.{asks-ends}
use Rattle.hs_scan.proofs.asking.ask_ends.Goals as goal

pub returns-clause-asks : goal.returns-clause-asks
returns-clause-asks g c =
    let m = g.E.Engine.meaning in
    let graph = c.args.tables.now.graph.now in
    let literals = held c.args.tables.now.literals.now in
    let region = c.args.region.now in
    let next = c.args.next in
    let s = c.args.scratch.now in
    let s1 = c.find_hits.new.scratch in
    let s2 = c.ask_nodes.new.scratch in
    let found = c.find_hits.ensures in
    let one = subst (λ n. AsksTable m graph n s1.past region s1.hits.items next s2.finals) found.at_is c.ask_nodes.ensures.asks.asks in
    let two = subst (λ past. AsksTable m graph s.at past region s1.hits.items next s2.finals) found.past one in
    subst (λ t. AsksEnds m graph literals s.at s.past region next t) (sym c.forget.ensures.finals) (asks-ends m graph literals s.at s.past region s1.hits.items next s2.finals found.hits two)
