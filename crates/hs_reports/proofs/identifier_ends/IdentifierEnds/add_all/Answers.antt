use Rattle.std.proofs.Common.{subst}
use Rattle.std.proofs.lemmas.List.{take_all}
use Rattle.hs_reports.specs.EndTables.{AddsEnds}
use Rattle.hs_reports.proofs.GatheringLemmas.{adds-nothing, adds-more}
use Rattle.hs_reports.proofs.identifier_ends.IdentifierEnds.add_all.Goals as goal

pub loop-terminal-init : goal.loop-terminal-init
loop-terminal-init c = adds-nothing c.args.self.now c.args.terminals.now c.args.at c.args.before c.args.behind

pub loop-terminal-preserved : goal.loop-terminal-preserved
loop-terminal-preserved c =
    adds-more c.args.self.now c.loop-terminal.self c.add.new.self c.args.terminals.now c.args.at c.args.before c.args.behind c.loop-terminal.terminal-index c.loop-terminal-test.true
    c.loop-terminal.invariant c.add.ensures

pub returns : goal.returns
returns c =
    subst (λ ts. AddsEnds c.args.self.now c.loop-terminal.self ts c.args.at c.args.before c.args.behind)
    (take_all c.loop-terminal.terminal-index c.args.terminals.now c.loop-terminal-test.false) c.loop-terminal.invariant
