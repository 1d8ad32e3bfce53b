use Rattle.std.proofs.Common.{take}
use Rattle.hs_reports.specs.EndTables.{AddsEnds}
use Rattle.hs_reports.proofs.identifier_ends.IdentifierEnds.add_all.Given as goal

abbrev pub invariant-loop-terminal : goal.invariant-loop-terminal
invariant-loop-terminal l = AddsEnds l.initial.self l.self (take l.terminal-index l.terminals) l.at l.before l.behind
