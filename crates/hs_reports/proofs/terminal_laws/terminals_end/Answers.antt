use Rattle.hs_reports.proofs.TerminalLemmas.{terminals-end}
use Rattle.hs_reports.proofs.terminal_laws.terminals_end.Goals as goal

pub returns : goal.returns
returns c pieces ids P terminals u bytes befores behinds asked p id before behind all asks named are =
    terminals-end pieces ids P terminals u bytes befores behinds asked all p id before behind asks named are
