use Rattle.hs_reports.proofs.TerminalLemmas.{ends-within}
use Rattle.hs_reports.proofs.terminal_laws.ends_are_within.Goals as goal

pub returns : goal.returns
returns c pieces ids P terminals u bytes befores behinds asked p before behind all asks are = ends-within pieces ids P terminals u bytes befores behinds asked all p before behind asks are
