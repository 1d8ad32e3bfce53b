use Rattle.std.proofs.Common.{true, refl}
use Rattle.hs_reports.proofs.TerminalLemmas.{noted-concerned}
use Rattle.hs_reports.proofs.terminal_laws.noted_are_concerned.Goals as goal

pub returns : goal.returns
returns c pieces ids P terminals u bytes befores behinds before behind noted all are some rising =
    noted-concerned pieces ids P terminals u bytes befores behinds (λ p. true) all before behind noted (λ p. refl) are some rising
