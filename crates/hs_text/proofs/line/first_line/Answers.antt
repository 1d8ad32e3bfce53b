use Rattle.hs_text.specs.Lines.{ended}
use Rattle.hs_text.proofs.line.first_line.Goals as goal

pub returns-in-Some : goal.returns-in-Some
returns-in-Some c =
    ended c.in-Some.raw.now c.in-Some.ensures.0 c.without_return-in-Some.ensures c.in-Some.ensures.1
