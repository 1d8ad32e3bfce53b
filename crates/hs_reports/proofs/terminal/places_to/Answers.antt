use Rattle.hs_reports.proofs.WordBitLemmas.{places-to, places-all}
use Rattle.hs_reports.proofs.terminal.places_to.Goals as goal

pub returns-then-last-lt63 : goal.returns-then-last-lt63
returns-then-last-lt63 c i below = places-to c.args.last i c.if-last-lt63.true

pub returns-else-last-lt63 : goal.returns-else-last-lt63
returns-else-last-lt63 c i below = places-all c.args.last i c.if-last-lt63.false below
