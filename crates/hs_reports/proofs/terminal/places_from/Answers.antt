use Rattle.hs_reports.proofs.WordBitLemmas.{places-from, places-none}
use Rattle.hs_reports.proofs.terminal.places_from.Goals as goal

pub returns-then-first-lt64 : goal.returns-then-first-lt64
returns-then-first-lt64 c i below = places-from c.args.first i c.if-first-lt64.true below

pub returns-else-first-lt64 : goal.returns-else-first-lt64
returns-else-first-lt64 c i below = places-none c.args.first i c.if-first-lt64.false below
