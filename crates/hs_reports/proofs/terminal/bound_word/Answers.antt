use Rattle.hs_reports.proofs.WordBitLemmas.{bound-both, bound-none}
use Rattle.hs_reports.proofs.terminal.bound_word.Goals as goal

pub returns-then-greatest-at : goal.returns-then-greatest-at
returns-then-greatest-at c i below = bound-none c.args.least c.args.greatest c.args.at i c.if-greatest-at.true

pub returns : goal.returns
returns c i below =
    bound-both c.places_from.result c.places_to.result c.args.least c.args.greatest c.args.at c.saturating_sub.result i c.if-greatest-at.false c.saturating_sub.ensures
    (c.places_from.ensures i below) (c.places_to.ensures i below)
