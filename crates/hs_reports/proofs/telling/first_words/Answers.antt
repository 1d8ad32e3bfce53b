use Rattle.std.proofs.Common.{true}
use Rattle.hs_reports.proofs.TellingLemmas.{words-none, words-lowest, none-either}
use Rattle.hs_reports.proofs.WordBitLemmas.{bit-at_one, bit-at_one_without}
use Rattle.hs_reports.proofs.telling.first_words.Goals as goal

pub returns-then-either-eq0 : goal.returns-then-either-eq0
returns-then-either-eq0 c first kept ends told here are =
    words-none true kept ends c.args.before c.args.behind are (none-either c.args.before c.args.behind c.if-either-eq0.true)

pub returns : goal.returns
returns c first kept ends told here are =
    words-lowest kept ends c.args.before c.args.behind _ _ c.lowest_bit.result told are c.lowest_bit.ensures.within c.lowest_bit.ensures.lowest
    (λ i below. bit-at_one c.args.before c.lowest_bit.result i c.lowest_bit.ensures.within)
    (λ i below. bit-at_one_without c.args.behind c.args.before c.lowest_bit.result i c.ranges.before.fits c.lowest_bit.ensures.within below)
