use Rattle.std.proofs.Common.{◌≡◌, ◌+◌, ap, ◌∙◌, arith}
use Rattle.hs_bits.specs.WordBits.{word_bit}
use Rattle.hs_bits.proofs.PlaceLemmas.{none-from, none-before, further, set-there}
use Rattle.hs_bits.proofs.places.next_place.Goals as goal

pub returns-then-rest-eq0-clause-none : goal.returns-then-rest-eq0-clause-none
returns-then-rest-eq0-clause-none c i low high = none-from c.args.word c.args.from c.if-rest-eq0.true i low

pub returns-clause-none : goal.returns-clause-none
returns-clause-none c i low high =
    none-before c.args.word c.args.from c.lowest_bit.result c.lowest_bit.ensures.lowest i low (omega (arith, c.min.ensures))

pub returns-clause-further : goal.returns-clause-further
returns-clause-further c below unset =
    omega (arith, further c.args.word c.args.from c.lowest_bit.result c.lowest_bit.ensures.lowest unset, c.min.ensures)

pub returns-clause-set : goal.returns-clause-set
returns-clause-set c below =
    let e : c.min.result ≡ c.args.from + c.lowest_bit.result = omega (arith, c.min.ensures) in
    ap (word_bit c.args.word) e ∙ set-there c.args.word c.args.from c.lowest_bit.result c.lowest_bit.ensures.lowest
