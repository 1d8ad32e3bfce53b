use Rattle.std.proofs.Common.{map, arith}
use Rattle.std.proofs.lemmas.List.{length-map}
use Rattle.hs_base.specs.LiteralView.{literal_byte}
use Rattle.hs_confirm.proofs.KeyLemmas.{are_small, keys-own}
use Rattle.hs_confirm.proofs.filing.entry_of.Goals as goal

pub returns-clause-own : goal.returns-clause-own
returns-clause-own c = λ text offset full is fits ends.
    let literal = c.args.literal.now in
    let width = c.narrowed-own_width in
    keys-own width.result c.mask_of.result c.literal_key-2.result (map literal_byte literal) text offset full (are_small literal) (omega (arith, width.ensures.short, length-map literal literal_byte)) c.literal_key-2.ensures c.mask_of.ensures is fits ends
