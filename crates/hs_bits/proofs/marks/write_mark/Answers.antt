use Rattle.std.proofs.Common.{◌∙◌}
use Rattle.hs_bits.proofs.WordLemmas.{written-bit, kept-bit}
use Rattle.hs_bits.proofs.marks.write_mark.Goals as goal

pub returns-clause-put : goal.returns-clause-put
returns-clause-put c = written-bit c.args.words.now c.args.number c.with_bit-word.result c.requires ∙ c.with_bit-word.ensures.put

pub returns-clause-others : goal.returns-clause-others
returns-clause-others c = kept-bit c.args.words.now c.args.number c.with_bit-word.result c.requires c.with_bit-word.ensures.others
