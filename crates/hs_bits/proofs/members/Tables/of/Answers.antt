use Rattle.std.proofs.Common.{◌∙◌}
use Rattle.hs_bits.proofs.MemberLemmas.{tables-tell}
use Rattle.hs_bits.proofs.members.Tables.of.Goals as goal

pub returns : goal.returns
returns c b small =
    tables-tell c.words.result c.table_of.result c.table_of-2.result b small c.table_of.ensures.low c.table_of.ensures.high c.table_of-2.ensures.low c.table_of-2.ensures.high ∙ c.words.ensures b
