use Rattle.std.proofs.Common.{length, ◌∙◌, arith}
use Rattle.hs_limex.proofs.RegionWordLemmas.{one-kept}
use Rattle.hs_limex.proofs.region_words.store_row.Goals as goal

pub returns-then-this-eq1-clause-bits : goal.returns-then-this-eq1-clause-bits
returns-then-this-eq1-clause-bits g c k =
    c.store_word.ensures.bits k ∙ one-kept c.args.row.now (length c.args.bytes.now) k (omega (arith, c.requires.bytes, c.if-this-eq1.true))
