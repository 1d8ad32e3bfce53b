use Rattle.std.proofs.Common.{◌∙◌, arith}
use Rattle.hs_lazy.proofs.PartLemmas.{part-beside, size-mid}
use Rattle.hs_lazy.proofs.steps.take_member.Goals as goal

pub returns-clause-others : goal.returns-clause-others
returns-clause-others g c other beside =
    part-beside c.args.image.now c.take_byte.new.region c.args.member other (omega (arith, c.requires.sized)) c.requires.within
    (c.take_byte.ensures.len ∙ (c.copy_from_slice.ensures.len ∙ size-mid c.args.member.start c.args.member.end c.args.image.now (omega (arith, c.requires.sized)) c.requires.within)) beside
