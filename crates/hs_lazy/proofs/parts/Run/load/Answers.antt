use Rattle.std.proofs.Common.{◌≤◌, length, ◌∙◌, rules}
use Rattle.hs_lazy.proofs.PartLemmas.{part-beside, size-mid}
use Rattle.hs_lazy.proofs.parts.Run.load.Goals as goal

pub returns-clause-others : goal.returns-clause-others
returns-clause-others c other beside =
    let within : c.args.member.end ≤ length c.args.self.now.image = search rules in
    part-beside c.args.self.now.image c.copy_from_slice.new.self c.args.member other c.requires.rising within
    (c.copy_from_slice.ensures.len ∙ size-mid c.args.member.start c.args.member.end c.args.self.now.image c.requires.rising within) beside
