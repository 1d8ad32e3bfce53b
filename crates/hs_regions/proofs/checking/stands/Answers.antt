use Rattle.std.proofs.Common.{sym, ◌∙◌}
use Rattle.hs_regions.proofs.PieceLemmas.{numbers-up}
use Rattle.hs_regions.proofs.checking.stands.Goals as goal

pub part-requires-clause-part : goal.part-requires-clause-part
part-requires-clause-part g c = c.requires.part (sym c.keeps.ensures ∙ c.if-not-keeps.false)

pub part-requires-clause-numbers : goal.part-requires-clause-numbers
part-requires-clause-numbers g c = numbers-up c.args.packing.now c.args.kept.now c.args.bound c.requires.numbers c.args.low c.if-low-bound.false
