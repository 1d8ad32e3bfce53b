use Rattle.std.proofs.Common.{◌∙◌, sym}
use Rattle.hs_limex.proofs.PlainLemmas.{set-below}
use Rattle.hs_nfa.proofs.plain.follow_one.Goals as goal

pub row-requires : goal.row-requires
row-requires c = set-below c.args.region.now c.args.follows.now.size c.args.position c.requires.clear (sym c.contains_bit.ensures ∙ c.if-contains_bit.true)
