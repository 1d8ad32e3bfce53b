use Rattle.hs_bits.proofs.ClassLaneLemmas.{classes-united}
use Rattle.hs_bits.proofs.contexts.Classes.with_lanes.Goals as goal

pub returns : goal.returns
returns c =
    classes-united c.args.bytes.now c.args.self c.of_lanes-more.result c.args.place c.requires.within c.requires.few c.requires.before c.of_lanes-more.ensures
