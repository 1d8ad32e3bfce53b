use Rattle.std.proofs.Common.{arith}
use Rattle.hs_glushkov.specs.FollowTables.{is_followed}
use Rattle.hs_glushkov.proofs.PartLemmas.{class-added}
use Rattle.hs_glushkov.proofs.parts.Parts.add_class.Goals as goal

pub returns-clause-added : goal.returns-clause-added
returns-clause-added c =
    class-added c.args.self.now.sets.items c.args.self.now.enters.items c.args.self.now.accepts.items (is_followed c.args.self.now.follows) c.args.self.now.filled c.args.set
    c.all.result c.all-2.result c.empty.result
    (omega (arith, c.args.self.now.sets.ok.0)) (omega (arith, c.args.self.now.enters.ok.0)) (omega (arith, c.args.self.now.accepts.ok.0))
    c.requires.clear c.all.ensures c.all-2.ensures c.empty.ensures
