use Rattle.std.proofs.Common.{sym, refl}
use Rattle.hs_forest.proofs.GrowingLemmas.{grown-found}
use Rattle.hs_forest.proofs.growing.Growing.child.Goals as goal

pub returns-in-Some : goal.returns-in-Some
returns-in-Some c = λ paths front. grown-found c.args.self.now _ paths c.args.parent c.args.key c.in-Some.node.now front refl (sym c.in-Some.ensures.value)
