use Rattle.hs_keeping.proofs.KeepingLemmas.{ends-written}
use Rattle.hs_keeping.proofs.keeping.write_ends.Goals as goal

pub returns : goal.returns
returns c = ends-written c.args.layout.now c.args.here.now c.args.last.now c.args.region.now c.write_told_here.new.region c.write_finals.new.region c.write_told_here.ensures c.write_finals.ensures
