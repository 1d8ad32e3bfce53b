use Rattle.std.proofs.Common.{length}
use Rattle.hs_compile.proofs.WakeLemmas.{engines-moved, wakes-sound}
use Rattle.hs_compile.proofs.graph_wakes.wake_table.Goals as goal

pub returns-clause-sound : goal.returns-clause-sound
returns-clause-sound c =
    wakes-sound c.args.nodes.now c.args.literals _ c.requires c.in_ok-groups.ensures
    (engines-moved c.args.nodes.now (length c.args.nodes.now) _ _ c.in_ok-first_engines.ensures c.in_ok-listed.ensures)
