use Rattle.hs_nodes.specs.Gathering.{AddsBusy}
use Rattle.hs_nodes.proofs.gathering.add_busy.Given as goal

abbrev pub invariant-loop-block : goal.invariant-loop-block
invariant-loop-block l = AddsBusy l.own l.block l.initial.busy l.busy
