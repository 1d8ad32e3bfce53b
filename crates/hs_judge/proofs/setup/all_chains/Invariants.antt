use Rattle.std.proofs.Common.{◌≡◌, length, map}
use Rattle.hs_base.specs.Lists.{Each}
use Rattle.hs_rose.specs.Listing.{plain_chains}
use Rattle.hs_rose.specs.Runnable.{AreRunnable}
use Rattle.hs_judge.proofs.setup.all_chains.Given as goal

abbrev pub invariant-loop-entry : goal.invariant-loop-entry
invariant-loop-entry l = record {
  count : length l.chains.items ≡ l.entry-index;
  runnable : Each AreRunnable (map plain_chains l.chains.items);
}
