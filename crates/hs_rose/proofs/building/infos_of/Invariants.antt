use Rattle.std.proofs.Common.{map, take}
use Rattle.std.specs.List.{AllZip}
use Rattle.hs_rose.specs.Listing.{asked_of}
use Rattle.hs_rose.specs.Programs.{IsInfoOf}
use Rattle.hs_rose.proofs.building.infos_of.Given as goal

abbrev pub invariant-loop-entry : goal.invariant-loop-entry
invariant-loop-entry l = AllZip (IsInfoOf l.ids) l.infos.items (map asked_of (take l.entry-index l.entries))
