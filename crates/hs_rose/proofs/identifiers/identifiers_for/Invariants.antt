use Rattle.std.proofs.Common.{◌≡◌, map, take}
use Rattle.hs_rose.specs.Identifiers.{identifier_for}
use Rattle.hs_rose.proofs.identifiers.identifiers_for.Given as goal

abbrev pub invariant-loop-id : goal.invariant-loop-id
invariant-loop-id l = l.identifiers.items ≡ map (identifier_for l.many) (take l.id-index l.ids)
