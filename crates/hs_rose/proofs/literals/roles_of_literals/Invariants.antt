use Rattle.std.proofs.Common.{map, take}
use Rattle.hs_rose.specs.LiteralRoles.{AreRolesOfLiterals}
use Rattle.hs_rose.specs.LiteralRoles.{role_numbers}
use Rattle.hs_rose.proofs.literals.roles_of_literals.Given as goal

abbrev pub invariant-loop-number : goal.invariant-loop-number
invariant-loop-number l = AreRolesOfLiterals (take l.number l.roles) l.count (map role_numbers l.lists.items)
