use Rattle.std.proofs.Common.{ℕ, Option, map, subst, arith}
use Rattle.std.proofs.lemmas.Option.{slice_get-get_or}
use Rattle.hs_rose.specs.LiteralRoles.{IsRoleAdded}
use Rattle.hs_rose.specs.LiteralRoles.{role_numbers}
use Rattle.hs_rose.proofs.RoleListLemmas.{lists-step}
use Rattle.hs_rose.proofs.literals.roles_of_literals.Goals as goal

pub loop-number-preserved : goal.loop-number-preserved
loop-number-preserved c =
    lists-step c.args.roles.now c.args.count c.loop-number.number _ (map role_numbers c.loop-number.lists.items) (map role_numbers c.add_role.new.lists.items) (omega arith)
    (slice_get-get_or c.args.roles.now c.loop-number.number _ (omega arith)) c.loop-number.invariant
    (subst (λ (l : Option ℕ). IsRoleAdded (map role_numbers c.loop-number.lists.items) l c.loop-number.number (map role_numbers c.add_role.new.lists.items)) c.literal.ensures c.in_ok-add_role.ensures)
