use Rattle.std.proofs.Common.{◌<◌, ℕ, Option, map, slice_set, vec_len, sym, subst, arith}
use Rattle.std.specs.Option.{IfSome}
use Rattle.hs_rose.specs.LiteralRoles.{IsRoleAdded}
use Rattle.hs_rose.specs.LiteralRoles.{role_numbers}
use Rattle.hs_rose.proofs.ListLemmas.{read-get}
use Rattle.hs_rose.proofs.RoleListLemmas.{role-added}
use Rattle.hs_rose.proofs.literals.add_role.Goals as goal

pub returns : goal.returns
returns c =
    let lists = c.args.lists.now.items in
    let k = c.in-Some.literal in
    let below : k < vec_len c.args.lists.now = subst (λ (l : Option ℕ). IfSome l (λ n. n < vec_len c.args.lists.now)) c.in-Some.is c.requires in
    subst (λ (l : Option ℕ). IsRoleAdded (map role_numbers lists) l c.args.number (map role_numbers (slice_set lists k c.push.new.self))) (sym c.in-Some.is)
    (role-added lists k c.args.number c.index_mut.result.now c.push.new.self (read-get lists k c.index_mut.result.now (omega (arith, below, c.args.lists.now.ok.0)) c.index_mut.ensures.value) c.in_ok-push.ensures.items)
