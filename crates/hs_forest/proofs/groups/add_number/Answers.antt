use Rattle.std.proofs.Common.{◌<◌, ℕ, Option, map, slice_set, vec_len, sym, subst, arith}
use Rattle.std.specs.Option.{IfSome}
use Rattle.hs_forest.specs.Groups.{IsNumberAdded}
use Rattle.hs_forest.specs.Views.{numbers}
use Rattle.std.proofs.lemmas.Option.{slice_get_read}
use Rattle.hs_forest.proofs.GroupLemmas.{number-added}
use Rattle.hs_forest.proofs.groups.add_number.Goals as goal

pub returns : goal.returns
returns c =
    let lists = c.args.lists.now.items in
    let k = c.in-Some.owner in
    let below : k < vec_len c.args.lists.now = subst (λ (l : Option ℕ). IfSome l (λ n. n < vec_len c.args.lists.now)) c.in-Some.is c.requires in
    subst (λ (l : Option ℕ). IsNumberAdded (map numbers lists) l c.args.number (map numbers (slice_set lists k c.push.new.self))) (sym c.in-Some.is)
    (number-added lists k c.args.number c.index_mut.result.now c.push.new.self (slice_get_read lists (vec_len c.args.lists.now) k c.index_mut.result.now (omega (arith, c.args.lists.now.ok.0)) (omega (arith, below, c.args.lists.now.ok.0)) c.index_mut.ensures.value) c.in_ok-push.ensures.items)
