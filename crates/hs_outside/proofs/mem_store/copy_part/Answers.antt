use Rattle.std.proofs.Common.{◌≡◌, ◌-◌, length, length-drop, take, drop, arith}
use Rattle.std.proofs.lemmas.List.{length-take}
use Rattle.std.proofs.lemmas.Grind.{common_steps}
use Rattle.hs_outside.proofs.Viewing.{ReadsAt-copied}
use Rattle.hs_outside.proofs.mem_store.copy_part.Goals as goal

pub returns-clause-read : goal.returns-clause-read
returns-clause-read c =
    let copied : c.copy_from_slice.new.self ≡ take c.min-n.result (drop c.min-start.result c.args.content.now) = grind (arith, common_steps) in
    let rest_len = length-take (length c.args.content.now - c.min-start.result) (drop c.min-start.result c.args.content.now) in
    ReadsAt-copied _ _ _ _ _ _ copied c.min-start.ensures (omega (arith, rest_len, length-drop c.min-start.result c.args.content.now))
