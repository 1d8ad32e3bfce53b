use Rattle.std.proofs.Common.{◌+◌, ◌++◌, length}
use Rattle.hs_literals.specs.Held.{held, held_buckets}
use Rattle.hs_literals.proofs.HitLoopLemmas.{hides-nothing, hits-told}
use Rattle.hs_literals.proofs.hit_rows.HitRows.find.Goals as goal

pub add_place-requires-clause-hides : goal.add_place-requires-clause-hides
add_place-requires-clause-hides c = hides-nothing (held c.args.literals.now) (held_buckets c.args.literals.now) (c.args.before.now ++ c.args.bytes.now) (length c.args.before.now + 0)

pub returns-clause-tells : goal.returns-clause-tells
returns-clause-tells c =
    hits-told (held c.args.literals.now) c.args.before.now c.args.bytes.now c.clear.new.self c.add_place.new.self c.add_inside.new.self c.args.self.now.count c.clear.ensures c.add_place.ensures c.add_inside.ensures
