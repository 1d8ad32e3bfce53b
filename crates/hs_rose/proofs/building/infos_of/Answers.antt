use Rattle.std.proofs.Common.{refl, arith}
use Rattle.hs_rose.proofs.BuildLemmas.{info-more}
use Rattle.hs_rose.proofs.IdentifierLemmas.{known-id}
use Rattle.hs_rose.proofs.ListLemmas.{read-get}
use Rattle.hs_rose.proofs.building.infos_of.Goals as goal

pub place_of-requires-clause-known : goal.place_of-requires-clause-known
place_of-requires-clause-known c =
    known-id c.args.ids.now c.args.entries.now c.requires.known c.loop-entry.entry-index c.entry-item.result
    (read-get c.args.entries.now c.loop-entry.entry-index c.entry-item.result (omega arith) c.entry-item.is)

pub loop-entry-preserved : goal.loop-entry-preserved
loop-entry-preserved c =
    rw c.in_ok-push.ensures.items (info-more c.args.ids.now c.loop-entry.infos.items c.args.entries.now c.loop-entry.entry-index _ c.entry-item.result
    (read-get c.args.entries.now c.loop-entry.entry-index c.entry-item.result (omega arith) c.entry-item.is) (record { id = refl; place = c.place_of.ensures; flags = refl; least = refl; greatest = refl }) c.loop-entry.invariant)
