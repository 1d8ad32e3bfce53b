use Rattle.std.proofs.Common.{arith}
use Rattle.hs_repeat.proofs.LastBlockLemmas.{kept-places}
use Rattle.hs_repeat.proofs.last.Last.kept_places.Goals as goal

pub returns : goal.returns
returns c =
    kept-places c.args.self.now.nearest.bound c.args.distance c.args.class c.min-end.result c.next_place.result (omega arith) c.if-distance-eq0.false c.requires c.min-end.ensures c.next_place.ensures.high
    c.next_place.ensures.none c.next_place.ensures.set
