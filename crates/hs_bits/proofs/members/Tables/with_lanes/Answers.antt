use Rattle.hs_bits.specs.MemberPlaces.{in_tables}
use Rattle.hs_bits.proofs.MemberLemmas.{more-places}
use Rattle.hs_bits.proofs.members.Tables.with_lanes.Goals as goal

pub returns : goal.returns
returns c test same before =
    more-places (in_tables c.args.self.now.first c.args.self.now.second) test c.args.bytes.now c.args.at c.args.places c.lane_places.result same c.type_inv.bytes c.requires.within c.requires.few before c.lane_places.ensures
