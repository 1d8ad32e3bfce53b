use Rattle.hs_bits.proofs.MemberLemmas.{entry-small, low-small, lane-places}
use Rattle.hs_bits.proofs.members.Tables.lane_places.Goals as goal

pub looked_up-requires : goal.looked_up-requires
looked_up-requires c k = entry-small c.args.lanes c.entries_of-entries.result k c.entries_of-entries.ensures

pub looked_up-requires-2 : goal.looked_up-requires-2
looked_up-requires-2 c k = entry-small c.args.lanes c.entries_of-entries.result k c.entries_of-entries.ensures

pub looked_up-bits-requires : goal.looked_up-bits-requires
looked_up-bits-requires c k = low-small c.args.lanes c.low_bits.result k c.low_bits.ensures

pub returns : goal.returns
returns c =
    lane-places c.args.self.now.first c.args.self.now.second c.args.lanes c.entries_of-entries.result c.looked_up.result c.looked_up-2.result c.by_half-members.result c.low_bits.result c.looked_up-bits.result
    c.fits-lanes.0 c.fits-lanes.1
    c.entries_of-entries.ensures c.looked_up.ensures c.looked_up-2.ensures c.by_half-members.ensures c.low_bits.ensures c.looked_up-bits.ensures
