use Rattle.std.proofs.Common.{take, arith}
use Rattle.hs_states.proofs.SetLemmas.{packed-set, small-behind, taken-small}
use Rattle.hs_states.proofs.state_sets.push_set.Goals as goal

pub returns : goal.returns
returns c =
    let row = c.store.new.bytes in
    let is = c.in_ok-extend_from_slice.ensures.items in
    record {
      bytes = take c.args.width row;
      is = is;
      set = packed-set c.args.width c.args.positions.now row c.store.ensures.len c.requires (taken-small c.args.width row (small-behind c.args.sets.now.items (take c.args.width row) c.extend_from_slice.new.self.items is c.type_inv.sets) (omega (arith, c.store.ensures.len, c.requires))) c.store.ensures.bits;
    }
