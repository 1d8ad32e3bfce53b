use Rattle.std.proofs.Common.{arith}
use Rattle.hs_scan.proofs.writing.mark_nodes.Goals as goal

pub returns-clause-room : goal.returns-clause-room
returns-clause-room g c =
    let room = c.requires.room in
    record {
      room = record {
        count = room.room.count;
        clear = room.room.clear;
        room = omega (arith, room.room.room, c.mark_live.ensures.room);
        below = c.mark_live.ensures.below;
      };
      hits = room.hits;
      known = room.known;
      finals = room.finals;
      last = room.last;
      past = room.past;
    }
