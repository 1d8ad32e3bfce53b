use Rattle.hs_tool.proofs.OpenLemmas.{puts-inserted}
use Rattle.hs_tool.proofs.session.streams.Streams.add.Goals as goal

pub returns-clause-added : goal.returns-clause-added
returns-clause-added c =
    let inserted = c.in_ok-insert.ensures in
    record {
      stream = c.in_ok-stream.stream;
      fits = c.in_ok-stream.ensures.fits;
      fresh = c.in_ok-stream.ensures.fresh;
      puts = puts-inserted c.in_ok-key.key c.in_ok-insert.field-0 c.in_ok-key.ensures.items inserted.old c.requires.unknown inserted.updates inserted.len;
    }
