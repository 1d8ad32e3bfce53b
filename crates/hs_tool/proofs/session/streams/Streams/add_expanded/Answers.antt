use Rattle.hs_tool.proofs.OpenLemmas.{puts-inserted}
use Rattle.hs_tool.proofs.session.streams.Streams.add_expanded.Goals as goal

pub returns-in-Ok-insert-clause-added : goal.returns-in-Ok-insert-clause-added
returns-in-Ok-insert-clause-added c =
    let inserted = c.in-Ok-insert.ensures in
    record {
      stream = c.in-Ok.stream;
      expanded = c.in-Ok.ensures;
      puts = puts-inserted c.in-Ok-from_slice.key c.in-Ok-insert.field-0 c.in-Ok-from_slice.ensures.items inserted.old c.requires.unknown inserted.updates inserted.len;
    }
