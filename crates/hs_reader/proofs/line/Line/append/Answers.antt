use Rattle.std.proofs.Common.{◌∙◌}
use Rattle.hs_reader.proofs.ReadLemmas.{kept-append}
use Rattle.hs_reader.proofs.line.Line.append.Goals as goal

pub returns : goal.returns
returns c = c.put.ensures ∙ kept-append c.args.self.now c.args.bytes.now c.room.result c.min-count.result c.room.ensures c.min-count.ensures
