use Rattle.std.proofs.Common.{◌^◌, arith}
use Rattle.hs_base.specs.Literals.{takes}
use Rattle.hs_base.specs.LiteralView.{literal_byte}
use Rattle.hs_fdr_build.proofs.ColumnLemmas.{columns-are}
use Rattle.hs_fdr_build.proofs.clear.clear_last.Goals as goal

pub returns : goal.returns
returns c =
    columns-are (takes (literal_byte c.args.x.now)) c.bytes_of-one.result.0 c.bytes_of-one.result.1 c.further_count-count.result (2 ^ c.args.width) c.args.bucket _ _ _
    c.bytes_of-one.ensures (omega arith) (omega arith) c.further_count-count.ensures.share c.clear_column.ensures c.clear_column-2.ensures
