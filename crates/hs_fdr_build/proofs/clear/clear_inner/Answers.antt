use Rattle.std.proofs.Common.{◌-◌, ◌^◌, arith}
use Rattle.hs_base.specs.Literals.{takes}
use Rattle.hs_base.specs.LiteralView.{literal_byte}
use Rattle.hs_fdr_build.proofs.ColumnLemmas.{pairs-are}
use Rattle.hs_fdr_build.proofs.clear.clear_inner.Goals as goal

pub returns : goal.returns
returns c =
    pairs-are (takes (literal_byte c.args.x.now)) (takes (literal_byte c.args.behind.now)) c.bytes_of-one.result.0 c.bytes_of-one.result.1 c.bytes_of-next.result.0 c.bytes_of-next.result.1
    c.args.first (2 ^ (c.args.width - 8)) c.args.bucket (omega arith) (omega arith) c.bytes_of-one.ensures c.bytes_of-next.ensures _ _ _ _ _
    c.clear_pair.ensures c.clear_pair-2.ensures c.clear_pair-3.ensures c.clear_pair-4.ensures
