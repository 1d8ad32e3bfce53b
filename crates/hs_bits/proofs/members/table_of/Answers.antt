use Rattle.std.proofs.Common.{◌∙◌}
use Rattle.hs_bits.proofs.WordLemmas.{low-bytes, high-bytes}
use Rattle.hs_bits.proofs.MemberLemmas.{table-read}
use Rattle.hs_bits.proofs.members.table_of.Goals as goal

pub returns-clause-low : goal.returns-clause-low
returns-clause-low c k below =
    table-read c.to_le_bytes.result c.to_le_bytes-2.result c.args.low c.args.high k c.to_le_bytes.ensures c.to_le_bytes-2.ensures ∙ low-bytes c.args.low c.args.high k c.ranges.low.fits below

pub returns-clause-high : goal.returns-clause-high
returns-clause-high c k below =
    table-read c.to_le_bytes.result c.to_le_bytes-2.result c.args.low c.args.high _ c.to_le_bytes.ensures c.to_le_bytes-2.ensures ∙ high-bytes c.args.low c.args.high k c.ranges.high.fits
