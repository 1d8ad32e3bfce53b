use Rattle.hs_expr.proofs.WidthLemmas.{within_widths}
use Rattle.hs_expr.proofs.laws.spans_are_within_widths.Goals as goal

pub returns : goal.returns
returns c = within_widths
