use Rattle.hs_reports.proofs.EndTableLemmas.{blank}
use Rattle.hs_reports.proofs.identifier_ends.IdentifierEnds.new.Goals as goal

pub returns : goal.returns
returns c = blank c.in_ok-vec.field-0.items c.in_ok-new.field-0 c.args.count (c.in_ok-vec.ensures.items_if_clones_equal (λ y is. is)) c.in_ok-new.ensures.none
