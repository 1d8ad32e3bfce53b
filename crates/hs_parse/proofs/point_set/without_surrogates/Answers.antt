use Rattle.hs_parse.proofs.RangeLemmas.{without_surrogates}
use Rattle.hs_parse.proofs.point_set.without_surrogates.Goals as goal

pub returns : goal.returns
returns c =
    without_surrogates c.args.class.ranges.items c.in_ok-surrogates.surrogates.ranges.items c.in_ok-ranges.field-0.ranges.items
    c.in_ok-ranges.field-0.canonical c.in_ok-surrogates.ensures c.in_ok-ranges.ensures
