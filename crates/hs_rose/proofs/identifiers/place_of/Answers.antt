use Rattle.hs_rose.proofs.IdLemmas.{found-place, found-nothing}
use Rattle.hs_rose.proofs.identifiers.place_of.Goals as goal

pub unreachable-requires : goal.unreachable-requires
unreachable-requires c = found-nothing c.args.ids.now c.args.id c.in-Err.field-0 c.requires.rises c.in-Err.ensures.position c.requires.known

pub returns : goal.returns
returns c = found-place c.args.ids.now c.args.id c.in-Ok.place c.requires.rises c.in-Ok.ensures.position
