use Rattle.hs_rose.specs.PieceEngines.{piece_meaning}
use Rattle.hs_regions.specs.Packed.{IsWellPacked, RunsSomePacked}
use Rattle.hs_stream.proofs.RunningLemmas.{as-three, three-as, whole-packed}
use Rattle.hs_stream.proofs.running.is_region.Goals as goal

pub well_formed-fits-requires : goal.well_formed-fits-requires
well_formed-fits-requires c =
    as-three c.args.db.now c.graph.ensures.graph c.layout.ensures.layout c.packing.ensures.packing (λ x l p. RunsSomePacked piece_meaning x l p) (whole-packed c.args.db.now c.graph.ensures.whole)

pub returns : goal.returns
returns c = (
  λ is. three-as c.args.db.now c.graph.ensures.graph c.layout.ensures.layout c.packing.ensures.packing (λ x l p. IsWellPacked piece_meaning x l p c.args.kept.now) (c.well_formed-fits.ensures.0 is),
  λ well.
      c.well_formed-fits.ensures.1 (as-three c.args.db.now c.graph.ensures.graph c.layout.ensures.layout c.packing.ensures.packing (λ x l p. IsWellPacked piece_meaning x l p c.args.kept.now) well),
)
