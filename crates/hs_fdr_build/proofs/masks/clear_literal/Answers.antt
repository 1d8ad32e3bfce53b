use Rattle.std.proofs.Common.{◌≡◌, map, arith}
use Rattle.hs_base.specs.LiteralView.{literal_byte}
use Rattle.hs_fdr_build.specs.MaskPlaces.{IsPlaceOf}
use Rattle.hs_fdr_build.proofs.ClearLemmas.{from_below-more, clears-map}
use Rattle.hs_fdr_build.proofs.masks.clear_literal.Goals as goal

pub loop-j-preserved : goal.loop-j-preserved
loop-j-preserved c =
    from_below-more (λ j place b. (b ≡ c.args.bucket) × IsPlaceOf c.args.width (map literal_byte c.args.literal.now) j place) c.loop-j.j _ _ _ c.loop-j.invariant c.clear_place.ensures

pub returns : goal.returns
returns c =
    clears-map _ _ _ _
    (λ place b _ _ (j, below, it). (it.0, (j, omega arith, it.1)))
    (λ place b _ _ (same, it). (it.0, omega arith, (same, it.2)))
    c.loop-j.invariant
