use Rattle.std.proofs.Common.{◌≡◌, ap, ◌∙◌}
use Rattle.std.specs.Prelude.{min}
use Rattle.std.proofs.lemmas.Bool.{not-true, not_from_false}
use Rattle.hs_bits.proofs.BitRangeLemmas.{denied}
use Rattle.hs_repeat.proofs.RingLemmas.{clash, fits-ring, ring-fits}
use Rattle.hs_repeat.proofs.ring.RingEngine.well_formed.Goals as goal

pub returns : goal.returns
returns c =
    let lesser : c.min-places.result ≡ min c.args.self.now.greatest c.args.at = c.min-places.ensures ∙ ap (λ n. min n c.args.at) c.from.ensures in (
      λ told. ring-fits c.args.self.now.greatest c.args.region.now c.args.at c.min-places.result lesser
          (λ some. clash c.has_bit_in.result (c.has_bit_in.ensures.1 some) (not-true c.has_bit_in.result told)),
      λ well. not_from_false c.has_bit_in.result
          (denied c.has_bit_in.result (λ is. fits-ring c.args.self.now.greatest c.args.region.now c.args.at c.min-places.result lesser well (c.has_bit_in.ensures.0 is))),
    )
