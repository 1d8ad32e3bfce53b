use Rattle.std.proofs.Common.{◌∙◌, length, ap, arith}
use Rattle.hs_base.specs.Regions.{region_offset}
use Rattle.hs_stream.specs.Streams.{region_of}
use Rattle.hs_stream.proofs.EmptyLemmas.{offset-there}
use Rattle.hs_stream.proofs.stream.Stream.offset.Goals as goal

pub offset_in-requires : goal.offset_in-requires
offset_in-requires c =
    let there = offset-there c.args.db.now (region_of c.args.self.now) c.packing-packing.ensures.whole c.requires.fits.region in
    let same = ap length c.deref.ensures.value in
    record { there = omega (arith, there, same) }

pub returns : goal.returns
returns c = c.offset_in.ensures ∙ ap region_offset c.deref.ensures.value
