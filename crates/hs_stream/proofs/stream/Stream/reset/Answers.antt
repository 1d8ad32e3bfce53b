use Rattle.std.proofs.Common.{◌∙◌, [], length, sym, ap, subst}
use Rattle.std.proofs.lemmas.List.{with_items_is}
use Rattle.hs_base.specs.Regions.{region_offset}
use Rattle.hs_reports.specs.Events.{Takes}
use Rattle.hs_stream.specs.Foreign.{MayEnd}
use Rattle.hs_stream.specs.Leading.{IsBehind, IsRegionOf}
use Rattle.hs_stream.proofs.EmptyLemmas.{empty-behind, empty-well, offset-zero}
use Rattle.hs_stream.proofs.stream.Stream.reset.Goals as goal

pub end_packed-requires-clause-kept : goal.end_packed-requires-clause-kept
end_packed-requires-clause-kept g c = subst (IsRegionOf c.args.db.now) (sym c.deref.ensures.value) c.requires.fits.region

pub returns-clause-fits : goal.returns-clause-fits
returns-clause-fits g c =
    let new = c.clear_bits.new.bytes in
    let region = with_items_is c.args.self.now.region new (c.clear_bits.ensures.len ∙ c.deref_mut-2.ensures.len) in
    let sized = c.clear_bits.ensures.len ∙ (ap length c.deref_mut-2.ensures.value ∙ c.requires.fits.region.len) in
    record {
      digest = c.requires.fits.digest;
      region = subst (IsRegionOf c.args.db.now) (sym region) (empty-well c.args.db.now new c.clear_bits.ensures.zero sized c.end_packed.ensures.whole);
    }

pub returns-clause-offset : goal.returns-clause-offset
returns-clause-offset g c =
    let new = c.clear_bits.new.bytes in
    let region = with_items_is c.args.self.now.region new (c.clear_bits.ensures.len ∙ c.deref_mut-2.ensures.len) in
    ap region_offset region ∙ offset-zero new c.clear_bits.ensures.zero

pub returns-clause-fresh : goal.returns-clause-fresh
returns-clause-fresh g c plan is =
    let new = c.clear_bits.new.bytes in
    let region = with_items_is c.args.self.now.region new (c.clear_bits.ensures.len ∙ c.deref_mut-2.ensures.len) in
    let sized = c.clear_bits.ensures.len ∙ (ap length c.deref_mut-2.ensures.value ∙ c.requires.fits.region.len) in
    subst (IsBehind plan []) (sym region) (empty-behind c.args.db.now new c.clear_bits.ensures.zero sized plan is)

pub returns-clause-any : goal.returns-clause-any
returns-clause-any g c =
    let took = subst (λ bs. Takes g.V.Events.tells c.args.events.now c.end_packed.new.events (MayEnd c.args.db.now bs)) c.deref.ensures.value c.end_packed.ensures.told in
    record { pairs = took.pairs; through = took.through; holds = record { closes = took.holds.ends; tells = took.holds.tells } }

pub returns-clause-told : goal.returns-clause-told
returns-clause-told g c =
    let took = returns-clause-any g c in
    record { pairs = took.pairs; through = took.through; holds = took.holds.closes }

pub returns-clause-ticks : goal.returns-clause-ticks
returns-clause-ticks g c = c.end_packed.ensures.ticks
