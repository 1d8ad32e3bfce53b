use Rattle.std.proofs.Common.{◌+◌, ◌<◌, ◌∙◌, length, sym, ap, subst, arith}
use Rattle.std.proofs.lemmas.List.{with_items_is}
use Rattle.hs_base.specs.Lists.{Each}
use Rattle.hs_base.specs.Regions.{region_offset}
use Rattle.hs_reports.specs.Events.{Takes}
use Rattle.hs_stream.specs.Foreign.{MayLead}
use Rattle.hs_stream.specs.Leading.{IsRegionOf}
use Rattle.hs_stream.proofs.VecLemmas.{with-items_same}
use Rattle.hs_stream.proofs.stream.Stream.write_by.Goals as goal

pub write_kept-requires-clause-kept : goal.write_kept-requires-clause-kept
write_kept-requires-clause-kept g c = subst (IsRegionOf c.args.db.now) (sym c.deref_mut.ensures.value) c.requires.fits.region

pub returns-clause-fits : goal.returns-clause-fits
returns-clause-fits g c =
    let region = with_items_is c.args.self.now.region c.write_kept.new.kept (c.write_kept.ensures.len ∙ c.deref_mut.ensures.len) in
    record { digest = c.requires.fits.digest; region = subst (IsRegionOf c.args.db.now) (sym region) c.write_kept.ensures.kept }

pub returns-clause-offset : goal.returns-clause-offset
returns-clause-offset g c =
    let region = with_items_is c.args.self.now.region c.write_kept.new.kept (c.write_kept.ensures.len ∙ c.deref_mut.ensures.len) in
    ap region_offset region ∙ (c.write_kept.ensures.offset ∙ ap (λ bs. region_offset bs + length c.args.bytes.now) c.deref_mut.ensures.value)

pub returns-clause-any : goal.returns-clause-any
returns-clause-any g c =
    let old = c.args.self.now.region in
    let new = c.write_kept.new in
    let region = with_items_is old new.kept (c.write_kept.ensures.len ∙ c.deref_mut.ensures.len) in
    let took =
    subst (λ bs. Takes g.V.Events.tells c.args.events.now new.events (MayLead c.args.db.now old.items bs c.args.bytes.now)) (sym region)
    (subst (λ bs. Takes g.V.Events.tells c.args.events.now new.events (MayLead c.args.db.now bs new.kept c.args.bytes.now)) c.deref_mut.ensures.value c.write_kept.ensures.told) in
    record {
      pairs = took.pairs;
      through = took.through;
      holds = record {
        writes = took.holds.leads;
        tells = took.holds.tells;
        small = subst (Each (λ b. b < 256)) (sym region) c.write_kept.ensures.small;
        offset = returns-clause-offset g c;
      };
    }

pub returns-clause-told : goal.returns-clause-told
returns-clause-told g c =
    let took = returns-clause-any g c in
    record { pairs = took.pairs; through = took.through; holds = took.holds.writes }

pub returns-clause-idle : goal.returns-clause-idle
returns-clause-idle g c none =
    let self = c.args.self.now in
    let (silent, stays) = c.write_kept.ensures.idle none in
    (silent, ap (λ v. record self { region = v }) (with-items_same self.region c.write_kept.new.kept (stays ∙ c.deref_mut.ensures.value)))

pub returns-then-not-has_room-clause-ticks : goal.returns-then-not-has_room-clause-ticks
returns-then-not-has_room-clause-ticks g c = omega arith

pub returns-clause-ticks : goal.returns-clause-ticks
returns-clause-ticks g c = c.write_kept.ensures.ticks
