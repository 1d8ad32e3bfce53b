use Rattle.std.proofs.Common.{◌≡◌, ◌∙◌, sym, ap, arith, length, get_or}
use Rattle.hs_base.specs.Regions.{last_bytes}
use Rattle.hs_base.proofs.RegionLemmas.{range-size}
use Rattle.hs_run.specs.Spots.{prev_from}
use Rattle.hs_run.proofs.SpotLemmas.{prev-spot}
use Rattle.hs_run.proofs.spot.Spot.of.Goals as goal

pub returns-clause-stands : goal.returns-clause-stands
returns-clause-stands c u each offset past =
    let same : c.copy_from_slice.new.self ≡ last_bytes 64 u = c.copy_from_slice.ensures.after ∙ (c.history.ensures ∙ past) in
    let at : c.offset-at.result ≡ length u = c.offset-at.ensures ∙ offset in
    record {
      offset = at;
      behind = c.prev_behind-prev.ensures ∙ (ap (λ xs. prev_from c.offset-at.result (get_or xs 63 0)) same ∙ (ap (λ n. prev_from n (get_or (last_bytes 64 u) 63 0)) at ∙ prev-spot u));
      bytes = each;
      past = same;
    }

pub copy_from_slice-requires : goal.copy_from_slice-requires
copy_from_slice-requires c = sym (ap length c.history.ensures ∙ range-size c.args.region.now 8 72 (omega arith) c.requires.there)
