use Rattle.std.proofs.Common.{◌≡◌, ◌≤◌, length, min, ap, ◌∙◌}
use Rattle.hs_base.specs.Regions.{region_offset}
use Rattle.hs_layout.proofs.HistoryLemmas.{early-zero, zero-early}
use Rattle.hs_regions.proofs.header.has_no_early_byte.Goals as goal

pub returns : goal.returns
returns c =
    let there : 72 ≤ length c.args.kept.now = c.requires.there in
    let same : c.min-seen.result ≡ min (region_offset c.args.kept.now) 64 = c.min-seen.ensures ∙ ap (λ n. min n 64) c.requires.is in (
      λ told. zero-early c.args.kept.now c.min-seen.result there same (c.is_zero.ensures.0 told),
      λ early. c.is_zero.ensures.1 (early-zero c.args.kept.now c.min-seen.result there same early),
    )
