use Rattle.std.proofs.Common.{◌≡◌, ◌+◌, ◌*◌}
use Rattle.hs_fdr_build.proofs.ClearLemmas.{from_below-more}
use Rattle.hs_fdr_build.proofs.clear.clear_column.Goals as goal

pub loop-further-preserved : goal.loop-further-preserved
loop-further-preserved c = from_below-more (λ k place b. (place ≡ c.args.low + 256 * k) × (b ≡ c.args.bucket)) c.loop-further.further _ _ _ c.loop-further.invariant c.clear.ensures
