use Rattle.std.proofs.Common.{replicate, sym, ap, subst, ◌∙◌, []}
use Rattle.hs_base.specs.Regions.{IsRegion}
use Rattle.hs_base.proofs.RegionStartLemmas.{regions-begin}
use Rattle.hs_regions.proofs.ZeroLemmas.{zeros-are}
use Rattle.hs_regions.proofs.clearing.clear.Goals as goal

pub returns-clause-empty : goal.returns-clause-empty
returns-clause-empty c plan sized =
    subst (λ bs. IsRegion plan [] bs) (sym (zeros-are c.clear_bits.new.bytes c.clear_bits.ensures.zero ∙ ap (λ n. replicate n 0) sized)) (regions-begin plan)
