use Rattle.std.proofs.Common.{rules, subst, refl}
use Rattle.hs_dbfile.specs.States.{IsStateFile}
use Rattle.hs_stream.specs.Saving.{field, size}
use Rattle.hs_stream.proofs.saving.region_in.Goals as goal

pub returns-then-region-region_size : goal.returns-then-region-region_size
returns-then-region-region_size c =
    size c.in-Ok.region.now (subst (λ d. IsStateFile c.args.bytes.now d c.in-Ok.region.now) c.digest.ensures c.in-Ok.ensures) (search rules) refl

pub returns-in-Some : goal.returns-in-Some
returns-in-Some c =
    field c.in-Ok.region.now c.in-Some.place (subst (λ d. IsStateFile c.args.bytes.now d c.in-Ok.region.now) c.digest.ensures c.in-Ok.ensures) (search rules) c.in-Some.ensures.first refl
