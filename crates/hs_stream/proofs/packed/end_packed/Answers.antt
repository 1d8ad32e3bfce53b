use Rattle.std.proofs.Common.{◌≡◌, ◌∙◌, ap, subst}
use Rattle.hs_compile.specs.Databases.{packing_of}
use Rattle.hs_kept.specs.Packing.{unpacked}
use Rattle.hs_stream.specs.Scanning.{MayScanEnd}
use Rattle.hs_stream.proofs.PackedLemmas.{scan-ends, takes-as}
use Rattle.hs_stream.proofs.packed.end_packed.Goals as goal

pub returns-clause-told : goal.returns-clause-told
returns-clause-told g c =
    let db = c.args.db.now in
    let kept = c.args.kept.now in
    let made : c.unpack.new.region ≡ unpacked (packing_of db) kept = c.unpack.ensures ∙ ap (λ p. unpacked p kept) c.packing.ensures.packing in
    takes-as g.V.Events.tells (λ pairs scan. scan-ends db kept pairs c.packing.ensures.whole c.requires.kept (subst (λ bs. MayScanEnd db bs pairs) made scan)) c.run_end.ensures.told
