use Rattle.std.proofs.Common.{◌∙◌, [], sym, subst}
use Rattle.hs_reports.specs.Events.{still}
use Rattle.hs_stream.specs.Scanning.{IsWholeRegionOf, MayScan}
use Rattle.hs_stream.proofs.PackedLemmas.{empty-is, leads-none, packed-well, scan-leads, takes-as}
use Rattle.hs_stream.proofs.packed.write_whole.Goals as goal

pub returns-then-is_empty-clause-told : goal.returns-then-is_empty-clause-told
returns-then-is_empty-clause-told g c =
    record { pairs = []; through = still; holds = leads-none c.args.db.now c.args.kept.now c.args.bytes.now (empty-is c.args.bytes.now (sym c.is_empty.ensures ∙ c.if-is_empty.true)) }

pub run_bytes-requires-clause-region : goal.run_bytes-requires-clause-region
run_bytes-requires-clause-region g c = subst (IsWholeRegionOf c.args.db.now) (c.requires.alike.unpacks c.args.kept.now) c.requires.kept.well

pub returns-clause-kept : goal.returns-clause-kept
returns-clause-kept g c =
    let new = c.run_bytes.new.region in
    let size = c.run_bytes.ensures.len ∙ (c.requires.kept.len ∙ c.requires.alike.sizes) in
    packed-well c.args.db.now c.packing-packing.ensures.whole new new c.run_bytes.ensures.small c.run_bytes.ensures.small c.run_bytes.ensures.region (c.requires.alike.packs new size)

pub returns-clause-told : goal.returns-clause-told
returns-clause-told g c =
    let db = c.args.db.now in
    let kept = c.args.kept.now in
    let new = c.run_bytes.new.region in
    let size = c.run_bytes.ensures.len ∙ (c.requires.kept.len ∙ c.requires.alike.sizes) in
    takes-as g.V.Events.tells
    (λ pairs scan.
    scan-leads db c.packing-packing.ensures.whole new new c.run_bytes.ensures.small c.run_bytes.ensures.small c.run_bytes.ensures.region (c.requires.alike.packs new size) kept c.args.bytes.now pairs c.requires.kept
    (subst (λ bs. MayScan db bs new c.args.bytes.now pairs) (sym (c.requires.alike.unpacks kept)) scan))
    c.run_bytes.ensures.told
