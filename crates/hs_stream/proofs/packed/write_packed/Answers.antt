use Rattle.std.proofs.Common.{◌≡◌, ◌+◌, ◌≤◌, ◌∙◌, [], length, sym, ap, subst}
use Rattle.hs_base.specs.Regions.{region_offset}
use Rattle.hs_compile.specs.Databases.{packing_of}
use Rattle.hs_kept.specs.Packing.{IsPackedOf, unpacked}
use Rattle.hs_reports.specs.Events.{still}
use Rattle.hs_stream.specs.Scanning.{MayScan}
use Rattle.hs_stream.proofs.PackedLemmas.{empty-is, leads-none, packed-offset, packed-well, same-offset, scan-leads, takes-as}
use Rattle.hs_stream.proofs.RunningLemmas.{each-by}
use Rattle.hs_stream.proofs.packed.write_packed.Goals as goal

pub returns-then-is_empty-clause-told : goal.returns-then-is_empty-clause-told
returns-then-is_empty-clause-told g c =
    record { pairs = []; through = still; holds = leads-none c.args.db.now c.args.kept.now c.args.bytes.now (empty-is c.args.bytes.now (sym c.is_empty.ensures ∙ c.if-is_empty.true)) }

pub run_bytes-requires-clause-room : goal.run_bytes-requires-clause-room
run_bytes-requires-clause-room g c =
    let db = c.args.db.now in
    let kept = c.args.kept.now in
    let made : c.unpack.new.region ≡ unpacked (packing_of db) kept = c.unpack.ensures ∙ ap (λ p. unpacked p kept) c.packing-packing.ensures.packing in
    let same : region_offset c.unpack.new.region ≡ region_offset kept = ap region_offset made ∙ same-offset db c.packing-packing.ensures.whole kept c.requires.kept in
    subst (λ n. n + length c.args.bytes.now ≤ 9223372036854775807) (sym same) c.requires.room

pub returns-clause-small : goal.returns-clause-small
returns-clause-small g c = each-by c.pack.new.kept (λ k. (c.type_inv.kept k).fits)

pub returns-clause-kept : goal.returns-clause-kept
returns-clause-kept g c =
    let db = c.args.db.now in
    let whole = c.packing-packing.ensures.whole in
    let region = c.run_bytes.new.region in
    let packed = subst (λ p. IsPackedOf p region c.pack.new.kept) c.packing-packing.ensures.packing c.pack.ensures in
    packed-well db whole region c.pack.new.kept c.run_bytes.ensures.small (returns-clause-small g c) c.run_bytes.ensures.region packed

pub returns-clause-offset : goal.returns-clause-offset
returns-clause-offset g c =
    let db = c.args.db.now in
    let kept = c.args.kept.now in
    let whole = c.packing-packing.ensures.whole in
    let region = c.run_bytes.new.region in
    let packed = subst (λ p. IsPackedOf p region c.pack.new.kept) c.packing-packing.ensures.packing c.pack.ensures in
    let made : c.unpack.new.region ≡ unpacked (packing_of db) kept = c.unpack.ensures ∙ ap (λ p. unpacked p kept) c.packing-packing.ensures.packing in
    let same : region_offset c.unpack.new.region ≡ region_offset kept = ap region_offset made ∙ same-offset db whole kept c.requires.kept in
    packed-offset db whole region c.pack.new.kept c.run_bytes.ensures.small (returns-clause-small g c) c.run_bytes.ensures.region packed
    ∙ (c.run_bytes.ensures.offset ∙ ap (λ n. n + length c.args.bytes.now) same)

pub returns-clause-told : goal.returns-clause-told
returns-clause-told g c =
    let db = c.args.db.now in
    let kept = c.args.kept.now in
    let whole = c.packing-packing.ensures.whole in
    let region = c.run_bytes.new.region in
    let packed = subst (λ p. IsPackedOf p region c.pack.new.kept) c.packing-packing.ensures.packing c.pack.ensures in
    let made : c.unpack.new.region ≡ unpacked (packing_of db) kept = c.unpack.ensures ∙ ap (λ p. unpacked p kept) c.packing-packing.ensures.packing in
    takes-as g.V.Events.tells
    (λ pairs scan.
    scan-leads db whole region c.pack.new.kept c.run_bytes.ensures.small (returns-clause-small g c) c.run_bytes.ensures.region packed kept c.args.bytes.now pairs c.requires.kept
    (subst (λ bs. MayScan db bs region c.args.bytes.now pairs) made scan))
    c.run_bytes.ensures.told
