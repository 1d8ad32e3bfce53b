use Rattle.std.proofs.Common.{◌<◌, length, refl, arith}
use Rattle.hs_kept.proofs.RowLemmas.{rest-more, rest-place}
use Rattle.hs_kept.proofs.packing.Packing.rest_bytes.Goals as goal

pub index_mut-requires : goal.index_mut-requires
index_mut-requires c =
    let within : c.index-field.result.now.place < length c.loop-number.row.items =
    rest-place c.args.self.now c.args.prev c.loop-number.number c.index-field.result.now c.loop-number.row.items (omega (arith, c.loop-number-test.true, c.len-number-end.ensures)) c.index-field.ensures c.loop-number.invariant in
    omega (arith, within, c.loop-number.row.ok.0)

pub loop-number-preserved : goal.loop-number-preserved
loop-number-preserved c =
    rest-more c.args.self.now c.args.prev c.loop-number.number c.index-field.result.now c.loop-number.row.items _ _ (omega (arith, c.loop-number-test.true, c.len-number-end.ensures)) c.index-field.ensures c.in-Some.ensures refl
    c.loop-number.invariant
