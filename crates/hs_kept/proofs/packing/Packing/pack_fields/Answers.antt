use Rattle.std.proofs.Common.{refl, arith}
use Rattle.hs_kept.specs.StateFields.{IsNextField}
use Rattle.hs_kept.proofs.FieldLemmas.{next-item}
use Rattle.hs_kept.proofs.GroupLemmas.{left-next, packed-field}
use Rattle.hs_kept.proofs.packing.Packing.pack_fields.Goals as goal

pub pack_field-requires-clause-next : goal.pack_field-requires-clause-next
pack_field-requires-clause-next c =
    let fs = c.args.self.now.fields.items in
    next-item fs fs c.loop-number.number c.index-field.result.now refl (omega (arith, c.loop-number-test.true, c.requires.within)) c.index-field.ensures c.loop-number.next_at c.loop-number.next_place _ _ _ _
    c.requires.region c.loop-number.invariant.len c.loop-number.invariant.left.apart

pub end-next_at-requires : goal.end-next_at-requires
end-next_at-requires c =
    let next : IsNextField c.index-field.result.now c.loop-number.next_at c.loop-number.next_place c.args.self.now.region_size c.args.self.now.size =
    left-next c.args.self.now c.loop-number.number c.index-field.result.now c.loop-number.next_at c.loop-number.next_place (omega (arith, c.loop-number-test.true, c.requires.within)) c.index-field.ensures c.loop-number.invariant.left in
    record { small = omega (arith, next.within, c.args.self.now.region_small) }

pub overflow_add-next_place : goal.overflow_add-next_place
overflow_add-next_place c =
    let next : IsNextField c.index-field.result.now c.loop-number.next_at c.loop-number.next_place c.args.self.now.region_size c.args.self.now.size =
    left-next c.args.self.now c.loop-number.number c.index-field.result.now c.loop-number.next_at c.loop-number.next_place (omega (arith, c.loop-number-test.true, c.requires.within)) c.index-field.ensures c.loop-number.invariant.left in
    omega (arith, next.place_within, c.args.self.now.small)

pub loop-number-preserved : goal.loop-number-preserved
loop-number-preserved c =
    packed-field c.args.self.now c.args.region.now c.args.prev c.loop-number.kept c.pack_field.new.kept c.loop-number.number c.index-field.result.now c.loop-number.next_at c.loop-number.next_place _ _
    (omega (arith, c.loop-number-test.true, c.requires.within)) c.index-field.ensures c.end-next_at.ensures refl c.pack_field.ensures.len c.pack_field.ensures.before c.pack_field.ensures.gap c.pack_field.ensures.number
    c.loop-number.invariant
