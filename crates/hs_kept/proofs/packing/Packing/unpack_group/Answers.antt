use Rattle.std.proofs.Common.{◌+◌, ◌-◌, List, ℕ, length, slice_range, refl, arith, ap, ◌∙◌}
use Rattle.hs_kept.specs.Rests.{IsRestOf}
use Rattle.hs_kept.proofs.GroupLemmas.{IsGroupEnd, group-end, left-order, some-of, unpacked-rest}
use Rattle.hs_kept.proofs.RestLemmas.{IsLastField, alike-in}
use Rattle.hs_kept.proofs.packing.Packing.unpack_group.Goals as goal

pub end-next_at-requires : goal.end-next_at-requires
end-next_at-requires c =
    let last = c.index-last.result.now in
    let end : IsGroupEnd c.args.self.now c.args.first c.args.end last =
    group-end c.args.self.now c.args.first c.args.end (c.args.end - 1) last c.requires.some (omega (arith, c.requires.some)) (omega (arith, c.requires.within)) c.index-last.ensures in
    let order : IsLastField last c.args.begin.0 c.args.begin.1 c.args.self.now.region_size c.args.self.now.size =
    left-order c.args.self.now c.args.first c.args.end last c.args.begin.0 c.args.begin.1 end c.requires.so_far.left in
    record { small = omega (arith, order.some, order.within, c.args.self.now.region_small) }

pub overflow_add-next_place : goal.overflow_add-next_place
overflow_add-next_place c =
    let last = c.index-last.result.now in
    let end : IsGroupEnd c.args.self.now c.args.first c.args.end last =
    group-end c.args.self.now c.args.first c.args.end (c.args.end - 1) last c.requires.some (omega (arith, c.requires.some)) (omega (arith, c.requires.within)) c.index-last.ensures in
    let order : IsLastField last c.args.begin.0 c.args.begin.1 c.args.self.now.region_size c.args.self.now.size =
    left-order c.args.self.now c.args.first c.args.end last c.args.begin.0 c.args.begin.1 end c.requires.so_far.left in
    omega (arith, order.place_within, c.args.self.now.small)

pub are_alike-requires-clause-order : goal.are_alike-requires-clause-order
are_alike-requires-clause-order c =
    let last = c.index-last.result.now in
    let end : IsGroupEnd c.args.self.now c.args.first c.args.end last =
    group-end c.args.self.now c.args.first c.args.end (c.args.end - 1) last c.requires.some (omega (arith, c.requires.some)) (omega (arith, c.requires.within)) c.index-last.ensures in
    let order : IsLastField last c.args.begin.0 c.args.begin.1 c.args.self.now.region_size c.args.self.now.size =
    left-order c.args.self.now c.args.first c.args.end last c.args.begin.0 c.args.begin.1 end c.requires.so_far.left in
    omega (arith, order.place_behind)

pub are_alike-requires-clause-within : goal.are_alike-requires-clause-within
are_alike-requires-clause-within c =
    let last = c.index-last.result.now in
    let end : IsGroupEnd c.args.self.now c.args.first c.args.end last =
    group-end c.args.self.now c.args.first c.args.end (c.args.end - 1) last c.requires.some (omega (arith, c.requires.some)) (omega (arith, c.requires.within)) c.index-last.ensures in
    let order : IsLastField last c.args.begin.0 c.args.begin.1 c.args.self.now.region_size c.args.self.now.size =
    left-order c.args.self.now c.args.first c.args.end last c.args.begin.0 c.args.begin.1 end c.requires.so_far.left in
    omega (arith, order.place_within, c.requires.kept)

pub are_alike-requires-clause-others_within : goal.are_alike-requires-clause-others_within
are_alike-requires-clause-others_within c =
    let last = c.index-last.result.now in
    let end : IsGroupEnd c.args.self.now c.args.first c.args.end last =
    group-end c.args.self.now c.args.first c.args.end (c.args.end - 1) last c.requires.some (omega (arith, c.requires.some)) (omega (arith, c.requires.within)) c.index-last.ensures in
    let order : IsLastField last c.args.begin.0 c.args.begin.1 c.args.self.now.region_size c.args.self.now.size =
    left-order c.args.self.now c.args.first c.args.end last c.args.begin.0 c.args.begin.1 end c.requires.so_far.left in
    let row = c.in-Some.row.now.bytes.items in
    let rest : IsRestOf c.args.self.now.fields.items c.args.self.now.size c.in-Some.row.now.prev row = some-of _ c.args.rest c.in-Some.row c.in-Some.is c.requires.rests in
    omega (arith, order.place_within, ap (λ (l : List ℕ). length l) c.deref.ensures.value, rest.0)

pub write_zeros-requires-clause-order : goal.write_zeros-requires-clause-order
write_zeros-requires-clause-order c =
    let last = c.index-last.result.now in
    let end : IsGroupEnd c.args.self.now c.args.first c.args.end last =
    group-end c.args.self.now c.args.first c.args.end (c.args.end - 1) last c.requires.some (omega (arith, c.requires.some)) (omega (arith, c.requires.within)) c.index-last.ensures in
    let order : IsLastField last c.args.begin.0 c.args.begin.1 c.args.self.now.region_size c.args.self.now.size =
    left-order c.args.self.now c.args.first c.args.end last c.args.begin.0 c.args.begin.1 end c.requires.so_far.left in
    omega (arith, order.behind, order.some, c.end-next_at.ensures)

pub write_zeros-requires-clause-within : goal.write_zeros-requires-clause-within
write_zeros-requires-clause-within c =
    let last = c.index-last.result.now in
    let end : IsGroupEnd c.args.self.now c.args.first c.args.end last =
    group-end c.args.self.now c.args.first c.args.end (c.args.end - 1) last c.requires.some (omega (arith, c.requires.some)) (omega (arith, c.requires.within)) c.index-last.ensures in
    let order : IsLastField last c.args.begin.0 c.args.begin.1 c.args.self.now.region_size c.args.self.now.size =
    left-order c.args.self.now c.args.first c.args.end last c.args.begin.0 c.args.begin.1 end c.requires.so_far.left in
    omega (arith, order.within, c.end-next_at.ensures, c.requires.so_far.len)

pub returns-then-are_alike : goal.returns-then-are_alike
returns-then-are_alike c =
    let last = c.index-last.result.now in
    let end : IsGroupEnd c.args.self.now c.args.first c.args.end last =
    group-end c.args.self.now c.args.first c.args.end (c.args.end - 1) last c.requires.some (omega (arith, c.requires.some)) (omega (arith, c.requires.within)) c.index-last.ensures in
    let row = c.in-Some.row.now.bytes.items in
    let rest : IsRestOf c.args.self.now.fields.items c.args.self.now.size c.in-Some.row.now.prev row = some-of _ c.args.rest c.in-Some.row c.in-Some.is c.requires.rests in
    unpacked-rest c.args.self.now c.args.kept.now c.args.region.now c.write_zeros.new.bytes c.args.first c.args.end last c.args.begin.0 c.args.begin.1 _ _ _ _ end c.end-next_at.ensures refl
    c.requires.kept rest c.write_zeros.ensures.len c.write_zeros.ensures.made (alike-in c.args.kept.now row c.args.begin.1 _ (c.are_alike.ensures c.if-are_alike.true ∙ ap (λ (l : List ℕ). slice_range l c.args.begin.1 (last.place + 1)) c.deref.ensures.value)) c.requires.so_far
