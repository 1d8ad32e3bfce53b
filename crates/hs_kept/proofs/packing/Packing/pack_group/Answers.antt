use Rattle.std.proofs.Common.{◌≡◌, ◌+◌, ◌-◌, List, ℕ, length, slice_range, refl, arith, ap, subst, ◌∙◌}
use Rattle.hs_kept.specs.Rests.{IsRestOf}
use Rattle.hs_kept.proofs.GroupLemmas.{IsGroupEnd, group-end, left-order, some-of, packed-rest}
use Rattle.hs_kept.proofs.RestLemmas.{IsLastField, alike-in}
use Rattle.hs_kept.proofs.packing.Packing.pack_group.Goals as goal

pub end-next_at-requires : goal.end-next_at-requires
end-next_at-requires c =
    let last = c.index-last.result.now in
    let end : IsGroupEnd c.args.self.now c.args.first c.args.end last =
    group-end c.args.self.now c.args.first c.args.end (c.args.end - 1) last c.requires.some (omega (arith, c.requires.some)) (omega (arith, c.requires.within)) c.index-last.ensures in
    let order : IsLastField last c.args.begin.0 c.args.begin.1 c.args.self.now.region_size c.args.self.now.size =
    left-order c.args.self.now c.args.first c.args.end last c.args.begin.0 c.args.begin.1 end c.requires.so_far.left in
    record { small = omega (arith, order.some, order.within, c.args.self.now.region_small) }

pub overflow_add-next_place : goal.overflow_add-next_place
overflow_add-next_place c =
    let last = c.index-last.result.now in
    let end : IsGroupEnd c.args.self.now c.args.first c.args.end last =
    group-end c.args.self.now c.args.first c.args.end (c.args.end - 1) last c.requires.some (omega (arith, c.requires.some)) (omega (arith, c.requires.within)) c.index-last.ensures in
    let order : IsLastField last c.args.begin.0 c.args.begin.1 c.args.self.now.region_size c.args.self.now.size =
    left-order c.args.self.now c.args.first c.args.end last c.args.begin.0 c.args.begin.1 end c.requires.so_far.left in
    omega (arith, order.place_within, c.args.self.now.small)

pub is_zero_between-requires-clause-order : goal.is_zero_between-requires-clause-order
is_zero_between-requires-clause-order c =
    let last = c.index-last.result.now in
    let end : IsGroupEnd c.args.self.now c.args.first c.args.end last =
    group-end c.args.self.now c.args.first c.args.end (c.args.end - 1) last c.requires.some (omega (arith, c.requires.some)) (omega (arith, c.requires.within)) c.index-last.ensures in
    let order : IsLastField last c.args.begin.0 c.args.begin.1 c.args.self.now.region_size c.args.self.now.size =
    left-order c.args.self.now c.args.first c.args.end last c.args.begin.0 c.args.begin.1 end c.requires.so_far.left in
    omega (arith, order.behind, order.some, c.end-next_at.ensures)

pub is_zero_between-requires-clause-within : goal.is_zero_between-requires-clause-within
is_zero_between-requires-clause-within c =
    let last = c.index-last.result.now in
    let end : IsGroupEnd c.args.self.now c.args.first c.args.end last =
    group-end c.args.self.now c.args.first c.args.end (c.args.end - 1) last c.requires.some (omega (arith, c.requires.some)) (omega (arith, c.requires.within)) c.index-last.ensures in
    let order : IsLastField last c.args.begin.0 c.args.begin.1 c.args.self.now.region_size c.args.self.now.size =
    left-order c.args.self.now c.args.first c.args.end last c.args.begin.0 c.args.begin.1 end c.requires.so_far.left in
    omega (arith, order.within, c.end-next_at.ensures, c.requires.region)

pub copy_between-requires-clause-order : goal.copy_between-requires-clause-order
copy_between-requires-clause-order c =
    let last = c.index-last.result.now in
    let end : IsGroupEnd c.args.self.now c.args.first c.args.end last =
    group-end c.args.self.now c.args.first c.args.end (c.args.end - 1) last c.requires.some (omega (arith, c.requires.some)) (omega (arith, c.requires.within)) c.index-last.ensures in
    let order : IsLastField last c.args.begin.0 c.args.begin.1 c.args.self.now.region_size c.args.self.now.size =
    left-order c.args.self.now c.args.first c.args.end last c.args.begin.0 c.args.begin.1 end c.requires.so_far.left in
    omega (arith, order.place_behind)

pub copy_between-requires-clause-within : goal.copy_between-requires-clause-within
copy_between-requires-clause-within c =
    let last = c.index-last.result.now in
    let end : IsGroupEnd c.args.self.now c.args.first c.args.end last =
    group-end c.args.self.now c.args.first c.args.end (c.args.end - 1) last c.requires.some (omega (arith, c.requires.some)) (omega (arith, c.requires.within)) c.index-last.ensures in
    let order : IsLastField last c.args.begin.0 c.args.begin.1 c.args.self.now.region_size c.args.self.now.size =
    left-order c.args.self.now c.args.first c.args.end last c.args.begin.0 c.args.begin.1 end c.requires.so_far.left in
    omega (arith, order.place_within, c.requires.so_far.len)

pub copy_between-requires-clause-row_within : goal.copy_between-requires-clause-row_within
copy_between-requires-clause-row_within c =
    let last = c.index-last.result.now in
    let end : IsGroupEnd c.args.self.now c.args.first c.args.end last =
    group-end c.args.self.now c.args.first c.args.end (c.args.end - 1) last c.requires.some (omega (arith, c.requires.some)) (omega (arith, c.requires.within)) c.index-last.ensures in
    let order : IsLastField last c.args.begin.0 c.args.begin.1 c.args.self.now.region_size c.args.self.now.size =
    left-order c.args.self.now c.args.first c.args.end last c.args.begin.0 c.args.begin.1 end c.requires.so_far.left in
    let row = c.in-Some.row.now.bytes.items in
    let rest : IsRestOf c.args.self.now.fields.items c.args.self.now.size c.in-Some.row.now.prev row = some-of _ c.args.rest c.in-Some.row c.in-Some.is c.requires.rests in
    omega (arith, order.place_within, ap (λ (l : List ℕ). length l) c.deref.ensures.value, rest.0)

pub returns-then-is_zero_between : goal.returns-then-is_zero_between
returns-then-is_zero_between c =
    let last = c.index-last.result.now in
    let end : IsGroupEnd c.args.self.now c.args.first c.args.end last =
    group-end c.args.self.now c.args.first c.args.end (c.args.end - 1) last c.requires.some (omega (arith, c.requires.some)) (omega (arith, c.requires.within)) c.index-last.ensures in
    let row = c.in-Some.row.now.bytes.items in
    let rest : IsRestOf c.args.self.now.fields.items c.args.self.now.size c.in-Some.row.now.prev row = some-of _ c.args.rest c.in-Some.row c.in-Some.is c.requires.rests in
    let stands : c.in-Some.row.now.prev ≡ c.args.prev = some-of _ c.args.rest c.in-Some.row c.in-Some.is c.requires.prev in
    packed-rest c.args.self.now c.args.region.now c.args.prev c.args.kept.now c.copy_between.new.bytes c.args.first c.args.end last c.args.begin.0 c.args.begin.1 _ _ _ end c.end-next_at.ensures refl
    c.requires.region (subst (λ p. IsRestOf c.args.self.now.fields.items c.args.self.now.size p row) stands rest) c.copy_between.ensures.len c.copy_between.ensures.before (alike-in c.copy_between.new.bytes row c.args.begin.1 _ (c.copy_between.ensures.made ∙ ap (λ (l : List ℕ). slice_range l c.args.begin.1 (last.place + 1)) c.deref.ensures.value)) (c.is_zero_between.ensures c.if-is_zero_between.true) c.requires.so_far
