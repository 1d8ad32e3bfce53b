use Rattle.std.proofs.Common.{◌≡◌, ◌<◌, List, ℕ, replicate, sym, ap, subst, ◌∙◌}
use Rattle.hs_states.specs.StateSets.{set_bytes, set_width, state_count}
use Rattle.hs_kept.specs.Packing.{IsNumberFor}
use Rattle.hs_kept.proofs.RestLemmas.{number-rests}
use Rattle.hs_kept.proofs.RowLemmas.{number-within, take-zeros, zeros-all}
use Rattle.hs_kept.proofs.rests.rest_number.Goals as goal

pub returns-then-is_zero : goal.returns-then-is_zero
returns-then-is_zero c =
    let sets = c.args.sets.now in
    let n = c.number_for-number.result in
    let within : n < state_count sets = number-within sets _ c.args.prev n sets.some c.number_for-number.ensures in
    let none : set_bytes sets n ≡ replicate (set_width sets) 0 = sym c.set.ensures.set ∙ zeros-all c.set.result.now (set_width sets) c.set.ensures.len (c.is_zero.ensures.0 c.if-is_zero.true) in
    let width : c.width.result ≡ set_width sets = c.width.ensures.width in
    number-rests sets c.args.prev n within none
    (subst (λ (xs : List ℕ). IsNumberFor sets xs c.args.prev n) (take-zeros c.width.result 64 c.width.ensures.narrow ∙ ap (λ m. replicate m 0) width) c.number_for-number.ensures)
