use Rattle.std.proofs.Common.{◌≡◌, ℕ, ◌+◌, ◌-◌, List, slice_range, sym, ap, ◌∙◌, arith}
use Rattle.std.proofs.Math.ListN.{set}
use Rattle.std.proofs.lemmas.List.{take-set}
use Rattle.hs_kept.proofs.WritingLemmas.{range-by_front}
use Rattle.hs_kept.proofs.field_bytes.pack_field.Goals as goal

pub returns-clause-gap : goal.returns-clause-gap
returns-clause-gap c =
    let f = c.args.field.now in
    let next = c.requires.next in
    let made : List ℕ = c.copy_gap.new.to in
    let end : c.args.place + (f.at - c.args.at) ≡ f.place = omega (arith, next.alike, next.behind) in
    sym (range-by_front (set made f.place c.number_for-number.result) made c.args.place f.place next.place_behind (take-set made f.place c.number_for-number.result)
    ∙ (ap (λ n. slice_range made c.args.place n) (sym end) ∙ c.copy_gap.ensures.gap))
