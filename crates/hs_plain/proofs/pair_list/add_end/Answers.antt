use Rattle.std.proofs.Common.{◌≡◌, true, sym, ◌∙◌}
use Rattle.hs_base.specs.Told.{Pair}
use Rattle.hs_plain.specs.PlainPatterns.{pairs_of, AddsPairs}
use Rattle.hs_plain.specs.OffsetSets.{has}
use Rattle.hs_plain.proofs.EndLemmas.{IsEndAt}
use Rattle.hs_plain.proofs.OffsetLemmas.{on_ok-map}
use Rattle.hs_plain.proofs.PairLemmas.{pairs-map}
use Rattle.hs_plain.proofs.pair_list.add_end.Goals as goal

pub returns-then-end-pattern : goal.returns-then-end-pattern
returns-then-end-pattern c =
    let x = c.args.pattern.now in
    let ends = c.args.ends.now in
    let old = pairs_of c.args.found.now.items in
    let new = pairs_of c.add_report.new.found.items in
    let pair : Pair = record { id = x.id.0; to = c.args.to } in
    let is : has ends c.args.to ≡ true = sym c.contains.ensures ∙ c.if-contains.true in
    on_ok-map (AddsPairs (λ p. p ≡ pair) old new) (AddsPairs (IsEndAt x ends c.args.to) old new) c.add_report.result
    (λ adds. pairs-map (λ p. p ≡ pair) (IsEndAt x ends c.args.to) old new (λ p same. (same, is, c.if-pattern-end.true, c.if-end-pattern.true)) (λ p found. found.0) adds)
    c.add_report.ensures
