use Rattle.std.proofs.Common.{◌≡◌, ℕ, ◌≤◌, ◌↔◌, length, true}
use Rattle.hs_base.specs.Spans.{Spans}
use Rattle.hs_base.proofs.SpanLemmas.{span-order}
use Rattle.hs_expr.specs.Meaning.{tree_of}
use Rattle.hs_plain.specs.OffsetSets.{has, AreEnds}
use Rattle.hs_plain.proofs.OffsetLemmas.{if_ok-map}
use Rattle.hs_plain.proofs.EndLemmas.{ends-all}
use Rattle.hs_plain.proofs.pair_list.all_ends.Goals as goal

pub returns-clause-each : goal.returns-clause-each
returns-clause-each c =
    let w = c.args.stream.now in
    let R : ℕ → ℕ → Type 0 = Spans w c.args.ended (tree_of c.args.expr.now) in
    let starts = c.in_ok-starts.starts in
    if_ok-map (AreEnds R starts) (λ ends. (to : ℕ) → (has ends to ≡ true) ↔ ((to ≤ length w) × ((from : ℕ) × R from to))) c.ends_from.result
    (λ ends are. ends-all R (span-order w c.args.ended (tree_of c.args.expr.now)) (length w) starts ends c.in_ok-starts.ensures.size c.in_ok-starts.ensures.members are)
    c.ends_from.ensures
