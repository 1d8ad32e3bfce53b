use Rattle.std.proofs.Common.{subst}
use Rattle.hs_base.specs.Lists.{IsMember}
use Rattle.hs_plain.specs.PlainPatterns.{patterns_of, pairs_of, KeepsPairs}
use Rattle.hs_plain.proofs.ReportLemmas.{last-kept}
use Rattle.hs_plain.proofs.report_list.match_reports.Goals as goal

pub returns-clause-last : goal.returns-clause-last
returns-clause-last c =
    let before = c.in_ok-before.before.items in
    let after = c.in_ok-after.after.items in
    let last = pairs_of c.in_ok-last.last.items in
    let kept : KeepsPairs (λ p. IsMember p (pairs_of before) → ⊥) (pairs_of after) last =
    subst (λ xs. KeepsPairs (λ p. IsMember p (pairs_of xs) → ⊥) (pairs_of after) last) c.deref.ensures.value
    (subst (λ xs. KeepsPairs (λ p. IsMember p (pairs_of c.deref.result.now) → ⊥) (pairs_of xs) last) c.deref-2.ensures.value c.in_ok-last.ensures) in
    last-kept (patterns_of c.args.patterns.now) c.args.stream.now (pairs_of before) (pairs_of after) last c.in_ok-before.ensures c.in_ok-after.ensures kept
