use Rattle.std.proofs.Common.{ℕ, List, Bool, false, sym, subst}
use Rattle.hs_plain.specs.PlainPatterns.{patterns_of, pairs_of, ArePairs, AreReports}
use Rattle.hs_plain.proofs.OffsetLemmas.{if_ok-map}
use Rattle.hs_plain.proofs.report_list.reports.Goals as goal

pub returns : goal.returns
returns c =
    let P = patterns_of c.args.patterns.now in
    let w = c.args.stream.now in
    let ended = c.args.ended in
    let before : ArePairs P w false (pairs_of c.deref.result.now) = subst (λ xs. ArePairs P w false (pairs_of xs)) (sym c.deref.ensures.value) c.in_ok-before.ensures in
    let all : ArePairs P w ended (pairs_of c.deref-2.result.now) = subst (λ xs. ArePairs P w ended (pairs_of xs)) (sym c.deref-2.ensures.value) c.in_ok-all.ensures in
    if_ok-map (λ found. (s : List ℕ) (e : Bool) → ArePairs P s false (pairs_of c.deref.result.now) → ArePairs P s e (pairs_of c.deref-2.result.now) → AreReports P s e (pairs_of found.items))
    (λ found. AreReports P w ended (pairs_of found.items)) c.reported.result (λ found is. is w ended before all) c.reported.ensures
