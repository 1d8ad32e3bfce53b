use Rattle.std.proofs.Common.{◌≡◌, Some, take, slice_get, IfSome, true, false, sym, subst}
use Rattle.hs_base.specs.Lists.{Each}
use Rattle.hs_base.specs.Told.{IsBefore}
use Rattle.hs_plain.specs.PlainPatterns.{pair_of, pairs_of, AddsPairs}
use Rattle.hs_plain.proofs.PairLemmas.{pairs-there, member-at, report-insert}
use Rattle.hs_plain.proofs.pair_list.add_report.Goals as goal

pub returns-then-is_at : goal.returns-then-is_at
returns-then-is_at c =
    let items = c.args.found.now.items in
    let here : slice_get items c.place_of-place.result ≡ Some c.args.report =
    subst (λ xs. slice_get xs c.place_of-place.result ≡ Some c.args.report) c.deref-2.ensures.value (c.is_at.ensures.0 c.if-is_at.true) in
    pairs-there (pairs_of items) (pair_of c.args.report) (member-at items c.place_of-place.result c.args.report here)

pub returns : goal.returns
returns c =
    let items = c.args.found.now.items in
    let place = c.place_of-place.result in
    let report = c.args.report in
    let before : Each (λ p. IsBefore p (pair_of report)) (pairs_of (take place items)) =
    subst (λ xs. Each (λ p. IsBefore p (pair_of report)) (pairs_of (take place xs))) c.deref.ensures.value c.place_of-place.ensures.before in
    let behind : IfSome (slice_get items place) (λ r. IsBefore (pair_of r) (pair_of report) → ⊥) =
    subst (λ xs. IfSome (slice_get xs place) (λ r. IsBefore (pair_of r) (pair_of report) → ⊥)) c.deref.ensures.value c.place_of-place.ensures.behind in
    let other : slice_get items place ≡ Some report → ⊥ =
    λ here.
    let there : c.is_at.result ≡ true = c.is_at.ensures.1 (subst (λ xs. slice_get xs place ≡ Some report) (sym c.deref-2.ensures.value) here) in
    let not : c.is_at.result ≡ false = c.if-is_at.false in
    cc in
    subst (λ xs. AddsPairs (λ p. p ≡ pair_of report) (pairs_of items) (pairs_of xs)) (sym c.in_ok-insert.ensures.items)
    (report-insert items place report before behind other)
