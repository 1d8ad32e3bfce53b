use Rattle.std.proofs.Common.{◌≡◌, take, get_or, true, false, List, sym, ap, subst, ◌∙◌, [], ◌∷◌, ◌++◌, arith}
use Rattle.std.proofs.lemmas.Option.{slice_get-get_or}
use Rattle.hs_base.specs.Reports.{IsReport}
use Rattle.hs_base.specs.Told.{Pair}
use Rattle.hs_base.specs.declared.entry.Report.{Report}
use Rattle.hs_plain.specs.PlainPatterns.{patterns_of, pair_of, pairs_of, KeepsPairs}
use Rattle.hs_plain.proofs.PairLemmas.{pairs-take, keeps-push, keeps-other, keeps-whole, member-at}
use Rattle.hs_plain.proofs.ReportLemmas.{kept-reports}
use Rattle.hs_plain.proofs.report_list.reported.Goals as goal
use Rattle.hs_plain.proofs.report_list.reported.Goals.{then-is_reported+in_ok-push, else-is_reported}

abbrev none : Report
none = record { id = record { 0 = 0 }; to = 0 }

pub loop-i-preserved : goal.loop-i-preserved
loop-i-preserved c w ended before are =
    let all = c.args.all.now in
    let i = c.loop-i.i in
    let r = get_or all i none in
    let Q : Pair → Type 0 = λ p. IsReport (patterns_of c.args.patterns.now) w ended p.id p.to in
    let ps : List Pair = pairs_of (take i all) in
    let is = c.is_reported.ensures w ended before are (member-at all i r (slice_get-get_or all i none c.loop-i-test.true)) in
    subst (λ qs. KeepsPairs Q qs (pairs_of c.if-is_reported.found.items)) (sym (pairs-take all i none c.loop-i-test.true))
    (elim c.if-is_reported.branch [
      | then-is_reported+in_ok-push b ↦
          keeps-push Q ps c.loop-i.found.items c.if-is_reported.found.items r (ap (λ v. v.items) b.found-is ∙ b.in_ok-push.ensures.items)
          (is.0 b.if-is_reported.true) (c.loop-i.invariant w ended before are)
      | else-is_reported b ↦
          subst (λ kept. KeepsPairs Q (ps ++ pair_of r ∷ []) kept) (sym (ap (λ v. pairs_of v.items) b.found-is))
          (keeps-other Q ps (pairs_of c.loop-i.found.items) (pair_of r)
          (λ report.
          let yes : c.is_reported.result ≡ true = is.1 report in
          let no : c.is_reported.result ≡ false = b.if-is_reported.false in
          cc)
          (c.loop-i.invariant w ended before are))
    ])

pub returns : goal.returns
returns c w ended before are =
    let P = patterns_of c.args.patterns.now in
    kept-reports P w ended (pairs_of c.args.before.now) (pairs_of c.args.all.now) (pairs_of c.loop-i.found.items) before are
    (keeps-whole (λ p. IsReport P w ended p.id p.to) c.args.all.now c.loop-i.i (pairs_of c.loop-i.found.items) (omega arith) (c.loop-i.invariant w ended before are))
