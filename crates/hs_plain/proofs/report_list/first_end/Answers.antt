use Rattle.std.proofs.Common.{◌≡◌, length, take, get_or, sym, ap, subst, ◌∙◌, inl, inr, [], ◌∷◌, arith}
use Rattle.std.proofs.Math.Seq.{take-length}
use Rattle.hs_base.specs.Lists.{IsMember}
use Rattle.hs_base.specs.Told.{Pair}
use Rattle.hs_base.specs.declared.entry.Report.{Report}
use Rattle.hs_base.proofs.ListLemmas.{member-append}
use Rattle.hs_plain.specs.PlainPatterns.{pair_of, pairs_of}
use Rattle.hs_plain.proofs.PairLemmas.{pairs-take}
use Rattle.hs_plain.proofs.ReportLemmas.{first-least}
use Rattle.hs_plain.proofs.report_list.first_end.Goals as goal

abbrev none : Report
none = record { id = record { 0 = 0 }; to = 0 }

pub returns-then-found-i : goal.returns-then-found-i
returns-then-found-i c rising =
    first-least c.args.found.now c.loop-i.i c.args.id.0 none c.loop-i-test.true c.if-found-i.true c.loop-i.invariant rising

pub loop-i-preserved : goal.loop-i-preserved
loop-i-preserved c to member =
    let found = c.args.found.now in
    let r = get_or found c.loop-i.i none in
    let p : Pair = record { id = c.args.id.0; to = to } in
    elim (member-append (pairs_of (take c.loop-i.i found)) (pair_of r ∷ []) p (subst (IsMember p) (pairs-take found c.loop-i.i none c.loop-i-test.true) member)) [
      | inl before ↦ c.loop-i.invariant to before
      | inr here ↦ elim here [ inl same ↦ c.if-found-i.false (sym (ap (λ q. q.id) same)) | inr never ↦ never ]
    ]

pub returns : goal.returns
returns c rising to member =
    let found = c.args.found.now in
    let p : Pair = record { id = c.args.id.0; to = to } in
    let whole : length found ≡ c.loop-i.i = omega arith in
    c.loop-i.invariant to (subst (λ xs. IsMember p (pairs_of xs)) (sym (take-length found) ∙ ap (λ n. take n found) whole) member)
