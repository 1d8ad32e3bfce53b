use Rattle.std.proofs.Common.{◌≡◌, Some, take, get_or, true, false, refl, sym, ap, subst, ◌∙◌, inl, inr, [], ◌∷◌}
use Rattle.std.proofs.lemmas.Option.{slice_get-get_or}
use Rattle.hs_base.specs.Lists.{IsMember}
use Rattle.hs_base.specs.declared.entry.Report.{Report}
use Rattle.hs_base.proofs.ListLemmas.{member-append}
use Rattle.hs_plain.specs.PlainPatterns.{pair_of, pairs_of}
use Rattle.hs_plain.proofs.PairLemmas.{member-at, pairs-take, same-pair}
use Rattle.hs_plain.proofs.report_list.is_among.Goals as goal

abbrev none : Report
none = record { id = record { 0 = 0 }; to = 0 }

pub returns-then-is_same : goal.returns-then-is_same
returns-then-is_same c =
    let found = c.args.found.now in
    let here = slice_get-get_or found c.loop-i.i none c.loop-i-test.true ∙ ap (λ r. Some r) (c.is_same.ensures.0 c.if-is_same.true) in
    (λ _. member-at found c.loop-i.i c.args.report here, λ _. refl)

pub loop-i-preserved : goal.loop-i-preserved
loop-i-preserved c member =
    let found = c.args.found.now in
    let r = get_or found c.loop-i.i none in
    elim (member-append (pairs_of (take c.loop-i.i found)) (pair_of r ∷ []) (pair_of c.args.report) (subst (IsMember (pair_of c.args.report)) (pairs-take found c.loop-i.i none c.loop-i-test.true) member)) [
      | inl before ↦ c.loop-i.invariant before
      | inr here ↦ elim here [
        | inl same ↦
            let is : c.is_same.result ≡ true = c.is_same.ensures.1 (same-pair r c.args.report (sym same)) in
            let not : c.is_same.result ≡ false = c.if-is_same.false in
            cc
        | inr never ↦ never
      ]
    ]
