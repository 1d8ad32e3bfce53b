use Rattle.std.proofs.Common.{◌≡◌, true, false, subst}
use Rattle.std.proofs.lemmas.Bool.{eq-eqb, eqb-true}
use Rattle.hs_base.specs.Lists.{IsMember}
use Rattle.hs_base.specs.Reports.{IsLeast}
use Rattle.hs_plain.specs.PlainPatterns.{pairs_of}
use Rattle.hs_plain.proofs.ReportLemmas.{least-unique}
use Rattle.hs_plain.proofs.report_list.is_first.Goals as goal

pub returns-in-Some : goal.returns-in-Some
returns-in-Some c rising =
    let least = c.in-Some.ensures rising in
    let to = c.args.report.to in (
      λ same. subst (IsLeast (λ m. IsMember (record { id = c.args.report.id.0; to = m }) (pairs_of c.args.found.now))) (eqb-true c.in-Some.to to same) least,
      λ other. eq-eqb c.in-Some.to to (least-unique (λ m. IsMember (record { id = c.args.report.id.0; to = m }) (pairs_of c.args.found.now)) c.in-Some.to to least other),
    )

pub returns-in-None : goal.returns-in-None
returns-in-None c rising = (
  λ never. let e : false ≡ true = never in cc,
  λ least. absurd (c.in-None.ensures rising c.args.report.to least.holds),
)
