use Rattle.std.proofs.Common.{◌≡◌, true, false, refl, sym, ◌∙◌}
use Rattle.std.proofs.lemmas.Bool.{eq-eqb, eqb-true}
use Rattle.hs_base.specs.Patterns.{is_single}
use Rattle.hs_plain.specs.PlainPatterns.{patterns_of, pair_of, pairs_of}
use Rattle.hs_plain.proofs.ReportLemmas.{reported-each, reported-first, reported-at_end}
use Rattle.hs_plain.proofs.report_list.is_reported.Goals as goal

pub returns-then-not-is_single : goal.returns-then-not-is_single
returns-then-not-is_single c w ended before all member =
    let P = patterns_of c.args.patterns.now in
    let many : is_single P c.args.report.id.0 ≡ false = sym c.is_single.ensures ∙ c.if-not-is_single.true in
    (λ _. reported-each P w ended c.args.report.id.0 c.args.report.to many ((all.each (pair_of c.args.report)).0 member), λ _. refl)

pub returns-in-Some : goal.returns-in-Some
returns-in-Some c w ended before all member =
    let P = patterns_of c.args.patterns.now in
    let r = c.args.report in
    let single : is_single P r.id.0 ≡ true = sym c.is_single.ensures ∙ c.if-not-is_single.false in
    let both = reported-first P w ended (pairs_of c.args.before.now) r.id.0 c.in-Some.to r.to single before (c.in-Some.ensures before.rising) in
    (λ same. both.0 (eqb-true c.in-Some.to r.to same), λ report. eq-eqb c.in-Some.to r.to (both.1 report))

pub returns-in-None : goal.returns-in-None
returns-in-None c w ended before all member =
    let P = patterns_of c.args.patterns.now in
    let r = c.args.report in
    let single : is_single P r.id.0 ≡ true = sym c.is_single.ensures ∙ c.if-not-is_single.false in
    let both = reported-at_end P w ended (pairs_of c.args.before.now) (pairs_of c.args.all.now) r.id.0 r.to single before all (c.in-None.ensures before.rising) in
    let is = c.is_first.ensures all.rising in
    (λ yes. both.0 (is.0 yes), λ report. is.1 (both.1 report))
