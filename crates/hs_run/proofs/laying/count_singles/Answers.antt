use Rattle.std.proofs.Common.{◌≡◌, get_or, Some, slice_get, arith}
use Rattle.std.proofs.lemmas.Option.{slice_get-get_or}
use Rattle.hs_rose.specs.declared.identifiers.Identifier.{Identifier}
use Rattle.hs_run.proofs.KeepingLemmas.{singles-few, singles-next}
use Rattle.hs_run.proofs.ReportingLemmas.{no_identifier}
use Rattle.hs_run.proofs.laying.count_singles.Goals as goal

pub singles_up_to-count-requires : goal.singles_up_to-count-requires
singles_up_to-count-requires c =
    record { room = omega (arith, singles-few c.args.identifiers.now c.loop-i.i (omega (arith, c.loop-i-test.true)), c.loop-i.invariant, c.loop-i-test.true, c.requires.few) }

pub loop-i-preserved : goal.loop-i-preserved
loop-i-preserved c =
    let xs = c.args.identifiers.now in
    let x : Identifier = get_or xs c.loop-i.i no_identifier in
    let at : slice_get xs c.loop-i.i ≡ Some x = slice_get-get_or xs c.loop-i.i no_identifier c.loop-i-test.true in
    omega (arith, c.singles_up_to-count.ensures, c.loop-i.invariant, singles-next xs c.loop-i.i x at)

pub returns-clause-few : goal.returns-clause-few
returns-clause-few c = omega (arith, singles-few c.args.identifiers.now c.loop-i.i (omega (arith, c.loop-i-test.false)), c.loop-i.invariant, c.loop-i.auto.i-end)
