use Rattle.std.proofs.Common.{◌≡◌, ℕ, get_or, Some, slice_get, arith}
use Rattle.std.proofs.lemmas.Option.{slice_get-get_or, slice_get_within}
use Rattle.hs_run.specs.declared.kept.Kept.{Kept}
use Rattle.hs_rose.specs.declared.identifiers.Identifier.{Identifier}
use Rattle.hs_run.proofs.KeepingLemmas.{bits-join, single-below, singles-few, singles-next, write-more}
use Rattle.hs_run.proofs.ReportingLemmas.{no_identifier, nothing}
use Rattle.hs_run.proofs.kept.write_kept.Goals as goal

pub write_one-requires-clause-single : goal.write_one-requires-clause-single
write_one-requires-clause-single c is =
    let at : slice_get c.args.identifiers.now c.loop-i.i ≡ Some (get_or c.args.identifiers.now c.loop-i.i no_identifier) = slice_get-get_or c.args.identifiers.now c.loop-i.i no_identifier c.loop-i-test.true in
    omega (arith, single-below c.args.identifiers.now c.loop-i.i (get_or c.args.identifiers.now c.loop-i.i no_identifier) at is, c.loop-i.invariant.single, c.requires.bits.singles)

pub singles_up_to-single-requires : goal.singles_up_to-single-requires
singles_up_to-single-requires c =
    record { room = omega (arith, singles-few c.args.identifiers.now c.loop-i.i (omega (arith, c.loop-i-test.true)), c.loop-i.invariant.single, c.loop-i-test.true, c.requires.few) }

pub loop-i-preserved : goal.loop-i-preserved
loop-i-preserved c =
    let i : ℕ = c.loop-i.i in
    let inv = c.loop-i.invariant in
    let xs = c.args.identifiers.now in
    let x : Identifier = get_or xs i no_identifier in
    let at : slice_get xs i ≡ Some x = slice_get-get_or xs i no_identifier c.loop-i-test.true in
    let k : Kept = get_or c.args.kept.now i nothing in
    let there : slice_get c.args.kept.now i ≡ Some k = slice_get-get_or c.args.kept.now i nothing (omega (arith, c.loop-i-test.true, c.requires.kept)) in
    record {
      written = bits-join c.args.layout.now c.args.region.now c.loop-i.region c.write_one.new.region inv.written c.write_one.ensures.written;
      single = omega (arith, c.singles_up_to-single.ensures, inv.single, singles-next xs i x at);
      read = write-more c.args.layout.now c.loop-i.region c.write_one.new.region xs c.args.kept.now i c.loop-i.single x k c.requires.bits at there inv.single c.write_one.ensures.read c.write_one.ensures.others inv.read;
    }

pub returns-clause-read : goal.returns-clause-read
returns-clause-read c j x k at at' = c.loop-i.invariant.read j x k (omega (arith, slice_get_within c.args.identifiers.now j x at, c.loop-i-test.false)) at at'
