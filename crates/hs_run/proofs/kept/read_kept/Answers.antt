use Rattle.std.proofs.Common.{◌≡◌, ℕ, get_or, Some, slice_get, ◌∙◌, arith}
use Rattle.std.proofs.lemmas.List.{length-set}
use Rattle.std.proofs.lemmas.Option.{slice_get-get_or, slice_get_within}
use Rattle.hs_run.specs.declared.kept.Kept.{Kept}
use Rattle.hs_rose.specs.declared.identifiers.Identifier.{Identifier}
use Rattle.hs_run.proofs.KeepingLemmas.{read-more, single-below, singles-few, singles-next}
use Rattle.hs_run.proofs.ReportingLemmas.{no_identifier, nothing}
use Rattle.hs_run.proofs.kept.read_kept.Goals as goal

pub read_one-requires-clause-single : goal.read_one-requires-clause-single
read_one-requires-clause-single c is =
    let at : slice_get c.args.identifiers.now c.loop-i.i ≡ Some (get_or c.args.identifiers.now c.loop-i.i no_identifier) = slice_get-get_or c.args.identifiers.now c.loop-i.i no_identifier c.loop-i-test.true in
    omega (arith, single-below c.args.identifiers.now c.loop-i.i (get_or c.args.identifiers.now c.loop-i.i no_identifier) at is, c.loop-i.invariant.single, c.requires.bits.singles)

pub singles_up_to-single-requires : goal.singles_up_to-single-requires
singles_up_to-single-requires c =
    record { room = omega (arith, singles-few c.args.identifiers.now c.loop-i.i (omega (arith, c.loop-i-test.true)), c.loop-i.invariant.single, c.loop-i-test.true, c.requires.few) }

pub loop-i-preserved : goal.loop-i-preserved
loop-i-preserved c =
    let i : ℕ = c.loop-i.i in
    let inv = c.loop-i.invariant in
    let xs = c.args.identifiers.now in
    let x : Identifier = get_or xs i no_identifier in
    let at : slice_get xs i ≡ Some x = slice_get-get_or xs i no_identifier c.loop-i-test.true in
    let old : Kept = get_or c.loop-i.kept i nothing in
    let there : slice_get c.loop-i.kept i ≡ Some old = slice_get-get_or c.loop-i.kept i nothing (omega (arith, c.loop-i-test.true, inv.len, c.requires.kept)) in
    record {
      len = length-set c.loop-i.kept i c.read_one.result ∙ inv.len;
      single = omega (arith, c.singles_up_to-single.ensures, inv.single, singles-next xs i x at);
      read = read-more c.args.layout.now c.args.region.now xs c.loop-i.kept i c.loop-i.single x old c.read_one.result at there inv.single c.read_one.ensures inv.read;
    }

pub returns-clause-read : goal.returns-clause-read
returns-clause-read c j x k at at' = c.loop-i.invariant.read j x k (omega (arith, slice_get_within c.args.identifiers.now j x at, c.loop-i-test.false)) at at'
