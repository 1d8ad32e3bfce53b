use Rattle.std.proofs.Common.{◌≡◌, ℕ, get_or, Some, slice_get, sym, subst, ◌∙◌, arith}
use Rattle.std.proofs.lemmas.Option.{slice_get-get_or, slice_get_within}
use Rattle.hs_base.specs.Bits.{has_word_bit}
use Rattle.hs_reports.specs.declared.identifier.Identifier.{Identifier}
use Rattle.hs_keeping.specs.Keeping.{AreBitsRead}
use Rattle.hs_keeping.specs.Finishing.{no_identifier}
use Rattle.hs_keeping.proofs.KeepingLemmas.{bits-join, last-more, single-below, singles-few, singles-next, write-more}
use Rattle.hs_keeping.proofs.keeping.write_each.Goals as goal

pub write_one-requires-clause-single : goal.write_one-requires-clause-single
write_one-requires-clause-single c is =
    let at : slice_get c.args.identifiers.now c.loop-p.p ≡ Some (get_or c.args.identifiers.now c.loop-p.p no_identifier) = slice_get-get_or c.args.identifiers.now c.loop-p.p no_identifier c.loop-p-test.true in
    omega (arith, single-below c.args.identifiers.now c.loop-p.p (get_or c.args.identifiers.now c.loop-p.p no_identifier) at is, c.loop-p.invariant.single, c.requires.bits.singles)

pub singles_up_to-single-requires : goal.singles_up_to-single-requires
singles_up_to-single-requires c =
    record { room = omega (arith, singles-few c.args.identifiers.now c.loop-p.p (omega (arith, c.loop-p-test.true)), c.loop-p.invariant.single, c.loop-p-test.true, c.requires.few) }

pub loop-p-preserved : goal.loop-p-preserved
loop-p-preserved c =
    let p : ℕ = c.loop-p.p in
    let inv = c.loop-p.invariant in
    let l = c.args.layout.now in
    let xs = c.args.identifiers.now in
    let told = c.args.told.now in
    let here = c.args.here.now in
    let new = c.write_one.new.region in
    let x : Identifier = get_or xs p no_identifier in
    let at : slice_get xs p ≡ Some x = slice_get-get_or xs p no_identifier c.loop-p-test.true in
    record {
      written = bits-join l c.args.region.now c.loop-p.region new inv.written c.write_one.ensures.written;
      single = omega (arith, c.singles_up_to-single.ensures, inv.single, singles-next xs p x at);
      read =
          write-more l c.loop-p.region new xs told here p c.loop-p.single x c.requires.bits at inv.single
          (subst (λ v. AreBitsRead l new x p c.loop-p.single v (has_word_bit here p)) c.contains_word_bit.ensures (subst (λ v. AreBitsRead l new x p c.loop-p.single c.contains_word_bit.result v) c.contains_word_bit-in-loop-p.ensures c.write_one.ensures.read)) c.write_one.ensures.others inv.read;
      last = last-more l c.loop-p.region new xs c.args.last.now p c.loop-p.single x c.requires.bits (sym c.contains_word_bit-in-loop-p-2.ensures ∙ c.write_one.ensures.last) c.write_one.ensures.others inv.last;
    }

pub returns-clause-read : goal.returns-clause-read
returns-clause-read c j x at = c.loop-p.invariant.read j x (omega (arith, slice_get_within c.args.identifiers.now j x at, c.loop-p-test.false)) at

pub returns-clause-last : goal.returns-clause-last
returns-clause-last c j x at = c.loop-p.invariant.last j x (omega (arith, slice_get_within c.args.identifiers.now j x at, c.loop-p-test.false)) at
