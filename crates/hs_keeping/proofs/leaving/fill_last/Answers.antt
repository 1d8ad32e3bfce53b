use Rattle.std.proofs.Common.{get_or, ◌∙◌, arith}
use Rattle.std.proofs.lemmas.Option.{slice_get-get_or, slice_get_within}
use Rattle.hs_keeping.specs.Finishing.{no_identifier}
use Rattle.hs_keeping.proofs.LeavingLemmas.{left-more}
use Rattle.hs_keeping.proofs.leaving.fill_last.Goals as goal

pub loop-p-preserved : goal.loop-p-preserved
loop-p-preserved c =
    let xs = c.args.identifiers.now in
    let p = c.loop-p.p in
    let inv = c.loop-p.invariant in
    let known = c.args.known.now in
    record {
      len = c.write_word_bit.ensures.len ∙ inv.len;
      left =
          left-more xs known.told.items known.here.items known.ends c.args.finals.now c.loop-p.last c.write_word_bit.new.words p (get_or xs p no_identifier) (slice_get-get_or xs p no_identifier c.loop-p-test.true) (c.write_word_bit.ensures.put ∙ c.leaves_one.ensures)
          c.write_word_bit.ensures.others inv.left;
    }

pub returns-clause-left : goal.returns-clause-left
returns-clause-left c p x at = c.loop-p.invariant.left p x (omega (arith, slice_get_within c.args.identifiers.now p x at, c.loop-p-test.false)) at
