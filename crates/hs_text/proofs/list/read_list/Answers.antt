use Rattle.std.proofs.Common.{arith, sym, ◌∙◌}
use Rattle.hs_text.specs.PatternFile.{first}
use Rattle.hs_text.proofs.ReadingLemmas.{list_step, bad_step, behind_shorter, list_end}
use Rattle.hs_text.proofs.list.read_list.Goals as goal

pub returns-in_default : goal.returns-in_default
returns-in_default c = c.loop-rest.invariant.bad 1 (first c.first_line.ensures c.in_default.ensures)

pub loop-rest-preserved : goal.loop-rest-preserved
loop-rest-preserved c = record {
  whole = list_step c.args.bytes.now c.loop-rest.rest.now c.first_line.result.0.now c.first_line.result.1.now c.in-Some.read c.loop-rest.entries.items c.add.new.entries.items c.first_line.ensures c.in-Some.ensures c.in_ok-add.ensures c.loop-rest.invariant.whole;
  bad = bad_step c.args.bytes.now c.loop-rest.rest.now c.first_line.result.0.now c.first_line.result.1.now c.loop-rest.number c.in-Some.read c.first_line.ensures c.in-Some.ensures c.loop-rest.invariant.bad;
  counted = let shorter = behind_shorter c.first_line.ensures in omega (arith, shorter);
}

pub returns : goal.returns
returns c =
    list_end c.args.bytes.now c.loop-rest.rest.now c.loop-rest.entries.items (sym c.is_empty.ensures ∙ c.loop-rest-test.false) c.loop-rest.invariant.whole
