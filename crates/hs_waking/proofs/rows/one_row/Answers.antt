use Rattle.hs_waking.proofs.RowLemmas.{push-one}
use Rattle.hs_waking.proofs.rows.one_row.Goals as goal

pub returns-clause-rows : goal.returns-clause-rows
returns-clause-rows c =
    push-one c.args.automaton.now c.new-rows.result.items c.push.new.self.items c.in_ok-row_of.field-0 c.in_ok-push.ensures.items c.new-rows.ensures.items c.in_ok-row_of.ensures.row
