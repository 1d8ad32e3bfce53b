use Rattle.std.proofs.Common.{arith}
use Rattle.hs_waking.proofs.RowLemmas.{push-adds}
use Rattle.hs_waking.proofs.rows.add_row.Goals as goal

pub returns-in_ok-push : goal.returns-in_ok-push
returns-in_ok-push c =
    push-adds c.args.automaton.now c.args.position c.args.rows.now.items c.push.new.self.items c.in_ok-row.row c.in_ok-push.ensures.items (omega (arith, c.in_ok-row.ensures.few, c.in_ok-row.row.ok.0))
    (c.in_ok-row.ensures.row.each c.args.position c.level_of.ensures)
