use Rattle.std.proofs.Common.{subst, arith}
use Rattle.std.proofs.lemmas.Option.{slice_get_within}
use Rattle.hs_waking.specs.BeginningRows.{rows_of_beginnings}
use Rattle.hs_waking.specs.RowTables.{PutsRow}
use Rattle.hs_compile.proofs.WakeRowLemmas.{puts-more}
use Rattle.hs_compile.proofs.graph_wakes.push_rows.Goals as goal

pub loop-beginning-smaller : goal.loop-beginning-smaller
loop-beginning-smaller c = omega (arith, c.in_ok-number.ensures.is, slice_get_within (rows_of_beginnings c.args.beginnings.now.rows) c.loop-beginning.number _ c.in-Some.ensures.1)

pub loop-beginning-preserved : goal.loop-beginning-preserved
loop-beginning-preserved c =
    puts-more c.args.table.now c.loop-beginning.table c.push.new.self c.args.beginnings.now.behind (rows_of_beginnings c.args.beginnings.now.rows) c.loop-beginning.number _ c.in-Some.beginning.row.now
    (omega (arith, c.in_ok-number.ensures.is)) c.in-Some.ensures.1 c.loop-beginning.invariant
    (subst (λ b. PutsRow c.loop-beginning.table c.push.new.self b c.in-Some.beginning.row.now) c.in-Some.ensures.0 c.in_ok-push.ensures)
