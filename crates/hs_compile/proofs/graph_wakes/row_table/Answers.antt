use Rattle.std.proofs.Common.{◌+◌, arith}
use Rattle.std.proofs.lemmas.Option.{slice_get-get_or}
use Rattle.hs_waking.specs.BeginningRows.{rows_of_beginnings}
use Rattle.hs_compile.proofs.WakeRowLemmas.{rows-all, rows-more}
use Rattle.hs_compile.proofs.graph_wakes.row_table.Goals as goal

pub loop-i-preserved : goal.loop-i-preserved
loop-i-preserved c =
    let i = c.loop-i.i in
    let list = c.args.list.now in
    rows-more c.args.nodes.now c.args.engines.now list i (i + 1) _ (omega arith) c.loop-i.starts.items c.loop-i.table c.push_rows.new.table c.beginnings_at.result.behind (rows_of_beginnings c.beginnings_at.result.rows)
    (slice_get-get_or list i _ (omega (arith, c.loop-i-test.true))) c.beginnings_at.ensures c.in_ok-push_rows.ensures c.loop-i.invariant
    c.in_ok-graph_number.field-0 _ (omega (arith, c.in_ok-graph_number.ensures.is, c.len.ensures)) c.in_ok-push-2.ensures.items

pub returns : goal.returns
returns c =
    rows-all c.args.nodes.now c.args.engines.now c.args.list.now c.loop-i.starts.items c.loop-i.table c.loop-i.i
    (omega (arith, c.loop-i-test.false, c.loop-i.auto.i-end)) c.loop-i.invariant
