use Rattle.std.proofs.Common.{arith}
use Rattle.hs_base.specs.Entries.{listed}
use Rattle.hs_expr.specs.Meaning.{tree_of}
use Rattle.hs_compile.proofs.EntryLemmas.{counted-refusal, if_none, late-least, late-none, tree-first}
use Rattle.hs_compile.proofs.entry.early_refusal.Goals as goal

pub returns-in-Ok-clause-late : goal.returns-in-Ok-clause-late
returns-in-Ok-clause-late c = if_none _ c.count_refusal.result (late-none c.args.entry.now.flags c.args.entry.now.ext (tree_of c.args.expr.now) c.in-Ok.ensures)

pub returns-in-Ok-clause-least : goal.returns-in-Ok-clause-least
returns-in-Ok-clause-least c before is reads =
    counted-refusal before (listed c.args.entry.now) (tree_of c.args.expr.now) c.args.number c.count_refusal.result reads (late-none c.args.entry.now.flags c.args.entry.now.ext (tree_of c.args.expr.now) c.in-Ok.ensures) is c.count_refusal.ensures

pub returns-then-number-clause-least : goal.returns-then-number-clause-least
returns-then-number-clause-least c before is reads = tree-first before (listed c.args.entry.now) (tree_of c.args.expr.now) reads c.in-Err.refusal c.in-Err.ensures (omega arith)

pub returns-else-number-clause-late : goal.returns-else-number-clause-late
returns-else-number-clause-late c =
    if_none _ c.count_refusal-else-number.result (late-least c.args.entry.now.flags c.args.entry.now.ext (tree_of c.args.expr.now) c.in-Err.refusal c.in-Err.ensures (omega arith))

pub returns-else-number-clause-least : goal.returns-else-number-clause-least
returns-else-number-clause-least c before is reads =
    counted-refusal before (listed c.args.entry.now) (tree_of c.args.expr.now) c.args.number c.count_refusal-else-number.result reads
    (late-least c.args.entry.now.flags c.args.entry.now.ext (tree_of c.args.expr.now) c.in-Err.refusal c.in-Err.ensures (omega arith)) is c.count_refusal-else-number.ensures
