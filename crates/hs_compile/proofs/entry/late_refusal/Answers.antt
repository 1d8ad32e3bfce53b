use Rattle.std.proofs.Common.{arith}
use Rattle.hs_base.specs.Entries.{listed}
use Rattle.hs_compile.proofs.EntryLemmas.{mixed-first, none-left, order-first, size-first}
use Rattle.hs_compile.proofs.entry.late_refusal.Goals as goal

pub returns-then-size : goal.returns-then-size
returns-then-size c before P x kept read small own sized few late =
    size-first before (listed c.args.entry.now) x.tree own.read late few P x read own small c.args.size sized (omega arith)

pub returns-then-is_mixed : goal.returns-then-is_mixed
returns-then-is_mixed c before P x kept read small own sized few late =
    mixed-first before (listed c.args.entry.now) x.tree own.read late few P x read own small c.args.size sized (omega arith) (c.if-is_mixed.ensures before kept)

pub returns-then-entry : goal.returns-then-entry
returns-then-entry c before P x kept read small own sized few late =
    order-first before (listed c.args.entry.now) x.tree own.read late few P x read own small c.args.size sized (omega arith) (c.if-is_mixed.ensures before kept) (omega arith)

pub returns : goal.returns
returns c before P x kept read small own sized few late = (
  none-left before (listed c.args.entry.now) x.tree own.read late few P x read own small c.args.size sized (omega arith) (c.if-is_mixed.ensures before kept) (omega arith),
  record { bytes = c.args.size; size = sized; within = omega arith },
)
