use Rattle.std.proofs.Common.{false, take}
use Rattle.hs_base.specs.Told.{IsTold}
use Rattle.hs_plain.specs.PlainPatterns.{patterns_of, pairs_of, AreReports}
use Rattle.hs_plain.proofs.report_list.told.Given as goal

abbrev pub invariant-loop-n : goal.invariant-loop-n
invariant-loop-n l = record {
  told : IsTold (patterns_of l.patterns) (take l.n l.stream) (pairs_of l.told.items);
  before : AreReports (patterns_of l.patterns) (take l.n l.stream) false (pairs_of l.before.items);
}
