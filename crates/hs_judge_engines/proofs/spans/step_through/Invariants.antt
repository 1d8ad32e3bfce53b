use Rattle.std.proofs.Common.{◌≡◌, length}
use Rattle.hs_judge_engines.proofs.spans.step_through.Given as goal

abbrev pub invariant-loop-byte : goal.invariant-loop-byte
invariant-loop-byte g l = record {
  len : length l.region ≡ (g.E.Engine.meaning l.engine).width;
  well : (g.E.Engine.meaning l.engine).well l.region l.at;
  counted : l.at ≡ l.byte-index;
}
