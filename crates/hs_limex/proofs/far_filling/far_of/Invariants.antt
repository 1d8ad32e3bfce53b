use Rattle.std.proofs.Common.{◌≡◌, ◌<◌}
use Rattle.hs_base.specs.Contexts.{Context, context_number}
use Rattle.hs_limex.specs.Near.{IsFew, LeavesFar}
use Rattle.hs_limex.proofs.far_filling.far_of.Given as goal

abbrev pub invariant-loop-number : goal.invariant-loop-number
invariant-loop-number l = record {
  count : l.rows.count ≡ 1;
  width : l.rows.width ≡ l.width;
  few : IsFew l.rows l.size;
  rest : (c : Context) → context_number c < l.number → LeavesFar l.rows l.follows c;
}
