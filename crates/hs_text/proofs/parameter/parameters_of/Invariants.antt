use Rattle.std.proofs.Common.{length}
use Rattle.hs_base.specs.declared.ext.Ext.{Ext}
use Rattle.hs_text.specs.Parameters.{no_parameters, AreSettings}
use Rattle.hs_text.proofs.parameter.parameters_of.Given as goal

abbrev pub invariant-loop-setting : goal.invariant-loop-setting
invariant-loop-setting l = record {
  whole : (after : Ext) → AreSettings l.rest l.ext after → AreSettings l.settings no_parameters after;
  behind : (after : Ext) → AreSettings l.settings no_parameters after → AreSettings l.rest l.ext after;
}

abbrev pub decreases-loop-setting : goal.decreases-loop-setting
decreases-loop-setting l = length l.rest
