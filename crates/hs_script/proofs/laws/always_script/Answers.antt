use Rattle.std.proofs.Common.{length, arith}
use Rattle.hs_script.proofs.ScriptLemmas as scripts
use Rattle.hs_script.proofs.laws.always_script.Goals as goal

pub returns : goal.returns
returns c bytes = scripts.are_scripts (length bytes) 1 bytes (omega arith)
