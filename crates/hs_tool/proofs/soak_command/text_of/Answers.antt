use Rattle.hs_lists.specs.Accepting.{uncompiled}
use Rattle.hs_tool.proofs.soak_command.text_of.Goals as goal

pub returns-in-Err-clause-fault : goal.returns-in-Err-clause-fault
returns-in-Err-clause-fault c = uncompiled

pub returns-clause-fault : goal.returns-clause-fault
returns-clause-fault c = uncompiled
