use Rattle.hs_text.proofs.CommandLemmas as commands
use Rattle.hs_text.proofs.command_laws.command_once.Goals as goal

pub returns : goal.returns
returns c = commands.command_once
