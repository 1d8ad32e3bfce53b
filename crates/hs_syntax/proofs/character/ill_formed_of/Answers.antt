use Rattle.hs_syntax.proofs.CharacterLemmas.{all_formed}
use Rattle.hs_syntax.proofs.character.ill_formed_of.Goals as goal

pub returns-in-Ok-clause-is : goal.returns-in-Ok-clause-is
returns-in-Ok-clause-is c = all_formed c.args.utf8 c.args.bytes.now c.in-Ok.ensures.cases.1
