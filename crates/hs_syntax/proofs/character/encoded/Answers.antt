use Rattle.std.proofs.Common.{refl}
use Rattle.hs_syntax.proofs.CharacterLemmas.{none_encoded, some_encoded}
use Rattle.hs_syntax.proofs.character.encoded.Goals as goal

pub returns-in_default-clause-is : goal.returns-in_default-clause-is
returns-in_default-clause-is c = none_encoded c.args.bytes.now _ c.args.length refl c.in_default.ensures.cases.0

pub returns-in-Some-clause-is : goal.returns-in-Some-clause-is
returns-in-Some-clause-is c =
    some_encoded c.args.bytes.now _ _ _ c.args.length c.in-Some.character refl c.in-Ok.ensures.cases.1 c.if-length-bytes.false
    c.chars.ensures.rest c.in-Ok.ensures.cases.0 c.in-Some.ensures.steps.2
