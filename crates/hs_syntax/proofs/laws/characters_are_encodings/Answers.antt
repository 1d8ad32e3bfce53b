use Rattle.hs_syntax.proofs.EncodingLemmas.{characters_are_encodings}
use Rattle.hs_syntax.proofs.laws.characters_are_encodings.Goals as goal

pub returns : goal.returns
returns c = characters_are_encodings
