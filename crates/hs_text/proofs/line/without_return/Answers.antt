use Rattle.std.proofs.Common.{◌∷◌, [], Some}
use Rattle.std.proofs.lemmas.Bool.Decides.{Decides-eqb}
use Rattle.std.proofs.lemmas.Slice.Eq.{strip_suffix_is}
use Rattle.hs_text.specs.Lines.{returned}
use Rattle.hs_text.proofs.line.without_return.Goals as goal

pub returns-in-Some : goal.returns-in-Some
returns-in-Some c =
    returned (strip_suffix_is Decides-eqb c.args.raw.now (13 ∷ []) (Some c.in-Some.line) c.in-Some.ensures.cases)
