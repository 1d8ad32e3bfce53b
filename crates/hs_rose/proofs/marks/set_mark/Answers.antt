use Rattle.std.proofs.Common.{ap, ◌∙◌}
use Rattle.hs_rose.specs.Marks.{place_mark, set_mark}
use Rattle.hs_rose.proofs.marks.set_mark.Goals as goal

pub returns-in-Some : goal.returns-in-Some
unfolding set_mark
returns-in-Some c = c.from.ensures ∙ c.key_byte.ensures ∙ ap place_mark c.in-Some.ensures

pub returns-in-None : goal.returns-in-None
unfolding set_mark
returns-in-None c = ap place_mark c.in-None.ensures
