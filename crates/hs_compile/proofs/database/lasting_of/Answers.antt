use Rattle.std.proofs.Common.{sym, ◌∙◌}
use Rattle.std.proofs.lemmas.List.{take-map}
use Rattle.hs_base.specs.LiteralView.{literal_bytes}
use Rattle.hs_compile.proofs.database.lasting_of.Goals as goal

pub returns : goal.returns
returns c = c.in_ok-build.ensures ∙ sym (take-map literal_bytes c.args.others c.args.literals.now)
