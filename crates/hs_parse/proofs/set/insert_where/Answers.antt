use Rattle.std.proofs.Common.{◌||◌, sym, ap, ◌∙◌}
use Rattle.hs_base.specs.ByteSets.{has}
use Rattle.hs_parse.specs.Classes.{passes}
use Rattle.hs_parse.proofs.InsertLemmas.{has-any}
use Rattle.hs_parse.proofs.set.insert_where.Goals as goal

pub returns-in-Any : goal.returns-in-Any
returns-in-Any c b h =
    c.union.ensures b h
    ∙ ap (λ x. x || has c.args.set.now b)
    (has-any c.in-Any.dotall c.any_byte.result c.any_byte.ensures b h ∙ ap (λ t. passes t b) (sym c.in-Any.is))
