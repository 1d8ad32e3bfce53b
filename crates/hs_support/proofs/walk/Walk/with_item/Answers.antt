use Rattle.std.proofs.Common.{◌∷◌, subst}
use Rattle.hs_base.specs.ByteSets.{members}
use Rattle.hs_base.specs.LiteralView.{literal_byte}
use Rattle.hs_expr.specs.Meaning.{tree_of}
use Rattle.hs_support.specs.Walking.{Leads}
use Rattle.hs_support.proofs.walk.Walk.with_item.Goals as goal

pub returns-in-Literal : goal.returns-in-Literal
returns-in-Literal c parts answer leads =
    subst (λ part. Leads c.args.self (part ∷ parts) answer) c.in-Literal.ensures
    (c.with_byte.ensures (literal_byte c.in-Literal.field-0) parts answer leads)

pub returns-in-Long : goal.returns-in-Long
returns-in-Long c parts answer leads =
    subst (λ part. Leads c.args.self (part ∷ parts) answer) c.in-Long.ensures
    (c.with_long.ensures (members c.in-Long.field-0) c.in-Long.field-1 c.in-Long.field-2 parts answer leads)

pub returns-in-Ordinary : goal.returns-in-Ordinary
returns-in-Ordinary c parts answer leads =
    subst (λ part. Leads c.args.self (part ∷ parts) answer) c.in-Ordinary.ensures
    (c.with_positions.ensures (tree_of c.args.item.now) c.positions.ensures parts answer leads)
