use Rattle.std.proofs.Common.{◌∙◌, sym, ap, arith}
use Rattle.hs_confirm.specs.Keys.{folded}
use Rattle.hs_confirm.proofs.KeyLemmas.{literal_place-at, literal_place-past}
use Rattle.hs_confirm.proofs.keys.literal_place.Goals as goal

pub returns-then-back-literal : goal.returns-then-back-literal
returns-then-back-literal c =
    c.folded.ensures
    ∙ ap (λ x. folded x.byte) (sym c.index-literal-literal.is)
    ∙ literal_place-at c.args.literal.now c.args.back _ c.index-literal-literal.result (omega arith) (omega arith) c.index-literal-literal.is

pub returns-else-back-literal : goal.returns-else-back-literal
returns-else-back-literal c = sym (literal_place-past c.args.literal.now c.args.back (omega arith))
