use Rattle.std.proofs.Common.{refl, sym, ◌∙◌}
use Rattle.hs_plain.proofs.ReportLemmas.{single-patterns}
use Rattle.hs_plain.proofs.report_list.is_single.Goals as goal

pub returns-then-is_named : goal.returns-then-is_named
returns-then-is_named c =
    single-patterns c.args.patterns.now c.args.id.0 _ _ (sym c.if-is_named.true ∙ c.is_named.ensures) c.asks_single.ensures

pub returns-else-is_named : goal.returns-else-is_named
returns-else-is_named c =
    c.if-is_named.false
    ∙ single-patterns c.args.patterns.now c.args.id.0 _ _ (sym c.if-is_named.false ∙ c.is_named.ensures) refl
