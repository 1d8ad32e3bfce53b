use Rattle.std.proofs.Common.{◌+◌}
use Rattle.hs_reports.proofs.EndTableLemmas.{adds-some, adds-none, bounded, bounded-next}
use Rattle.hs_reports.proofs.identifier_ends.IdentifierEnds.add.Goals as goal

pub returns-then-before-ne0 : goal.returns-then-before-ne0
returns-then-before-ne0 c =
    adds-some c.args.terminal c.args.at c.args.before c.args.behind _ _
    (λ i below. bounded c.args.before c.bound_word.result c.args.terminal.least c.args.terminal.greatest (c.args.at + i) i (c.bound_word.ensures i below))
    (λ i below. bounded-next c.args.behind c.bound_word-2.result c.args.terminal.least c.args.terminal.greatest c.args.at i (c.bound_word-2.ensures i below))
    c.args.self.now c.unite.new.self c.unite.ensures

pub returns-else-behind-ne0 : goal.returns-else-behind-ne0
returns-else-behind-ne0 c =
    adds-none c.args.terminal c.args.at c.args.before c.args.behind _ _
    (λ i below. bounded c.args.before c.bound_word.result c.args.terminal.least c.args.terminal.greatest (c.args.at + i) i (c.bound_word.ensures i below))
    (λ i below. bounded-next c.args.behind c.bound_word-2.result c.args.terminal.least c.args.terminal.greatest c.args.at i (c.bound_word-2.ensures i below))
    c.args.self.now c.if-before-ne0.false c.if-behind-ne0.false
