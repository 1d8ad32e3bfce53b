use Rattle.std.proofs.Common.{sym, ◌∙◌}
use Rattle.hs_keeping.proofs.KeepingLemmas.{read-all, read-none}
use Rattle.hs_keeping.proofs.keeping.read_rows.Goals as goal

pub returns-then-singles-identifiers-clause-read : goal.returns-then-singles-identifiers-clause-read
returns-then-singles-identifiers-clause-read c =
    read-all c.args.layout.now c.args.region.now c.args.identifiers.now c.args.told.now c.args.here.now c.read_told_singles.new.row c.read_told_here.new.row c.requires.bits (sym c.singles-singles.ensures ∙ c.if-singles-identifiers.true)
    c.read_told_singles.ensures c.read_told_here.ensures

pub returns-then-singles-eq0-clause-read : goal.returns-then-singles-eq0-clause-read
returns-then-singles-eq0-clause-read c =
    read-none c.args.layout.now c.args.region.now c.args.identifiers.now c.args.here.now c.args.told.now c.read_told_here-then-singles-eq0.new.row c.requires.bits (sym c.singles-singles.ensures ∙ c.if-singles-eq0.true) c.read_told_here-then-singles-eq0.ensures
