use Rattle.std.proofs.Common.{sym, ◌∙◌}
use Rattle.hs_keeping.proofs.KeepingLemmas.{all-last, all-read, all-written, none-read}
use Rattle.hs_keeping.proofs.keeping.write_rows.Goals as goal

pub returns-then-singles-identifiers-clause-written : goal.returns-then-singles-identifiers-clause-written
returns-then-singles-identifiers-clause-written c =
    all-written c.args.layout.now c.args.identifiers.now c.args.told.now c.args.here.now c.args.last.now c.args.region.now c.write_told_singles.new.region c.write_ends.new.region c.requires.bits c.write_ends.ensures c.write_told_singles.ensures

pub returns-then-singles-identifiers-clause-read : goal.returns-then-singles-identifiers-clause-read
returns-then-singles-identifiers-clause-read c =
    all-read c.args.layout.now c.args.identifiers.now c.args.told.now c.args.here.now c.args.last.now c.args.region.now c.write_told_singles.new.region c.write_ends.new.region c.requires.bits c.write_ends.ensures (sym c.singles-singles.ensures ∙ c.if-singles-identifiers.true) c.write_told_singles.ensures

pub returns-then-singles-identifiers-clause-last : goal.returns-then-singles-identifiers-clause-last
returns-then-singles-identifiers-clause-last c =
    all-last c.args.layout.now c.args.identifiers.now c.args.told.now c.args.here.now c.args.last.now c.args.region.now c.write_told_singles.new.region c.write_ends.new.region c.requires.bits c.write_ends.ensures

pub returns-then-singles-eq0-clause-read : goal.returns-then-singles-eq0-clause-read
returns-then-singles-eq0-clause-read c =
    none-read c.args.layout.now c.args.identifiers.now c.args.told.now c.args.here.now c.args.last.now c.args.region.now c.args.region.now c.write_ends-then-singles-eq0.new.region c.requires.bits c.write_ends-then-singles-eq0.ensures (sym c.singles-singles.ensures ∙ c.if-singles-eq0.true)

pub returns-then-singles-eq0-clause-last : goal.returns-then-singles-eq0-clause-last
returns-then-singles-eq0-clause-last c =
    all-last c.args.layout.now c.args.identifiers.now c.args.told.now c.args.here.now c.args.last.now c.args.region.now c.args.region.now c.write_ends-then-singles-eq0.new.region c.requires.bits c.write_ends-then-singles-eq0.ensures
