use Rattle.std.proofs.Common.{sym}
use Rattle.hs_base.specs.Entries.{listed}
use Rattle.hs_compile.proofs.SeenLemmas.{alike-unknown, mixed-told}
use Rattle.hs_compile.proofs.seen.Seen.is_mixed.Goals as goal

pub returns-in-None : goal.returns-in-None
returns-in-None c before kept = alike-unknown c.args.self.now (listed c.args.entry.now) before kept (sym c.in-None.ensures.value)

pub returns-in-Some : goal.returns-in-Some
returns-in-Some c before kept =
    mixed-told c.args.self.now (listed c.args.entry.now) before c.in-Some.single.now c.asks_single.result kept (sym c.in-Some.ensures.value) c.asks_single.ensures
