use Rattle.std.proofs.Common.{Some, subst}
use Rattle.std.specs.Ordering.{nat_cmp}
use Rattle.std.specs.BTreeMap.{Updates}
use Rattle.hs_base.specs.Entries.{listed}
use Rattle.hs_compile.proofs.SeenLemmas.{remember-more}
use Rattle.hs_compile.proofs.seen.Seen.add.Goals as goal

pub returns : goal.returns
returns c = remember-more c.args.self.now (record { singles = c.insert.new.self }) (listed c.args.entry.now)
    (subst (λ single. Updates nat_cmp c.args.self.now.singles c.insert.new.self c.args.entry.now.id.0 (Some single)) c.asks_single.ensures c.in_ok-insert.ensures.updates)
