use Rattle.std.proofs.Common.{◌≡◌, ◌-◌, ◌∙◌, ◌&&◌, ap, not, refl}
use Rattle.hs_compile.proofs.CountLemmas.{named-known, one_if}
use Rattle.hs_compile.proofs.counts.Counts.with_known.Goals as goal

pub returns-clause-named : goal.returns-clause-named
returns-clause-named c P x few named known is =
    let gone : c.from.result ≡ one_if (c.args.kept && not c.args.single) = c.from.ensures in
    named-known P x c.args.kept c.args.self _ named known.0 known.1 c.args.single is refl (c.saturating_sub.ensures ∙ ap (λ n. c.args.self.singles - n) gone)
