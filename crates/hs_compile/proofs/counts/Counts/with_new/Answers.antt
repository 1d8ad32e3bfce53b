use Rattle.std.proofs.Common.{◌≡◌, ◌+◌, ◌∙◌, ap, arith, min, sym}
use Rattle.hs_compile.proofs.CountLemmas.{named-new, one_if}
use Rattle.hs_compile.proofs.counts.Counts.with_new.Goals as goal

pub returns-clause-named : goal.returns-clause-named
returns-clause-named c P x few named none is =
    let asked : c.from.result ≡ one_if x.single = c.from.ensures ∙ ap one_if (sym is) in
    named-new P x c.args.self _ 18446744073709551615 (omega arith) few named none c.saturating_add.ensures (c.saturating_add-2.ensures ∙ ap (λ n. min (c.args.self.singles + n) 18446744073709551615) asked)
