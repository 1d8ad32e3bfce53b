use Rattle.std.proofs.Common.{[], arith}
use Rattle.std.specs.Prelude.{slice_index_or}
use Rattle.hs_waking.proofs.FitStackLemmas.{open-alike}
use Rattle.hs_waking.proofs.fit_stack.FitStack.turn_to.Goals as goal

pub returns-clause-levels : goal.returns-clause-levels
returns-clause-levels c sets prev bytes known d below =
    let alike = c.levels_alike.ensures in
    open-alike c.args.self.now.row c.args.row.now sets prev bytes d (slice_index_or c.args.self.now.levels d []) (alike.behind (omega (arith, below, c.min.ensures, c.min-self.ensures))) (λ e low. alike.numbers e (omega (arith, below, low, c.min.ensures, c.min-self.ensures))) (known d (omega (arith, below, c.min.ensures, c.min-self.ensures)))
