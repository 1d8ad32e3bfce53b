use Rattle.std.proofs.Common.{◌≡◌, ℕ, Option, Some, sym, subst}
use Rattle.hs_request.specs.Requests.{plain_request}
use Rattle.hs_request.specs.declared.request.Request.{Request}
use Rattle.hs_request.specs.declared.request.Request.TheVariants.{Soak}
use Rattle.hs_lists.specs.Causes.{Cause}
use Rattle.hs_lists.specs.Endings.{Outside}
use Rattle.hs_tool.specs.SoakEndings.{SoakEnds}
use Rattle.hs_tool.specs.Answers.{Ends, Input}
use Rattle.hs_tool.proofs.top.execute.Goals as goal

-- the request is that of `soak`
soak-ends : (request : Request) (seed count : ℕ) (before now : Outside) (input inputs : Input) (outcome : Option Cause) → request ≡ Soak seed count → SoakEnds seed count before now outcome → Ends (Some (plain_request request)) before now input inputs outcome
soak-ends request seed count before now input inputs outcome same ends =
    subst (λ (r : Request). Ends (Some (plain_request r)) before now input inputs outcome) (sym same) ends

pub returns-in-Soak-clause-ends : goal.returns-in-Soak-clause-ends
returns-in-Soak-clause-ends g c =
    soak-ends c.args.request c.in-Soak.seed c.in-Soak.count _ _ _ _ _ c.in-Soak.is (c.soak.ensures (g.S.Store.told c.args.store.now) (g.S.Store.faults c.args.store.now))
