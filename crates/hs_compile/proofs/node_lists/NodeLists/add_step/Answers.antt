use Rattle.std.proofs.Common.{refl, arith}
use Rattle.hs_compile.specs.GraphNodes.{added, copied}
use Rattle.hs_compile.proofs.node_lists.NodeLists.add_step.Goals as goal

pub returns-then-number-len : goal.returns-then-number-len
returns-then-number-len c =
    added (record { parent = c.args.parent; kind = c.args.step.kind; start = c.place.result; end = c.place-then-number-len.result })
    (omega (arith, c.if-number-len.true, c.len.ensures, c.args.self.now.nodes.ok.0))
    (record { parent_is = refl; kind = refl; start = c.place.ensures.at; end = c.place-then-number-len.ensures.at }) c.in_ok-push.ensures.items refl

pub returns-in_ok-push-2 : goal.returns-in_ok-push-2
returns-in_ok-push-2 c =
    copied (record { node = c.args.number; field = c.args.step.role })
    (λ same. c.if-number-len.false (omega (arith, same, c.len.ensures, c.args.self.now.nodes.ok.0))) refl refl refl c.in_ok-push-2.ensures.items
