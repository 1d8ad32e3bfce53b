use Rattle.std.proofs.Common.{sym, ◌∙◌}
use Rattle.std.specs.Cmp.{booleans_Decides}
use lib.Pointwise.{pointwise_decides}
use Rattle.hs_plain.proofs.offsets.Offsets.is_same.Goals as goal

pub returns : goal.returns
returns c =
    let (to, from) = pointwise_decides booleans_Decides c.args.self.now.marks.items c.args.other.now.marks.items in
    (λ same. to (sym c.eq.ensures ∙ same), λ same. c.eq.ensures ∙ from same)
