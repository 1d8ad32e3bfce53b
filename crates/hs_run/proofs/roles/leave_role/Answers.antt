use Rattle.std.proofs.Common.{sym, subst}
use Rattle.hs_base.specs.Chains.{piece_tree}
use Rattle.hs_run.specs.Pieces.{IsRoleNull}
use Rattle.hs_run.proofs.PieceLemmas.{goes-on}
use Rattle.hs_run.proofs.roles.leave_role.Goals as goal

pub returns : goal.returns
returns c p rest u runs fit is kept tells =
    goes-on p rest u c.args.spot.now c.null.result c.args.now c.out_of-out.result c.go_on.result (subst (λ mask. IsRoleNull mask (piece_tree p.piece)) (sym c.null.ensures) runs.null) fit is c.go_on.ensures (c.out_of-out.ensures p u runs is kept) tells
