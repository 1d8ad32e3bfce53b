use Rattle.std.proofs.Common.{◌≡◌, ℕ, ◌-◌, length, take, false, sym, subst, ◌∙◌, arith}
use Rattle.std.proofs.lemmas.List.{length-take-le}
use Rattle.std.proofs.lemmas.Option.{same_Some}
use Rattle.hs_rose.specs.PieceEngines.{piece_meaning}
use Rattle.hs_run.specs.Pieces.{IsRoleNull}
use Rattle.hs_run.proofs.LookLemmas.{back-leaves, prev-take}
use Rattle.hs_run.proofs.look_back.leave_back.Goals as goal

pub returns-clause-leaves : goal.returns-clause-leaves
returns-clause-leaves g c e tree rest u there runs listed narrow is_null fit is =
    let engine = c.engine_of-engine.result.now in
    let one : e ≡ engine = same_Some e engine (sym there ∙ c.engine_of-engine.ensures) in
    let for_it = subst (λ q. (piece_meaning q).is_for tree) one runs in
    let k : ℕ = length u - c.args.back in
    let size : length (take k u) ≡ k = length-take-le k u (omega arith) in
    let both = c.run_back-prev.ensures.runs tree u for_it (subst (λ q. (piece_meaning q).always ≡ false) one listed) is in
    back-leaves (piece_meaning engine) tree rest (take k u) c.run_back-prev.new.part c.run_back-prev.result (c.args.spot.now.at - c.args.back) c.null.result c.all.result c.out-out.result c.go_on.result for_it narrow (subst (λ mask. IsRoleNull mask tree) (sym c.null.ensures) is_null) fit both.0
    (both.1 ∙ prev-take u k (omega arith)) (omega (arith, is.offset, size)) c.out-out.ensures.leaves c.all.ensures c.go_on.ensures

pub returns-clause-ticks : goal.returns-clause-ticks
returns-clause-ticks g c = c.run_back-prev.ensures.ticks
