use Rattle.std.proofs.Common.{◌≡◌, ◌∙◌, ℕ, [], ◌∷◌, ◌++◌, sym, ap, subst}
use Rattle.hs_base.specs.ByteSets.{members}
use Rattle.hs_base.specs.Contexts.{class_of}
use Rattle.hs_base.specs.ContextSets.{has_next}
use Rattle.hs_base.specs.RepeatRows.{IsAway}
use Rattle.hs_base.specs.RepeatRows.{IsFirstDistance, IsFirstRow}
use Rattle.hs_repeat.proofs.first.FirstEngine.step.Goals as goal

pub returns-clause-takes : goal.returns-clause-takes
returns-clause-takes g c tree u entered runs len at prev first =
    let b : ℕ = c.args.byte in
    let set = c.args.self.now.farthest.set in
    let n : ℕ = c.args.self.now.farthest.bound in
    let entering : c.contains-entering.result ≡ has_next c.args.enter (class_of b) = c.contains-entering.ensures ∙ ap (has_next c.args.enter) c.class_of.ensures in
    subst (λ i. IsFirstRow n (members set) c.write.new.row (u ++ b ∷ []) (entered ++ i ∷ [])) entering
    (subst (IsFirstDistance n (IsAway (members set) (u ++ b ∷ []) (entered ++ c.contains-entering.result ∷ []))) (sym c.write.ensures.value)
    (c.next_distance-distance.ensures.moves u entered len (subst (IsFirstDistance n (IsAway (members set) u entered)) (sym c.read.ensures) first)))
