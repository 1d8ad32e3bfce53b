use Rattle.std.proofs.Common.{◌+◌, ◌∷◌, [], ◌++◌, ℕ, Vec, Global, ap, sym, subst, ◌∙◌, arith}
use Rattle.std.proofs.lemmas.Option.{slice_get-get_or}
use Rattle.hs_compile.specs.GraphWakes.{AreFirstEngines}
use Rattle.hs_compile.proofs.WakeLemmas.{engine-more, engine-passed}
use Rattle.hs_compile.proofs.graph_wakes.first_engines.Goals as goal
use Rattle.hs_compile.proofs.graph_wakes.first_engines.Goals.{then-is_first+in_ok-graph_number+in_ok-push, else-is_first}

pub loop-number-preserved : goal.loop-number-preserved
loop-number-preserved c =
    let nodes = c.args.nodes.now in
    let n = c.loop-number.number in
    let list = c.loop-number.list.items in
    elim c.if-is_first.branch [
      | then-is_first+in_ok-graph_number+in_ok-push w ↦
          subst (λ xs. AreFirstEngines nodes (n + 1) xs)
          (sym (ap (λ (v : Vec ℕ Global). v.items) w.list-is ∙ (w.in_ok-push.ensures.items ∙ ap (λ k. list ++ k ∷ []) w.in_ok-graph_number.ensures.is)))
          (engine-more nodes n list c.loop-number.invariant (omega arith))
      | else-is_first w ↦
          subst (λ xs. AreFirstEngines nodes (n + 1) xs) (sym (ap (λ (v : Vec ℕ Global). v.items) w.list-is))
          (engine-passed nodes n list c.loop-number.invariant _ (slice_get-get_or nodes n _ (omega arith)) (sym c.is_first.ensures ∙ w.if-is_first.false))
    ]
