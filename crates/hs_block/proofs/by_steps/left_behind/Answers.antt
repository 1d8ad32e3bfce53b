use Rattle.std.proofs.Common.{◌≡◌, true, false, sym, ◌∙◌}
use Rattle.hs_block.proofs.by_steps.left_behind.Goals as goal

pub returns-then-rests-clause-leaves : goal.returns-then-rests-clause-leaves
returns-then-rests-clause-leaves g c = λ tree u entered runs count offset behind field next. (
  (λ is. absurd (let e : false ≡ true = sym (c.empty.ensures next) ∙ is in cc)),
  (λ leaves. absurd ((c.requires.quiet c.if-rests.true).leaves_nothing tree u entered runs count field next leaves)),
)
