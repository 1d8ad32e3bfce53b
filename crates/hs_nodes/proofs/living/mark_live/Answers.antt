use Rattle.std.proofs.Common.{◌≡◌, ℕ, false, Some, slice_get, subst}
use Rattle.hs_base.specs.Bits.{AreZero}
use Rattle.hs_bits.specs.Marks.{is_marked}
use Rattle.hs_nodes.specs.Walks.{node_part}
use Rattle.hs_nodes.specs.declared.table.Node.{Node}
use Rattle.hs_nodes.proofs.LivingLemmas.{live-resting}
use Rattle.hs_nodes.proofs.living.mark_live.Goals as goal

pub returns-clause-resting : goal.returns-clause-resting
returns-clause-resting g c =
    live-resting g.E.Engine.meaning c.args.table.now c.requires.sound.0 c.args.region.now c.mark_around.new.marks c.requires.sound.1 c.requires.idle
    (subst (λ nodes. (k : ℕ) (node : Node) → slice_get nodes k ≡ Some node → is_marked c.mark_around.new.marks k ≡ false → AreZero (node_part c.args.region.now node)) c.deref.ensures.value c.mark_around.ensures.zero)
