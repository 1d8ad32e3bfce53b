use Rattle.std.proofs.Common.{ap, ◌∙◌}
use Rattle.hs_base.specs.Contexts.{next_number}
use Rattle.hs_bits.proofs.ContextLemmas.{classes-more}
use Rattle.hs_bits.proofs.contexts.Classes.with_rest.Goals as goal

pub loop-place-init : goal.loop-place-init
loop-place-init c = c.requires.before

pub loop-place-preserved : goal.loop-place-preserved
loop-place-preserved c =
    classes-more c.args.bytes.now c.loop-place.classes c.loop-place.place c.with_place.result c.with_place-in-loop-place.result c.with_place-in-loop-place-2.result c.number-class.result c.loop-place.invariant
    (c.number-class.ensures ∙ ap next_number c.class_of.ensures) c.with_place.ensures c.with_place-in-loop-place.ensures c.with_place-in-loop-place-2.ensures
