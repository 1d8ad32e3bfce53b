use Rattle.std.proofs.Common.{refl, arith, inl, inr}
use Rattle.hs_literals.proofs.MaskLemmas.{before_inside, before_history}
use Rattle.hs_literals.proofs.blocks.bytes_before.Goals as goal

pub returns-then-from-ge-PLACES : goal.returns-then-from-ge-PLACES
returns-then-from-ge-PLACES c = before_inside c.args.history.now c.args.bytes.now c.args.from _ (omega arith) c.requires.within (omega arith)

pub returns : goal.returns
returns c =
    elim c.requires.whole [
      | inl start ↦ before_history c.args.history.now c.args.bytes.now c.args.from c.saturating_sub.result _ start (omega (arith, c.saturating_sub.ensures)) refl
      | inr far ↦ absurd (omega arith)
    ]
