use Rattle.std.proofs.Common.{◌≡◌, ℕ, ◌+◌, sym, subst, ◌∙◌, arith}
use Rattle.hs_base.specs.Assertions.{Holds}
use Rattle.hs_plain.specs.declared.offsets.Offsets.{Offsets}
use Rattle.hs_plain.specs.OffsetSets.{AddsOffsets}
use Rattle.hs_plain.proofs.OffsetLemmas.{FromBelow, from_below-member, from_below-other, from_below-all}
use Rattle.hs_plain.proofs.ends.assertion_ends.Goals as goal
use Rattle.hs_plain.proofs.ends.assertion_ends.Goals.{then-contains, else-contains}

pub loop-at-preserved : goal.loop-at-preserved
loop-at-preserved c =
    let R : ℕ → ℕ → Type 0 = λ i j. (i ≡ j) × Holds c.args.stream.now c.args.ended c.args.assertion i in
    let starts = c.args.starts.now in
    let P : Offsets → Type 0 = λ ends. AddsOffsets (FromBelow R starts (c.loop-at.at + 1)) c.in_ok-ends.ends ends in
    elim c.if-contains.branch [
      | then-contains w ↦
          subst P (sym w.ends-is)
          (from_below-member R starts c.in_ok-ends.ends c.loop-at.ends w.add_place.new.ends c.loop-at.at (sym c.contains.ensures ∙ w.if-contains.true) c.loop-at.invariant w.add_place.ensures)
      | else-contains w ↦
          subst P (sym w.ends-is)
          (from_below-other R starts c.in_ok-ends.ends c.loop-at.ends c.loop-at.at (sym c.contains.ensures ∙ w.if-contains.false) c.loop-at.invariant)
    ]

pub returns : goal.returns
returns c =
    from_below-all (λ i j. (i ≡ j) × Holds c.args.stream.now c.args.ended c.args.assertion i) c.args.starts.now c.in_ok-ends.ends c.loop-at.ends c.loop-at.at (omega (arith, c.room-at-end.ensures)) (omega (arith, c.room.ensures, c.in_ok-ends.ensures.size)) c.in_ok-ends.ensures.members c.loop-at.invariant
