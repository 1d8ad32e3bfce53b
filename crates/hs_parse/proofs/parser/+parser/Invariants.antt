use Rattle.std.proofs.Common.{◌+◌, ◌-◌, ◌*◌, length, map}
use Rattle.hs_expr.specs.Meaning.{tree_of}
use Rattle.hs_parse.proofs.LoopLemmas.{AlternativesRead, SequenceRead}
use Rattle.hs_parse.proofs.parser.+parser.Given as goal

abbrev pub decreases-group_at : goal.decreases-group_at
decreases-group_at l = 5 * (128 - l.depth) + 0

abbrev pub decreases-atom_at : goal.decreases-atom_at
decreases-atom_at l = 5 * (128 - l.depth) + 1

abbrev pub decreases-item_at : goal.decreases-item_at
decreases-item_at l = 5 * (128 - l.depth) + 2

abbrev pub decreases-sequence_at : goal.decreases-sequence_at
decreases-sequence_at l = 5 * (128 - l.depth) + 3

abbrev pub decreases-alternation_at : goal.decreases-alternation_at
decreases-alternation_at l = 5 * (128 - l.depth) + 4

-- the alternatives so far are read up to the spot
abbrev pub invariant-alternation_at-loop-alternatives : goal.invariant-alternation_at-loop-alternatives
invariant-alternation_at-loop-alternatives l =
    AlternativesRead l.text l.fn.depth l.fn.start (map tree_of l.alternatives.items) l.at

abbrev pub decreases-alternation_at-loop-alternatives : goal.decreases-alternation_at-loop-alternatives
decreases-alternation_at-loop-alternatives l = length l.text - l.at.place

-- the items so far are read up to the spot
abbrev pub invariant-sequence_at-loop-at : goal.invariant-sequence_at-loop-at
invariant-sequence_at-loop-at l = SequenceRead l.text l.fn.depth l.fn.start (map tree_of l.items.items) l.at

abbrev pub decreases-sequence_at-loop-at : goal.decreases-sequence_at-loop-at
decreases-sequence_at-loop-at l = length l.text - l.at.place
