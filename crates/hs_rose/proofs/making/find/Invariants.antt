use Rattle.std.proofs.Common.{◌≡◌, ℕ, ◌<◌, map, slice_get, Some}
use Rattle.hs_base.specs.Lists.{Each}
use Rattle.hs_pieces.specs.Meaning.{plain_piece}
use Rattle.hs_rose.specs.Made.{IsMarked, model_of}
use Rattle.hs_rose.proofs.making.find.Given as goal

abbrev pub invariant-loop-number : goal.invariant-loop-number
invariant-loop-number l = Each IsMarked l.made → (k : ℕ) → k < l.number → slice_get (map model_of l.made) k ≡ Some (plain_piece l.piece) → ⊥
