-- A source over memory: what it holds, and what a read gives and leaves.
use Rattle.std.specs.Prelude.{ℕ, List, [], ◌∷◌, drop, length, min, max, if◌then◌else◌}
use Rattle.hs_outside.specs.FaultPlan.{Plan, first_plan, is_listed, called, failed}

-- the bytes that are left, the lengths of the pieces in which they come from now on, and the calls that fail
pub record SourceState : Type 0 where
  pub left : List ℕ
  pub pieces : List ℕ
  pub plan : Plan

-- a source of which nothing was read yet
abbrev pub first_source : List ℕ → List ℕ → List ℕ → SourceState
first_source bytes pieces fails = record { left = bytes; pieces = pieces; plan = first_plan fails }

-- the most that the next piece gives into a buffer with this room
abbrev pub piece_len : List ℕ → ℕ → ℕ
piece_len [] room = room
piece_len (piece ∷ later) room = min (max piece 1) room

-- the pieces after the next one: the last one repeats
abbrev pub later_pieces : List ℕ → List ℕ
later_pieces [] = []
later_pieces (last ∷ []) = last ∷ []
later_pieces (piece ∷ next ∷ later) = next ∷ later

-- how many bytes a read gives into a buffer with this room
abbrev pub given_len : SourceState → ℕ → ℕ
given_len source room = min (piece_len source.pieces room) (length source.left)

-- the source after a read into a buffer with this room
abbrev pub after_read : SourceState → ℕ → SourceState
after_read source room =
    if is_listed source.plan
    then record source { plan = failed source.plan }
    else record {
      left = drop (given_len source room) source.left;
      pieces = later_pieces source.pieces;
      plan = called source.plan;
    }
