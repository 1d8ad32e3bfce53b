-- A source over memory that never fails: what it holds, and what a read gives and leaves.
use Rattle.std.specs.Prelude.{ℕ, List, drop, length, min}
use Rattle.hs_outside.specs.MemSource.{piece_len, later_pieces}

-- the bytes that are left, and the lengths of the pieces in which they come from now on
pub record Supply : Type 0 where
  pub left : List ℕ
  pub pieces : List ℕ

-- a source of which nothing was read yet
abbrev pub first_supply : List ℕ → List ℕ → Supply
first_supply bytes pieces = record { left = bytes; pieces = pieces }

-- how many bytes a read gives into a buffer with this room
abbrev pub supplied_len : Supply → ℕ → ℕ
supplied_len source room = min (piece_len source.pieces room) (length source.left)

-- the source after a read into a buffer with this room
abbrev pub after_supply : Supply → ℕ → Supply
after_supply source room = record {
  left = drop (supplied_len source room) source.left;
  pieces = later_pieces source.pieces;
}
