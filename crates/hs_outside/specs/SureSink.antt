-- A sink over memory that never fails: what it holds, and what a write leaves.
use Rattle.std.specs.Prelude.{ℕ, ◌+◌, Bool, true, false, nat_le, List, [], ◌++◌, length, Option, None, Some}
use Rattle.std.specs.Prelude.{if◌then◌else◌}

-- the bytes of the writes that had room, the most that it holds, and whether each write until now had room
pub record Kept : Type 0 where
  pub kept : List ℕ
  pub room : ℕ
  pub is_told : Bool

-- a sink to which nothing was written yet
abbrev pub first_record : ℕ → Kept
first_record room = record { kept = []; room = room; is_told = true }

-- the bytes that were written: after a write past the room they are told no more
abbrev pub written_of : Kept → Option (List ℕ)
written_of sink = if sink.is_told then Some sink.kept else None

-- the sink after a write: of a piece that has room whole, else with the piece lost
abbrev pub after_record : Kept → List ℕ → Kept
after_record sink piece =
    if nat_le (length sink.kept + length piece) sink.room
    then record sink { kept = sink.kept ++ piece }
    else record sink { is_told = false }
