-- A sink over memory: what it holds, and what a write takes and leaves.
use Rattle.std.specs.Prelude.{ℕ, ◌-◌, Bool, ◌||◌, ◌&&◌, nat_le, nat_lt, List, [], ◌++◌, take, length, min}
use Rattle.std.specs.Prelude.{if◌then◌else◌}
use Rattle.hs_outside.specs.FaultPlan.{Plan, first_plan, is_listed, called, failed}

-- the bytes that were written, the most that it holds, and the calls that fail
pub record SinkState : Type 0 where
  pub written : List ℕ
  pub room : ℕ
  pub plan : Plan

-- a sink to which nothing was written yet
abbrev pub first_sink : ℕ → List ℕ → SinkState
first_sink room fails = record { written = []; room = room; plan = first_plan fails }

-- a write fails where it is listed, and where the piece has bytes and there is no room for one
abbrev pub refuses_write : SinkState → List ℕ → Bool
refuses_write sink piece = is_listed sink.plan || (nat_lt 0 (length piece) && nat_le sink.room (length sink.written))

-- how many bytes a write takes: as many as there is room for
abbrev pub taken_len : SinkState → List ℕ → ℕ
taken_len sink piece = min (length piece) (sink.room - length sink.written)

-- the sink after a write
abbrev pub after_write : SinkState → List ℕ → SinkState
after_write sink piece =
    if refuses_write sink piece
    then record sink { plan = failed sink.plan }
    else record sink { written = sink.written ++ take (taken_len sink piece) piece; plan = called sink.plan }
