-- What breaks a script off, with the counts of faults of the source and the sink before and now.
use Rattle.std.specs.Prelude.{◌≡◌, ℕ, ◌≤◌, Bool, true, false, [], Result, Ok, Err}
use Rattle.hs_outside.specs.Counts.{Rose}
use Rattle.hs_reader.specs.Reading.{Ahead, most_script}
use Rattle.hs_reader.specs.declared.fault.Break.{Break}
use Rattle.hs_reader.specs.declared.fault.Break.TheVariants.{Read, Limit, Write}

-- No fault was counted.
pub record NoFault (read reads sunk sinks : ℕ) : Type 0 where
  pub source : reads ≡ read
  pub sink : sinks ≡ sunk

-- Where the source failed or the script is too long, nothing waits; it is too long where so many bytes were taken.
pub record IsDry (ahead : Ahead) : Type 0 where
  pub still_open : ahead.ended ≡ false
  pub dry : ahead.bytes ≡ []

pub record IsTooLong (ahead : Ahead) : Type 0 where
  pub dry : IsDry ahead
  pub long : most_script ≤ ahead.at

-- what is ahead where reading was broken off
abbrev pub StopsAt : Ahead → Break → Type 0
StopsAt ahead Read = IsDry ahead
StopsAt ahead Limit = IsTooLong ahead
StopsAt ahead Write = ahead.ended ≡ false

-- A call that only reads isn't broken off by the sink.
abbrev pub ReadCounts : {A : Type 0} → ℕ → ℕ → Result A Break → Type 0
ReadCounts read reads (Ok more) = reads ≡ read
ReadCounts read reads (Err Read) = Rose read reads
ReadCounts read reads (Err Limit) = reads ≡ read
ReadCounts read reads (Err Write) = ⊥

-- what was counted where it was broken off
abbrev pub BreakCounts : ℕ → ℕ → ℕ → ℕ → Break → Type 0
BreakCounts read reads sunk sinks Read = Rose read reads × (sinks ≡ sunk)
BreakCounts read reads sunk sinks Limit = NoFault read reads sunk sinks
BreakCounts read reads sunk sinks Write = (reads ≡ read) × Rose sunk sinks

-- what was counted
abbrev pub Counts : {A : Type 0} → ℕ → ℕ → ℕ → ℕ → Result A Break → Type 0
Counts read reads sunk sinks (Ok done) = NoFault read reads sunk sinks
Counts read reads sunk sinks (Err stop) = BreakCounts read reads sunk sinks stop

-- whether the sink failed
abbrev pub is_write : Break → Bool
is_write Read = false
is_write Limit = false
is_write Write = true

abbrev pub is_lost : {A : Type 0} → Result A Break → Bool
is_lost (Ok done) = false
is_lost (Err stop) = is_write stop
