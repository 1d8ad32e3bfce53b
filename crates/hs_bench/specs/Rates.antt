-- How fast bytes were scanned.
use Rattle.std.specs.Prelude.{ℕ, ◌*◌, ◌/◌, ◌-◌, ◌^◌, ◌==◌, if◌then◌else◌, min}

-- so many bytes in so many nanoseconds, in megabytes a second; 0 where no time has passed
abbrev pub rate_of : (bytes nanoseconds : ℕ) → ℕ
rate_of bytes nanoseconds = if nanoseconds == 0 then 0 else bytes * 1000 / nanoseconds

-- so many bytes in so many nanoseconds, in tenths of a nanosecond for each block of another number of bytes; 0 where
-- there are no bytes
abbrev pub block_tenths_of : (bytes nanoseconds block : ℕ) → ℕ
block_tenths_of bytes nanoseconds block =
    if bytes == 0 then 0 else min (nanoseconds * (10 * block)) (2 ^ 128 - 1) / bytes
