-- The offsets of a stream.
use Rattle.std.specs.Prelude.{ℕ}

-- the greatest offset, which is also the greatest number of bytes of a stream
abbrev pub greatest_offset : ℕ
greatest_offset = 9223372036854775807
