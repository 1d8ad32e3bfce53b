-- What may be spent on steps that weren't met yet, as numbers.
use Rattle.std.specs.Prelude.{ℕ, nat_lt, if◌then◌else◌}
use Rattle.hs_pool.specs.declared.credit.Credit.{Credit}

-- so many steps, so many blocks of rest, and so many the next time
abbrev pub credit : (left rest patience : ℕ) → Credit
credit left rest patience = record { left = left; rest = rest; patience = patience }

-- the lesser of two numbers
abbrev pub at_most : (most n : ℕ) → ℕ
at_most most n = if nat_lt n most then n else most
