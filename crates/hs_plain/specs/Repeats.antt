-- Copies of a relation in a row, where their number is bounded above or free.
use Rattle.std.specs.Prelude.{ℕ, ◌≤◌, Option, IfSome}
use Rattle.hs_base.specs.Spans.{Copies}

-- at most n copies lead from i to j
abbrev pub UpTo : (ℕ → ℕ → Type 0) → ℕ → ℕ → ℕ → Type 0
UpTo R n i j = (k : ℕ) × (k ≤ n) × Copies R k i j

-- some number of copies does
abbrev pub AnyNumber : (ℕ → ℕ → Type 0) → ℕ → ℕ → Type 0
AnyNumber R i j = (k : ℕ) × Copies R k i j

-- so many copies do, at least and, where there is a second number, at most
abbrev pub RepeatSpans : (ℕ → ℕ → Type 0) → ℕ → Option ℕ → ℕ → ℕ → Type 0
RepeatSpans R least greatest i j = (n : ℕ) × (least ≤ n) × IfSome greatest (λ m. n ≤ m) × Copies R n i j
