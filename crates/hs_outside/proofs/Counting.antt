-- Counts of faults over several calls.
use Rattle.std.proofs.Common.{◌≡◌, ℕ, arith}
use Rattle.hs_outside.specs.Counts.{Rose}

-- a count that was as before rose since before
pub Rose-after_same : (before now later : ℕ) → now ≡ before → Rose now later → Rose before later
Rose-after_same before now later same rose = record { not_less = omega (arith, rose.not_less); more = λ below. omega (arith, rose.more below) }

-- a count that rose and then stayed rose since before
pub Rose-then_same : (before now later : ℕ) → Rose before now → later ≡ now → Rose before later
Rose-then_same before now later rose same = record { not_less = omega (arith, rose.not_less); more = λ below. omega (arith, rose.more (λ at_last. below (omega arith))) }
