-- Whether one of the numbers below another passes a test.
use Rattle.std.specs.Prelude.{ℕ, zero, suc, Bool, false, ◌||◌}

abbrev pub any_below : ℕ → (ℕ → Bool) → Bool
any_below zero test = false
any_below (suc n) test = test n || any_below n test
