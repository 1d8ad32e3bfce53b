-- Which calls of an object over memory fail.
use Rattle.std.specs.Prelude.{ℕ, ◌+◌, Bool, ◌&&◌, ◌==◌, nat_lt, List}
use Rattle.std.specs.List.{list_any}
use Rattle.hs_outside.specs.Counts.{last_count, raised}

-- the numbers of the calls that are to fail, how many calls were made, and how many failed
pub record Plan : Type 0 where
  pub fails : List ℕ
  pub made : ℕ
  pub faults : ℕ

-- no call was made yet
abbrev pub first_plan : List ℕ → Plan
first_plan fails = record { fails = fails; made = 0; faults = 0 }

-- the next call is to fail: its number is listed. Numbers begin at 1 and end at the last value of a counter.
abbrev pub is_listed : Plan → Bool
is_listed plan = nat_lt plan.made last_count && list_any (λ number. number == plan.made + 1) plan.fails

-- after a call that did its work
abbrev pub called : Plan → Plan
called plan = record plan { made = raised plan.made }

-- after a call that failed
abbrev pub failed : Plan → Plan
failed plan = record plan { made = raised plan.made; faults = raised plan.faults }
