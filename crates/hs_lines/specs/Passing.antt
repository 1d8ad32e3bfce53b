-- Lines on their way to a sink: what waits, what was written, and the sink's count of faults.
use Rattle.std.specs.Prelude.{◌≡◌, ℕ, Bool, true, false, List, ◌++◌, Option, Result, Ok, Err}
use Rattle.hs_outside.specs.Sink.{Took, TookPrefix, IsSent, IsCutShort}

-- What waited, and the text behind it, was written or waits now.
pub record IsPassed (before now : Option (List ℕ)) (waited waits text : List ℕ) : Type 0 where
  pub written : List ℕ
  pub taken : Took before now written
  pub whole : written ++ waits ≡ waited ++ text

-- by whether the sink failed: the text was passed on, or the sink took a beginning of what waited with the text behind
-- it
abbrev pub Passes : Bool → Option (List ℕ) → Option (List ℕ) → List ℕ → List ℕ → List ℕ → Type 0
Passes false before now waited waits text = IsPassed before now waited waits text
Passes true before now waited waits text = TookPrefix before now (waited ++ text)

-- The text was passed on, and no fault was counted.
pub record IsPassedOn (before now : Option (List ℕ)) (faults later : ℕ) (waited waits text : List ℕ) : Type 0 where
  pub passed : IsPassed before now waited waits text
  pub counted : later ≡ faults

-- what a call that passes a text on does to a sink, its count of faults, and what waits
abbrev pub PassesOn : {T E : Type 0} → Result T E → Option (List ℕ) → Option (List ℕ) → ℕ → ℕ → List ℕ → List ℕ →
    List ℕ → Type 0
PassesOn (Ok done) before now faults later waited waits text = IsPassedOn before now faults later waited waits text
PassesOn (Err fault) before now faults later waited waits text = IsCutShort before now faults later (waited ++ text)

-- what one that puts a line behind what waits does: where the sink failed, nothing of the line was written
abbrev pub Queues : {T E : Type 0} → Result T E → Option (List ℕ) → Option (List ℕ) → ℕ → ℕ → List ℕ → List ℕ → List ℕ →
    Type 0
Queues (Ok done) before now faults later waited waits line = IsPassedOn before now faults later waited waits line
Queues (Err fault) before now faults later waited waits line = IsCutShort before now faults later waited
