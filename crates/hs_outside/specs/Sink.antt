-- What a sink has taken, and what a write says of it.
use Rattle.std.specs.Prelude.{◌≡◌, ℕ, ◌<◌, ◌≤◌, List, ◌++◌, length, take, Option, None, Some, Result, Ok, Err}
use Rattle.hs_outside.specs.Counts.{Rose}

-- the bytes were added; a sink may stop telling what it took, and then tells nothing later
abbrev pub Took : Option (List ℕ) → Option (List ℕ) → List ℕ → Type 0
Took None None bytes = Unit {0}
Took (Some before) None bytes = Unit {0}
Took None (Some now) bytes = ⊥
Took (Some before) (Some now) bytes = now ≡ before ++ bytes

-- the first n bytes of the piece were added; 0 of a piece that isn't empty is never the answer
pub record Writes (before now : Option (List ℕ)) (piece : List ℕ) (n : ℕ) : Type 0 where
  pub within : n ≤ length piece
  pub some : 0 < length piece → 0 < n
  pub taken : Took before now (take n piece)

-- some first bytes of the piece were added, maybe none, maybe all
pub record TookPrefix (before now : Option (List ℕ)) (piece : List ℕ) : Type 0 where
  pub front : List ℕ
  pub rest : List ℕ
  pub split : piece ≡ front ++ rest
  pub taken : Took before now front

-- a whole text was sent: all of it was added, and no fault was counted
pub record IsSent (before after : Option (List ℕ)) (faults later : ℕ) (text : List ℕ) : Type 0 where
  pub taken : Took before after text
  pub counted : later ≡ faults

-- a text was cut short: a beginning of it was added, maybe none, maybe all, and a fault was counted
pub record IsCutShort (before after : Option (List ℕ)) (faults later : ℕ) (text : List ℕ) : Type 0 where
  pub cut : TookPrefix before after text
  pub failed : Rose faults later

-- what a call that sends a text does to a sink: the bytes that it took and its count of faults, before and after
abbrev pub Sends : {T E : Type 0} → Result T E → Option (List ℕ) → Option (List ℕ) → ℕ → ℕ → List ℕ → Type 0
Sends (Ok done) before after faults later text = IsSent before after faults later text
Sends (Err fault) before after faults later text = IsCutShort before after faults later text
