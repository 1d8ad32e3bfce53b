-- What a script's reader has ahead, and what is taken of it.
use Rattle.std.specs.Prelude.{◌≡◌, ◌≢◌, ℕ, ◌+◌, Bool, true, false, List, [], ◌∷◌, ◌++◌, ◌<◌, length, take, drop, Option}
use Rattle.std.specs.Prelude.{None, Some}
use Rattle.hs_base.specs.Lists.{Each}
use Rattle.hs_base.specs.Assertions.{line_feed}
use Rattle.hs_base.specs.Offsets.{greatest_offset}
use Rattle.hs_outside.specs.Source.{Gave, IsAtEnd}
use Rattle.hs_script.specs.Scripts.{BeginsLine}

-- the bytes that wait, how many stand before them, and whether the end of the input was told
pub record Ahead : Type 0 where
  pub bytes : List ℕ
  pub at : ℕ
  pub ended : Bool

-- what a source has left with what waits before it
abbrev pub all_ahead : Option (List ℕ) → Ahead → Option (List ℕ)
all_ahead None ahead = None
all_ahead (Some left) ahead = Some (ahead.bytes ++ left)

-- where the end was told, nothing is ahead
abbrev pub IsSettled : Option (List ℕ) → Ahead → Type 0
IsSettled left ahead = ahead.ended ≡ true → IsAtEnd (all_ahead left ahead)

-- what may come: nothing where the end was told
abbrev pub MayCome : Bool → List ℕ → Type 0
MayCome ended rest = ended ≡ true → rest ≡ []

-- nothing came, and the end was told
pub record IsOver (ahead : Ahead) (seen : List ℕ) : Type 0 where
  pub nothing : seen ≡ []
  pub still : ahead.ended ≡ true

-- The bytes were taken of what was ahead; none where the end was told.
pub record Consumes (before now : Option (List ℕ)) (old new : Ahead) (seen : List ℕ) : Type 0 where
  pub given : Gave (all_ahead before old) (all_ahead now new) seen
  pub here : new.at ≡ old.at + length seen
  pub settled : IsSettled before old → IsSettled now new
  pub over : old.ended ≡ true → IsOver new seen

-- how many bytes of a script are taken at most before its end is told, and then those of the last piece
abbrev pub most_script : ℕ
most_script = greatest_offset

abbrev pub most_taken : ℕ
most_taken = 9223372036854841343

-- how many bytes of a line are kept: more than any command has
abbrev pub kept_len : ℕ
kept_len = 112

-- what is kept of a line
abbrev pub kept_of : List ℕ → List ℕ
kept_of line = take kept_len line

-- the place of the first line feed
pub record IsFeedAt (bytes : List ℕ) (at : ℕ) : Type 0 where
  pub within : at < length bytes
  pub plain : Each (λ b. b ≢ line_feed) (take at bytes)
  pub split : bytes ≡ take at bytes ++ line_feed ∷ drop (at + 1) bytes

-- What waited was gone through up to a line feed or to its end, and added to what is kept of the line.
pub data TakesPart (old new : Ahead) (kept keeps : List ℕ) : Bool → Type 0 where
  fed : (part : List ℕ) →
      Each (λ b. b ≢ line_feed) part → old.bytes ≡ part ++ line_feed ∷ new.bytes → new.at ≡ old.at + (length part + 1) →
      new.ended ≡ old.ended →
      keeps ≡ kept_of (kept ++ part) → TakesPart old new kept keeps true
  all : Each (λ b. b ≢ line_feed) old.bytes → new.bytes ≡ [] → new.at ≡ old.at + length old.bytes →
      new.ended ≡ old.ended →
      keeps ≡ kept_of (kept ++ old.bytes) → TakesPart old new kept keeps false

-- A line came; whatever comes behind, it is the first line of all.
pub record IsLineRead (before now : Option (List ℕ)) (old new : Ahead) (kept : List ℕ) : Type 0 where
  pub line : List ℕ
  pub seen : List ℕ
  pub consumes : Consumes before now old new seen
  pub begins : (rest : List ℕ) → MayCome new.ended rest → BeginsLine line rest (seen ++ rest)
  pub keeps : kept ≡ kept_of line
  pub fed : new.ended ≡ false → seen ≡ line ++ line_feed ∷ []
  pub plain : Each (λ b. b ≢ line_feed) line

-- No line is left.
pub record IsLineless (before now : Option (List ℕ)) (old new : Ahead) : Type 0 where
  pub consumes : Consumes before now old new []
  pub ended : new.ended ≡ true

-- The beginning of a line came, maybe none of it.
pub record IsLineBegun (before now : Option (List ℕ)) (old new : Ahead) : Type 0 where
  pub part : List ℕ
  pub consumes : Consumes before now old new part
  pub plain : Each (λ b. b ≢ line_feed) part
  pub still_open : new.ended ≡ false

-- A line came, or none is left.
abbrev pub ReadsLine : Option (List ℕ) → Option (List ℕ) → Ahead → Ahead → List ℕ → Bool → Type 0
ReadsLine before now old new kept true = IsLineRead before now old new kept
ReadsLine before now old new kept false = IsLineless before now old new

-- What stands behind a payload: one line feed, nothing at the end, or another byte.
pub data TakesFeed (before now : Option (List ℕ)) (old new : Ahead) : Bool → Type 0 where
  line_end : Consumes before now old new (line_feed ∷ []) → TakesFeed before now old new true
  nothing : Consumes before now old new [] → new.ended ≡ true → TakesFeed before now old new true
  another : (b : ℕ) → b ≢ line_feed → Consumes before now old new (b ∷ []) → TakesFeed before now old new false
