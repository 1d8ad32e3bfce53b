-- What the beginning of a pattern file says of all files that begin so.
use Rattle.std.specs.Prelude.{◌≡◌, ◌≢◌, ℕ, List, [], ◌∷◌, ◌++◌}
use Rattle.hs_base.specs.Lists.{Each}
use Rattle.hs_base.specs.Assertions.{line_feed}
use Rattle.hs_text.specs.Lines.{Begins}
use Rattle.hs_text.specs.PatternFile.{IsBad, HasBadLine}

-- the bytes are none, or end with a line feed
pub data AreEnded (lines : List ℕ) : Type 0 where
  no_lines : lines ≡ [] → AreEnded lines
  ended_by : (front : List ℕ) → lines ≡ front ++ line_feed ∷ [] → AreEnded lines

-- The bytes are lines that are ended, and the beginning of a last one that isn't.
pub record AreLines (bytes lines last : List ℕ) : Type 0 where
  pub parts : bytes ≡ lines ++ last
  pub ended : AreEnded lines
  pub unended : Each (λ b. b ≢ line_feed) last

-- no line that begins with these bytes is of the form
abbrev pub BeginsBad : List ℕ → Type 0
BeginsBad bytes = (more line rest : List ℕ) → Begins line rest (bytes ++ more) → IsBad line

-- The bytes begin with this part, of which the first bad line is that of each file that begins with the part.
pub record IsSettledPart (bytes part : List ℕ) : Type 0 where
  pub behind : List ℕ
  pub whole : bytes ≡ part ++ behind
  pub stays : (line : ℕ) (rest : List ℕ) → HasBadLine part line → HasBadLine (part ++ rest) line
