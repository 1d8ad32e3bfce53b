-- The lines of a file. They are cut at line feeds, of which the last may be missing, and one carriage return before a
-- line feed or the file's end isn't part of the line.
use Rattle.std.specs.Prelude.{◌≡◌, ◌≢◌, ℕ, List, [], ◌∷◌, ◌++◌}
use Rattle.hs_base.specs.Lists.{Each}
use Rattle.hs_base.specs.Assertions.{line_feed}

-- the byte 0D
abbrev pub carriage_return : ℕ
carriage_return = 13

-- The line is what stands up to its end, without the carriage return there.
pub data IsLineOf (raw line : List ℕ) : Type 0 where
  plain : ((front : List ℕ) → raw ≢ front ++ carriage_return ∷ []) → line ≡ raw → IsLineOf raw line
  returned : raw ≡ line ++ carriage_return ∷ [] → IsLineOf raw line

-- The file, which isn't empty, begins with this line, and the rest stands behind the line's end.
pub data Begins (line rest file : List ℕ) : Type 0 where
  unended : file ≢ [] → Each (λ b. b ≢ line_feed) file → IsLineOf file line → rest ≡ [] → Begins line rest file
  ended : (raw : List ℕ) → Each (λ b. b ≢ line_feed) raw → IsLineOf raw line → file ≡ raw ++ line_feed ∷ rest →
      Begins line rest file
