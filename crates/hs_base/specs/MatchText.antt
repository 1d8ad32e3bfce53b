-- What is written of a stream that is scanned from its start to its end.
use Rattle.std.specs.Prelude.{◌≡◌, ℕ, List, [], ◌++◌, length, codes, decimal}
use Rattle.std.specs.List.{flat_map}
use Rattle.hs_base.specs.Patterns.{Pattern}
use Rattle.hs_base.specs.Told.{Pair, IsNew, IsLast}

-- the line of a report: `ID TO`
abbrev pub report_line : Pair → List ℕ
report_line p = decimal p.id ++ codes " " ++ decimal p.to ++ codes "\n"

-- the lines of reports, in order
abbrev pub report_lines : List Pair → List ℕ
report_lines pairs = flat_map report_line pairs

-- the line of the stream's length: `end LENGTH`
abbrev pub end_line : ℕ → List ℕ
end_line count = codes "end " ++ decimal count ++ codes "\n"

-- The text of a match: the reports that the bytes decide, then those that the end decides, then the length.
pub record IsMatchText (P : List Pattern) (w text : List ℕ) : Type 0 where
  pub new : List Pair
  pub last : List Pair
  pub by_bytes : IsNew P [] w new
  pub by_end : IsLast P w last
  pub whole : text ≡ report_lines new ++ report_lines last ++ end_line (length w)
