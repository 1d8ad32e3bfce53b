-- What the commands answer of a list: whether it is accepted, what was put, what a database holds, and where bytes stop
-- to be one.
use Rattle.std.specs.Prelude.{ℕ, List, ◌++◌, codes, decimal}

-- `accepted COUNT`
abbrev pub accepted_line : ℕ → List ℕ
accepted_line count = codes "accepted " ++ decimal count ++ codes "\n"

-- `compiled COUNT BYTES`
abbrev pub compiled_line : ℕ → ℕ → List ℕ
compiled_line count bytes = codes "compiled " ++ decimal count ++ codes " " ++ decimal bytes ++ codes "\n"

-- `version 1`, `expressions N` and `identifiers K`, a line each
abbrev pub info_lines : ℕ → ℕ → List ℕ
info_lines expressions identifiers =
    codes "version 1\nexpressions " ++ decimal expressions ++ codes "\nidentifiers " ++ decimal identifiers ++ codes
    "\n"

-- `region R` and `state S`, a line each
abbrev pub size_lines : ℕ → ℕ → List ℕ
size_lines region state = codes "region " ++ decimal region ++ codes "\nstate " ++ decimal state ++ codes "\n"

-- `fault database AT`
abbrev pub form_line : ℕ → List ℕ
form_line at = codes "fault database " ++ decimal at ++ codes "\n"
