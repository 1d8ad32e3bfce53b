-- The text of two runs.
use Rattle.std.specs.Prelude.{ℕ, List, ◌++◌, codes, decimal}
use Rattle.hs_stream.specs.declared.tally.Tally.{Tally}

-- `expressions N`, `bytes L` and `region R`, a line each, and then of the two runs, `even` and `cut`, how many reports
-- there were and the sum of their ends
abbrev pub soak_lines : (expressions bytes region : ℕ) → (even cut : Tally) → List ℕ
soak_lines expressions bytes region even cut =
    codes "expressions " ++ (decimal expressions
    ++ (codes "\nbytes " ++ (decimal bytes
    ++ (codes "\nregion " ++ (decimal region
    ++ (codes "\neven " ++ (decimal even.count ++ (codes " " ++ (decimal even.sum
    ++ (codes "\ncut " ++ (decimal cut.count ++ (codes " " ++ (decimal cut.sum
    ++ codes "\n")))))))))))))
