-- Reports that are kept in a list.
use Rattle.std.specs.Prelude.{◌≡◌, ℕ, nat_lt, List, [], ◌∷◌, ◌++◌, length, if◌then◌else◌}
use Rattle.hs_base.specs.declared.entry.Report.{Report}

-- the reports so far, and the most that are kept
pub record Collection : Type 0 where
  pub reports : List Report
  pub room : ℕ

-- the report of an identifier and an end
abbrev pub report_of : ℕ → ℕ → Report
report_of id to = record { id = record { 0 = id }; to = to }

-- with one report more, if there is room
abbrev pub with_report : Collection → ℕ → ℕ → Collection
with_report c id to =
    if nat_lt (length c.reports) c.room
    then record c { reports = c.reports ++ report_of id to ∷ [] }
    else c

-- what takes reports so
abbrev pub Collects : Collection → ℕ → ℕ → Collection → Type 0
Collects before id to now = now ≡ with_report before id to
