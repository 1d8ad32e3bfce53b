-- The lines of a stream's reports on their way to a sink that may fail.
use Rattle.std.specs.Prelude.{◌≡◌, ℕ, Bool, true, false, List, Option}
use Rattle.std.specs.List.{flat_map}
use Rattle.hs_base.specs.Told.{Pair}
use Rattle.hs_outside.specs.Sink.{IsCutShort}
use Rattle.hs_text.specs.ReportLines.{report_line}
use Rattle.hs_lines.specs.Passing.{IsPassedOn}
use Rattle.hs_lines.specs.declared.report_lines.ReportLines.{ReportLines}

-- the line of a report, with the name of its stream, if it has one
abbrev pub report_line_of : Option (List ℕ) → Pair → List ℕ
report_line_of name pair = report_line name (record { id = record { 0 = pair.id }; to = pair.to })

-- the lines of reports, in order
abbrev pub report_lines_of : Option (List ℕ) → List Pair → List ℕ
report_lines_of name pairs = flat_map (report_line_of name) pairs

-- what the sink took, its count of faults, what waits, and whether the sink failed
pub record Way : Type 0 where
  pub taken : Option (List ℕ)
  pub faults : ℕ
  pub waits : List ℕ
  pub failed : Bool

-- What the line of one report makes of it: it is passed on, or the sink fails, and from then on nothing is written.
pub data Prints (before : Way) (line : List ℕ) (after : Way) : Type 0 where
  passed :
      before.failed ≡ false →
      after.failed ≡ false →
      IsPassedOn before.taken after.taken before.faults after.faults before.waits after.waits line →
      Prints before line after
  cut :
      before.failed ≡ false →
      after.failed ≡ true →
      IsCutShort before.taken after.taken before.faults after.faults before.waits →
      Prints before line after
  over : before.failed ≡ true → after ≡ before → Prints before line after

module _ {O : Type 0} (Written : O → Option (List ℕ)) (Faults : O → ℕ) where
  -- what the lines of reports have made of the sink so far
  abbrev pub way_of : ReportLines O → Way
  way_of lines = record {
    taken = Written lines.out.now;
    faults = Faults lines.out.now;
    waits = lines.pending.now;
    failed = lines.failed;
  }

  -- One report makes that of it, with the same name and by the same two references.
  pub record Writes (before : ReportLines O) (id to : ℕ) (after : ReportLines O) : Type 0 where
    pub same_name : after.name.now ≡ before.name.now
    pub same_out : after.out.ghost_name ≡ before.out.ghost_name
    pub same_pending : after.pending.ghost_name ≡ before.pending.ghost_name
    pub prints : Prints (way_of before) (report_line_of before.name.now (record { id = id; to = to }))
        (way_of after)
