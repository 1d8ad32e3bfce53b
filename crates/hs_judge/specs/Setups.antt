-- What the plain runner runs.
use Rattle.hs_layout.specs.Layouts.{Laid}
use Rattle.hs_rose.specs.Programs.{Tables}
use Rattle.hs_run.specs.Programs.{FitsLayout, IsRunnable}

-- a program, and the layout of its regions
pub record Made : Type 0 where
  pub program : Tables
  pub layout : Laid

abbrev pub made : Tables → Laid → Made
made program layout = record { program = program; layout = layout }

-- The program can be run, and the layout is its own.
pub record IsMade (m : Made) : Type 0 where
  pub runs : IsRunnable m.program
  pub fits : FitsLayout m.program m.layout
