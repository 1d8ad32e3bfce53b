-- The room that a program takes within a call.
use Rattle.std.specs.Prelude.{◌≡◌, length}
use Rattle.hs_run.specs.Programs.{window_room}
use Rattle.hs_rose.specs.Programs.{Tables}
use Rattle.hs_run.specs.declared.scratch.Scratch.{Scratch}

-- The scratch has the room that the program takes.
pub record FitsScratch (program : Tables) (scratch : Scratch) : Type 0 where
  pub window : length scratch.window.items ≡ window_room
  pub ends : length scratch.ends.items ≡ length program.identifiers
  pub kept : length scratch.kept.items ≡ length program.identifiers
