-- The files that a script may change: those that it saves streams into.
use Rattle.std.specs.Prelude.{◌≡◌, ◌⊎◌, ℕ, List, Option}
use Rattle.hs_base.specs.Lists.{OneOf}
use Rattle.hs_outside.specs.Source.{IsWhole}
use Rattle.hs_outside.specs.Store.{Told, untold}
use Rattle.hs_text.specs.declared.reply_lines.ScriptFault.{ScriptFault}
use Rattle.hs_text.specs.Commands.{Order, IsCommand}
use Rattle.hs_text.specs.Commands as order
use Rattle.hs_script.specs.Actions.{Action, Open, Write, Cut, Reset, Close, Save, Expand}
use Rattle.hs_script.specs.Scripts.{IsScript}

-- What is told of a name that isn't saved into is as it was; with a save a store may stop telling of it. Where nothing
-- is saved, all is as it was.
pub record KeepsBut (IsSavedInto : List ℕ → Type 0) (before now : List ℕ → Told) : Type 0 where
  pub others : (name : List ℕ) → (IsSavedInto name → ⊥) → (now name ≡ before name) ⊎ (now name ≡ untold)
  pub none : ((name : List ℕ) → IsSavedInto name → ⊥) → now ≡ before

-- the line is a command that saves a stream into the file of that name
pub record SavesInto (line name : List ℕ) : Type 0 where
  pub stream : List ℕ
  pub command : IsCommand line (order.Save stream name)

-- the action is a save into the file of that name
abbrev pub IsSaveInto : List ℕ → Action → Type 0
IsSaveInto name (Open n) = ⊥
IsSaveInto name (Write n v) = ⊥
IsSaveInto name (Cut n all v) = ⊥
IsSaveInto name (Reset n) = ⊥
IsSaveInto name (Close n) = ⊥
IsSaveInto name (Save n file) = file ≡ name
IsSaveInto name (Expand n file) = ⊥

-- One of the commands of the script that the source has is a save into the file of that name. Where it doesn't tell
-- its bytes, these are any.
pub record MaySave (left : Option (List ℕ)) (name : List ℕ) : Type 0 where
  pub bytes : List ℕ
  pub whole : IsWhole left bytes
  pub actions : List Action
  pub ending : Option ScriptFault
  pub script : IsScript 1 bytes actions ending
  pub saves : OneOf (IsSaveInto name) actions

-- the order names a file
abbrev pub IsFileOrder : Order → Type 0
IsFileOrder (order.Open name) = ⊥
IsFileOrder (order.Write name count) = ⊥
IsFileOrder (order.Reset name) = ⊥
IsFileOrder (order.Close name) = ⊥
IsFileOrder (order.Save name file) = Unit {0}
IsFileOrder (order.Expand name file) = Unit {0}
