-- What the commands of a script do to streams.
use Rattle.std.specs.Prelude.{ℕ, List}
use Rattle.hs_text.specs.Commands.{Order}
use Rattle.hs_text.specs.Commands as order

-- a command on the stream of a name, with the bytes that it writes, or the name of its file
pub data Action : Type 0 where
  Open : List ℕ → Action
  Write : List ℕ → List ℕ → Action
  -- A write whose bytes the end of the input cuts short: so many were to come, and these came.
  Cut : List ℕ → ℕ → List ℕ → Action
  Reset : List ℕ → Action
  Close : List ℕ → Action
  Save : List ℕ → List ℕ → Action
  Expand : List ℕ → List ℕ → Action

-- the stream that it is on
abbrev pub name_of : Action → List ℕ
name_of (Open name) = name
name_of (Write name payload) = name
name_of (Cut name count came) = name
name_of (Reset name) = name
name_of (Close name) = name
name_of (Save name file) = name
name_of (Expand name file) = name

-- A command that writes nothing is this action.
pub data IsAlone : Order → Action → Type 0 where
  open_alone : {name : List ℕ} → IsAlone (order.Open name) (Open name)
  reset_alone : {name : List ℕ} → IsAlone (order.Reset name) (Reset name)
  close_alone : {name : List ℕ} → IsAlone (order.Close name) (Close name)
  save_alone : {name file : List ℕ} → IsAlone (order.Save name file) (Save name file)
  expand_alone : {name file : List ℕ} → IsAlone (order.Expand name file) (Expand name file)
