-- How the program ends over the real files and streams, which tell nothing of their bytes.
use Rattle.std.specs.Prelude.{ℕ, List, None}
use Rattle.hs_outside.specs.Store.{untold}
use Rattle.hs_request.specs.Requests.{request_of}
use Rattle.hs_lists.specs.Endings.{Outside}
use Rattle.hs_tool.specs.Answers.{Input, IsAnswer}

-- files and a stream that have failed so often
abbrev pub outside : ℕ → ℕ → Outside
outside stored sunk = record { told = λ name. untold; stored = stored; out = None; sunk = sunk }

-- an input that has failed so often
abbrev pub input : ℕ → Input
input faults = record { left = None; faults = faults }

-- The program ends with the status of one call of `run` that answers its words, over files and streams that haven't
-- failed before; with 6 where the words find no memory; or with 3 where a standard stream is closed and can't be
-- opened.
pub data EndsWith : ℕ → Type 0 where
  ran : {status : ℕ} (words : List (List ℕ)) (stored sunk read erred : ℕ) →
      IsAnswer (request_of words) (outside 0 0) (outside stored sunk) (input 0) (input read) None None 0 erred status →
      EndsWith status
  no_memory : EndsWith 6
  no_stream : EndsWith 3
