-- What holds of all words.
use Rattle.std.specs.Prelude.{◌≡◌, ◌↔◌, ℕ, [], List, None}
use Rattle.clap.specs.Words.{fault_of}
use Rattle.hs_request.specs.Requests.{command_line, request_of}

-- Words are a request exactly where the command line, as `clap` is given it, finds no fault in them.
abbrev pub AreTakenExactly : Type 0
AreTakenExactly = (words : List (List ℕ)) → (request_of words ≡ None → ⊥) ↔ (fault_of command_line words ≡ [])
