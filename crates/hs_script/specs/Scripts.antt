-- Scripts: which actions a list of bytes is, and with which fault it ends, if with any.
use Rattle.std.specs.Prelude.{◌≡◌, ◌≢◌, ℕ, suc, ◌==◌, nat_lt, List, [], ◌∷◌, ◌++◌, length, take, drop, Option, None}
use Rattle.std.specs.Prelude.{Some, if◌then◌else◌}
use Rattle.hs_base.specs.Lists.{Each}
use Rattle.hs_base.specs.Assertions.{line_feed}
use Rattle.hs_text.specs.declared.reply_lines.ScriptFault.{ScriptFault}
use Rattle.hs_text.specs.declared.reply_lines.ScriptFault.TheVariants as fault
use Rattle.hs_text.specs.Commands.{Order, IsCommand}
use Rattle.hs_text.specs.Commands as order
use Rattle.hs_script.specs.Actions.{Action, Write, Cut, IsAlone}

-- The bytes begin with this line, and the rest stands behind its line feed, which may be missing at the end of the
-- bytes.
pub data BeginsLine (line rest bytes : List ℕ) : Type 0 where
  fed : Each (λ b. b ≢ line_feed) line → bytes ≡ line ++ line_feed ∷ rest → BeginsLine line rest bytes
  unfed : Each (λ b. b ≢ line_feed) bytes → bytes ≢ [] → line ≡ bytes → rest ≡ [] → BeginsLine line rest bytes

-- What the first command of bytes is: an action with the bytes that stand behind it, or the last actions of the script
-- and its fault.
pub data First : Type 0 where
  Goes : Action → List ℕ → First
  Ends : List Action → ScriptFault → First

-- Behind what is written stands a line feed, which may be missing at the end of the bytes. Any other byte is a fault of
-- this command line, which is done before.
abbrev pub behind_payload : ℕ → List ℕ → List ℕ → List ℕ → First
behind_payload number name payload [] = Goes (Write name payload) []
behind_payload number name payload (b ∷ behind) =
    if b == line_feed then Goes (Write name payload) behind else Ends (Write name payload ∷ []) (fault.Script number)

-- the write of so many bytes, whose command line has this number, with the bytes behind that line
abbrev pub written_by : ℕ → List ℕ → ℕ → List ℕ → First
written_by number name count rest =
    if nat_lt (length rest) count
    then Ends (Cut name count rest ∷ []) (fault.Truncated number)
    else behind_payload number name (take count rest) (drop count rest)

-- The first command of bytes of which there are some; its line has this number.
pub data IsFirst (number : ℕ) (bytes : List ℕ) (first : First) : Type 0 where
  no_command : {line rest : List ℕ} →
      BeginsLine line rest bytes → ((order : Order) → IsCommand line order → ⊥) →
      first ≡ Ends [] (fault.Script number) → IsFirst number bytes first
  alone : {line rest : List ℕ} {order : Order} {action : Action} →
      BeginsLine line rest bytes → IsCommand line order → IsAlone order action →
      first ≡ Goes action rest → IsFirst number bytes first
  write : {line rest name : List ℕ} {count : ℕ} →
      BeginsLine line rest bytes → IsCommand line (order.Write name count) →
      first ≡ written_by number name count rest → IsFirst number bytes first

-- The bytes are these actions, and end with this fault, if with any. Command lines are counted from this number on;
-- what is written isn't counted.
pub data IsScript : ℕ → List ℕ → List Action → Option ScriptFault → Type 0 where
  nothing : {number : ℕ} → IsScript number [] [] None
  goes : {number : ℕ} {bytes behind : List ℕ} {action : Action} {actions : List Action} {ending : Option ScriptFault} →
      IsFirst number bytes (Goes action behind) → IsScript (suc number) behind actions ending →
      IsScript number bytes (action ∷ actions) ending
  ends : {number : ℕ} {bytes : List ℕ} {actions : List Action} {fault : ScriptFault} →
      IsFirst number bytes (Ends actions fault) → IsScript number bytes actions (Some fault)
