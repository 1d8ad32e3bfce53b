-- The lines of a script: which line is which command.
use Rattle.std.specs.Prelude.{◌≡◌, ◌≢◌, ℕ, ◌^◌, ◌<◌, ◌≤◌, ◌⊎◌, List, [], ◌++◌, length, get_or, codes}
use Rattle.std.specs.Prelude.{decimal}
use Rattle.hs_base.specs.Lists.{Each}
use Rattle.hs_text.specs.declared.commands.Command.{Command}
use Rattle.hs_text.specs.declared.commands.Command.TheVariants as kept
use Rattle.hs_text.specs.declared.commands.Verb.{Verb}
use Rattle.hs_text.specs.declared.commands.Verb.TheVariants as verb
use Rattle.hs_text.specs.ReplyLines.{verb_text}

-- one of `[A-Za-z0-9_.-]`
abbrev pub IsNameByte : ℕ → Type 0
IsNameByte b =
    ((65 ≤ b) × (b ≤ 90)) ⊎ ((97 ≤ b) × (b ≤ 122)) ⊎ ((48 ≤ b) × (b ≤ 57)) ⊎ (b ≡ 95) ⊎ (b ≡ 46) ⊎ (b ≡ 45)

-- the name of a stream: 1 to 32 such bytes
pub record IsName (name : List ℕ) : Type 0 where
  pub each : Each IsNameByte name
  pub some : name ≢ []
  pub short : length name ≤ 32

-- a letter, a digit or `_`
abbrev pub IsFirstByte : ℕ → Type 0
IsFirstByte b = ((65 ≤ b) × (b ≤ 90)) ⊎ ((97 ≤ b) × (b ≤ 122)) ⊎ ((48 ≤ b) × (b ≤ 57)) ⊎ (b ≡ 95)

-- the name of a file: 1 to 64 bytes of those of names, of which the first is a letter, a digit or `_`
pub record IsFileName (file : List ℕ) : Type 0 where
  pub each : Each IsNameByte file
  pub first : IsFirstByte (get_or file 0 0)
  pub short : length file ≤ 64

-- what a line orders, with the name of the stream
pub data Order : Type 0 where
  Open : List ℕ → Order
  -- so many bytes are to come
  Write : List ℕ → ℕ → Order
  Reset : List ℕ → Order
  Close : List ℕ → Order
  -- with the name of a file
  Save : List ℕ → List ℕ → Order
  Expand : List ℕ → List ℕ → Order

-- its word
abbrev pub verb_of : Order → Verb
verb_of (Open name) = verb.Open
verb_of (Write name count) = verb.Write
verb_of (Reset name) = verb.Reset
verb_of (Close name) = verb.Close
verb_of (Save name file) = verb.Save
verb_of (Expand name file) = verb.Expand

-- the stream that it is about
abbrev pub name_of : Order → List ℕ
name_of (Open name) = name
name_of (Write name count) = name
name_of (Reset name) = name
name_of (Close name) = name
name_of (Save name file) = name
name_of (Expand name file) = name

-- how many bytes are to come
abbrev pub count_of : Order → ℕ
count_of (Open name) = 0
count_of (Write name count) = count
count_of (Reset name) = 0
count_of (Close name) = 0
count_of (Save name file) = 0
count_of (Expand name file) = 0

-- what stands behind the word and a space
abbrev pub operands_of : Order → List ℕ
operands_of (Open name) = name
operands_of (Write name count) = name ++ (codes " " ++ decimal count)
operands_of (Reset name) = name
operands_of (Close name) = name
operands_of (Save name file) = name ++ (codes " " ++ file)
operands_of (Expand name file) = name ++ (codes " " ++ file)

-- a command that names a file names one
abbrev pub NamesFile : Order → Type 0
NamesFile (Open name) = Unit {0}
NamesFile (Write name count) = Unit {0}
NamesFile (Reset name) = Unit {0}
NamesFile (Close name) = Unit {0}
NamesFile (Save name file) = IsFileName file
NamesFile (Expand name file) = IsFileName file

-- The line is this command: `open N`, `write N COUNT`, `reset N`, `close N`, `save N FILE` or `expand N FILE`, and
-- nothing else.
pub record IsCommand (line : List ℕ) (order : Order) : Type 0 where
  pub whole : line ≡ verb_text (verb_of order) ++ (codes " " ++ operands_of order)
  pub name : IsName (name_of order)
  pub count : count_of order < 2 ^ 63
  pub file : NamesFile order

-- what a command that is kept orders
abbrev pub ordered : Command → Order
ordered (kept.Open name) = Open name.now
ordered (kept.Write name count) = Write name.now count
ordered (kept.Reset name) = Reset name.now
ordered (kept.Close name) = Close name.now
ordered (kept.Save name file) = Save name.now file.now
ordered (kept.Expand name file) = Expand name.now file.now

-- A line is at most one command.
abbrev pub IsCommandOnce : Type 0
IsCommandOnce = (line : List ℕ) (x y : Order) → IsCommand line x → IsCommand line y → x ≡ y
