-- What is kept of a piece of a chain between the bytes of a stream: its field, by its form.
use Rattle.std.specs.Prelude.{◌≡◌, ℕ, zero, suc, ◌+◌, ◌/◌, ◌<◌, ◌≤◌, Bool, true, false, List, [], ◌∷◌, length, Option}
use Rattle.std.specs.Prelude.{Some, None}
use Rattle.hs_base.specs.Lists.{Each}
use Rattle.hs_base.specs.Trees.{Tree}
use Rattle.hs_base.specs.WrittenOut.{write_out, count}
use Rattle.hs_base.specs.Chains.{Piece, lit, nfa, rep}
use Rattle.hs_base.specs.Leaving.{AreEntered}
use Rattle.hs_base.specs.Bits.{has_bit}
use Rattle.hs_base.specs.PositionRows.{IsField}
use Rattle.hs_base.specs.LiteralRows.{TellsEntries}
use Rattle.hs_base.specs.RepeatRows.{distance_of, IsFirstRow, IsLastRow, IsRingRow, IsDistanceAt, IsRingAt}

-- What is kept of a piece.
pub data Form : Type 0 where
  -- nothing: it is asked anew from the last bytes
  nothing : Form
  -- the positions that are reached
  positions : Tree → Form
  -- the entries of a literal of so many bytes
  literal : ℕ → Form
  -- the greatest distance of an entry, of at least so many bytes of a set
  first : List Bool → ℕ → Form
  -- the least distance of an entry, of at most so many bytes of a set
  last : List Bool → ℕ → Form
  -- each entry that is at most so far away, of bytes of a set
  ring : List Bool → ℕ → Form

-- of a literal: nothing of a first one, nor of the second piece behind one that looks back
abbrev pub literal_form : (looks_back : Bool) → List Piece → ℕ → Form
literal_form looks_back [] n = nothing
literal_form true (x ∷ []) n = nothing
literal_form false (x ∷ []) n = literal n
literal_form looks_back (x ∷ y ∷ pieces) n = literal n

-- of an expression: nothing of a first one that looks back
abbrev pub tree_form : (looks_back : Bool) → List Piece → Tree → Form
tree_form true [] tree = nothing
tree_form false [] tree = positions tree
tree_form looks_back (x ∷ pieces) tree = positions tree

-- of a long repeat of a set
abbrev pub repeat_form : List Bool → ℕ → Option ℕ → Form
repeat_form set n None = first set n
repeat_form set zero (Some m) = last set m
repeat_form set (suc zero) (Some m) = last set m
repeat_form set (suc (suc n)) (Some m) = ring set m

-- The form of the piece behind those, in a chain whose first piece looks back or not.
abbrev pub form_of : (looks_back : Bool) → List Piece → Piece → Form
form_of looks_back pieces (lit xs) = literal_form looks_back pieces (length xs)
form_of looks_back pieces (nfa tree) = tree_form looks_back pieces tree
form_of looks_back pieces (rep set n m) = repeat_form set n m

-- how many bytes a field of the form has
abbrev pub form_size : Form → ℕ
form_size nothing = 0
form_size (positions tree) = (count (write_out tree) + 7) / 8
form_size (literal n) = 4
form_size (first set n) = 2
form_size (last set m) = 2
form_size (ring set m) = (m + 7) / 8

-- The bytes say that of the stream so far, and of whether the piece was entered at each offset.
abbrev pub Says : Form → (bytes u : List ℕ) (entered : List Bool) → Type 0
Says nothing bytes u entered = Unit {0}
Says (positions tree) bytes u entered = IsField bytes (write_out tree) u entered
Says (literal n) bytes u entered = TellsEntries n (has_bit bytes) u entered
Says (first set n) bytes u entered = IsFirstRow n set bytes u entered
Says (last set m) bytes u entered = IsLastRow m set bytes u entered
Says (ring set m) bytes u entered = IsRingRow m set bytes u entered

-- so many bytes
pub record AreBytes (size : ℕ) (bytes : List ℕ) : Type 0 where
  pub count : length bytes ≡ size
  pub each : Each (λ b. b < 256) bytes

-- The bytes are the field of a piece of that form behind u, which is entered where those pieces are left.
pub record IsKeptBy (form : Form) (pieces : List Piece) (bytes u : List ℕ) : Type 0 where
  pub entered : List Bool
  pub are : AreEntered pieces u entered
  pub sized : AreBytes (form_size form) bytes
  pub says : Says form bytes u entered

-- Of the form `nothing` no bytes are kept, and nobody has to tell where the piece is entered.
abbrev pub IsKeptAs : Form → (pieces : List Piece) (bytes u : List ℕ) → Type 0
IsKeptAs nothing pieces bytes u = bytes ≡ []
IsKeptAs (positions tree) pieces bytes u = IsKeptBy (positions tree) pieces bytes u
IsKeptAs (literal n) pieces bytes u = IsKeptBy (literal n) pieces bytes u
IsKeptAs (first set n) pieces bytes u = IsKeptBy (first set n) pieces bytes u
IsKeptAs (last set m) pieces bytes u = IsKeptBy (last set m) pieces bytes u
IsKeptAs (ring set m) pieces bytes u = IsKeptBy (ring set m) pieces bytes u

-- The bytes may be a field of the form where the stream has so many bytes: no bit that stands for nothing is set, no
-- distance is above its bound, and none reaches before the stream's first byte.
abbrev pub IsFieldAt : Form → (bytes : List ℕ) (at : ℕ) → Type 0
IsFieldAt nothing bytes at = Unit {0}
IsFieldAt (positions tree) bytes at = (k : ℕ) → count (write_out tree) ≤ k → has_bit bytes k ≡ false
IsFieldAt (literal n) bytes at = IsRingAt n bytes at
IsFieldAt (first set n) bytes at = IsDistanceAt n (distance_of bytes) at
IsFieldAt (last set m) bytes at = IsDistanceAt m (distance_of bytes) at
IsFieldAt (ring set m) bytes at = IsRingAt m bytes at
