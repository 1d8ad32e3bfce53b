-- The refusal of a text that isn't read.
use Rattle.std.specs.Prelude.{◌≡◌, ℕ, ◌<◌, ◌≤◌, ◌⊎◌, Bool, true, false, Option, Some, None, nat_lt, if◌then◌else◌, List}
use Rattle.std.specs.Prelude.{[], ◌∷◌, ◌++◌, length}
use Rattle.hs_base.specs.declared.flags.Flags.{Flags}
use Rattle.hs_base.specs.declared.refusal.Refusal.{Refusal}
use Rattle.hs_base.specs.declared.refusal.Refusal.TheVariants.{Syntax, UnknownEscape, Unsupported, UnsupportedFlag}
use Rattle.hs_base.specs.declared.refusal.Refusal.TheVariants.{UnsupportedParameter, MatchesEmpty, EmbeddedEnd}
use Rattle.hs_base.specs.declared.refusal.Refusal.TheVariants.{RepeatLimit, PositionLimit, LengthLimit, DepthLimit}
use Rattle.hs_base.specs.declared.refusal.Refusal.TheVariants.{CountLimit, StateLimit, MixedSingle, OffsetOrder}
use Rattle.hs_base.specs.declared.refusal.Refusal.TheVariants.{ListLine}
use Rattle.hs_base.specs.declared.construct.Construct.TheVariants.{Possessive}
use Rattle.hs_base.specs.Refusals.{number_of}
use Rattle.hs_base.specs.Trees.{greatest_bound}
use Rattle.hs_syntax.specs.declared.mode.Mode.{Mode}
use Rattle.hs_parse.specs.declared.fault.ParseFault.{ParseFault}
use Rattle.hs_parse.specs.declared.fault.ParseFault.TheVariants.{Refused, Memory}
use Rattle.hs_parse.specs.declared.spot.Spot.{Spot}
use Rattle.hs_parse.specs.Spots.{spot, start_of}
use Rattle.hs_parse.specs.Tokens.{Token, ending, single, code_point, assertion, opening, closing, bar, quantifier}
use Rattle.hs_parse.specs.Tokens.{setting, faulty}
use Rattle.hs_parse.specs.Tokens.{Next}
use Rattle.hs_parse.specs.Grammar.{greatest_length, greatest_depth}

-- What stands before a place: the start of a sequence or a change of options, an atom, which a quantifier may follow,
-- or a quantifier.
pub data Before : Type 0 where
  beginning : Before
  atom : Before
  repeated : Before

-- How far the reading from left to right has come: the place and the options in force, and for each open group, the
-- innermost first, those in force outside of it.
pub record State : Type 0 where
  pub here : Spot
  pub outside : List Mode
  pub before : Before

abbrev pub state : Spot → List Mode → Before → State
state here outside before = record { here = here; outside = outside; before = before }

-- how the reading begins
abbrev pub start_state : Flags → State
start_state flags = state (start_of flags) [] beginning

-- What a token does to the reading: it goes on, has come to the end of a text that is read, or stops at a place, for
-- one reason or several.
pub data Move : Type 0 where
  goes : State → Move
  accepts : Move
  stops : ℕ → List Refusal → Move

-- the place that a refusal names
abbrev pub place_of : Refusal → ℕ
place_of (Syntax at) = at
place_of (UnknownEscape at) = at
place_of (Unsupported construct at) = at
place_of (UnsupportedFlag bit) = 0
place_of (UnsupportedParameter bit) = 0
place_of MatchesEmpty = 0
place_of EmbeddedEnd = 0
place_of (RepeatLimit bound) = 0
place_of (PositionLimit count) = 0
place_of LengthLimit = 0
place_of DepthLimit = 0
place_of CountLimit = 0
place_of (StateLimit bytes) = 0
place_of (MixedSingle id) = 0
place_of OffsetOrder = 0
place_of (ListLine line) = 0

-- a quantifier follows an atom
abbrev pub order_faults : ℕ → Before → List Refusal
order_faults at beginning = Syntax at ∷ []
order_faults at atom = []
order_faults at repeated = Syntax at ∷ []

-- the bounds of a quantifier aren't too great, and in order
abbrev pub bounds_faults : (at least : ℕ) → (greatest : Option ℕ) → List Refusal
bounds_faults at least None = if nat_lt greatest_bound least then RepeatLimit least ∷ [] else []
bounds_faults at least (Some greatest) =
    if nat_lt greatest_bound least then RepeatLimit least ∷ []
    else if nat_lt greatest_bound greatest then RepeatLimit greatest ∷ []
    else if nat_lt greatest least then Syntax at ∷ []
    else []

-- a quantifier isn't possessive
abbrev pub mark_faults : (at : ℕ) → (possessive : Bool) → List Refusal
mark_faults at true = Unsupported Possessive at ∷ []
mark_faults at false = []

-- all that is wrong with a quantifier at a place
abbrev pub quantifier_faults : (at least : ℕ) → (greatest : Option ℕ) → (possessive : Bool) → Before → List Refusal
quantifier_faults at least greatest possessive before =
    order_faults at before ++ (bounds_faults at least greatest ++ mark_faults at possessive)

-- at the end of the text no group may be open
abbrev pub end_move : ℕ → List Mode → Move
end_move at [] = accepts
end_move at (mode ∷ outside) = stops at (Syntax at ∷ [])

-- a `)` closes the innermost group, and the options are again those outside of it
abbrev pub close_move : ℕ → (end : ℕ) → List Mode → Move
close_move at end [] = stops at (Syntax at ∷ [])
close_move at end (mode ∷ outside) = goes (state (spot end mode) outside atom)

-- a quantifier with which nothing is wrong
abbrev pub quantifier_move : ℕ → Spot → List Mode → List Refusal → Move
quantifier_move at behind outside [] = goes (state behind outside repeated)
quantifier_move at behind outside (fault ∷ faults) = stops at (fault ∷ faults)

-- What a token that begins at a place, and what is behind it, does to the reading.
abbrev pub move : Token → (start behind : Spot) → List Mode → Before → Move
move ending start behind outside before = end_move start.place outside
move (single set) start behind outside before = goes (state behind outside atom)
move code_point start behind outside before = goes (state behind outside atom)
move (assertion here) start behind outside before = goes (state behind outside atom)
move opening start behind outside before =
    if nat_lt (length outside) greatest_depth
    then goes (state behind (start.mode ∷ outside) beginning)
    else stops start.place (DepthLimit ∷ [])
move closing start behind outside before = close_move start.place behind.place outside
move bar start behind outside before = goes (state behind outside beginning)
move (quantifier least greatest possessive) start behind outside before =
    quantifier_move start.place behind outside (quantifier_faults start.place least greatest possessive before)
move setting start behind outside before = goes (state behind outside beginning)
move (faulty refusal) start behind outside before = stops (place_of refusal) (refusal ∷ [])

-- The reading comes from one state to another, token by token.
pub data Run (text : List ℕ) : State → State → Type 0 where
  here : {s : State} → Run text s s
  on : {s t u : State} {start behind : Spot} {token : Token} →
      Next text s.here start token behind →
      move token start behind s.outside s.before ≡ goes t →
      Run text t u →
      Run text s u

-- The reading of the text stops at the place for these reasons.
pub record StopsAt (text : List ℕ) (flags : Flags) (at : ℕ) (refusals : List Refusal) : Type 0 where
  pub last : State
  pub run : Run text (start_state flags) last
  pub token : Token
  pub start : Spot
  pub behind : Spot
  pub there : Next text last.here start token behind
  pub stopped : move token start behind last.outside last.before ≡ stops at refusals

-- a refusal is one of these
abbrev pub IsOneOf : Refusal → List Refusal → Type 0
IsOneOf refusal [] = ⊥
IsOneOf refusal (other ∷ others) = (refusal ≡ other) ⊎ IsOneOf refusal others

-- The text has the refusal at the place: it is too long, which is told before all else, or its reading stops.
pub data HasFault (text : List ℕ) (flags : Flags) : ℕ → Refusal → Type 0 where
  too_long :
      greatest_length < length text →
      HasFault text flags 0 LengthLimit
  stopped : {at : ℕ} {refusals : List Refusal} {refusal : Refusal} →
      length text ≤ greatest_length →
      StopsAt text flags at refusals →
      IsOneOf refusal refusals →
      HasFault text flags at refusal

-- one refusal isn't behind another: its place is less, or the same and its number no greater
abbrev pub IsFirst : ℕ → Refusal → ℕ → Refusal → Type 0
IsFirst at refusal place other = (at < place) ⊎ ((at ≡ place) × (number_of refusal ≤ number_of other))

-- The fault of a text: of the refusals that it has the one of least place, of two at one place that of least number.
pub record Fault (text : List ℕ) (flags : Flags) (refusal : Refusal) : Type 0 where
  pub at : ℕ
  pub has : HasFault text flags at refusal
  pub first :
      (place : ℕ) (other : Refusal) → HasFault text flags place other → IsFirst at refusal place other

-- Why a text gave no tree: its fault, or no memory.
abbrev pub IsParseFault : List ℕ → Flags → ParseFault → Type 0
IsParseFault text flags (Refused refusal) = Fault text flags refusal
IsParseFault text flags Memory = Unit {0}

-- the numbers of refusals that a text may have
pub data IsOfText : ℕ → Type 0 where
  syntax_fault : IsOfText 1
  unknown_escape : IsOfText 2
  unsupported : IsOfText 3
  repeat_limit : IsOfText 8
  length_limit : IsOfText 10
  depth_limit : IsOfText 11
