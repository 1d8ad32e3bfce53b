-- What is kept of an identifier between the bytes of a stream, and what one more byte, or the end, then decides of it.
use Rattle.std.specs.Prelude.{◌≡◌, ◌↔◌, ℕ, suc, ◌<◌, ◌≤◌, Bool, true, false, not, ◌||◌, ◌&&◌, if◌then◌else◌, List, []}
use Rattle.std.specs.Prelude.{◌∷◌, ◌++◌, length}
use Rattle.hs_base.specs.declared.context.Next.{Next}
use Rattle.hs_base.specs.declared.context.Next.TheVariants as after
use Rattle.hs_base.specs.Assertions.{line_feed}
use Rattle.hs_base.specs.Lists.{OneOf, Each, IsMember, IsRising}
use Rattle.hs_base.specs.Contexts.{class_of, then_bytes, then_ended}
use Rattle.hs_base.specs.Spans.{Spans}
use Rattle.hs_base.specs.Patterns.{Pattern, is_single}
use Rattle.hs_base.specs.Reports.{IsReport}
use Rattle.hs_base.specs.Told.{Pair}

-- The pattern has that identifier, and a match that ends behind the bytes u where `next` comes next.
pub record EndsHere (id : ℕ) (u : List ℕ) (next : Next) (x : Pattern) : Type 0 where
  pub named : x.id ≡ id
  pub above : x.least ≤ length u
  pub below : length u ≤ x.greatest
  pub from : ℕ
  pub spans : Spans (then_bytes u next) (then_ended next) x.tree from (length u)

-- some pattern of the list does
abbrev pub HasEndHere : List Pattern → ℕ → List ℕ → Next → Type 0
HasEndHere P id u next = OneOf (EndsHere id u next) P

-- what is kept of an identifier
pub record Kept : Type 0 where
  -- a pair of it is reported; kept of single identifiers alone
  pub told : Bool
  -- its pair that ends behind the last byte is reported
  pub here : Bool
  -- were the stream ended, its pair that ends before the last byte would be reported, and it isn't yet
  pub last : Bool

-- of a stream of no bytes
abbrev pub nothing_kept : Kept
nothing_kept = record { told = false; here = false; last = false }

-- The pair that ends before the last byte is one that only the end would decide.
pub record IsLeftToEnd (P : List Pattern) (u : List ℕ) (id : ℕ) : Type 0 where
  pub to : ℕ
  pub before : suc to ≡ length u
  pub at_end : IsReport P u true id to
  pub not_yet : IsReport P u false id to → ⊥

-- That is what is kept of the identifier behind the bytes u.
pub record IsKept (P : List Pattern) (u : List ℕ) (id : ℕ) (kept : Kept) : Type 0 where
  pub told : is_single P id ≡ true → (kept.told ≡ true) ↔ ((to : ℕ) × IsReport P u false id to)
  pub here : (kept.here ≡ true) ↔ IsReport P u false id (length u)
  pub last : (kept.last ≡ true) ↔ IsLeftToEnd P u id

-- where matches of an identifier end, as far as one byte tells
pub record Ends : Type 0 where
  -- before the byte, which comes next
  pub before : Bool
  -- before the byte, were it the last of the stream
  pub before_last : Bool
  -- behind the byte, whatever comes next
  pub behind : Bool

-- Those are the ends of the identifier about the byte b behind u. Whether it is the last one matters to a line feed
-- alone.
pub record AreEnds (P : List Pattern) (u : List ℕ) (b : ℕ) (id : ℕ) (ends : Ends) : Type 0 where
  pub before : (ends.before ≡ true) ↔ HasEndHere P id u (class_of b)
  pub before_last : (ends.before_last ≡ true) ↔ ((b ≡ line_feed) × HasEndHere P id u after.FinalNewline)
  pub behind : (ends.behind ≡ true) ↔ HasEndHere P id (u ++ b ∷ []) after.Unknown

-- the pair that ends before the byte is newly reported
abbrev pub tells_before : (single : Bool) → Kept → Ends → Bool
tells_before single kept ends = ends.before && not (if single then kept.told else kept.here)

-- the pair that ends behind the byte is newly reported
abbrev pub tells_behind : (single : Bool) → Kept → Ends → Bool
tells_behind single kept ends = ends.behind && not (single && (kept.told || tells_before single kept ends))

-- a pair is reported
abbrev pub is_told : (single : Bool) → Kept → Ends → Bool
is_told single kept ends = kept.told || (tells_before single kept ends || tells_behind single kept ends)

-- what is kept behind the byte
abbrev pub settled : (single : Bool) → Kept → Ends → Kept
settled single kept ends = record {
  told = is_told single kept ends;
  here = tells_behind single kept ends;
  last =
      ends.before_last
      && not (if single then is_told single kept ends else (kept.here || tells_before single kept ends));
}

-- at the end of the stream, before which a match of the identifier ends: that pair is newly reported, if none that ends
-- before the last byte is, of which there may be but one
abbrev pub tells_end : (single : Bool) → Kept → (at_end : Bool) → Bool
tells_end single kept at_end = at_end && not (if single then (kept.told || kept.last) else kept.here)

-- those identifiers with that end whose value is true
abbrev pub pairs_told : List ℕ → List Bool → ℕ → List Pair
pairs_told [] values to = []
pairs_told (id ∷ ids) [] to = []
pairs_told (id ∷ ids) (true ∷ values) to = record { id = id; to = to } ∷ pairs_told ids values to
pairs_told (id ∷ ids) (false ∷ values) to = pairs_told ids values to

-- each number is below all that follow it
abbrev pub AreRising : List ℕ → Type 0
AreRising ids = IsRising (λ m n. m < n) ids

-- those are the identifiers of the patterns, rising
pub record AreIdentifiers (P : List Pattern) (ids : List ℕ) : Type 0 where
  pub rising : AreRising ids
  pub each : Each (λ x. IsMember x.id ids) P
