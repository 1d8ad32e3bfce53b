-- What is known of an identifier between the bytes of a stream that may go on, and what one more byte tells of it: all
-- but what the end alone would decide.
use Rattle.std.specs.Prelude.{◌≡◌, ◌↔◌, ℕ, ◌+◌, Bool, true, false, List, [], ◌∷◌, ◌++◌, length}
use Rattle.hs_base.specs.declared.context.Next.TheVariants as after
use Rattle.hs_base.specs.Assertions.{line_feed}
use Rattle.hs_base.specs.Contexts.{class_of}
use Rattle.hs_base.specs.Patterns.{Pattern, is_single}
use Rattle.hs_base.specs.Reports.{IsReport}
use Rattle.hs_base.specs.Settling.{HasEndHere, Kept, Ends, tells_before, tells_behind, settled}

-- That is what is known of the identifier behind the bytes u, but for its pair that only the end would decide.
pub record IsHeard (P : List Pattern) (u : List ℕ) (id : ℕ) (kept : Kept) : Type 0 where
  pub told : is_single P id ≡ true → (kept.told ≡ true) ↔ ((to : ℕ) × IsReport P u false id to)
  pub here : (kept.here ≡ true) ↔ IsReport P u false id (length u)

-- Those are the ends of the identifier about the byte b behind u, whatever follows it.
pub record AreSureEnds (P : List Pattern) (u : List ℕ) (b id : ℕ) (ends : Ends) : Type 0 where
  pub before : (ends.before ≡ true) ↔ HasEndHere P id u (class_of b)
  pub behind : (ends.behind ≡ true) ↔ HasEndHere P id (u ++ b ∷ []) after.Unknown

-- That is its end before the byte b behind u, were that a line feed that ends the stream.
abbrev pub IsFinal : List Pattern → List ℕ → (b id : ℕ) → Ends → Type 0
IsFinal P u b id ends = (ends.before_last ≡ true) ↔ ((b ≡ line_feed) × HasEndHere P id u after.FinalNewline)

-- That is what the byte b behind u tells of the identifier, of which `old` was known, by its ends about the byte.
pub record IsToldBy (P : List Pattern) (u : List ℕ) (b id : ℕ) (single : Bool) (old : Kept) (ends : Ends) :
    Type 0 where
  -- what is known behind the byte
  pub heard : IsHeard P (u ++ b ∷ []) id (settled single old ends)
  -- the pair that ends before the byte is newly reported
  pub before : (tells_before single old ends ≡ true)
      ↔ (IsReport P (u ++ b ∷ []) false id (length u) × (IsReport P u false id (length u) → ⊥))
  -- the pair that ends behind the byte is reported, which is new in any case
  pub behind : (tells_behind single old ends ≡ true) ↔ IsReport P (u ++ b ∷ []) false id (length u + 1)
