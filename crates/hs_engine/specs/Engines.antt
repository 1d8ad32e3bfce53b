-- What an engine means, and what a caller may take from it without a call.
use Rattle.std.specs.Prelude.{◌≡◌, ◌↔◌, ℕ, ◌<◌, Bool, true, false, ◌||◌, List, [], ◌∷◌, ◌++◌, length, EachIndex}
use Rattle.std.specs.Prelude.{slice_index}
use Rattle.hs_base.specs.declared.byte_set.ByteSet.{ByteSet}
use Rattle.hs_base.specs.declared.context.Next.{Next}
use Rattle.hs_base.specs.declared.context.NextSet.{NextSet}
use Rattle.hs_base.specs.declared.context.Prev.{Prev}
use Rattle.hs_base.specs.ByteSets.{has}
use Rattle.hs_base.specs.Contexts.{class_of, prev_at}
use Rattle.hs_base.specs.ContextSets.{has_next}
use Rattle.hs_base.specs.Trees.{Tree}
use Rattle.hs_base.specs.Fields.{Leaves}

-- the list is one of bytes, so many of them
pub record IsRegionOf (width : ℕ) (region : List ℕ) : Type 0 where
  pub len : length region ≡ width
  pub bytes : EachIndex region (λ k. slice_index region k < 256)

-- What is said of regions as the fields of an expression, of the stream so far and of whether it was entered at each
-- offset: that a history has one field.
abbrev pub HasOneField : (width : ℕ) (IsFor : Tree → Type 0) (Field : List ℕ → Tree → List ℕ → List Bool → Type 0) →
    Type 0
HasOneField width IsFor Field =
    (tree : Tree) (u : List ℕ) (entered : List Bool) (region other : List ℕ) →
    IsFor tree →
    length entered ≡ length u →
    IsRegionOf width region →
    IsRegionOf width other →
    Field region tree u entered →
    Field other tree u entered →
    region ≡ other

-- And that a field may stand where its history ends.
abbrev pub AreWellFormed : (width : ℕ) (IsFor : Tree → Type 0) (Field : List ℕ → Tree → List ℕ → List Bool → Type 0) →
    (Well : List ℕ → ℕ → Type 0) → Type 0
AreWellFormed width IsFor Field Well =
    (tree : Tree) (u : List ℕ) (entered : List Bool) (region : List ℕ) →
    IsFor tree →
    length entered ≡ length u →
    IsRegionOf width region →
    Field region tree u entered →
    Well region (length u)

-- What an engine runs, and what its regions say.
pub record Meaning : Type 1 where
  -- the length of its regions in bytes
  pub width : ℕ
  -- it runs that expression
  pub is_for : Tree → Type 0
  -- these bytes are the field of the expression, of the stream so far and of whether it was entered at each offset
  pub field : List ℕ → Tree → List ℕ → List Bool → Type 0
  -- these bytes may be a field at that offset
  pub well : List ℕ → ℕ → Type 0
  -- it counts as entered at every offset
  pub always : Bool
  pub one_field : HasOneField width is_for field
  pub well_formed : AreWellFormed width is_for field well

-- it counts as entered before the byte, of whose class `enter` tells
abbrev pub counts_entered : Meaning → NextSet → ℕ → Bool
counts_entered m enter byte = m.always || has_next enter (class_of byte)

-- the region is the field of the empty stream
abbrev pub IsStart : Meaning → List ℕ → Type 0
IsStart m region = (tree : Tree) → m.is_for tree → m.field region tree [] []

-- The expression isn't left where the region is its field, whatever comes next.
abbrev pub LeavesNothing : Meaning → List ℕ → Type 0
LeavesNothing m region =
    (tree : Tree) (u : List ℕ) (entered : List Bool) →
    m.is_for tree →
    length entered ≡ length u →
    m.field region tree u entered →
    (next : Next) → Leaves tree u entered next → ⊥

-- The region stays the field over the byte, before which the expression is entered or not.
abbrev pub Stays : Meaning → List ℕ → (byte : ℕ) (enters : Bool) → Type 0
Stays m region byte enters =
    (tree : Tree) (u : List ℕ) (entered : List Bool) →
    m.is_for tree →
    length entered ≡ length u →
    m.field region tree u entered →
    m.field region tree (u ++ byte ∷ []) (entered ++ (m.always || enters) ∷ [])

-- Nothing is live: the expression isn't left, and the region stays over each byte before which it isn't entered.
pub record IsQuiet (m : Meaning) (region : List ℕ) : Type 0 where
  pub stays : m.always ≡ false → (byte : ℕ) → byte < 256 → Stays m region byte false
  pub leaves_nothing : LeavesNothing m region

-- Nothing is live and the byte wakes nothing: the region stays over it, whether the expression is entered before it or
-- not.
pub record IsAsleep (m : Meaning) (region : List ℕ) (byte : ℕ) : Type 0 where
  pub stays : (enters : Bool) → Stays m region byte enters
  pub leaves_nothing : LeavesNothing m region

-- Each byte outside of the set wakes nothing, while the region is that of the empty stream.
abbrev pub AreWakers : Meaning → ByteSet → Type 0
AreWakers m set =
    (region : List ℕ) (byte : ℕ) →
    IsStart m region →
    byte < 256 →
    has set byte ≡ false →
    IsAsleep m region byte

-- The region that a byte at the offset `at` behind `prev` leads to: where the old one is the field of a stream that
-- ends there, it is that of the stream with the byte, before which the expression is entered if `enter` has its class.
abbrev pub TakesByte : Meaning → (old new : List ℕ) (prev : Prev) (at : ℕ) (enter : NextSet) (byte : ℕ) → Type 0
TakesByte m old new prev at enter byte =
    (tree : Tree) (u : List ℕ) (entered : List Bool) →
    m.is_for tree →
    length entered ≡ length u →
    at ≡ length u →
    prev ≡ prev_at u (length u) →
    m.field old tree u entered →
    m.field new tree (u ++ byte ∷ []) (entered ++ counts_entered m enter byte ∷ [])

-- Where the region is the field of a stream that ends at the offset `at` behind `prev`, these are the contexts in which
-- the expression is left there.
abbrev pub TellsLeaves : Meaning → (region : List ℕ) (prev : Prev) (at : ℕ) (contexts : NextSet) → Type 0
TellsLeaves m region prev at contexts =
    (tree : Tree) (u : List ℕ) (entered : List Bool) →
    m.is_for tree →
    length entered ≡ length u →
    at ≡ length u →
    prev ≡ prev_at u (length u) →
    m.field region tree u entered →
    (next : Next) → (has_next contexts next ≡ true) ↔ Leaves tree u entered next
