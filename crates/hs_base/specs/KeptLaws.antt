-- What holds of what is kept of a piece.
use Rattle.std.specs.Prelude.{◌≡◌, ◌↔◌, ℕ, true, List, length}
use Rattle.hs_base.specs.Bits.{has_bit}
use Rattle.hs_base.specs.Chains.{Piece}
use Rattle.hs_base.specs.KeptPieces.{Form, form_size, AreBytes, IsKeptAs, IsFieldAt}

-- Rows of so many bytes in which the same bits are set are the same.
abbrev pub BitsOnce : Type 0
BitsOnce =
    (size : ℕ) (xs ys : List ℕ) →
    AreBytes size xs →
    AreBytes size ys →
    ((k : ℕ) → (has_bit xs k ≡ true) ↔ (has_bit ys k ≡ true)) →
    xs ≡ ys

-- A history has one field.
abbrev pub FieldsOnce : Type 0
FieldsOnce =
    (form : Form) (pieces : List Piece) (xs ys u : List ℕ) →
    IsKeptAs form pieces xs u →
    IsKeptAs form pieces ys u →
    xs ≡ ys

-- It has the length of its form, and may stand where its history ends.
abbrev pub FieldsAreWellFormed : Type 0
FieldsAreWellFormed =
    (form : Form) (pieces : List Piece) (bytes u : List ℕ) →
    IsKeptAs form pieces bytes u →
    AreBytes (form_size form) bytes × IsFieldAt form bytes (length u)
