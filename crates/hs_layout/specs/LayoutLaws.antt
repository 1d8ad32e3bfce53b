-- What holds of layouts.
use Rattle.std.specs.Prelude.{◌≡◌, ℕ, ◌+◌, ◌<◌, List, length, take}
use Rattle.hs_base.specs.Regions.{fields_at}
use Rattle.hs_layout.specs.Layouts.{Laid, AreApart, field_bytes, laid_size, with_field}

-- The field of that number has these bytes, and all else is as before.
pub record IsFieldWritten (l : Laid) (k : ℕ) (bytes before now : List ℕ) : Type 0 where
  pub len : length now ≡ length before
  pub header : take (fields_at l.singles l.identifiers) now ≡ take (fields_at l.singles l.identifiers) before
  pub here : field_bytes l now k ≡ bytes
  pub others : (j : ℕ) → (j ≡ k → ⊥) → j + 1 < length l.starts → field_bytes l now j ≡ field_bytes l before j

-- What stands in a field's place is that field's new contents, and all else is as before.
abbrev pub FieldsAreDisjoint : Type 0
FieldsAreDisjoint =
    (l : Laid) (k : ℕ) (region bytes : List ℕ) →
    AreApart l →
    length region ≡ laid_size l →
    k + 1 < length l.starts →
    length bytes ≡ length (field_bytes l region k) →
    IsFieldWritten l k bytes region (with_field l region k bytes)
