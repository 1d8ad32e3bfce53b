-- Which bits of masks a list of literals in buckets asks to be 0.
use Rattle.std.specs.Prelude.{◌≡◌, ◌↔◌, ℕ, ◌-◌, ◌/◌, ◌%◌, ◌^◌, ◌<◌, ◌≤◌, List, length, Some, IsTrue, slice_get}
use Rattle.std.specs.Int.{bit_at}
use Rattle.hs_base.specs.Literals.{LiteralByte, takes}
use Rattle.hs_fdr.specs.declared.tables.Tables.{Tables}
use Rattle.hs_fdr.specs.Masks.{mask_of, width_of}

-- the literal has a byte j places before its last one, and takes this one there
pub record TakesBefore (literal : List LiteralByte) (j byte : ℕ) : Type 0 where
  pub place : LiteralByte
  pub stands : slice_get literal (length literal - 1 - j) ≡ Some place
  pub within : j < length literal
  pub taken : IsTrue (takes place byte)

-- The super-character v may stand j places before the literal's last byte: any does where it doesn't reach as far. Else
-- it takes its byte there, and its further bits are those of a byte that it takes one place later.
pub data MayStand (width : ℕ) (literal : List LiteralByte) (j v : ℕ) : Type 0 where
  beyond : length literal ≤ j → MayStand width literal j v
  last : j ≡ 0 → TakesBefore literal j (v % 256) → MayStand width literal j v
  inner : 0 < j → TakesBefore literal j (v % 256) → (after : ℕ) → TakesBefore literal (j - 1) after →
      v / 256 ≡ after % 2 ^ (width - 8) → MayStand width literal j v

-- the literal stands in the list, in that bucket
pub record StandsIn (literals : List (List LiteralByte)) (buckets : List ℕ) (bucket : ℕ)
    (literal : List LiteralByte) : Type 0 where
  pub number : ℕ
  pub is : slice_get literals number ≡ Some literal
  pub goes : slice_get buckets number ≡ Some bucket

-- the super-character v may stand j places before the last byte of a literal of that bucket
pub record IsAsked (width : ℕ) (literals : List (List LiteralByte)) (buckets : List ℕ) (bucket j v : ℕ) : Type 0 where
  pub literal : List LiteralByte
  pub stands : StandsIn literals buckets bucket literal
  pub may : MayStand width literal j v

-- a bit of the tables' masks is 0 exactly where a literal of its bucket asks for it
pub record AreTablesOf (literals : List (List LiteralByte)) (buckets : List ℕ) (tables : Tables) : Type 0 where
  pub each : (bucket j v : ℕ) → bucket < 8 → j < 8 → v < 2 ^ width_of tables →
      (bit_at (mask_of tables j v) bucket ≡ 0) ↔ IsAsked (width_of tables) literals buckets bucket j v
