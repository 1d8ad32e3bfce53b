-- The extended parameters of an expression, written as `name=N` with commas between.
use Rattle.std.specs.Prelude.{◌≡◌, ℕ, ◌^◌, List, ◌++◌, bit_and, bit_or, codes}
use Rattle.hs_base.specs.declared.ext.Ext.{Ext}
use Rattle.hs_text.specs.declared.parameter.Parameter.{Parameter}
use Rattle.hs_text.specs.declared.parameter.Parameter.TheVariants.{MinOffset, MaxOffset, MinLength, EditDistance}
use Rattle.hs_text.specs.declared.parameter.Parameter.TheVariants.{HammingDistance}
use Rattle.hs_text.specs.Numbers.{IsNumber}

-- the name in the text
abbrev pub name_of : Parameter → List ℕ
name_of MinOffset = codes "min_offset"
name_of MaxOffset = codes "max_offset"
name_of MinLength = codes "min_length"
name_of EditDistance = codes "edit_distance"
name_of HammingDistance = codes "hamming_distance"

-- the bit that says that the parameter is given
abbrev pub bit_of : Parameter → ℕ
bit_of MinOffset = 1
bit_of MaxOffset = 2
bit_of MinLength = 4
bit_of EditDistance = 8
bit_of HammingDistance = 16

-- no parameter is given: a match may end at 0 and at 2 ^ 64 - 1
abbrev pub no_parameters : Ext
no_parameters = record { bits = 0; min_offset = 0; max_offset = 18446744073709551615 }

-- the parameters with one more; of those that aren't offsets only the bit is kept
abbrev pub with_value : Ext → Parameter → ℕ → Ext
with_value ext MinOffset value = record ext { bits = bit_or ext.bits (bit_of MinOffset); min_offset = value }
with_value ext MaxOffset value = record ext { bits = bit_or ext.bits (bit_of MaxOffset); max_offset = value }
with_value ext MinLength value = record ext { bits = bit_or ext.bits (bit_of MinLength) }
with_value ext EditDistance value = record ext { bits = bit_or ext.bits (bit_of EditDistance) }
with_value ext HammingDistance value = record ext { bits = bit_or ext.bits (bit_of HammingDistance) }

-- The text is `name=N`, of a parameter that isn't given before, and gives it.
pub record Sets (text : List ℕ) (before after : Ext) : Type 0 where
  pub parameter : Parameter
  pub digits : List ℕ
  pub value : ℕ
  pub whole : text ≡ name_of parameter ++ (codes "=" ++ digits)
  pub number : IsNumber 20 (2 ^ 64) digits value
  pub fresh : bit_and before.bits (bit_of parameter) ≡ 0
  pub given : after ≡ with_value before parameter value

-- The text is one setting, or several with commas between; they give parameters beside those before.
pub data AreSettings : List ℕ → Ext → Ext → Type 0 where
  one : {text : List ℕ} {before after : Ext} → Sets text before after → AreSettings text before after
  more : {text setting rest : List ℕ} {before between after : Ext} →
      text ≡ setting ++ (codes "," ++ rest) →
      Sets setting before between →
      AreSettings rest between after →
      AreSettings text before after
