-- What characters are in UTF-8.
use Rattle.std.specs.Prelude.{◌≡◌, ◌↔◌, ℕ, true, List, Some, length, take, slice_get, encode_utf8}
use Rattle.std.specs.Char.{IsScalar}
use Rattle.hs_syntax.specs.Characters.{character_of}

-- so many bytes at the front are the well-formed encoding of the code point
pub record BeginsEncoded (bytes : List ℕ) (code n : ℕ) : Type 0 where
  pub scalar : IsScalar code
  pub count : n ≡ length (encode_utf8 code)
  pub front : take n bytes ≡ encode_utf8 code

-- the character that bytes begin with is the code point whose well-formed encoding they begin with
abbrev pub CharactersAreEncodings : Type 0
CharactersAreEncodings =
    (bytes : List ℕ) (b code n : ℕ) → slice_get bytes 0 ≡ Some b →
    (character_of true bytes b ≡ Some (code, n)) ↔ BeginsEncoded bytes code n
