-- The encoding of one code point at an offset.
use Rattle.std.specs.Prelude.{◌≡◌, ℕ, ◌+◌, List, length, encode_utf8}
use Rattle.hs_base.specs.Spans.{IsScalarValue, HasBytesAt}

-- from i to j stands the well-formed encoding of this code point
pub record IsCodePointAt (w : List ℕ) (code_point i j : ℕ) : Type 0 where
  pub scalar : IsScalarValue code_point
  pub bytes : HasBytesAt w i (encode_utf8 code_point)
  pub end : j ≡ i + length (encode_utf8 code_point)
