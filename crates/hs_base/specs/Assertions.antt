-- Where an assertion holds in a stream (PCRE pattern syntax, "Circumflex and dollar" and "Simple assertions"). A stream
-- is a list of bytes that has ended or may go on. What has to see the next byte doesn't hold before that byte or the
-- end of the stream is there.
use Rattle.std.specs.Prelude.{◌≡◌, ◌≢◌, ℕ, zero, suc, ◌+◌, ◌<◌, ◌⊎◌, Bool, false, ◌||◌, ◌&&◌, ◌==◌, nat_le, List}
use Rattle.std.specs.Prelude.{length, Option, Some, None, slice_get, IsTrue}
use Rattle.hs_base.specs.declared.assertion.Assertion.{Assertion}
use Rattle.hs_base.specs.declared.assertion.Assertion.TheVariants.{StreamStart, LineStart, LineEnd, EndOrFinalNewline}
use Rattle.hs_base.specs.declared.assertion.Assertion.TheVariants.{StreamEnd, WordBoundary, NotWordBoundary}

-- the byte 0A
abbrev pub line_feed : ℕ
line_feed = 10

-- one of `[A-Za-z0-9_]`
abbrev pub is_word_byte : ℕ → Bool
is_word_byte b =
    (nat_le 65 b && nat_le b 90) || (nat_le 97 b && nat_le b 122) || (nat_le 48 b && nat_le b 57) || (b == 95)

-- a word byte is there; outside the stream is none
abbrev pub is_word : Option ℕ → Bool
is_word None = false
is_word (Some b) = is_word_byte b

-- the byte before an offset
abbrev pub byte_before : List ℕ → ℕ → Option ℕ
byte_before w zero = None
byte_before w (suc p) = slice_get w p

-- the byte behind an offset
abbrev pub byte_after : List ℕ → ℕ → Option ℕ
byte_after w p = slice_get w p

-- the stream has ended, and here
abbrev pub IsEnd : List ℕ → Bool → ℕ → Type 0
IsEnd w ended p = IsTrue ended × (p ≡ length w)

-- the byte behind the offset is there, or the stream has ended here
abbrev pub IsKnown : List ℕ → Bool → ℕ → Type 0
IsKnown w ended p = (p < length w) ⊎ IsEnd w ended p

-- the assertion holds at the offset p of the stream w
abbrev pub Holds : List ℕ → Bool → Assertion → ℕ → Type 0
Holds w ended StreamStart p = p ≡ 0
Holds w ended LineStart p = (p ≡ 0) ⊎ ((byte_before w p ≡ Some line_feed) × (p < length w))
Holds w ended LineEnd p = (byte_after w p ≡ Some line_feed) ⊎ IsEnd w ended p
Holds w ended EndOrFinalNewline p =
    IsEnd w ended p ⊎ (IsTrue ended × (byte_after w p ≡ Some line_feed) × (p + 1 ≡ length w))
Holds w ended StreamEnd p = IsEnd w ended p
Holds w ended WordBoundary p = IsKnown w ended p × (is_word (byte_before w p) ≢ is_word (byte_after w p))
Holds w ended NotWordBoundary p = IsKnown w ended p × (is_word (byte_before w p) ≡ is_word (byte_after w p))
