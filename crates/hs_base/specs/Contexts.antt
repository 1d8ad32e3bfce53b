-- The contexts of an offset in a stream: what stands before it and what comes next. An assertion sees no more than
-- these.
use Rattle.std.specs.Prelude.{ℕ, zero, suc, ◌+◌, ◌*◌, Bool, true, false, not, ◌||◌, ◌&&◌, ◌==◌, List, [], ◌∷◌, ◌++◌}
use Rattle.std.specs.Prelude.{length, Option, Some, None, slice_get}
use Rattle.hs_base.specs.declared.assertion.Assertion.{Assertion}
use Rattle.hs_base.specs.declared.assertion.Assertion.TheVariants.{StreamStart, LineStart, LineEnd, EndOrFinalNewline}
use Rattle.hs_base.specs.declared.assertion.Assertion.TheVariants.{StreamEnd, WordBoundary, NotWordBoundary}
use Rattle.hs_base.specs.declared.context.Prev.{Prev}
use Rattle.hs_base.specs.declared.context.Prev.TheVariants as before
use Rattle.hs_base.specs.declared.context.Next.{Next}
use Rattle.hs_base.specs.declared.context.Next.TheVariants as after
use Rattle.hs_base.specs.Assertions.{line_feed, is_word_byte}

-- what stands before an offset, and what comes next
pub record Context : Type 0 where
  pub prev : Prev
  pub next : Next

-- behind a byte that is a line feed, a word byte or another
abbrev pub prev_by : (is_line_feed is_word : Bool) → Prev
prev_by true is_word = before.Newline
prev_by false true = before.Word
prev_by false false = before.Other

-- before a byte that is a line feed, a word byte or another, and may be the last of an ended stream
abbrev pub next_by : (is_line_feed is_word is_last : Bool) → Next
next_by true is_word true = after.FinalNewline
next_by true is_word false = after.Newline
next_by false true is_last = after.Word
next_by false false is_last = after.Other

-- behind the byte at an offset, if one is there
abbrev pub prev_behind : Option ℕ → Prev
prev_behind None = before.Other
prev_behind (Some b) = prev_by (b == line_feed) (is_word_byte b)

-- before the byte at an offset; without a byte, at the end of a stream that has ended or may go on
abbrev pub next_before : Option ℕ → (is_end is_last : Bool) → Next
next_before None true is_last = after.End
next_before None false is_last = after.Unknown
next_before (Some b) is_end is_last = next_by (b == line_feed) (is_word_byte b) is_last

-- the class of a byte: what comes next where more bytes may follow it
abbrev pub class_of : ℕ → Next
class_of b = next_by (b == line_feed) (is_word_byte b) false

-- what stands before the offset p
unfoldable pub prev_at : List ℕ → ℕ → Prev
prev_at w zero = before.Start
prev_at w (suc p) = prev_behind (slice_get w p)

-- what comes next at the offset p
unfoldable pub next_at : List ℕ → Bool → ℕ → Next
next_at w ended p = next_before (slice_get w p) (ended && (p == length w)) (ended && (p + 1 == length w))

-- the context of the offset p
abbrev pub context_at : List ℕ → Bool → ℕ → Context
context_at w ended p = record { prev = prev_at w p; next = next_at w ended p }

-- the context behind the bytes u, where that comes next
abbrev pub context_of : List ℕ → Next → Context
context_of u next = record { prev = prev_at u (length u); next = next }

abbrev pub is_start : Prev → Bool
is_start before.Start = true
is_start before.Word = false
is_start before.Newline = false
is_start before.Other = false

abbrev pub is_newline : Prev → Bool
is_newline before.Start = false
is_newline before.Word = false
is_newline before.Newline = true
is_newline before.Other = false

-- a word byte stands before
abbrev pub is_word_before : Prev → Bool
is_word_before before.Start = false
is_word_before before.Word = true
is_word_before before.Newline = false
is_word_before before.Other = false

-- a word byte comes next
abbrev pub is_word_next : Next → Bool
is_word_next after.Word = true
is_word_next after.Newline = false
is_word_next after.Other = false
is_word_next after.End = false
is_word_next after.FinalNewline = false
is_word_next after.Unknown = false

-- a byte comes next
abbrev pub is_byte : Next → Bool
is_byte after.Word = true
is_byte after.Newline = true
is_byte after.Other = true
is_byte after.End = false
is_byte after.FinalNewline = true
is_byte after.Unknown = false

-- a byte or the end comes next
abbrev pub is_known : Next → Bool
is_known after.Word = true
is_known after.Newline = true
is_known after.Other = true
is_known after.End = true
is_known after.FinalNewline = true
is_known after.Unknown = false

-- a line feed or the end comes next
abbrev pub is_line_end : Next → Bool
is_line_end after.Word = false
is_line_end after.Newline = true
is_line_end after.Other = false
is_line_end after.End = true
is_line_end after.FinalNewline = true
is_line_end after.Unknown = false

-- the end comes next
abbrev pub is_end : Next → Bool
is_end after.Word = false
is_end after.Newline = false
is_end after.Other = false
is_end after.End = true
is_end after.FinalNewline = false
is_end after.Unknown = false

-- the end comes next, or a line feed and then the end
abbrev pub is_final : Next → Bool
is_final after.Word = false
is_final after.Newline = false
is_final after.Other = false
is_final after.End = true
is_final after.FinalNewline = true
is_final after.Unknown = false

-- one of the two and not the other
abbrev pub differ : Bool → Bool → Bool
differ true b = not b
differ false b = b

-- one neighbour is a word byte and the other isn't
abbrev pub is_boundary : Context → Bool
is_boundary c = differ (is_word_before c.prev) (is_word_next c.next)

-- the assertion holds in that context
abbrev pub allows : Assertion → Context → Bool
allows StreamStart c = is_start c.prev
allows LineStart c = is_start c.prev || (is_newline c.prev && is_byte c.next)
allows LineEnd c = is_line_end c.next
allows EndOrFinalNewline c = is_final c.next
allows StreamEnd c = is_end c.next
allows WordBoundary c = is_known c.next && is_boundary c
allows NotWordBoundary c = is_known c.next && not (is_boundary c)

-- the bytes of the stream in which that comes next behind u
abbrev pub then_bytes : List ℕ → Next → List ℕ
then_bytes u after.Word = u ++ 97 ∷ []
then_bytes u after.Newline = u ++ line_feed ∷ []
then_bytes u after.Other = u ++ 32 ∷ []
then_bytes u after.End = u
then_bytes u after.FinalNewline = u ++ line_feed ∷ []
then_bytes u after.Unknown = u

-- that stream has ended
abbrev pub then_ended : Next → Bool
then_ended after.Word = false
then_ended after.Newline = false
then_ended after.Other = false
then_ended after.End = true
then_ended after.FinalNewline = true
then_ended after.Unknown = false

-- the numbers by which sets of contexts are kept
abbrev pub prev_number : Prev → ℕ
prev_number before.Start = 0
prev_number before.Word = 1
prev_number before.Newline = 2
prev_number before.Other = 3

abbrev pub next_number : Next → ℕ
next_number after.Word = 0
next_number after.Newline = 1
next_number after.Other = 2
next_number after.End = 3
next_number after.FinalNewline = 4
next_number after.Unknown = 5

abbrev pub context_number : Context → ℕ
context_number c = 6 * prev_number c.prev + next_number c.next
