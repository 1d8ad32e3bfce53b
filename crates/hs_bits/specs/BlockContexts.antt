-- The contexts of the places of a block, by words.
use Rattle.std.specs.Prelude.{◌≡◌, ℕ, zero, suc, ◌+◌, ◌≤◌, Bool, true, ◌&&◌, ◌==◌, nat_lt, List, ◌++◌}
use Rattle.std.specs.Prelude.{length, take, slice_index, Option, Some}
use Rattle.hs_base.specs.declared.context.Mask.{Mask}
use Rattle.hs_base.specs.declared.context.Next.{Next}
use Rattle.hs_base.specs.declared.context.Next.TheVariants as after
use Rattle.hs_base.specs.declared.context.Prev.{Prev}
use Rattle.hs_base.specs.declared.context.Prev.TheVariants as behind
use Rattle.hs_base.specs.Assertions.{line_feed, is_word_byte}
use Rattle.hs_base.specs.Contexts.{Context, class_of, context_of, next_number, prev_at, prev_by, prev_number}
use Rattle.hs_base.specs.ContextSets.{has_context}
use Rattle.hs_bits.specs.declared.contexts.Contexts.{Contexts}
use Rattle.hs_bits.specs.declared.contexts.Classes.{Classes}
use Rattle.hs_bits.specs.WordBits.{word_bit, Marks}

-- the byte at that place of the block has the class
abbrev pub is_class : Next → (bytes : List ℕ) → ℕ → Bool
is_class class bytes i = next_number (class_of (slice_index bytes i)) == next_number class

-- The words tell the classes of so many bytes of the block.
pub record AreClasses (classes : Classes) (bytes : List ℕ) (count : ℕ) : Type 0 where
  pub words : (i : ℕ) → word_bit classes.words i ≡ (nat_lt i count && is_class after.Word bytes i)
  pub newlines : (i : ℕ) → word_bit classes.newlines i ≡ (nat_lt i count && is_class after.Newline bytes i)
  pub others : (i : ℕ) → word_bit classes.others i ≡ (nat_lt i count && is_class after.Other bytes i)

-- the word of the class that a byte has behind which that stands; nothing stands behind a byte as at the start
abbrev pub class_word : Classes → Prev → ℕ
class_word classes behind.Start = 0
class_word classes behind.Word = classes.words
class_word classes behind.Newline = classes.newlines
class_word classes behind.Other = classes.others

-- The contexts are those of a block of at most 64 bytes, behind `prev`.
pub record AreContexts (contexts : Contexts) (prev : Prev) (bytes : List ℕ) : Type 0 where
  pub prev_is : contexts.prev ≡ prev
  pub few : length bytes ≤ 64
  pub classes : AreClasses contexts.classes bytes (length bytes)

-- what stands before so many bytes of a block behind `prev`
abbrev pub prev_before : Prev → (bytes : List ℕ) → ℕ → Prev
prev_before prev bytes zero = prev
prev_before prev bytes (suc i) = prev_by (slice_index bytes i == line_feed) (is_word_byte (slice_index bytes i))

-- that stands before the place of a block behind `first`, and the mask has the context of it and of the byte there
abbrev pub is_part : Mask → (prev first : Prev) → (bytes : List ℕ) → ℕ → Bool
is_part mask prev first bytes i =
    nat_lt i (length bytes)
    && ((prev_number (prev_before first bytes i) == prev_number prev)
    && has_context mask (record { prev = prev; next = class_of (slice_index bytes i) }))

-- the context of a place of a block behind `prev`, where the byte there comes next
abbrev pub context_before : Prev → (bytes : List ℕ) → ℕ → Context
context_before prev bytes i = record { prev = prev_before prev bytes i; next = class_of (slice_index bytes i) }

-- and the one behind the byte there, where nothing is known of what comes next
abbrev pub context_behind : Prev → (bytes : List ℕ) → ℕ → Context
context_behind prev bytes i = record { prev = prev_before prev bytes (suc i); next = after.Unknown }

-- if there are contexts, they are those of a block behind `prev`
abbrev pub AreMade : Option Contexts → Prev → (bytes : List ℕ) → Type 0
AreMade made prev bytes = (contexts : Contexts) → made ≡ Some contexts → AreContexts contexts prev bytes

-- the mask has the context of the place i of the block behind u, where the byte there comes next
abbrev pub HasContextBefore : Mask → (u bytes : List ℕ) → ℕ → Type 0
HasContextBefore mask u bytes i =
    has_context mask (context_of (u ++ take i bytes) (class_of (slice_index bytes i))) ≡ true

-- the mask has the context behind the byte i of the block behind u, where nothing is known of what comes next
abbrev pub HasContextBehind : Mask → (u bytes : List ℕ) → ℕ → Type 0
HasContextBehind mask u bytes i = has_context mask (context_of (u ++ take (i + 1) bytes) after.Unknown) ≡ true

-- Of each block with those contexts, behind each stream, the word tells at which places the mask has the one before the
-- byte there.
abbrev pub TellsBefore : Contexts → Mask → ℕ → Type 0
TellsBefore contexts mask word =
    (prev : Prev) (u bytes : List ℕ) →
    AreContexts contexts prev bytes →
    prev ≡ prev_at u (length u) →
    Marks (length bytes) word (HasContextBefore mask u bytes)

-- And the one behind the byte there.
abbrev pub TellsBehind : Contexts → Mask → ℕ → Type 0
TellsBehind contexts mask word =
    (prev : Prev) (u bytes : List ℕ) →
    AreContexts contexts prev bytes →
    prev ≡ prev_at u (length u) →
    Marks (length bytes) word (HasContextBehind mask u bytes)
