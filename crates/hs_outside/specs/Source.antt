-- What a source has left, and what a read says of it.
use Rattle.std.specs.Prelude.{◌≡◌, ℕ, ◌<◌, ◌≤◌, List, [], ◌++◌, length, take, drop, Option, None, Some}
use Rattle.hs_outside.specs.Counts.{Rose}
use Rattle.hs_outside.specs.declared.fault.SourceFault.{SourceFault}
use Rattle.hs_outside.specs.declared.fault.SourceFault.TheVariants.{Failed, Limit, Memory}

-- the bytes were left first and are no longer left; a source tells what is left always or never
abbrev pub Gave : Option (List ℕ) → Option (List ℕ) → List ℕ → Type 0
Gave None None bytes = Unit {0}
Gave None (Some now) bytes = ⊥
Gave (Some before) None bytes = ⊥
Gave (Some before) (Some now) bytes = before ≡ bytes ++ now

-- no byte is left, where that is told
abbrev pub IsAtEnd : Option (List ℕ) → Type 0
IsAtEnd None = Unit {0}
IsAtEnd (Some left) = left ≡ []

-- n bytes came: they are the first of the buffer, whose rest is as it was. None come only at the end or without room.
pub record Reads (before now : Option (List ℕ)) (old new : List ℕ) (n : ℕ) : Type 0 where
  pub within : n ≤ length new
  pub given : Gave before now (take n new)
  pub rest : drop n new ≡ drop n old
  pub end : n ≡ 0 → 0 < length new → IsAtEnd now

-- all that was left was given, and it is no longer than the limit
pub record GaveAll (before now : Option (List ℕ)) (limit : ℕ) (bytes : List ℕ) : Type 0 where
  pub within : length bytes ≤ limit
  pub given : Gave before now bytes
  pub end : IsAtEnd now

-- some bytes were given, maybe none
pub record GaveSome (before now : Option (List ℕ)) : Type 0 where
  pub taken : List ℕ
  pub given : Gave before now taken

-- more bytes than the limit were given
pub record GaveMore (before now : Option (List ℕ)) (limit : ℕ) : Type 0 where
  pub taken : List ℕ
  pub longer : limit < length taken
  pub given : Gave before now taken

-- why a source wasn't read to its end, with what it gave until then, and its count of faults before and now
abbrev pub Interrupts : SourceFault → Option (List ℕ) → Option (List ℕ) → ℕ → ℕ → ℕ → Type 0
Interrupts Failed before now limit count counted = GaveSome before now × Rose count counted
Interrupts Limit before now limit count counted = GaveMore before now limit × (counted ≡ count)
Interrupts Memory before now limit count counted = GaveSome before now × (counted ≡ count)

-- the bytes are all that was left, where that is told
abbrev pub IsWhole : Option (List ℕ) → List ℕ → Type 0
IsWhole None bytes = Unit {0}
IsWhole (Some left) bytes = left ≡ bytes
