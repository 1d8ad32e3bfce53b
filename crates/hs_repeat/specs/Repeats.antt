-- Repeats of one set of bytes.
use Rattle.std.specs.Prelude.{◌≡◌, ◌⊎◌, ℕ, Option, Some}
use Rattle.hs_base.specs.declared.byte_set.ByteSet.{ByteSet}
use Rattle.hs_base.specs.ByteSets.{members}
use Rattle.hs_base.specs.Trees.{Tree, class, repeat}

-- bytes of a set, so many at least and, where there is a second number, at most
abbrev pub repeat_of : ByteSet → ℕ → Option ℕ → Tree
repeat_of set least greatest = repeat (class (members set)) least greatest

-- at most so many bytes of the set, and none or one at least: left behind a byte, both are the same
abbrev pub IsLastOf : ByteSet → ℕ → Tree → Type 0
IsLastOf set greatest tree = (tree ≡ repeat_of set 0 (Some greatest)) ⊎ (tree ≡ repeat_of set 1 (Some greatest))
