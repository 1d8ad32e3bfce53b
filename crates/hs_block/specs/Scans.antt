-- What a block of bytes says of a piece: where it is left, and its field behind the block.
use Rattle.std.specs.Prelude.{◌≡◌, ◌↔◌, ℕ, ◌+◌, Bool, true, List, ◌++◌, length, take, Some, slice_get, slice_index}
use Rattle.hs_base.specs.declared.context.Next.TheVariants as after
use Rattle.hs_base.specs.Contexts.{class_of}
use Rattle.hs_base.specs.Trees.{Tree}
use Rattle.hs_base.specs.Fields.{Leaves}
use Rattle.hs_bits.specs.WordBits.{bits_of, Marks}

-- Behind u comes a block of bytes. The expression was entered in u as `entered` says, and is entered before the byte i
-- of the block where bit i of `enters` is set.

-- It is left before the byte i of the block, where that byte comes next.
abbrev pub IsLeftBefore : Tree → (u : List ℕ) (entered : List Bool) (bytes : List ℕ) (enters i : ℕ) → Type 0
IsLeftBefore tree u entered bytes enters i =
    Leaves tree (u ++ take i bytes) (entered ++ bits_of enters i) (class_of (slice_index bytes i))

-- It is left behind the byte i of the block, where nothing is known of what comes next.
abbrev pub IsLeftBehind : Tree → (u : List ℕ) (entered : List Bool) (bytes : List ℕ) (enters i : ℕ) → Type 0
IsLeftBehind tree u entered bytes enters i =
    Leaves tree (u ++ take (i + 1) bytes) (entered ++ bits_of enters (i + 1)) after.Unknown

-- The field is that behind the block, and the two words tell where the expression is left.
pub record Scans (Field : List ℕ → List Bool → Type 0) (tree : Tree) (u : List ℕ) (entered : List Bool)
    (bytes : List ℕ) (enters before behind : ℕ) : Type 0 where
  pub field : Field (u ++ bytes) (entered ++ bits_of enters (length bytes))
  pub before_is : Marks (length bytes) before (IsLeftBefore tree u entered bytes enters)
  pub behind_is : Marks (length bytes) behind (IsLeftBehind tree u entered bytes enters)

-- The expression is left before each byte of u just where `left` says so.
pub record HandsOn (tree : Tree) (u : List ℕ) (entered left : List Bool) : Type 0 where
  pub count : length left ≡ length u
  pub each : (i b : ℕ) → slice_get u i ≡ Some b →
      (slice_get left i ≡ Some true) ↔ Leaves tree (take i u) (take i entered) (class_of b)
