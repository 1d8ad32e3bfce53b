-- How blocks of bytes follow each other.
use Rattle.std.specs.Prelude.{◌≡◌, ◌↔◌, ℕ, ◌≤◌, Bool, List, [], ◌++◌, length}
use Rattle.hs_base.specs.declared.context.Next.{Next}
use Rattle.hs_base.specs.Chains.{lit, piece_tree}
use Rattle.hs_base.specs.Leaving.{IsEmptyAt}
use Rattle.hs_base.specs.LiteralEnds.{EndsAt}
use Rattle.hs_base.specs.Literals.{LiteralByte}
use Rattle.hs_base.specs.Trees.{Tree}
use Rattle.hs_bits.specs.WordBits.{bits_of, Marks}
use Rattle.hs_block.specs.Scans.{HandsOn, IsLeftBefore}

-- A word that tells where an expression is left in a block goes on with the list for the bytes before it.
abbrev pub BlocksHandOn : Type 0
BlocksHandOn =
    (tree : Tree) (u : List ℕ) (entered left : List Bool) (bytes : List ℕ) (enters before : ℕ) →
    length entered ≡ length u →
    HandsOn tree u entered left →
    Marks (length bytes) before (IsLeftBefore tree u entered bytes enters) →
    HandsOn tree (u ++ bytes) (entered ++ bits_of enters (length bytes)) (left ++ bits_of before (length bytes))

-- Without a byte it is left nowhere.
abbrev pub HandingOnBegins : Type 0
HandingOnBegins = (tree : Tree) → HandsOn tree [] [] []
