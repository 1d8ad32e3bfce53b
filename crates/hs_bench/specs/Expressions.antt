-- The one expression that engines are measured with.
use Rattle.std.specs.Prelude.{◌≡◌, ℕ, List, [], ◌∷◌, map, take}
use Rattle.hs_base.specs.Chains.{Piece, nfa}
use Rattle.hs_base.specs.Entries.{ListedEntry, listed}
use Rattle.hs_base.specs.Trees.{Tree}
use Rattle.hs_base.specs.declared.ext.Entry.{Entry}
use Rattle.hs_dbfile.specs.Files.{IsDatabaseFile}

-- It is the first entry of the list in a database file; none where that list is empty.
pub record IsFirstIn (bytes : List ℕ) (entries : List Entry) : Type 0 where
  pub list : List ListedEntry
  pub file : IsDatabaseFile bytes list
  pub first : map listed entries ≡ take 1 list

-- one entry, which has one chain, which has one piece: the whole expression
abbrev pub one_piece : Tree → List (List (List Piece))
one_piece tree = ((nfa tree ∷ []) ∷ []) ∷ []
