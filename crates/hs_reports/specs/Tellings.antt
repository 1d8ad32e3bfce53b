-- What a block tells of the identifiers that it concerns, as lists.
use Rattle.std.specs.Prelude.{ℕ, List, [], ◌∷◌, ◌++◌}
use Rattle.hs_base.specs.declared.entry.ExprId.{ExprId}
use Rattle.hs_base.specs.Told.{Pair}
use Rattle.hs_reports.specs.Chunks.{chunk_pairs}
use Rattle.hs_reports.specs.Identifiers.{id_numbers}
use Rattle.hs_reports.specs.WordBits.{row_bit}

-- the identifiers, rising, with the words of each, and for how many there is room
pub record TellingTable : Type 0 where
  pub ids : List ExprId
  pub lates : List ℕ
  pub earlies : List ℕ
  pub room : ℕ

abbrev pub telling_table : List ExprId → (lates earlies : List ℕ) → ℕ → TellingTable
telling_table ids lates earlies room = record { ids = ids; lates = lates; earlies = earlies; room = room }

-- of no identifier
abbrev pub no_tellings : ℕ → TellingTable
no_tellings room = telling_table [] [] [] room

-- of one more
abbrev pub with_telling : TellingTable → ExprId → (late early : ℕ) → TellingTable
with_telling table id late early =
    telling_table (table.ids ++ id ∷ []) (table.lates ++ late ∷ []) (table.earlies ++ early ∷ []) table.room

-- the pairs that they tell of so many bytes of a block at an offset
abbrev pub pairs_of_tellings : TellingTable → (at count : ℕ) → List Pair
pairs_of_tellings table at count =
    chunk_pairs (id_numbers table.ids) (row_bit table.lates) (row_bit table.earlies) at count
