-- The rows by which the matches of an engine begin, as lists of sets.
use Rattle.std.specs.Prelude.{List, [], ◌∷◌, map}
use Rattle.hs_base.specs.declared.byte_set.ByteSet.{ByteSet}
use Rattle.hs_waking.specs.Rows.{row_sets}
use Rattle.hs_waking.specs.declared.beginning.BeginningRows.{BeginningRows}
use Rattle.hs_waking.specs.declared.beginning.BeginningRows.TheVariants.{Set, Each}

abbrev pub rows_of_beginnings : BeginningRows → List (List ByteSet)
rows_of_beginnings (Set set) = (set.now ∷ []) ∷ []
rows_of_beginnings (Each rows) = map row_sets rows.now
