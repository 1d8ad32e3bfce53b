-- What holds a list.
use Rattle.hs_lists.specs.declared.loading.ListKind.{ListKind as LoadedKind}
use Rattle.hs_lists.specs.declared.loading.ListKind.TheVariants.{Patterns, Database}

-- what holds a list: a pattern file, or a database file
pub data ListKind : Type 0 where
  pattern_file : ListKind
  database_file : ListKind

-- a kind of the program as a plain one
abbrev pub kind_of : LoadedKind → ListKind
kind_of Patterns = pattern_file
kind_of Database = database_file
