-- What the tables of rows of words say.
use Rattle.hs_base.specs.Contexts.{context_number}
use Rattle.hs_engine.specs.Rows.{in_row}
use Rattle.hs_limex.specs.PositionMoves.{PositionMoves}
use Rattle.hs_limex.specs.WordTables.{in_table}
use Rattle.hs_limex.specs.declared.tables.Tables.{Tables}

abbrev pub moves_of_tables : Tables → PositionMoves
moves_of_tables t = record {
  size = t.follows.size;
  first = t.first;
  reach = λ byte k. in_table t.reach byte k;
  enters = λ c k. in_table t.enters (context_number c) k;
  accepts = λ c k. in_table t.accepts (context_number c) k;
  follows = λ x y c. in_row t.follows x y c;
}
