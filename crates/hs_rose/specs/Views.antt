-- Tables as the code keeps them.
use Rattle.std.specs.Prelude.{List, map}
use Rattle.std.specs.declared.vec.Vec.{Vec}
use Rattle.std.specs.declared.alloc.Global.{Global}
use Rattle.hs_base.specs.declared.literal.LitByte.{LitByte}
use Rattle.hs_base.specs.LiteralView.{literal_bytes}
use Rattle.hs_rose.specs.declared.engine.PieceEngine.{PieceEngine}
use Rattle.hs_rose.specs.declared.identifiers.Identifier.{Identifier}
use Rattle.hs_rose.specs.declared.info.ChainInfo.{ChainInfo}
use Rattle.hs_rose.specs.declared.info.EntryInfo.{EntryInfo}
use Rattle.hs_rose.specs.declared.role.Role.{Role}
use Rattle.hs_rose.specs.Programs.{Tables}

-- these tables
abbrev pub tables_of : List EntryInfo → List Identifier → List ChainInfo → List Role → List (Vec LitByte Global) →
    List PieceEngine → Tables
tables_of entries identifiers chains roles literals engines = record {
  entries = entries;
  identifiers = identifiers;
  chains = chains;
  roles = roles;
  literals = map literal_bytes literals;
  engines = engines;
}
