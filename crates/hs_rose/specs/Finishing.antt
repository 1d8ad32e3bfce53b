-- What a builder leads to.
use Rattle.std.specs.Prelude.{◌≡◌, ℕ, ◌<◌, List, map, Some, slice_get, vec_len}
use Rattle.hs_rose.specs.declared.builder.Builder.{Builder}
use Rattle.hs_rose.specs.declared.engine.PieceEngine.{PieceEngine}
use Rattle.hs_rose.specs.declared.identifiers.Identifier.{Identifier}
use Rattle.hs_rose.specs.declared.info.EntryInfo.{EntryInfo}
use Rattle.hs_rose.specs.declared.making.Made.{Made}
use Rattle.hs_rose.specs.declared.role.Role.{Role}
use Rattle.hs_rose.specs.Building.{literals_of}
use Rattle.hs_rose.specs.Naming.{engine_of, literal_of}
use Rattle.hs_rose.specs.Programs.{Tables}

-- the engine of a piece
abbrev pub engine_made : Made → PieceEngine
engine_made made = made.engine

-- each role names a literal or an engine that is there
pub record AreNumbered (b : Builder) : Type 0 where
  pub literals : (j k : ℕ) (r : Role) → slice_get b.roles.items j ≡ Some r → literal_of r ≡ Some k →
      k < vec_len b.literals.list
  pub engines : (j k : ℕ) (r : Role) → slice_get b.roles.items j ≡ Some r → engine_of r ≡ Some k → k < vec_len b.made

-- The program has what is built.
pub record IsFinished (infos : List EntryInfo) (identifiers : List Identifier) (b : Builder) (t : Tables) : Type 0 where
  pub entries : t.entries ≡ infos
  pub identifiers_are : t.identifiers ≡ identifiers
  pub chains : t.chains ≡ b.chains.items
  pub roles : t.roles ≡ b.roles.items
  pub literals : t.literals ≡ literals_of b
  pub engines : t.engines ≡ map engine_made b.made.items
