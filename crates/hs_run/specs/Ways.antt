-- How roles are run.
use Rattle.hs_rose.specs.declared.kind.Kind.{Kind}
use Rattle.hs_rose.specs.declared.kind.Kind.TheVariants as kind
use Rattle.hs_rose.specs.declared.role.Role.{Role}
use Rattle.hs_run.specs.declared.way.Way.{Way}
use Rattle.hs_run.specs.declared.way.Way.TheVariants as way

-- by the kind
abbrev pub way_for : Kind → Way
way_for kind.LookBack = way.LookBack
way_for kind.Positions = way.Engine
way_for kind.Dfa = way.Engine
way_for kind.BareLiteral = way.BareLiteral
way_for kind.Literal = way.Literal
way_for kind.First = way.Engine
way_for kind.Last = way.Engine
way_for kind.Ring = way.Engine

-- of a role
abbrev pub way_of : Role → Way
way_of r = way_for r.kind
