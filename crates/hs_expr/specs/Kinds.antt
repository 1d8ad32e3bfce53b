-- What an item becomes in a chain of pieces.
use Rattle.std.specs.Prelude.{[], ◌∷◌}
use Rattle.hs_base.specs.ByteSets.{members}
use Rattle.hs_base.specs.Chains.{Part, literal, ordinary, long}
use Rattle.hs_base.specs.LiteralView.{literal_byte}
use Rattle.hs_base.specs.Trees.{Tree}
use Rattle.hs_expr.specs.declared.kind.Kind.{Kind}
use Rattle.hs_expr.specs.declared.kind.Kind.TheVariants.{Literal, Long, Ordinary}

-- the part that an item of that kind is
abbrev pub kind_part : Kind → Tree → Part
kind_part (Literal byte) item = literal (literal_byte byte ∷ [])
kind_part (Long set least greatest) item = long (members set) least greatest
kind_part Ordinary item = ordinary (item ∷ [])
