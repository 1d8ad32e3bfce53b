-- The bytes of a literal as contracts see them.
use Rattle.std.specs.Prelude.{List, map}
use Rattle.std.specs.declared.vec.Vec.{Vec}
use Rattle.std.specs.declared.alloc.Global.{Global}
use Rattle.hs_base.specs.declared.literal.LitByte.{LitByte}
use Rattle.hs_base.specs.Literals.{LiteralByte}

abbrev pub literal_byte : LitByte → LiteralByte
literal_byte x = record { byte = x.byte; both_cases = x.both_cases }

-- a literal as plain data
abbrev pub literal_bytes : Vec LitByte Global → List LiteralByte
literal_bytes literal = map literal_byte literal.items
