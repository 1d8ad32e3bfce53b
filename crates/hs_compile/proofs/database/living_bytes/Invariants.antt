use Rattle.std.specs.Prelude.{◌≡◌, length}
use Rattle.hs_nodes.specs.Lone.{AreLiving}
use Rattle.hs_rose.specs.PieceEngines.{piece_meaning}
use Rattle.hs_compile.proofs.database.living_bytes.Given as goal

abbrev pub invariant-loop-k : goal.invariant-loop-k
invariant-loop-k l = (length l.sets.items ≡ l.k) × AreLiving piece_meaning l.engines l.sets.items
