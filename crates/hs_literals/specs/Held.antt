-- The literals that a `Literals` was built of.
use Rattle.std.specs.Prelude.{ℕ, List}
use Rattle.hs_base.specs.Literals.{LiteralByte}
use Rattle.hs_confirm.specs.Filed.{literals_of, buckets_of}
use Rattle.hs_literals.specs.declared.literals.Literals.{Literals}

-- the literals, by number
abbrev pub held : Literals → List (List LiteralByte)
held literals = literals_of literals.confirm

-- the bucket of each
abbrev pub held_buckets : Literals → List ℕ
held_buckets literals = buckets_of literals.confirm
