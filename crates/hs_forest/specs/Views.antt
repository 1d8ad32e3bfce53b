-- Lists as the code keeps them.
use Rattle.std.specs.Prelude.{ℕ, List}
use Rattle.std.specs.declared.vec.Vec.{Vec}
use Rattle.std.specs.declared.alloc.Global.{Global}

-- a list of numbers that is kept
abbrev pub numbers : Vec ℕ Global → List ℕ
numbers list = list.items
