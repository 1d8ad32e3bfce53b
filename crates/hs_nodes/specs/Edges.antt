-- How the matches of an engine begin and end.
use Rattle.std.specs.Prelude.{◌≡◌, ℕ, ◌<◌, Bool, true, List, [], ◌∷◌, ◌++◌}
use Rattle.hs_base.specs.declared.byte_set.ByteSet.{ByteSet}
use Rattle.hs_base.specs.declared.context.Next.{Next}
use Rattle.hs_base.specs.ByteSets.{has}
use Rattle.hs_base.specs.Fields.{Leaves}
use Rattle.hs_base.specs.Trees.{Tree}
use Rattle.hs_engine.specs.Engines.{Meaning}
use Rattle.hs_waking.specs.declared.prev_set.PrevSet.{PrevSet}
use Rattle.hs_waking.specs.EntryRows.{TellBeginnings}

-- Each match begins behind a member of the set, whatever its bytes are.
abbrev pub BeginsBehind : Meaning → (behind : PrevSet) → Type 0
BeginsBehind m behind = (rows : List (List ByteSet)) × TellBeginnings m behind rows

-- The last byte of each match is a member of the set.
abbrev pub EndsWith : Meaning → (last : ByteSet) → Type 0
EndsWith m last =
    (tree : Tree) (u : List ℕ) (b : ℕ) (entered : List Bool) (next : Next) →
    m.is_for tree →
    b < 256 →
    Leaves tree (u ++ b ∷ []) entered next →
    has last b ≡ true

-- What may stand before a match, and which byte may be its last one.
pub record HasEdges (m : Meaning) (behind : PrevSet) (last : ByteSet) : Type 0 where
  pub begins : BeginsBehind m behind
  pub ends : EndsWith m last
