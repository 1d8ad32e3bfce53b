-- What an iteration over a set of bytes has left.
use Rattle.std.specs.Prelude.{ℕ, List}
use Rattle.hs_base.specs.ByteSets.{members_from}
use Rattle.hs_base.specs.declared.members.Members.{Members}

-- the members that are still to come
abbrev pub members_left : Members → List ℕ
members_left left = members_from left.set left.next
