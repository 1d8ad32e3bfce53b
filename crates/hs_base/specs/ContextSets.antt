-- Sets of what comes next, and of contexts, as contracts see them.
use Rattle.std.specs.Prelude.{Bool, ◌==◌}
use Rattle.std.specs.Int.{bit_at}
use Rattle.hs_base.specs.declared.context.Next.{Next}
use Rattle.hs_base.specs.declared.context.NextSet.{NextSet}
use Rattle.hs_base.specs.declared.context.Mask.{Mask}
use Rattle.hs_base.specs.Contexts.{Context, context_number, next_number}

-- that is a member of the set
unfoldable pub has_next : NextSet → Next → Bool
has_next set next = bit_at set.bits (next_number next) == 1

-- that context is a member of the set
unfoldable pub has_context : Mask → Context → Bool
has_context mask c = bit_at mask.bits (context_number c) == 1
