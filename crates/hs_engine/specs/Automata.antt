-- What the tables of a position automaton say.
use Rattle.std.specs.Prelude.{ℕ, Bool, false, Option, Some, None, slice_get}
use Rattle.hs_base.specs.declared.byte_set.ByteSet.{ByteSet}
use Rattle.hs_base.specs.declared.context.Mask.{Mask}
use Rattle.hs_base.specs.ByteSets.{has}
use Rattle.hs_base.specs.Contexts.{Context}
use Rattle.hs_base.specs.ContextSets.{has_context}
use Rattle.hs_engine.specs.declared.automaton.Automaton.{Automaton}
use Rattle.hs_engine.specs.Rows.{in_row}

-- the byte is in the set, if there is one
abbrev pub in_set : Option ByteSet → ℕ → Bool
in_set None b = false
in_set (Some set) b = has set b

-- the context is in the mask, if there is one
abbrev pub in_mask : Option Mask → Context → Bool
in_mask None c = false
in_mask (Some mask) c = has_context mask c

-- the position takes that byte
abbrev pub takes : Automaton → ℕ → ℕ → Bool
takes a x b = in_set (slice_get a.sets.items x) b

-- a match may begin with the byte of the position, in that context
abbrev pub enters : Automaton → ℕ → Context → Bool
enters a x c = in_mask (slice_get a.enters.items x) c

-- a match may end behind the byte of the position, in that context
abbrev pub accepts : Automaton → ℕ → Context → Bool
accepts a x c = in_mask (slice_get a.accepts.items x) c

-- behind the byte of the one position may come that of the other, in that context, in which a byte comes next
abbrev pub follows : Automaton → ℕ → ℕ → Context → Bool
follows a x y c = in_row a.follows x y c
