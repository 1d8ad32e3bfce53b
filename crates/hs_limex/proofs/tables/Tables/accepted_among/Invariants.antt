use Rattle.std.proofs.Common.{◌≡◌, ◌<◌, true}
use Rattle.hs_base.specs.declared.context.Next.{Next}
use Rattle.hs_base.specs.Bits.{has_word_bit}
use Rattle.hs_base.specs.Contexts.{next_number}
use Rattle.hs_base.specs.ContextSets.{has_next}
use Rattle.hs_limex.specs.Fitting.{AcceptsIn}
use Rattle.hs_limex.specs.TableMoves.{moves_of_tables}
use Rattle.hs_limex.proofs.tables.Tables.accepted_among.Given as goal

abbrev pub invariant-loop-number : goal.invariant-loop-number
invariant-loop-number g l = record {
  sound : (next : Next) → has_next l.all next ≡ true → AcceptsIn (moves_of_tables l.self) (has_word_bit l.live) (record { prev = l.prev; next = next });
  whole : (next : Next) → next_number next < l.number → AcceptsIn (moves_of_tables l.self) (has_word_bit l.live) (record { prev = l.prev; next = next }) → has_next l.all next ≡ true;
}
