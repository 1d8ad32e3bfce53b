-- What the tables of single words say: the same in every context.
use Rattle.std.specs.Prelude.{ℕ, ◌+◌, ◌*◌, Bool}
use Rattle.hs_limex.specs.PositionMoves.{PositionMoves}
use Rattle.hs_limex.specs.SingleWords.{is_set, follow_bit, reach_bit}
use Rattle.hs_limex.specs.declared.small.Small.{Small}

-- the position y follows the position x
abbrev pub small_follows : Small → ℕ → ℕ → Bool
small_follows s x y = follow_bit s.words.items (4 * s.pitch + s.span) s.size x y

abbrev pub moves_of_small : Small → PositionMoves
moves_of_small s = record {
  size = s.size;
  first = s.first;
  reach = λ byte k. reach_bit s.words.items s.pitch s.size byte k;
  enters = λ c k. is_set s.enters k;
  accepts = λ c k. is_set s.accepts k;
  follows = λ x y c. small_follows s x y;
}
