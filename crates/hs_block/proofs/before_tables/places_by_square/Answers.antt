use Rattle.std.proofs.Common.{◌≡◌, true, eqb}
use Rattle.hs_engine.specs.Rows.{square_number}
use Rattle.hs_bits.specs.BlockContexts.{context_before}
use Rattle.hs_bits.specs.WordBits.{word_bit}
use Rattle.hs_block.proofs.OrderLemmas.{twelve}
use Rattle.hs_block.proofs.before_tables.places_by_square.Goals as goal

pub returns : goal.returns
returns c prev bytes are q i below inside =
    twelve (λ n w. word_bit w i ≡ eqb (square_number true (context_before prev bytes i)) n) _ _ _ _ _ _ _ _ _ _ _ _
    (c.square_places.ensures prev bytes are i inside)
    (c.square_places-2.ensures prev bytes are i inside)
    (c.square_places-3.ensures prev bytes are i inside)
    (c.square_places-4.ensures prev bytes are i inside)
    (c.square_places-5.ensures prev bytes are i inside)
    (c.square_places-6.ensures prev bytes are i inside)
    (c.square_places-7.ensures prev bytes are i inside)
    (c.square_places-8.ensures prev bytes are i inside)
    (c.square_places-9.ensures prev bytes are i inside)
    (c.square_places-10.ensures prev bytes are i inside)
    (c.square_places-11.ensures prev bytes are i inside)
    (c.square_places-12.ensures prev bytes are i inside) q below
