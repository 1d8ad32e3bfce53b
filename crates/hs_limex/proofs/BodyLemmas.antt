-- What both bodies keep.
use Rattle.std.proofs.Common.{◌≡◌, ℕ, ◌+◌, ◌*◌, ◌/◌, ◌%◌, ◌<◌, true, get_or}
use Rattle.std.specs.Prelude.{nat_lt}
use Rattle.std.proofs.lemmas.Bool.{ltb-true}
use Rattle.hs_base.proofs.ContextLemmas.{first_of_both}
use Rattle.hs_limex.specs.BodyMoves.{moves_of_body}
use Rattle.hs_limex.specs.SingleWords.{is_set}
use Rattle.hs_limex.specs.declared.body.Body.{Body}
use Rattle.hs_limex.specs.declared.body.Body.TheVariants.{Small, Wide}

-- a byte reaches only positions
pub reach-few : (body : Body) (b k : ℕ) → b < 256 → (moves_of_body body).reach b k ≡ true → k < (moves_of_body body).size
reach-few (Small s) b k byte is =
    ltb-true k s.size (first_of_both (nat_lt k s.size) (is_set (get_or s.words.items (b * s.pitch / 64) 0) (b * s.pitch % 64 + k)) is)
reach-few (Wide tables) b k byte is = tables.value.reach_few b k byte is
