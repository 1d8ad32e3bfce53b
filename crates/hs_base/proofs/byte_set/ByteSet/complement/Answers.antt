use Rattle.std.proofs.Common.{◌≡◌, ◌/◌, ◌%◌, ◌<◌, ℕ, not, eqb, arith}
use Rattle.std.specs.Int.{bit_at}
use Rattle.hs_base.specs.ByteSets.{has}
use Rattle.hs_base.proofs.ByteSetLemmas.{each_word}
use Rattle.hs_base.proofs.byte_set.ByteSet.complement.Goals as goal

pub returns : goal.returns
unfolding has
returns c b h =
    each_word (λ x y. (i : ℕ) → i < 64 → eqb (bit_at x i) 1 ≡ not (eqb (bit_at y i) 1)) _ _ _ _ c.args.self.now.words c.flipped.ensures c.flipped-2.ensures c.flipped-3.ensures c.flipped-4.ensures (b / 64) (omega arith) (b % 64) (omega arith)
