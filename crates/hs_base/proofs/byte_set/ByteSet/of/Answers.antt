use Rattle.std.proofs.Common.{◌/◌, ◌%◌, ◌||◌, ◌∙◌, ap, eqb, arith}
use Rattle.std.specs.Int.{bit_at}
use Rattle.std.proofs.lemmas.Nat.Bits.{bit_at-zero}
use Rattle.hs_base.specs.ByteSets.{has}
use Rattle.hs_base.proofs.ByteSetLemmas.{word_at, or-false}
use Rattle.hs_base.proofs.byte_set.ByteSet.of.Goals as goal

pub returns : goal.returns
unfolding has
returns c b h =
    c.insert.ensures b h
    ∙ (ap (λ n. eqb b c.args.byte || eqb (bit_at n (b % 64)) 1) (word_at (λ _. 0) (b / 64) (omega arith))
    ∙ (ap (λ n. eqb b c.args.byte || eqb n 1) (bit_at-zero (b % 64)) ∙ or-false (eqb b c.args.byte)))
