use Rattle.std.proofs.Common.{◌/◌, ◌%◌, ◌∙◌, ap, get_or, eqb, bit_or, arith}
use Rattle.std.specs.Int.{bit_at}
use Rattle.hs_base.specs.ByteSets.{has}
use Rattle.hs_base.proofs.ByteSetLemmas.{word_at, bit-or}
use Rattle.hs_base.proofs.byte_set.ByteSet.union.Goals as goal

pub returns : goal.returns
unfolding has
returns c b h =
    let a = c.args.self.now.words in
    let o = c.args.other.now.words in
    ap (λ n. eqb (bit_at n (b % 64)) 1) (word_at (λ k. bit_or (get_or a k 0) (get_or o k 0)) (b / 64) (omega arith))
    ∙ bit-or (get_or a (b / 64) 0) (get_or o (b / 64) 0) (b % 64)
