use Rattle.std.proofs.Common.{◌∙◌, ap, eqb, arith, w64}
use Rattle.std.specs.Int.{bit_at, from_le_bytes}
use Rattle.hs_bits.proofs.WordLemmas.{eight-taken, eight-bits}
use Rattle.hs_bits.proofs.words.word_at.Goals as goal

pub returns-clause-number : goal.returns-clause-number
returns-clause-number c = c.from_le_bytes.ensures ∙ ap (from_le_bytes w64) (eight-taken c.args.bytes.now c.args.at c.requires)

pub returns-clause-bits : goal.returns-clause-bits
returns-clause-bits c i below =
    ap (λ n. eqb (bit_at n i) 1) c.from_le_bytes.ensures
    ∙ eight-bits c.args.bytes.now c.args.at i c.requires (λ k. let b = c.type_inv.bytes k in omega (arith, b)) below
