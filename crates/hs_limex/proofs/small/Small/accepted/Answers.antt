use Rattle.std.proofs.Common.{◌≡◌, ℕ, ◌<◌, ◌^◌, ◌&&◌, true, bit_and, sym, ap, ◌∙◌, arith}
use Rattle.std.proofs.lemmas.Nat.{and_le_l}
use Rattle.hs_base.proofs.ContextLemmas.{first_of_both, second_of_both, of_both}
use Rattle.hs_base.proofs.ContextSetLemmas.{bit-and}
use Rattle.hs_limex.specs.SingleWords.{is_set}
use Rattle.hs_limex.proofs.PlainLemmas.{true-false}
use Rattle.hs_limex.proofs.SingleLemmas.{no-bit, some-bit}
use Rattle.hs_limex.proofs.small.Small.accepted.Goals as goal

pub returns-then-load-self-eq0-clause-whole : goal.returns-then-load-self-eq0-clause-whole
returns-then-load-self-eq0-clause-whole c prev next accepts =
    let live = c.load.result in
    let own = c.args.self.now.accepts in
    let k : ℕ = accepts.position in
    let set : is_set live k ≡ true = c.load.ensures k ∙ accepts.is_live in
    true-false (is_set (bit_and live own) k) (bit-and live own k ∙ of_both (is_set live k) (is_set own k) set accepts.accepts)
    (ap (λ w. is_set w k) c.if-load-self-eq0.true ∙ no-bit k)

pub returns-else-load-self-eq0-clause-sound : goal.returns-else-load-self-eq0-clause-sound
returns-else-load-self-eq0-clause-sound c prev next told =
    let live = c.load.result in
    let own = c.args.self.now.accepts in
    let fits : bit_and live own < 2 ^ 64 = omega (arith, and_le_l live own, c.load.type_inv) in
    let (k, is) = some-bit (bit_and live own) c.if-load-self-eq0.false fits in
    let both : (is_set live k && is_set own k) ≡ true = sym (bit-and live own k) ∙ is in
    record {
      position = k;
      is_live = sym (c.load.ensures k) ∙ first_of_both (is_set live k) (is_set own k) both;
      accepts = second_of_both (is_set live k) (is_set own k) both;
    }
