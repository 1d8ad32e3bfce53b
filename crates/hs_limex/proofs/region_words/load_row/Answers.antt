use Rattle.std.proofs.Common.{replicate, ap, ◌∙◌}
use Rattle.hs_base.specs.Bits.{has_bit, has_word_bit}
use Rattle.hs_limex.proofs.RegionWordLemmas.{one-row}
use Rattle.hs_limex.proofs.StepLemmas.{read-bits}
use Rattle.hs_limex.proofs.TableLemmas.{replicate-words}
use Rattle.hs_limex.proofs.region_words.load_row.Goals as goal

pub returns-then-this-eq1-clause-bits : goal.returns-then-this-eq1-clause-bits
returns-then-this-eq1-clause-bits g c k =
    let word = c.load.result in
    ap (λ n. has_word_bit (replicate n word) k) c.if-this-eq1.true ∙ (one-row word k c.load.type_inv ∙ c.load.ensures k)

pub returns-clause-bits : goal.returns-clause-bits
returns-clause-bits g c k =
    let words = replicate g.row.W 0 in
    read-bits (has_bit c.args.bytes.now k) (has_word_bit words k) (has_word_bit c.unite_region.new.words k) (replicate-words g.row.W k) (c.unite_region.ensures.bits k)
