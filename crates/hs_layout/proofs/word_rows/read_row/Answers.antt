use Rattle.std.proofs.Common.{◌+◌, ◌∙◌, arith}
use Rattle.hs_bits.proofs.WordLemmas.{unset-bits}
use Rattle.hs_layout.proofs.RowLemmas.{row-read}
use Rattle.hs_layout.proofs.word_rows.read_row.Goals as goal

pub returns : goal.returns
returns c =
    row-read c.args.region.now c.clear_words.new.words c.unite_bytes.new.words c.args.from c.args.bits (c.args.from + c.bytes_for.result) c.args.row.now (c.unite_bytes.ensures.len ∙ c.clear_words.ensures.len)
    (omega (arith, c.bytes_for.ensures)) (unset-bits c.clear_words.new.words c.clear_words.ensures.zero) c.unite_bytes.ensures.bits
