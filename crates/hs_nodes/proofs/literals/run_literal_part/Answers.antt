use Rattle.std.proofs.Common.{sym, ◌∙◌}
use Rattle.hs_base.specs.Bits.{has_bit}
use Rattle.hs_block.specs.LiteralBlocks.{turned}
use Rattle.hs_bits.specs.WordBits.{word_bit}
use Rattle.hs_block.proofs.LiteralWordLemmas.{entries-same, turned-above, turned-twice}
use Rattle.hs_nodes.proofs.LiteralLemmas.{literal-part}
use Rattle.hs_nodes.proofs.TailLemmas.{tail-takes}
use Rattle.hs_nodes.proofs.literals.run_literal_part.Goals as goal

pub returns-clause-takes : goal.returns-clause-takes
returns-clause-takes c =
    let len = c.args.len in
    let old = c.args.part.now in
    let new = c.write_row-2.new.part in
    let first = c.read_row-carry.result in
    let last = c.run_entries-ends.new.carry in
    literal-part len first last old new c.args.chunk.now.bytes.now c.args.hits.now c.args.enters.now c.run_entries-ends.result
    (λ u entered tells. entries-same len (has_bit old) (turned len (word_bit first)) u entered (turned-twice len first (has_bit old) c.read_row-carry.ensures) (turned-above len (word_bit first)) tells)
    (λ u entered tells. entries-same len (turned len (word_bit last)) (has_bit new) u entered (λ k below. sym (c.write_row-2.ensures.bits k)) (λ k above. c.write_row-2.ensures.bits k ∙ turned-above len (word_bit last) k above) tells)
    c.run_entries-ends.ensures.takes

pub returns-then-is_nowhere-clause-takes : goal.returns-then-is_nowhere-clause-takes
returns-then-is_nowhere-clause-takes c =
    tail-takes c.args.len c.last_entries.result c.write_row.new.part c.args.chunk.now.bytes.now c.args.enters.now c.if-len-count.true c.args.chunk.now.few c.last_entries.ensures c.write_row.ensures.bits c.args.part.now c.args.hits.now c.requires.some (c.is_nowhere.ensures c.if-is_nowhere.true)
