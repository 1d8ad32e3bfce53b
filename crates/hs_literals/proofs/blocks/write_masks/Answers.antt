use Rattle.std.proofs.Common.{◌≡◌, ◌-◌, ◌∙◌, length, take, drop, ap, arith, length-drop}
use Rattle.std.proofs.lemmas.List.{take_rest}
use Rattle.hs_confirm.specs.Filed.{literals_of, buckets_of}
use Rattle.hs_fdr.specs.Masks.{mask_of, width_of}
use Rattle.hs_fdr.specs.Blocks.{block_masks}
use Rattle.hs_literals.proofs.MaskLemmas.{block_hides_none, closed_behind_block, before_bytes}
use Rattle.hs_literals.proofs.blocks.write_masks.Goals as goal

pub returns-clause-hide_none : goal.returns-clause-hide_none
returns-clause-hide_none c =
    let literals = c.args.literals.now in
    let bytes = c.args.bytes.now in
    let from = c.args.from in
    let before = c.bytes_before-before.result.now in
    let all : take (length bytes - from) (drop from bytes) ≡ drop from bytes = take_rest bytes from in
    let long : length (drop from bytes) ≡ length bytes - from = length-drop from bytes in
    block_hides_none literals.tables (literals_of literals.confirm) (buckets_of literals.confirm) c.args.history.now bytes before c.scan_block.new.out c.copied.result from c.min.result literals.hides_none c.bytes_before-before.ensures c.requires.within (before_bytes c.args.history.now bytes before from c.type_inv.history c.type_inv.bytes c.bytes_before-before.ensures) c.type_inv.bytes
    (λ i below within. omega (arith, c.min.ensures, ap length all, long, below, within))
    (c.scan_block.ensures ∙ ap (λ rest. block_masks (mask_of literals.tables) (width_of literals.tables) before (take c.min.result rest) c.copied.result) all)

pub returns-clause-closed : goal.returns-clause-closed
returns-clause-closed c =
    let literals = c.args.literals.now in
    let bytes = c.args.bytes.now in
    let from = c.args.from in
    let before = c.bytes_before-before.result.now in
    let all : take (length bytes - from) (drop from bytes) ≡ drop from bytes = take_rest bytes from in
    closed_behind_block literals.tables before bytes c.scan_block.new.out c.copied.result from c.min.result (omega (arith, c.min.ensures, ap length all))
    (c.scan_block.ensures ∙ ap (λ rest. block_masks (mask_of literals.tables) (width_of literals.tables) before (take c.min.result rest) c.copied.result) all)
