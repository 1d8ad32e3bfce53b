use Rattle.std.proofs.Common.{◌≡◌, ◌≤◌, ◌+◌, ◌-◌, ◌++◌, ℕ, length, get_or, cond, ltb, ap, ◌∙◌, subst, arith, take, drop, length-drop}
use Rattle.std.proofs.lemmas.Bool.{le-ltb}
use Rattle.std.proofs.lemmas.List.{take_rest}
use Rattle.std.proofs.lemmas.Simd.{get_or-replicate}
use Rattle.hs_fdr.specs.Masks.{mask_of, width_of}
use Rattle.hs_fdr.specs.Blocks.{mask_at}
use Rattle.hs_fdr.specs.Lanes.{HasLanes, IsStored}
use Rattle.hs_fdr.specs.Adding.{added, text_rows}
use Rattle.hs_fdr.proofs.BlockLemmas.{block_says, rest_says, mask_in_total, ahead_of_next, stored, block_masks-is}
use Rattle.hs_fdr.proofs.block.scan_block.Goals as goal

pub loop-at-init : goal.loop-at-init
loop-at-init c =
    let before = c.args.before.now in
    let says = text_rows c.args.tables.now (before ++ c.args.block.now) c.or_zero-last.result in
    let start : length before ≡ length before + 0 = omega arith in (
      omega arith,
      subst (λ n. HasLanes c.ahead_of-ahead.result (λ k. added says n (n + k))) start c.ahead_of-ahead.ensures,
      λ i h. rw (le-ltb i 0 (omega arith)) (get_or-replicate 64 i 255 0 h),
    )

pub loop-at-preserved : goal.loop-at-preserved
loop-at-preserved c =
    let tables = c.args.tables.now in
    let before = c.args.before.now in
    let block = c.args.block.now in
    let last = c.or_zero-last.result in
    let says = text_rows tables (before ++ block) last in
    let mask = mask_at (mask_of tables) (width_of tables) (before ++ block) last in
    let at = c.loop-at.at in
    let n = length before + at in
    let ahead = c.loop-at.ahead in
    let sum = c.group.result in
    let total = c.either-total.result in
    let next_start : n + 8 ≡ length before + (at + 8) = omega arith in (
      omega arith,
      subst (λ m. HasLanes c.eight_on-ahead.result (λ k. added says m (m + k))) next_start
          (ahead_of_next tables before block last n at block ahead sum total c.loop-at.invariant.1 c.group.ensures c.either-total.ensures c.eight_on-ahead.result
          (λ k. block_says tables before block last at k (omega arith)) c.eight_on-ahead.ensures),
      stored (λ i. mask (length before + i)) at 8 total c.loop-at.out c.store.new.out c.loop-at.invariant.2 c.store.ensures
          (λ k l.
          let place : n + k ≡ length before + (at + k) = omega arith in
          mask_in_total tables before block last n at block ahead sum total c.loop-at.invariant.1 c.group.ensures c.either-total.ensures k l (block_says tables before block last at k (omega arith))
          ∙ ap mask place),
    )

pub returns : goal.returns
returns c =
    let tables = c.args.tables.now in
    let before = c.args.before.now in
    let block = c.args.block.now in
    let last = c.or_zero-last.result in
    let mask = mask_at (mask_of tables) (width_of tables) (before ++ block) last in
    let at = c.loop-at.at in
    let n = length before + at in
    let bytes = c.with_next.result in
    let total = c.either-total-2.result in
    let out = c.store-2.new.out in
    let end : at + (length block - at) ≡ length block = omega arith in
    let rest = subst (λ xs. (i : ℕ) → i ≤ length xs → get_or bytes i 0 ≡ get_or xs i last) (take_rest block at) c.with_next.ensures in
    let count : length (take (length block - at) (drop at block)) ≡ length block - at = ap length (take_rest block at) ∙ length-drop at block in
    let written =
    stored (λ i. mask (length before + i)) at (length block - at) total c.loop-at.out out c.loop-at.invariant.2
    (subst (λ m. IsStored total m at c.loop-at.out out) count c.store-2.ensures)
    (λ k l.
    let place : n + k ≡ length before + (at + k) = omega arith in
    mask_in_total tables before block last n 0 bytes c.loop-at.ahead c.group-2.result total c.loop-at.invariant.1 c.group-2.ensures c.either-total-2.ensures k (omega arith)
    (rest_says tables before block last at k bytes (omega arith) (λ i h. rest i (omega (arith, length-drop at block))))
    ∙ ap mask place) in
    block_masks-is tables before block last c.args.next out c.or_zero-last.ensures c.store-2.array_long
    (λ i h. written i h ∙ ap (λ m. cond (ltb i m) (mask (length before + i)) 255) end)
