use Rattle.std.proofs.Common.{◌≡◌, ◌+◌, ◌-◌, ◌<◌, ◌≤◌, ◌++◌, ℕ, length, get_or, cond, ltb}
use Rattle.hs_fdr.specs.Masks.{mask_of, width_of}
use Rattle.hs_fdr.specs.Blocks.{mask_at}
use Rattle.hs_fdr.specs.Lanes.{HasLanes}
use Rattle.hs_fdr.specs.Adding.{added, text_rows}
use Rattle.hs_fdr.proofs.block.scan_block.Given as goal

abbrev pub invariant-loop-at : goal.invariant-loop-at
invariant-loop-at l =
    (l.at ≤ length l.block)
    × HasLanes l.ahead (λ k. added (text_rows l.tables (l.before ++ l.block) l.last) (length l.before + l.at) (length l.before + l.at + k))
    × ((i : ℕ) → i < 64 → get_or l.out i 0 ≡ cond (ltb i l.at) (mask_at (mask_of l.tables) (width_of l.tables) (l.before ++ l.block) l.last (length l.before + i)) 255)

abbrev pub decreases-loop-at : goal.decreases-loop-at
decreases-loop-at l = length l.block - l.at
