use Rattle.std.proofs.Common.{◌≡◌, ◌+◌, ◌<◌, ◌++◌, ℕ, length, get_or, cond, ltb}
use Rattle.hs_fdr.specs.Masks.{mask_of, width_of}
use Rattle.hs_fdr.specs.Blocks.{mask_at}
use Rattle.hs_fdr.proofs.plain.plain_block.Given as goal

abbrev pub invariant-loop-place : goal.invariant-loop-place
invariant-loop-place l =
    (length l.out ≡ 64)
    × ((i : ℕ) → i < l.place → get_or l.out i 0 ≡ cond (ltb i (length l.block)) (mask_at (mask_of l.tables) (width_of l.tables) (l.before ++ l.block) l.last (length l.before + i)) 255)
