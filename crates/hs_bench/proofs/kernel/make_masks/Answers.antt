use Rattle.std.proofs.Common.{◌≡◌, ◌-◌, ℕ, List, Option, length, take, drop, slice_get, ap, ◌∙◌, arith}
use Rattle.std.proofs.lemmas.List.{take_rest, take_min}
use Rattle.std.proofs.Math.Nat.{min_comm}
use Rattle.hs_fdr.specs.Masks.{mask_of, width_of}
use Rattle.hs_fdr.specs.Blocks.{block_masks}
use Rattle.hs_bench.proofs.KernelLemmas.{got-is}
use Rattle.hs_bench.proofs.kernel.make_masks.Goals as goal

pub returns : goal.returns
returns c =
    let tables = c.args.tables.now in
    let front = c.split_at.result.0.now in
    let back = c.split_at.result.1.now in
    let masks : List ℕ → List ℕ → Option ℕ → List ℕ = λ before block next. block_masks (mask_of tables) (width_of tables) before block next in
    let before : take (length front - c.saturating_sub.result) (drop c.saturating_sub.result front) ≡ drop (length front - 7) front = take_rest front c.saturating_sub.result ∙ ap (λ n. drop n front) c.saturating_sub.ensures in
    let block : take c.min.result back ≡ take 64 back = ap (λ n. take n back) (c.min.ensures ∙ min_comm (length back) 64) ∙ take_min 64 back in
    let next : c.copied.result ≡ slice_get back 64 = c.copied.ensures ∙ got-is back 64 c.get.result c.get.ensures.lookup.0 (c.get.ensures.lookup.4 (omega arith)) in
    c.scan_block.ensures
    ∙ (λ i. masks (before i) (block i) (next i))
    ∙ (λ i. masks (drop (length (c.split_at.ensures.front i) - 7) (c.split_at.ensures.front i)) (take 64 (c.split_at.ensures.back i)) (slice_get (c.split_at.ensures.back i) 64))
