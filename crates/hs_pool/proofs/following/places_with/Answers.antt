use Rattle.std.proofs.Common.{ℕ, ◌^◌, ◌%◌, cond, not, eqb, map, replicate, bit_and, sym, subst, arith}
use Rattle.std.specs.Simd.Lanes.{zip2, mask_l, top}
use Rattle.hs_pool.specs.Following.{AreFlagsAt}
use Rattle.hs_pool.proofs.FlagLemmas.{flags-at}
use Rattle.hs_pool.proofs.following.places_with.Goals as goal

pub returns : goal.returns
returns c k is =
    subst (λ (f : ℕ). AreFlagsAt c.args.flags.now k (mask_l (map (top 7) (zip2 (λ (a : ℕ) (b : ℕ). cond (not (eqb a b)) 255 0) (zip2 bit_and c.args.flags.now (replicate 64 f)) (replicate 64 0))) % 2 ^ 64)) (sym is)
    (flags-at c.args.flags.now k (omega arith))
