-- How many steps a scan takes at most.
use Rattle.std.proofs.Common.{◌≡◌, ℕ, ◌+◌, ◌*◌, ◌≤◌, ap, ◌∙◌, arith}
use Rattle.std.proofs.Math.Nat.{mul-add}
use Rattle.std.proofs.lemmas.Nat.{mul-le}

-- a chunk of one byte at least, behind other bytes
pub chunk-steps : (nodes from k end old mid new : ℕ) → end ≡ from + k → 1 ≤ k → mid ≤ old + 32 * (nodes * from) → new ≤ mid + 16 * (nodes * (k + 1)) → new ≤ old + 32 * (nodes * end)
chunk-steps nodes from k end old mid new is some before here =
    let all : nodes * end ≡ nodes * from + nodes * k = ap (λ n. nodes * n) is ∙ mul-add nodes from k in
    let own : nodes * (k + 1) ≡ nodes * k + nodes * 1 = mul-add nodes k 1 in
    let least : nodes * 1 ≤ nodes * k = mul-le nodes 1 nodes k (omega arith) some in
    omega (arith, all, own, least, before, here)

-- a last byte that is asked of, behind other bytes
pub last-steps : (nodes n count old mid new : ℕ) → count ≡ n + 1 → mid ≤ old + 32 * (nodes * n) → new ≤ mid + 48 * nodes → new ≤ old + 48 * (nodes * count)
last-steps nodes n count old mid new is before here =
    let all : nodes * count ≡ nodes * n + nodes * 1 = ap (λ k. nodes * k) is ∙ mul-add nodes n 1 in
    omega (arith, all, before, here)
