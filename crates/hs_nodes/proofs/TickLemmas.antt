-- How many steps the nodes take at most.
use Rattle.std.proofs.Common.{ℕ, zero, suc, ◌+◌, ◌*◌, ◌≤◌, Bool, true, false, List, [], ◌∷◌, length, if◌then◌else◌, arith}
use Rattle.std.specs.Prelude.{slice_index_or}
use Rattle.hs_bits.specs.WordBits.{count_below}
use Rattle.hs_nodes.specs.Hits.{hit_count, is_hit_at, no_hits}
use Rattle.hs_nodes.specs.Nodes.{most_ticks}
use Rattle.hs_nodes.specs.Walks.{nodes_ticks}
use Rattle.hs_nodes.specs.declared.hits.ChunkHits.{ChunkHits}
use Rattle.hs_nodes.specs.declared.table.Node.{Node}
use Rattle.hs_nodes.specs.declared.table.NodeKind.{NodeKind}
use Rattle.hs_nodes.specs.declared.table.NodeKind.TheVariants.{Engine, Literal, FirstLiteral, LookBack}

one-most : (b : Bool) (n k : ℕ) → n ≤ k → (if b then 1 else 0) + n ≤ suc k
one-most true n k low = omega (arith, low)
one-most false n k low = omega (arith, low)

count-most : (n : ℕ) (test : ℕ → Bool) → count_below n test ≤ n
count-most zero test = omega arith
count-most (suc n) test = one-most (test n) (count_below n test) n (count-most n test)

pub hits-most : (hits : ChunkHits) (count : ℕ) → hit_count hits count ≤ suc count
hits-most hits count = count-most (suc count) (is_hit_at hits)

kind-most : (kind : NodeKind) (hits : List ChunkHits) (count : ℕ) → most_ticks kind hits count ≤ 16 * (count + 1)
kind-most (Engine number null) hits count = omega arith
kind-most (Literal number len) hits count = omega arith
kind-most (FirstLiteral number len) hits count = omega arith
kind-most (LookBack pair) hits count = let most = hits-most (slice_index_or hits pair.literal no_hits) count in omega (arith, most)

-- as many for each node, and one place more than there are bytes
pub nodes-most : (nodes : List Node) (hits : List ChunkHits) (count : ℕ) → nodes_ticks nodes hits count ≤ 16 * (length nodes * (count + 1))
nodes-most [] hits count = omega arith
nodes-most (node ∷ nodes) hits count =
    let one = kind-most node.kind hits count in
    let rest = nodes-most nodes hits count in
    omega (arith, one, rest)
