-- An engine over a chunk, for any piece that it runs.
use Rattle.std.proofs.Common.{◌≡◌, ℕ, ◌+◌, ◌*◌, ◌<◌, ◌≤◌, List, ◌∷◌, ◌++◌, length, slice_index, refl, subst, arith}
use Rattle.hs_base.specs.declared.context.Prev.{Prev}
use Rattle.hs_base.specs.Chains.{Piece, piece_tree, IsFitChain}
use Rattle.hs_engine.specs.declared.ends.BlockEnds.{BlockEnds}
use Rattle.hs_engine.specs.Engines.{Meaning}
use Rattle.hs_nodes.specs.declared.ends.ChunkEnds.{ChunkEnds}
use Rattle.hs_nodes.specs.Starting.{ScansBehind}
use Rattle.hs_nodes.specs.Blocks.{EndsBehind, block, front}
use Rattle.hs_nodes.specs.Left.{AreLeftIn}
use Rattle.hs_nodes.specs.Pieces.{AreEmptyIn, IsHeld, TakesChunk}
use Rattle.hs_nodes.proofs.ChunkLemmas.{length-front}
use Rattle.hs_nodes.proofs.PieceLemmas.{IsThrough}
use Rattle.hs_nodes.proofs.RunLemmas.{AreMoreEnds, AreNowhereFrom, IsRunTo, run-all, run-more, run-none}

-- the engine has taken so many blocks, for any piece, behind any stream
abbrev pub TakesBlocks : Meaning → (old new : List ℕ) (prev : Prev) (at : ℕ) (bytes : List ℕ) (enters null ends : ChunkEnds) (n : ℕ) → Type 0
TakesBlocks m old new prev at bytes enters null ends n =
    (pieces rest : List Piece) (piece : Piece) (u : List ℕ) →
    IsFitChain (pieces ++ piece ∷ rest) →
    m.is_for (piece_tree piece) →
    EndsBehind u prev at →
    AreEmptyIn (piece_tree piece) u bytes enters null →
    AreLeftIn pieces u bytes enters →
    IsHeld m pieces piece old u →
    IsRunTo (m.field new) pieces piece u bytes ends n

pub blocks-none : (m : Meaning) (region : List ℕ) (prev : Prev) (at : ℕ) (bytes : List ℕ) (enters null ends : ChunkEnds) → TakesBlocks m region region prev at bytes enters null ends 0
blocks-none m region prev at bytes enters null ends pieces rest piece u fit runs stands empty left held = run-none (m.field region) pieces piece u bytes ends held

module _ (m : Meaning) (old region new : List ℕ) (prev : Prev) (at here : ℕ) (bytes own : List ℕ) (enters null ends ends' : ChunkEnds) (j n : ℕ) (left_here : BlockEnds) (before behind : ℕ)
    (below : 64 * j < length bytes) (next : n ≡ j + 1) (own_is : own ≡ block bytes j) (here_is : here ≡ at + 64 * j)
    (scans : ScansBehind m region new prev bytes j here (slice_index enters.before j) own left_here)
    (through : IsThrough before left_here.before (slice_index enters.before j) (slice_index null.before j)) (through' : IsThrough behind left_here.behind (slice_index enters.behind j) (slice_index null.behind j))
    (more : AreMoreEnds ends ends' j before behind) (small : j < 8) where
  blocks : ScansBehind m region new prev bytes j here (slice_index enters.before j) (block bytes j) left_here
  blocks = subst (λ bs. ScansBehind m region new prev bytes j here (slice_index enters.before j) bs left_here) own_is scans

  -- one more block
  pub blocks-more : TakesBlocks m old region prev at bytes enters null ends j → TakesBlocks m old new prev at bytes enters null ends' n
  blocks-more before_now pieces rest piece u fit runs stands empty left held =
      run-more (m.field region) (m.field new) pieces rest piece u bytes enters null ends ends' j n left_here.before left_here.behind before behind fit left empty
      (λ entered count field. blocks u stands.behind (piece_tree piece) (front u bytes j) entered (record {
        runs = runs;
        count = count;
        offset = omega (arith, here_is, stands.offset, length-front u bytes j (omega arith));
        behind = refl;
        field = field;
      }))
      through through' more next small (before_now pieces rest piece u fit runs stands empty left held)

-- all blocks
pub blocks-all : (m : Meaning) (old new : List ℕ) (prev : Prev) (at : ℕ) (bytes : List ℕ) (enters null ends : ChunkEnds) (n : ℕ) → length bytes ≤ 64 * n → AreNowhereFrom n ends → TakesBlocks m old new prev at bytes enters null ends n →
    TakesChunk m old new prev at bytes enters null ends
blocks-all m old new prev at bytes enters null ends n all none takes pieces rest piece u fit runs stands empty left held =
    run-all (m.field new) pieces piece u bytes ends n all none (takes pieces rest piece u fit runs stands empty left held)
