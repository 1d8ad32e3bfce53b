-- The chains of an expression can be run.
use Rattle.std.proofs.Common.{◌≡◌, ◌^◌, ◌<◌, None, false, List, [], ◌∷◌, length, sym, subst, arith}
use Rattle.hs_base.specs.Chains.{Piece, lit, nfa, rep, chains_of, IsFitChain, IsFitPiece}
use Rattle.hs_base.specs.EndAssertions.{has_embedded_end}
use Rattle.hs_base.specs.Lists.{Each}
use Rattle.hs_base.specs.Trees.{Tree, IsProper}
use Rattle.hs_base.specs.WrittenOut.{IsPlain}
use Rattle.hs_glushkov.proofs.CountLemmas.{count-written}
use Rattle.hs_pieces.proofs.FitLemmas.{chains-fit}
use Rattle.hs_support.specs.PieceCounts.{HasFewPositions, first_excess_of}
use Rattle.hs_support.proofs.ExcessLemmas.{chains-few}
use Rattle.hs_rose.specs.Runnable.{AreFew, AreRunnable, IsRunnable, IsRunnableChain}

piece-runnable : (piece : Piece) → IsFitPiece piece → HasFewPositions piece → IsRunnable piece
piece-runnable (lit xs) fit has = (fit.0, fit.1)
piece-runnable (nfa t) fit has = (fit.0, omega (arith, count-written t fit.0, has), fit.1)
piece-runnable (rep set least greatest) fit has = (fit.1, fit.2)

pieces-runnable : (pieces : List Piece) → Each IsFitPiece pieces → Each HasFewPositions pieces → Each IsRunnable pieces
pieces-runnable [] fit has = tt
pieces-runnable (piece ∷ pieces) fit has = (piece-runnable piece fit.0 has.0, pieces-runnable pieces fit.1 has.1)

chains-runnable : (chains : List (List Piece)) → Each IsFitChain chains → Each (Each HasFewPositions) chains → Each (λ chain. length chain < 2 ^ 32) chains → Each IsRunnableChain chains
chains-runnable [] fit has few = tt
chains-runnable (chain ∷ chains) fit has few =
    (record { few = few.0; pieces = pieces-runnable chain fit.0.pieces has.0 }, chains-runnable chains fit.1 has.1 few.1)

-- the chains that a split gives
pub split-runnable : (t : Tree) (chains : List (List Piece)) → IsProper t → IsPlain t → first_excess_of (chains_of t) ≡ None → has_embedded_end t false ≡ false → chains ≡ chains_of t → AreFew chains → AreRunnable chains
split-runnable t chains proper plain few ends is are = record {
  few = are.count;
  each = chains-runnable chains (subst (λ cs. Each IsFitChain cs) (sym is) (chains-fit t proper plain ends))
      (subst (λ cs. Each (Each HasFewPositions) cs) (sym is) (chains-few (chains_of t) few)) are.each;
}
