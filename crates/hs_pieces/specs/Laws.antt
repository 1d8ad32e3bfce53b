-- What holds of the chains of an expression.
use Rattle.std.specs.Prelude.{◌≡◌, ◌↔◌, ℕ, ◌≤◌, Bool, false, List}
use Rattle.hs_base.specs.Chains.{Piece, lit, nfa, rep, chains_of, ChainSpans, IsFitChain}
use Rattle.hs_base.specs.EndAssertions.{has_embedded_end}
use Rattle.hs_base.specs.Lists.{Each, OneOf}
use Rattle.hs_base.specs.Spans.{Spans}
use Rattle.hs_base.specs.Trees.{Tree, IsProper}
use Rattle.hs_base.specs.WrittenOut.{IsPlain}
use Rattle.hs_expr.specs.Counts.{positions}

-- The chains of an expression have together exactly its spans, in every stream.
abbrev pub ChainsHaveSpans : Type 0
ChainsHaveSpans =
    (t : Tree) (w : List ℕ) (ended : Bool) (i j : ℕ) → IsProper t →
    Spans w ended t i j ↔ OneOf (λ chain. ChainSpans w ended chain i j) (chains_of t)

-- The chains of an expression without code points can be run, if no byte is consumed in it behind an assertion of the
-- stream's end.
abbrev pub ChainsAreFit : Type 0
ChainsAreFit =
    (t : Tree) → IsProper t → IsPlain t → has_embedded_end t false ≡ false → Each IsFitChain (chains_of t)

-- an expression has at most so many positions; other pieces have none
abbrev pub HasPositions : ℕ → Piece → Type 0
HasPositions n (lit xs) = Unit {0}
HasPositions n (nfa t) = positions t ≤ n
HasPositions n (rep set least greatest) = Unit {0}

-- No expression among the pieces has more positions than the whole.
abbrev pub PiecesHaveNoMorePositions : Type 0
PiecesHaveNoMorePositions =
    (t : Tree) → IsProper t → Each (λ chain. Each (HasPositions (positions t)) chain) (chains_of t)
