-- What holds of expressions that are written out.
use Rattle.std.specs.Prelude.{◌↔◌, ℕ, Bool, List}
use Rattle.hs_base.specs.Trees.{Tree}
use Rattle.hs_base.specs.Spans.{Spans}
use Rattle.hs_base.specs.WrittenOut.{write_out, IsPlain, StreamSpans}

-- Writing out the repeats of an expression keeps its spans, and adds none.
abbrev pub WritingOutKeepsSpans : Type 0
WritingOutKeepsSpans =
    (w : List ℕ) (ended : Bool) (tree : Tree) (i j : ℕ) →
    IsPlain tree →
    Spans w ended tree i j ↔ StreamSpans w ended (write_out tree) i j
