use Rattle.std.proofs.Common.{All}
use Rattle.hs_rows.specs.Texts.{HasBytes}
use Rattle.hs_rows.proofs.cutting.words_of.Given as goal

abbrev pub invariant-loop-byte : goal.invariant-loop-byte
invariant-loop-byte l = All (λ word. HasBytes word.items) l.words.items
