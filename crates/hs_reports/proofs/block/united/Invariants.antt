use Rattle.std.proofs.Common.{◌≡◌, ℕ, ◌<◌, false}
use Rattle.hs_reports.specs.WordBits.{row_bit, word_bit}
use Rattle.hs_reports.proofs.block.united.Given as goal

abbrev pub invariant-loop-word : goal.invariant-loop-word
invariant-loop-word l = (i : ℕ) → word_bit l.all i ≡ false → (k : ℕ) → k < l.word-index → row_bit l.words k i ≡ false
