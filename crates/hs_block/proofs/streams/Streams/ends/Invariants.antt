use Rattle.std.proofs.Common.{◌≡◌, ℕ, suc, ◌-◌, ◌<◌, ◌≤◌}
use Rattle.hs_engine.specs.AnyBelow.{any_below}
use Rattle.hs_bits.specs.BlockContexts.{context_before, context_behind}
use Rattle.hs_bits.specs.WordBits.{word_bit}
use Rattle.hs_block.proofs.StreamSettleLemmas.{Accepts}
use Rattle.hs_block.proofs.streams.Streams.ends.Given as goal

abbrev pub invariant-loop-position : goal.invariant-loop-position
invariant-loop-position g l = record {
  within : l.from ≤ l.self.size;
  ends_before : (i : ℕ) → i < 64 → word_bit l.before i ≡ any_below l.from (Accepts l.self l.entry.state l.words i (context_before l.entry.prev l.whole i));
  ends_behind : (i : ℕ) → i < 64 → word_bit l.behind i ≡ any_below l.from (Accepts l.self l.entry.state l.words (suc i) (context_behind l.entry.prev l.whole i));
}

abbrev pub decreases-loop-position : goal.decreases-loop-position
decreases-loop-position g l = l.self.size - l.from
