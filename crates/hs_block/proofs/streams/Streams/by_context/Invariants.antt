use Rattle.std.proofs.Common.{◌≡◌, ℕ, ◌+◌, ◌*◌, ◌<◌, ◌≤◌, ◌&&◌, ◌||◌, true, false}
use Rattle.hs_engine.specs.Rows.{square_number}
use Rattle.hs_bits.specs.BlockContexts.{context_before}
use Rattle.hs_block.specs.StreamSets.{in_rows}
use Rattle.hs_bits.specs.WordBits.{word_bit}
use Rattle.hs_block.proofs.StreamSettleLemmas.{LedBy}
use Rattle.hs_block.proofs.streams.Streams.by_context.Given as goal

abbrev pub invariant-loop-left : goal.invariant-loop-left
invariant-loop-left g l = record {
  few : (q : ℕ) → 12 ≤ q → word_bit l.left q ≡ false;
  led : (i : ℕ) → i < 64 →
      (word_bit l.all.led i
      || (word_bit l.left (square_number true (context_before l.entry.prev l.whole i)) && LedBy l.self l.entry.state l.words l.fn.position i (square_number true (context_before l.entry.prev l.whole i))))
      ≡ ((word_bit l.fn.asks (square_number true (context_before l.entry.prev l.whole i)) && LedBy l.self l.entry.state l.words l.fn.position i (square_number true (context_before l.entry.prev l.whole i)))
      || word_bit l.fn.always.led i);
  again : (i : ℕ) → i < 64 →
      (word_bit l.all.again i
      || (word_bit l.left (square_number true (context_before l.entry.prev l.whole i))
      && in_rows l.self.rests.items l.self.width (12 * l.fn.position + square_number true (context_before l.entry.prev l.whole i)) l.fn.position))
      ≡ ((word_bit l.fn.asks (square_number true (context_before l.entry.prev l.whole i))
      && in_rows l.self.rests.items l.self.width (12 * l.fn.position + square_number true (context_before l.entry.prev l.whole i)) l.fn.position)
      || word_bit l.fn.always.again i);
}

abbrev pub decreases-loop-left : goal.decreases-loop-left
decreases-loop-left g l = l.left
