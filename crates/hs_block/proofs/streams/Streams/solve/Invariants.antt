use Rattle.std.proofs.Common.{◌≡◌, length}
use Rattle.hs_base.specs.Bits.{has_word_bit}
use Rattle.hs_block.specs.Settling.{IsSettled}
use Rattle.hs_block.specs.StreamTables.{AreClassWords, stream_rules}
use Rattle.hs_block.proofs.streams.Streams.solve.Given as goal

abbrev pub invariant-loop-round : goal.invariant-loop-round
invariant-loop-round g l = record {
  len : length l.words ≡ length l.initial.words;
  known : AreClassWords l.classes l.self.sets.items l.whole;
  settled : IsSettled (stream_rules l.self l.entry.prev l.entry.enters l.whole) (has_word_bit l.entry.state) l.words l.work.todo l.work.live;
}
