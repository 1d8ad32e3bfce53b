use Rattle.std.proofs.Common.{◌≡◌, ℕ, ◌<◌, ◌≤◌, bit_and, bit_or, length, slice_index}
use Rattle.hs_nodes.proofs.ends.ChunkEnds.through.Given as goal

abbrev pub invariant-loop-j : goal.invariant-loop-j
invariant-loop-j l = record {
  befores : length l.ends.before ≡ 8;
  behinds : length l.ends.behind ≡ 8;
  before : (i : ℕ) → i < l.j → slice_index l.ends.before i ≡ bit_or (slice_index l.self.before i) (bit_and (slice_index l.enters.before i) (slice_index l.null.before i));
  before_later : (i : ℕ) → l.j ≤ i → slice_index l.ends.before i ≡ slice_index l.self.before i;
  behind : (i : ℕ) → i < l.j → slice_index l.ends.behind i ≡ bit_or (slice_index l.self.behind i) (bit_and (slice_index l.enters.behind i) (slice_index l.null.behind i));
  behind_later : (i : ℕ) → l.j ≤ i → slice_index l.ends.behind i ≡ slice_index l.self.behind i;
}
