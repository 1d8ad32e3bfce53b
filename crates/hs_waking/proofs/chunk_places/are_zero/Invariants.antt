use Rattle.std.proofs.Common.{◌≡◌, ◌↔◌, ℕ, ◌<◌, ◌^◌, get_or}
use Rattle.hs_waking.proofs.chunk_places.are_zero.Given as goal

abbrev pub invariant-loop-word : goal.invariant-loop-word
invariant-loop-word l = record {
  fits : (j : ℕ) → j < l.word → get_or l.places j 0 < 2 ^ 64;
  zero : (l.any ≡ 0) ↔ ((j : ℕ) → j < l.word → get_or l.places j 0 ≡ 0);
}
