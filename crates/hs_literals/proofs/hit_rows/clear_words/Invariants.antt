use Rattle.std.proofs.Common.{◌≡◌, ℕ, ◌&&◌, length, get_or}
use Rattle.std.specs.Prelude.{if◌then◌else◌, nat_le, nat_lt}
use Rattle.hs_literals.proofs.hit_rows.clear_words.Given as goal

abbrev pub invariant-loop-place : goal.invariant-loop-place
invariant-loop-place l = record {
  len : length l.words ≡ length l.initial.words;
  words : (w : ℕ) → get_or l.words w 0 ≡ (if nat_le l.from w && nat_lt w l.place then 0 else get_or l.initial.words w 0);
}
