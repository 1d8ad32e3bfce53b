use Rattle.std.proofs.Common.{◌≡◌, ℕ, ◌<◌, true, slice_get}
use Rattle.hs_base.specs.ByteSets.{has}
use Rattle.hs_base.specs.Contexts.{Context}
use Rattle.hs_engine.specs.Automata.{in_mask, in_set}
use Rattle.hs_engine.proofs.firsts.first_bytes.Given as goal

abbrev pub invariant-loop-position : goal.invariant-loop-position
invariant-loop-position l =
    (x b : ℕ) (c : Context) → x < l.position → b < 256 → in_mask (slice_get l.enters x) c ≡ true → in_set (slice_get l.sets x) b ≡ true → has l.first b ≡ true
