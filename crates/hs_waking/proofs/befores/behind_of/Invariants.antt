use Rattle.std.proofs.Common.{◌≡◌, ℕ, ◌<◌, true, slice_get}
use Rattle.hs_base.specs.declared.context.Prev.{Prev}
use Rattle.hs_base.specs.Contexts.{class_of}
use Rattle.hs_engine.specs.Automata.{in_mask, in_set}
use Rattle.hs_engine.specs.Between.{between}
use Rattle.hs_waking.specs.PrevSets.{has_prev}
use Rattle.hs_waking.proofs.befores.behind_of.Given as goal

abbrev pub invariant-loop-position : goal.invariant-loop-position
invariant-loop-position l =
    (x b : ℕ) (prev : Prev) → x < l.position → b < 256 → in_mask (slice_get l.enters x) (between prev (class_of b)) ≡ true → in_set (slice_get l.sets x) b ≡ true → has_prev l.behind prev ≡ true
