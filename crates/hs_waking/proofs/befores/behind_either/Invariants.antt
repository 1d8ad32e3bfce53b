use Rattle.std.proofs.Common.{◌≡◌, ℕ, ◌<◌, true}
use Rattle.hs_base.specs.declared.context.Prev.{Prev}
use Rattle.hs_base.specs.ByteSets.{has}
use Rattle.hs_base.specs.Contexts.{class_of}
use Rattle.hs_base.specs.ContextSets.{has_context}
use Rattle.hs_engine.specs.Between.{between}
use Rattle.hs_waking.specs.PrevSets.{has_prev}
use Rattle.hs_waking.proofs.befores.behind_either.Given as goal

abbrev pub invariant-loop-byte : goal.invariant-loop-byte
invariant-loop-byte l = record {
  kept : (prev : Prev) → has_prev l.fn.behind prev ≡ true → has_prev l.all prev ≡ true;
  added : (b : ℕ) (prev : Prev) → b < l.byte → has l.set b ≡ true → has_context l.mask (between prev (class_of b)) ≡ true → has_prev l.all prev ≡ true;
}
