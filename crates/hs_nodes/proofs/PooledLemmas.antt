-- The states of single engines, as far as they are kept.
use Rattle.std.proofs.Common.{◌≡◌, ℕ, List, Option, Some, slice_get, inl, inr, refl, sym, ap, subst, ◌∙◌}
use Rattle.std.proofs.lemmas.Bool.{cases_eq}
use Rattle.hs_base.specs.declared.context.Prev.{Prev}
use Rattle.hs_engine.specs.Engines.{Meaning}
use Rattle.hs_pool.specs.Blocks.{AreZerosIdle, TakesBlock}
use Rattle.hs_pool.specs.Pools.{IsPoolAt, KeepsOthers}
use Rattle.hs_pool.specs.declared.pool.StatePool.{StatePool}
use Rattle.hs_engine.specs.declared.ends.BlockEnds.{BlockEnds}
use Rattle.hs_nodes.specs.Pooled.{ArePooled, IsPooled, KeepsPooled}
use Rattle.hs_nodes.specs.Starting.{IsIdle, ScansBlock}
use Rattle.hs_nodes.proofs.KindLemmas.{one-value}

pub pooled-idle : (m : Meaning) → IsIdle m → AreZerosIdle m
pooled-idle m idle region len zero =
    let own = idle region len zero in record { starts = own.starts; quiet = own.rests.quiet; well = own.rests.well }

-- what a pool tells of a block, wherever the stream stands
pub pooled-scans : (m : Meaning) (old new : List ℕ) (prev : Prev) (enters : ℕ) (bytes : List ℕ) (ends : BlockEnds) → TakesBlock m old new prev enters bytes ends → (at : ℕ) → ScansBlock m old new prev at enters bytes (record { before = ends.before; behind = ends.behind })
pooled-scans m old new prev enters bytes ends takes at tree u entered of =
    let own = takes.takes tree u entered of.runs of.count of.behind of.field in record { field = own.field; before_is = own.before_is; behind_is = own.behind_is }

-- a pool that is there
pub pooled-some : (m : Meaning) (number : ℕ) (own : StatePool) → IsPoolAt m number own → IsPooled m number (Some own)
pooled-some m number own is other same = subst (λ (p : StatePool). IsPoolAt m number p) (one-value own other (Some own) refl same) is

module _ {E : Type 0} (meaning : E → Meaning) (number : ℕ) where
  pub keeps-none : (pool : Option StatePool) → KeepsPooled meaning number pool pool
  keeps-none pool n e apart is = is

  pub keeps-then : (old mid new : Option StatePool) → KeepsPooled meaning number old mid → KeepsPooled meaning number mid new → KeepsPooled meaning number old new
  keeps-then old mid new first second n e apart is = second n e apart (first n e apart is)

  pub keeps-some : (old new : StatePool) → KeepsOthers meaning number old new → KeepsPooled meaning number (Some old) (Some new)
  keeps-some old new keeps n e apart is = pooled-some (meaning e) n new (keeps n e apart (is old refl))

  -- where the pool was changed for one engine
  pub pooled-all : (engines : List E) (e : E) (old new : Option StatePool) → slice_get engines number ≡ Some e → IsPooled (meaning e) number new → KeepsPooled meaning number old new → ArePooled meaning engines old → ArePooled meaning engines new
  pooled-all engines e old new at own keeps are n other at_other =
      elim (cases_eq n number) [
        | inl same ↦
            let one : e ≡ other = one-value e other (slice_get engines number) at (ap (slice_get engines) (sym same) ∙ at_other) in
            subst (λ k. IsPooled (meaning other) k new) (sym same) (subst (λ v. IsPooled (meaning v) number new) one own)
        | inr apart ↦ keeps n other apart (are n other at_other)
      ]
