use Rattle.std.proofs.Common.{◌≡◌, Some, sym, subst, slice_get}
use Rattle.std.proofs.lemmas.Option.{same_Some}
use Rattle.hs_pool.specs.Pools.{IsPoolAt}
use Rattle.hs_scan.proofs.node_cache.NodeCache.new.Goals as goal

pub returns : goal.returns
returns g c = record {
  automata = c.in_ok-cache_for.ensures;
  pool = λ n e there own is.
      subst (IsPoolAt (g.E.Engine.meaning e) n) (same_Some c.in_ok-new.field-0 own is)
      (c.in_ok-new.ensures n e (subst (λ es. slice_get es n ≡ Some e) (sym c.deref.ensures.value) there));
}
