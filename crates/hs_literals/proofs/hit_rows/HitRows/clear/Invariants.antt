use Rattle.std.proofs.Common.{◌≡◌, ℕ, ◌-◌, ◌<◌, false}
use Rattle.hs_literals.specs.HitTables.{has_hit}
use Rattle.hs_literals.proofs.hit_rows.HitRows.clear.Given as goal

abbrev pub invariant-loop-number : goal.invariant-loop-number
invariant-loop-number l = record {
  count : l.self.count ≡ l.fn.self.count;
  none : (n : ℕ) → n < l.from → has_hit l.self n ≡ false;
}

abbrev pub decreases-loop-number : goal.decreases-loop-number
decreases-loop-number l = l.fn.self.count - l.from
