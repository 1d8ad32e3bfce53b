use Rattle.std.proofs.Common.{◌≡◌, ◌≤◌, ◌*◌, length, vec_len}
use Rattle.hs_confirm.specs.Rows.{AreChainsFrom, AreMarked}
use Rattle.hs_confirm.proofs.chains.Chains.build.Given as goal

abbrev pub invariant-loop-number : goal.invariant-loop-number
invariant-loop-number l = record {
  within : l.number ≤ length l.rows;
  heads : vec_len l.heads ≡ l.count;
  nexts : vec_len l.nexts ≡ length l.rows;
  marks : l.count ≤ 64 * vec_len l.marks;
  marked : AreMarked l.marks.items l.heads.items (length l.rows);
  chains : AreChainsFrom l.rows l.number l.heads.items l.nexts.items;
}

abbrev pub decreases-loop-number : goal.decreases-loop-number
decreases-loop-number l = l.number
