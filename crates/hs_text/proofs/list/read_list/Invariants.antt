use Rattle.std.proofs.Common.{ℕ, List, ◌++◌, ◌+◌, ◌≤◌, length, map}
use Rattle.hs_base.specs.Entries.{ListedEntry}
use Rattle.hs_text.specs.PatternFile.{IsList, HasBadLine}
use Rattle.hs_base.specs.Entries.{listed}
use Rattle.hs_text.proofs.list.read_list.Given as goal

abbrev pub invariant-loop-rest : goal.invariant-loop-rest
invariant-loop-rest l = record {
  whole : (xs : List ListedEntry) → IsList l.rest xs → IsList l.bytes (map listed l.entries.items ++ xs);
  bad : (n : ℕ) → HasBadLine l.rest n → HasBadLine l.bytes (l.number + n);
  counted : l.number + length l.rest ≤ length l.bytes;
}

abbrev pub decreases-loop-rest : goal.decreases-loop-rest
decreases-loop-rest l = length l.rest
