use Rattle.std.proofs.Common.{◌≡◌, map, take}
use Rattle.hs_base.specs.LiteralView.{literal_byte}
use Rattle.hs_confirm.specs.Entries.{AreKeyed, literal_in}
use Rattle.hs_confirm.proofs.filing.entries_of.Given as goal

abbrev pub invariant-loop-number : goal.invariant-loop-number
invariant-loop-number l = record {
  literals : map literal_in l.entries.items ≡ map (λ literal. map literal_byte literal.items) (take l.number l.literals);
  buckets : map (λ entry. entry.bucket) l.entries.items ≡ take l.number l.buckets;
  keyed : AreKeyed l.widths l.entries.items;
}
