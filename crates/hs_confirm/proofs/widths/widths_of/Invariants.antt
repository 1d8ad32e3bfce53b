use Rattle.std.proofs.Common.{◌≡◌, length, map}
use Rattle.hs_confirm.specs.Widths.{AreShort}
use Rattle.hs_confirm.proofs.widths.widths_of.Given as goal

abbrev pub invariant-loop-number : goal.invariant-loop-number
invariant-loop-number l = record {
  eight : length l.widths ≡ 8;
  short : AreShort l.widths (map (λ literal. length literal.items) l.literals) l.buckets l.number;
}
