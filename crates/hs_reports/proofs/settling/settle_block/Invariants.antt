use Rattle.std.proofs.Common.{◌≡◌, length}
use Rattle.hs_base.specs.Bits.{word_count}
use Rattle.hs_reports.specs.EndTables.{IsQuiet}
use Rattle.hs_reports.proofs.SettlementLemmas.{left_over, IsWalkedTo}
use Rattle.hs_reports.proofs.settling.settle_block.Given as goal

abbrev pub invariant-loop-noted : goal.invariant-loop-noted
invariant-loop-noted l = record {
  words : length l.ends.words ≡ length l.identifiers;
  told : length l.told ≡ word_count (length l.identifiers);
  here : length l.here ≡ word_count (length l.identifiers);
  room : l.tellings.room ≡ l.initial.tellings.room;
  quiet : IsQuiet l.initial.ends;
  walked : IsWalkedTo l.identifiers l.last l.initial.ends l.initial.told l.initial.here l.ends l.told l.here l.tellings l.noted;
}

abbrev pub decreases-loop-noted : goal.decreases-loop-noted
decreases-loop-noted l = left_over (length l.identifiers) l.noted
