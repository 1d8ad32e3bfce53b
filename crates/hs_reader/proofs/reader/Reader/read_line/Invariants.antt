use Rattle.std.proofs.Common.{◌≡◌, ◌-◌}
use Rattle.hs_reader.specs.Reading.{most_taken}
use Rattle.hs_reader.proofs.ReadLemmas.{IsLineSoFar}
use Rattle.hs_reader.proofs.reader.Reader.read_line.Given as goal

abbrev pub invariant-loop-self : goal.invariant-loop-self
invariant-loop-self g l = record {
  so_far : IsLineSoFar (g.I.Source.left l.fn.input) (g.I.Source.left l.input) l.fn.self l.self l.line l.begun;
  counted : g.I.Source.faults l.input ≡ g.I.Source.faults l.fn.input;
}

abbrev pub decreases-loop-self : goal.decreases-loop-self
decreases-loop-self g l = most_taken - l.self.at
