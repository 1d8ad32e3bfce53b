use Rattle.std.proofs.Common.{◌≡◌, ℕ, ◌<◌, ◌≤◌, ◌||◌}
use Rattle.hs_plain.specs.OffsetSets.{room, has}
use Rattle.hs_plain.proofs.offsets.Offsets.add.Given as goal

abbrev pub invariant-loop-at : goal.invariant-loop-at
invariant-loop-at l = record {
  size : room l.self ≡ room l.initial.self;
  done : (j : ℕ) → j < l.at → has l.self j ≡ (has l.initial.self j || has l.other j);
  rest : (j : ℕ) → l.at ≤ j → has l.self j ≡ has l.initial.self j;
}
