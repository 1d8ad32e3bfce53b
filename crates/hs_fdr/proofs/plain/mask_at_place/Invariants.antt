use Rattle.std.proofs.Common.{◌≡◌, ◌-◌, ◌++◌, map}
use Rattle.std.specs.List.{range_with_len}
use Rattle.hs_fdr.specs.Masks.{mask_of, width_of}
use Rattle.hs_fdr.specs.Blocks.{term, or_all}
use Rattle.hs_fdr.proofs.plain.mask_at_place.Given as goal

abbrev pub invariant-loop-later : goal.invariant-loop-later
invariant-loop-later l = l.mask ≡ or_all (map (term (mask_of l.tables) (width_of l.tables) (l.before ++ l.block) l.next l.place) (range_with_len (8 - l.later) l.later))
