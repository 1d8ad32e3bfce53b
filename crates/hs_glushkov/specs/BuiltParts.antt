-- What tables under construction say.
use Rattle.std.specs.Prelude.{slice_get}
use Rattle.hs_engine.specs.Automata.{in_mask, in_set}
use Rattle.hs_glushkov.specs.Parts.{Table}
use Rattle.hs_glushkov.specs.FollowTables.{is_followed}
use Rattle.hs_glushkov.specs.declared.parts.Parts.{Parts}

-- they say of each position what stands in its place
abbrev pub table_of : Parts → Table
table_of parts = record {
  takes = λ x b. in_set (slice_get parts.sets.items x) b;
  enters = λ x c. in_mask (slice_get parts.enters.items x) c;
  accepts = λ x c. in_mask (slice_get parts.accepts.items x) c;
  follows = λ x y c. is_followed parts.follows x y c;
}
