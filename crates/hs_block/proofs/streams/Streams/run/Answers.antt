use Rattle.std.proofs.Common.{length, get_or, ap, ◌∙◌, arith}
use Rattle.std.proofs.lemmas.List.{get_or_append_left}
use Rattle.hs_block.proofs.StreamRunLemmas.{tried-alike}
use Rattle.hs_block.proofs.streams.Streams.run.Goals as goal

pub returns : goal.returns
returns g c =
    tried-alike c.args.self.now c.args.prev c.args.region.now c.args.enters _ c.args.bytes.now (length c.args.bytes.now) (λ i below. get_or_append_left c.copy_from_slice.new.self _ 0 i (omega (arith, below, ap (λ l. length l) c.copy_from_slice.ensures.after)) ∙ ap (λ l. get_or l i 0) c.copy_from_slice.ensures.after) c.run_whole-2.new.region c.run_whole-2.result c.args.steps.now c.run_whole-2.new.steps c.run_whole-2.ensures
