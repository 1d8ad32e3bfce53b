use Rattle.std.proofs.Common.{slice_index, vec_len}
use Rattle.std.proofs.lemmas.Option.{slice_get_read}
use Rattle.hs_dfa.proofs.DfaLemmas.{empty-at}
use Rattle.hs_dfa.proofs.dfa.Dfa.is_empty_at.Goals as goal

pub returns : goal.returns
returns c =
    let d = c.args.self.now in
    empty-at d c.args.region.now c.index.result.now
    (slice_get_read d.ends.items (vec_len d.ends) (slice_index c.args.region.now 0) c.index.result.now d.ends.ok.0 c.requires.well c.index.ensures)
