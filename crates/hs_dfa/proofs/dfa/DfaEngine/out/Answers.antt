use Rattle.std.proofs.Common.{slice_index, vec_len}
use Rattle.std.proofs.lemmas.Option.{slice_get_read}
use Rattle.hs_dfa.proofs.DfaLemmas.{end-leaves}
use Rattle.hs_dfa.proofs.dfa.DfaEngine.out.Goals as goal

pub returns-clause-leaves : goal.returns-clause-leaves
returns-clause-leaves c tree u entered is len at prev field next =
    let d = c.args.self.now in
    end-leaves d tree is u entered len c.args.region.now field c.index.result.now
    (slice_get_read d.ends.items (vec_len d.ends) (slice_index c.args.region.now 0) c.index.result.now d.ends.ok.0 c.requires.well c.index.ensures) next
