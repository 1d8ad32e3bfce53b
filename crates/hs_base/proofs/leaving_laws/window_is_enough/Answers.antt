use Rattle.hs_base.proofs.EntryLemmas.{window-enough}
use Rattle.hs_base.proofs.leaving_laws.window_is_enough.Goals as goal

pub returns : goal.returns
returns c = window-enough
