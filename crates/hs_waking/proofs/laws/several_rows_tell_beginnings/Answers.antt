use Rattle.hs_waking.proofs.EntryLemmas.{entry-rows}
use Rattle.hs_waking.proofs.WakeLemmas.{wake-rows}
use Rattle.hs_waking.proofs.laws.several_rows_tell_beginnings.Goals as goal

pub returns : goal.returns
returns g c engine behind rows by = record { wakes = wake-rows _ behind rows by; enters = entry-rows _ behind rows by }
