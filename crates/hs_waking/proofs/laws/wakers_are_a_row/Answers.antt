use Rattle.hs_waking.proofs.SetEntryLemmas.{set-entry-row}
use Rattle.hs_waking.proofs.WakerLemmas.{waker-row}
use Rattle.hs_waking.proofs.laws.wakers_are_a_row.Goals as goal

pub returns : goal.returns
returns g c engine behind set each wakers by = record { wakes = waker-row _ behind set each wakers; enters = set-entry-row _ behind set each by }
