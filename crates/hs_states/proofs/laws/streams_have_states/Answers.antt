use Rattle.hs_base.specs.WrittenOut.{write_out}
use Rattle.hs_base.specs.AssertionTests.{has_assertion}
use Rattle.hs_states.proofs.BlindLemmas.{written-blind}
use Rattle.hs_states.proofs.HistoryLemmas.{stream-has}
use Rattle.hs_states.proofs.laws.streams_have_states.Goals as goal

pub returns : goal.returns
returns c tree u states small all = stream-has (write_out tree) (has_assertion tree) (written-blind tree) states all u small
