use Rattle.hs_script.proofs.PayloadLemmas as payloads
use Rattle.hs_script.proofs.laws.takes_payload.Goals as goal

pub returns : goal.returns
returns c number name payload behind = payloads.takes_payload number name payload behind
