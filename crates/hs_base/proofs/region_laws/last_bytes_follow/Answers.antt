use Rattle.hs_base.proofs.RegionLemmas.{last_bytes-follow}
use Rattle.hs_base.proofs.region_laws.last_bytes_follow.Goals as goal

pub returns : goal.returns
returns c = last_bytes-follow
