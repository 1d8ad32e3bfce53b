use Rattle.std.proofs.Common.{rules}
use Rattle.hs_confirm.specs.Keys.{full_literal_key}
use Rattle.hs_confirm.proofs.keys.full_literal_key.Goals as goal

pub returns : goal.returns
unfolding full_literal_key
returns c = search rules
