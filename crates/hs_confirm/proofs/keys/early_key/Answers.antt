use Rattle.std.proofs.Common.{rules}
use Rattle.hs_confirm.specs.Keys.{full_text_key}
use Rattle.hs_confirm.proofs.keys.early_key.Goals as goal

pub returns : goal.returns
unfolding full_text_key
returns c = search rules
