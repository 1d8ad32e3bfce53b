use Rattle.hs_text.proofs.CutLemmas.{when_none}
use Rattle.hs_text.proofs.SettingLemmas.{setting_parts}
use Rattle.hs_text.proofs.parameter.with_setting.Goals as goal

pub returns-in_err-parameter : goal.returns-in_err-parameter
returns-in_err-parameter c =
    when_none _ _ _ c.from_residual-in_err-parameter.ensures (λ after h. c.in_err-parameter.ensures h.parameter (setting_parts _ _ _ _ _ c.in_ok-name.ensures.1 c.in_ok-name.ensures.0 h).left)
