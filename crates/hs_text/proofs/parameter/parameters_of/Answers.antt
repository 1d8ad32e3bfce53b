use Rattle.hs_text.specs.Parameters.{more}
use Rattle.hs_text.proofs.SettingLemmas.{settings_split, settings_behind, settings_end}
use Rattle.hs_text.proofs.parameter.parameters_of.Goals as goal

pub returns-in_default-with_setting : goal.returns-in_default-with_setting
returns-in_default-with_setting c ext h =
    let split = settings_split _ _ _ _ _ c.in-Some.ensures.1 c.in-Some.ensures.0 (c.loop-setting.invariant.behind ext h) in
    c.in_default-with_setting.ensures split.between split.first

pub loop-setting-preserved : goal.loop-setting-preserved
loop-setting-preserved c = record {
  whole = λ after h. c.loop-setting.invariant.whole after (more c.in-Some.ensures.1 c.in-Some-with_setting.ensures h);
  behind = λ after h. settings_behind _ _ _ _ _ _ c.in-Some.ensures.1 c.in-Some.ensures.0 c.in-Some-with_setting.ensures (c.loop-setting.invariant.behind after h);
}

pub returns : goal.returns
returns c =
    settings_end c.with_setting-2.result c.args.settings.now c.loop-setting.rest.now c.loop-setting.ext c.in_default.ensures c.loop-setting.invariant.whole c.loop-setting.invariant.behind c.with_setting-2.ensures
