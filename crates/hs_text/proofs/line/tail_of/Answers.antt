use Rattle.std.proofs.Common.{◌∷◌, [], ◌++◌, ◌∙◌, ap, Some, None}
use Rattle.std.proofs.lemmas.Bool.Decides.{Decides-eqb}
use Rattle.std.proofs.lemmas.Slice.Eq.{strip_suffix_is}
use Rattle.hs_text.specs.EntryLines.{braced}
use Rattle.hs_text.proofs.CutLemmas.{when_none}
use Rattle.hs_text.proofs.LineLemmas.{tail_bare, tail_parts, braces_give}
use Rattle.hs_text.proofs.line.tail_of.Goals as goal

pub returns-in_err-flags_of-in-None : goal.returns-in_err-flags_of-in-None
returns-in_err-flags_of-in-None c =
    when_none _ _ _ c.from_residual.ensures (λ flags ext h. c.in_err-flags_of-in-None.ensures flags (tail_bare _ _ _ c.in-None.ensures h).0)

pub returns-in_err-flags-in-Some : goal.returns-in_err-flags-in-Some
returns-in_err-flags-in-Some c =
    when_none _ _ _ c.from_residual-in_err-flags-in-Some.ensures (λ flags ext h. c.in_err-flags-in-Some.ensures flags (tail_parts _ _ _ _ _ c.in-Some.ensures.1 c.in-Some.ensures.0 h).named)

pub returns-in_err-settings-in-Some : goal.returns-in_err-settings-in-Some
returns-in_err-settings-in-Some c =
    when_none _ _ _ c.from_residual-in_err-settings-in-Some.ensures (λ flags ext h.
    let braces = tail_parts _ _ _ _ _ c.in-Some.ensures.1 c.in-Some.ensures.0 h in
    strip_suffix_is Decides-eqb c.in-Some.behind.now (125 ∷ []) None c.in_err-settings-in-Some.ensures.cases braces.settings braces.whole)

pub returns-in_err-parameters_of-in-Some : goal.returns-in_err-parameters_of-in-Some
returns-in_err-parameters_of-in-Some c =
    when_none _ _ _ c.from_residual-in_err-parameters_of-in-Some.ensures (λ flags ext h.
    let braces = tail_parts _ _ _ _ _ c.in-Some.ensures.1 c.in-Some.ensures.0 h in
    let whole = strip_suffix_is Decides-eqb c.in-Some.behind.now (125 ∷ []) (Some c.in_ok-settings-in-Some.settings) c.in_ok-settings-in-Some.ensures.cases in
    c.in_err-parameters_of-in-Some.ensures ext (braces_give c.in_ok-settings-in-Some.settings.now whole braces))

pub returns-in_ok-parameters_of-in-Some : goal.returns-in_ok-parameters_of-in-Some
returns-in_ok-parameters_of-in-Some c =
    let whole = strip_suffix_is Decides-eqb c.in-Some.behind.now (125 ∷ []) (Some c.in_ok-settings-in-Some.settings) c.in_ok-settings-in-Some.ensures.cases in
    braced
    c.in-Some.letters.now
    c.in_ok-settings-in-Some.settings.now
    (c.in-Some.ensures.1 ∙ ap (λ xs. c.in-Some.letters.now ++ 123 ∷ xs) whole)
    c.in_ok-flags-in-Some.ensures
    c.in_ok-parameters_of-in-Some.ensures
